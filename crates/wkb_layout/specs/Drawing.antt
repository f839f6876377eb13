-- Which files are drawings: the points of a ring that the writer takes, and a closing point that equals the first as numbers. Definitions only.
use Rattle.std.specs.Prelude.{ℕ, ◌≡◌, true, List, [], ◌∷◌, ◌++◌, map, get_or, Float}
use Rattle.std.specs.Float.{nan, binary64}
use Rattle.std.specs.Float.Ieee.{to_bits, eq}
use Rattle.number_bytes.specs.Bytes.{Formed}
use Rattle.refusals.specs.Refusals.{passed}
use Rattle.refusals.specs.Rows.{of_polygon}
use Rattle.wkb_layout.specs.Layout.{wkb_of}
use Rattle.wkb_layout.specs.declared.Order.{Order}

-- a ring and its closing point
abbrev pub closed_by : List Float → Float → Float → List Float
closed_by xs x y = xs ++ (x ∷ y ∷ [])

pub record Drawing (f : List ℕ) : Type 0 where
  pub ring : List Float
  pub x : Float
  pub y : Float
  pub order : Order
  pub formed : Formed (closed_by ring x y)
  pub taken : passed (of_polygon ring) ≡ true
  pub closes_x : eq (get_or ring 0 nan) x ≡ true
  pub closes_y : eq (get_or ring 1 nan) y ≡ true
  pub file : wkb_of order (map (to_bits binary64) (closed_by ring x y)) ≡ f

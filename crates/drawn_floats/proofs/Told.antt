-- Where the check says `clear` of what floats were put on, the picture of the floats themselves, exactly, is apart but for 3 + 2 * w
-- units: E is half a unit, a stationary corner is off by E at most, and an orbiting one, put w units aside, by its own half, that
-- of its position and w units. Where it says `enclosed`, what lies so deep is on no edge either, and never outside. Assumes
-- nothing.
use Prim.Native.Nat.{ℕ, ◌+◌, ◌*◌, ◌/◌, ◌<◌}
use native.Mathlib.Omega.{arith}
use mathlib.Core.Path.{◌≡◌, sym, subst, ◌∙◌}
use mathlib.Core.List.{List, map}
use lib.ListN.{length}
use lib.IntN.{ℤ}
use lib.Ieee.{Float}
use Rattle.shifted.specs.Shifted.{up_of}
use Rattle.reasons.specs.Check.{clear, enclosed, check_of}
use Rattle.drawn.specs.Told.{NearList, ApartBy, WithinBy}
use Rattle.drawn.proofs.Told.{drawn_apart, drawn_within}
use Rattle.to_grid.specs.Grid.{nearest}
use Rattle.drawn_floats.specs.Picture.{Exactly, Placed, placed, Aside, Picture, PutOn}
use Rattle.drawn_floats.proofs.Off.{off_grid}
use Rattle.drawn_floats.proofs.Lists.{AllOff, all_grid, all_placed, all_aside, pictured_length, placed_length}
use Rattle.drawn_floats.proofs.Lists.{near_list}

module _ {E n w : ℕ} {xs ys : List Float} {fx fy tx ty : Float} {ring c d : List ℕ} {a b : List ℤ}
    (v : Picture E n xs ys fx fy tx ty ring c d) (g : PutOn n w xs ys fx fy tx ty a b) where
  -- the corners at a position, put aside
  off_at : (px py : Float) (U W : ℕ) (Zs : List ℕ) (bs : List ℤ) → Exactly E n px U → Exactly E n py W
      → Placed E U W v.corners Zs → Aside w (placed n ys px py) bs → AllOff (2 * E) (E + E + 2 * E * w) bs Zs
  off_at px py U W Zs bs ex ey m h =
      all_aside (2 * E) (E + E) w (placed n ys px py) bs Zs h
      (all_placed E E E (nearest n px) (nearest n py) U W (map (nearest n) ys) v.corners Zs
      (off_grid E n px U ex) (off_grid E n py W ey) (all_grid E n ys v.corners v.orbiting) m)

  starts_off : AllOff (2 * E) (E + E + 2 * E * w) a c
  starts_off = off_at fx fy v.from_x v.from_y c a v.from_across v.from_upward v.starts g.starts

  ends_off : AllOff (2 * E) (E + E + 2 * E * w) b d
  ends_off = off_at tx ty v.to_x v.to_y d b v.to_across v.to_upward v.ends g.ends

  abbrev st : List ℕ
  st = map up_of (map (nearest n) xs)

  rings : NearList 1000000 (2 * E) E st ring
  rings = near_list (2 * E) E (map (nearest n) xs) ring g.ring_within (all_grid E n xs ring v.stationary)

  from : NearList 1000000 (2 * E) (E + E + 2 * E * w) (map up_of a) c
  from = near_list (2 * E) (E + E + 2 * E * w) a c g.starts_within starts_off

  to : NearList 1000000 (2 * E) (E + E + 2 * E * w) (map up_of b) d
  to = near_list (2 * E) (E + E + 2 * E * w) b d g.ends_within ends_off

  long : length (map up_of b) ≡ length (map up_of a)
  long =
      sym to.same ∙ placed_length E v.to_x v.to_y v.corners d v.ends
      ∙ sym (placed_length E v.from_x v.from_y v.corners c v.starts) ∙ from.same

  some : 0 < length (map up_of a) / 2
  some =
      omega (
        arith,
        g.some,
        from.same,
        placed_length E v.from_x v.from_y v.corners c v.starts,
        pictured_length E n ys v.corners v.orbiting,
      )

  depth : 2 * (E + (E + E + 2 * E * w)) ≡ (3 + 2 * w) * (2 * E)
  depth = omega arith

  pub floats_apart : (ls : List ℕ) → check_of st (map up_of a) (map up_of b) ls ≡ clear → ApartBy ((3 + 2 * w) * (2 * E)) ring c d
  floats_apart ls found = subst (λ (D : ℕ). ApartBy D ring c d) depth (drawn_apart rings from to long ls some found)

  pub floats_within : (ls : List ℕ) → check_of st (map up_of a) (map up_of b) ls ≡ enclosed → WithinBy ((3 + 2 * w) * (2 * E)) ring c d
  floats_within ls found = subst (λ (D : ℕ). WithinBy D ring c d) depth (drawn_within rings from to long ls some found)

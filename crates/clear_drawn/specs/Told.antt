-- What an answer of the calls tells of the drawing. Definitions only.
use Rattle.std.specs.Prelude.{ℕ, ◌^◌, ◌≡◌, List, ℤ, Float}
use Rattle.plane.specs.declared.Point.{Point}
use Rattle.number_bytes.specs.Bytes.{Formed}
use Rattle.refusals.specs.Answers.{answers}
use Rattle.drawn_floats.specs.Picture.{Picture}
use Rattle.drawn_aside.specs.Found.{Least, clear_by, edge_first, enclosed_by, depth_of}
use Rattle.drawn_aside.specs.Told.{DrawnApart, DrawnWithin}
use Rattle.clear_drawn.specs.Calls.{move_of, clear_move_call, check_reason_call}

-- clear: the drawing is apart but for the depth; enclosed: it is within but for the depth
abbrev pub LeastTold : ℕ → List Float → List Float → Point → Point → Least → Type 0
LeastTold n xs ys from to (clear_by how) = DrawnApart n xs ys from.x from.y to.x to.y (depth_of how)
LeastTold n xs ys from to (edge_first j) = Unit
LeastTold n xs ys from to (enclosed_by how) = DrawnWithin n xs ys from.x from.y to.x to.y (depth_of how)

abbrev pub MoveTold : Type 0
MoveTold =
    (xs ys : List Float) (from to : Point) (n size : ℕ) (l : Least) → clear_move_call xs ys from to n size ≡ answers l
    → LeastTold n xs ys from to l

abbrev pub ReasonTold : Type 0
ReasonTold =
    (xs ys : List Float) (from to : Point) (n how : ℕ) (ls : List ℤ) (l : Least)
    → check_reason_call xs ys from to n how ls ≡ answers l → LeastTold n xs ys from to l

-- what is told is told of something: floats that the format holds have their picture where the call answers
abbrev pub HasPicture : Type 0
HasPicture =
    (xs ys : List Float) (from to : Point) (n size : ℕ) (l : Least) → Formed xs → Formed ys → Formed (move_of from to)
    → clear_move_call xs ys from to n size ≡ answers l
    → (ring : List ℕ) × (c : List ℕ) × (d : List ℕ)
    × Picture (2 ^ 1073) n xs ys from.x from.y to.x to.y ring c d

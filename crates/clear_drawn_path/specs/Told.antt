-- What an answer of the call tells of the drawing. Definitions only.
use Rattle.std.specs.Prelude.{ℕ, ◌+◌, ◌*◌, ◌/◌, ◌<◌, ◌≡◌, Bool, List, length, get_or, Float}
use Rattle.std.specs.Float.{nan}
use Rattle.ring.specs.Ring.{next_of}
use Rattle.refusals.specs.Answers.{answers}
use Rattle.drawn_aside.specs.Found.{clear_by, edge_first, enclosed_by, depth_of}
use Rattle.drawn_aside.specs.Told.{DrawnApart, DrawnWithin}
use Rattle.clear_drawn_path.specs.Path.{leg_count}
use Rattle.clear_drawn_path.specs.Calls.{path_least, clear_path_call}
use Rattle.clear_drawn_path.specs.declared.PathFound.{PathFound}
use Rattle.clear_drawn_path.specs.declared.PathFound.TheVariants.{Clear, Edge, Enclosed}

-- the coordinates of a point of the path
abbrev pub across_at : List Float → ℕ → Float
across_at path i = get_or path (2 * i) nan

abbrev pub upward_at : List Float → ℕ → Float
upward_at path i = get_or path (2 * i + 1) nan

module _ (xs ys path : List Float) (n : ℕ) where
  -- on the leg from the point i to the next, after the last to the first, the drawing is apart but for the depth
  abbrev pub LegApart : ℕ → ℕ → Type 0
  LegApart i depth =
      let k = next_of i (length path / 2) in
      DrawnApart n xs ys (across_at path i) (upward_at path i) (across_at path k) (upward_at path k) depth

  abbrev pub LegWithin : ℕ → ℕ → Type 0
  LegWithin i depth =
      let k = next_of i (length path / 2) in
      DrawnWithin n xs ys (across_at path i) (upward_at path i) (across_at path k) (upward_at path k) depth

  -- each leg below this one is found clear, and the drawing is apart there but for its depth
  abbrev pub ApartTo : ℕ → Type 0
  ApartTo m = (i : ℕ) → i < m → (how : ℕ) × (path_least xs ys path n i ≡ clear_by how) × LegApart i (depth_of how)

  -- clear: on each of m legs the drawing is apart but for the depth; else each leg before the one told is clear, and on that one
  -- an edge is not parted, or the drawing is within but for a depth
  abbrev pub PathTold : ℕ → PathFound → Type 0
  PathTold m (Clear depth) = (i : ℕ) → i < m → LegApart i depth
  PathTold m (Edge leg edge) = (leg < m) × ApartTo leg × (path_least xs ys path n leg ≡ edge_first edge)
  PathTold m (Enclosed leg) = (leg < m) × ApartTo leg × ((how : ℕ) × (path_least xs ys path n leg ≡ enclosed_by how) × LegWithin leg (depth_of how))

abbrev pub CallTold : Type 0
CallTold =
    (xs ys path : List Float) (closed : Bool) (n : ℕ) (f : PathFound) → clear_path_call xs ys path closed n ≡ answers f
    → PathTold xs ys path n (leg_count (length path / 2) closed) f

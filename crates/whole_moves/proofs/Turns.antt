-- Coordinates that are moved, x and y in turn: what is left of the list has the same move, begun with x or with y. The loops over
-- plain lists and numbers. Assumes nothing.
use Prim.Native.Nat.{ℕ, suc, ◌+◌, ◌≤◌, ◌<◌}
use mathlib.Core.Path.{◌≡◌, refl, sym, ap, ◌∙◌}
use mathlib.Core.Bool.{Bool, true, false}
use mathlib.Core.List.{List, [], ◌∷◌, ◌++◌, append_assoc, append-nil}
use native.Mathlib.Numerals.{add-one}
use native.Mathlib.Omega.{arith}
use lib.ListN.{length, get_or, drop, set, length-set, length-map, drop_of_length-le}
use lib.Seq.{drop-cons}
use lib.IntN.{ℤ, pos, ◌+ℤ◌}
use Rattle.ring.specs.Room.{laid}
use Rattle.ring.proofs.Emit.{emit, emit_length}
use Rattle.shifted.specs.Shifted.{in_bounds, up_of}
use Rattle.whole_engine.specs.Rows.{all_in_bounds}
use Rattle.whole_moves.specs.Moved.{moved_by, moved_up}

-- the coordinates from i on, of which the first is moved by d
module _ (zs : List ℤ) (i : ℕ) (d e : ℤ) where
  pub moved_on : i < length zs → moved_by d e (drop i zs) ≡ (get_or zs i (pos 0) +ℤ d) ∷ moved_by e d (drop (i + 1) zs)
  unfolding moved_by
  moved_on h = rw (drop-cons zs i (pos 0), add-one)

  pub moved_end : length zs ≤ i → moved_by d e (drop i zs) ≡ []
  unfolding moved_by
  moved_end h = rw (drop_of_length-le zs h)

-- as many as there were
pub moved_length : (d e : ℤ) (zs : List ℤ) → length (moved_by d e zs) ≡ length zs
unfolding moved_by
moved_length d e [] = refl
moved_length d e (z ∷ zs) = ap suc (moved_length e d zs)

pub moved_up_length : (zs : List ℤ) (dx dy : ℤ) → length (moved_up zs dx dy) ≡ length zs
moved_up_length zs dx dy = length-map (moved_by dx dy zs) up_of ∙ moved_length dx dy zs

-- ---- the test: what is left decides

module _ (zs : List ℤ) (dx dy : ℤ) where
  pub record Rest (d e : ℤ) (i : ℕ) : Type 0 where
    pub most : i ≤ length zs
    pub left : all_in_bounds (moved_by dx dy zs) ≡ all_in_bounds (moved_by d e (drop i zs))

  pub rest_start : Rest dx dy 0
  rest_start = record { most = omega arith; left = refl }

  module _ {d e : ℤ} {i : ℕ} {t : Bool} (more : i < length zs) (is : t ≡ in_bounds (get_or zs i (pos 0) +ℤ d)) (R : Rest d e i) where
    pub rest_off : t ≡ false → all_in_bounds (moved_by dx dy zs) ≡ false
    unfolding all_in_bounds
    rest_off f = R.left ∙ rw (moved_on zs i d e more, ← is, f)

    pub rest_turn : t ≡ true → Rest e d (i + 1)
    unfolding all_in_bounds
    rest_turn f = record { most = omega arith; left = R.left ∙ rw (moved_on zs i d e more, ← is, f) }

  pub rest_end : {d e : ℤ} {i : ℕ} → length zs ≤ i → Rest d e i → all_in_bounds (moved_by dx dy zs) ≡ true
  unfolding all_in_bounds
  rest_end {d} {e} {i} h R = R.left ∙ rw (moved_end zs i d e h)

-- ---- the lift: `out` is written to the front of the room, and what is left follows it

module _ (zs : List ℤ) (dx dy : ℤ) (held : List ℕ) where
  pub record Lifted (room : List ℕ) (d e : ℤ) (i : ℕ) : Type 0 where
    pub out : List ℕ
    pub long : length out ≡ i
    pub most : i ≤ length zs
    pub same : length room ≡ length held
    pub holds : room ≡ out ++ drop i held
    pub left : moved_up zs dx dy ≡ out ++ moved_up (drop i zs) d e

  pub lift_start : Lifted held dx dy 0
  lift_start = record { out = []; long = refl; most = omega arith; same = refl; holds = refl; left = refl }

  pub lift_turn : {room : List ℕ} {d e : ℤ} {i v : ℕ} → length zs ≤ length held → i < length zs → v ≡ up_of (get_or zs i (pos 0) +ℤ d)
      → Lifted room d e i → Lifted (set room i v) e d (i + 1)
  lift_turn {room} {d} {e} {i} {v} fits more is t =
      let o = t.out in
      record {
        out = o ++ (v ∷ []);
        long = emit_length o i v t.long;
        most = omega arith;
        same = simp length-set t.same;
        holds = rw t.holds (emit o held i v t.long (omega arith));
        left = t.left ∙ rw (moved_on zs i d e more, ← is) (sym (append_assoc o (v ∷ []) (moved_up (drop (i + 1) zs) e d)));
      }

  pub lift_end : {room : List ℕ} {d e : ℤ} {i : ℕ} → length zs ≤ i → Lifted room d e i → room ≡ laid (moved_up zs dx dy) held
  lift_end {room} {d} {e} {i} h t =
      let whole : moved_up zs dx dy ≡ t.out = t.left ∙ rw (moved_end zs i d e h) (append-nil t.out) in
      rw (whole, t.long) t.holds

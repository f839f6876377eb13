-- The loop of `lift`, over plain lists and numbers: zs is the list, d the room as it came, room as it is. The invariant:
-- the first i numbers are written, moved up, and the rest of the room is as it came. Assumes nothing.
use Prim.Native.Nat.{ℕ, zero, suc, ◌+◌, ◌≤◌, ◌<◌}
use mathlib.Core.Path.{◌≡◌, refl, sym, ap, ◌∙◌}
use mathlib.Core.List.{List, [], ◌∷◌, ◌++◌, map}
use native.Mathlib.Omega.{arith}
use lib.ListN.{length, get_or, take, drop, set, length-set, length-map}
use lib.Seq.{take-length}
use lib.IntN.{ℤ, pos}
use Rattle.ring.specs.Room.{laid}
use Rattle.ring.proofs.Emit.{emit_next, emit_all}
use Rattle.shifted.specs.Shifted.{up_of}

pub at_lifted : (zs : List ℤ) (i : ℕ) → i < length zs → get_or (map up_of zs) i 0 ≡ up_of (get_or zs i (pos 0))
at_lifted [] i h = absurd (omega arith)
at_lifted (z ∷ zs) zero h = refl
at_lifted (z ∷ zs) (suc i) h = at_lifted zs i (omega arith)

pub record Lifted (zs : List ℤ) (d room : List ℕ) (i : ℕ) : Type 0 where
  pub most : i ≤ length zs
  pub same : length room ≡ length d
  pub holds : room ≡ take i (map up_of zs) ++ drop i d

pub start : (zs : List ℤ) (d : List ℕ) → Lifted zs d d 0
start zs d = record { most = omega arith; same = refl; holds = refl }

pub turn : {zs : List ℤ} {d room : List ℕ} {i v : ℕ} → length zs ≤ length d → i < length zs → v ≡ up_of (get_or zs i (pos 0))
    → Lifted zs d room i → Lifted zs d (set room i v) (i + 1)
turn {zs} {d} {room} {i} {v} fits more is t =
    let e : v ≡ get_or (map up_of zs) i 0 = is ∙ sym (at_lifted zs i more) in
    record {
      most = omega arith;
      same = simp length-set t.same;
      holds = rw e (emit_next (map up_of zs) d room i 0 (omega (arith, length-map zs up_of)) (omega arith) t.holds);
    }

pub done : {zs : List ℤ} {d room : List ℕ} {i : ℕ} → length zs ≤ i → Lifted zs d room i → room ≡ laid (map up_of zs) d
done {zs} {d} {room} {i} h t =
    emit_all (map up_of zs) d room i (length (map up_of zs)) (omega (arith, length-map zs up_of, t.most)) (omega (arith, length-map zs up_of)) (omega arith) t.holds
    ∙ ap (λ l. laid l d) (take-length (map up_of zs))

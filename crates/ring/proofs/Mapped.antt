-- A loop that writes what f makes of each element of a list to the front of a room: xs is the list, d the room as it came, room
-- as it is. The invariant: the first i are written, and the rest of the room is as it came. Assumes nothing.
use Prim.Native.Nat.{ℕ, zero, suc, ◌+◌, ◌≤◌, ◌<◌}
use mathlib.Core.Path.{◌≡◌, refl, sym, ap, ◌∙◌}
use mathlib.Core.List.{List, [], ◌∷◌, ◌++◌, map}
use native.Mathlib.Omega.{arith}
use lib.ListN.{length, get_or, take, drop, set, length-set, length-map}
use lib.Seq.{take-length}
use Rattle.ring.specs.Room.{laid}
use Rattle.ring.proofs.Emit.{emit_next, emit_all}

pub map_at : {A B : Type 0} (f : A → B) (xs : List A) (i : ℕ) (a : A) (b : B) → i < length xs → get_or (map f xs) i b ≡ f (get_or xs i a)
map_at f [] i a b h = absurd (omega arith)
map_at f (x ∷ xs) zero a b h = refl
map_at f (x ∷ xs) (suc i) a b h = map_at f xs i a b (omega arith)

pub record Written {A B : Type 0} (f : A → B) (xs : List A) (d room : List B) (i : ℕ) : Type 0 where
  pub most : i ≤ length xs
  pub same : length room ≡ length d
  pub holds : room ≡ take i (map f xs) ++ drop i d

module _ {A B : Type 0} (f : A → B) where
  pub start : (xs : List A) (d : List B) → Written f xs d d 0
  start xs d = record { most = omega arith; same = refl; holds = refl }

  pub turn : (a : A) {xs : List A} {d room : List B} {i : ℕ} {v : B} → length xs ≤ length d → i < length xs
      → v ≡ f (get_or xs i a) → Written f xs d room i → Written f xs d (set room i v) (i + 1)
  turn a {xs} {d} {room} {i} {v} fits more is t =
      let e : v ≡ get_or (map f xs) i v = is ∙ sym (map_at f xs i a v more) in
      record {
        most = omega arith;
        same = simp length-set t.same;
        holds = ap (set room i) e ∙ emit_next (map f xs) d room i v (omega (arith, length-map xs f)) (omega arith) t.holds;
      }

  pub done : {xs : List A} {d room : List B} {i : ℕ} → length xs ≤ i → Written f xs d room i → room ≡ laid (map f xs) d
  done {xs} {d} {room} {i} h t =
      let n = length-map xs f in
      emit_all (map f xs) d room i (length (map f xs)) (omega (arith, t.most)) (omega arith) (omega arith) t.holds
      ∙ ap (λ l. laid l d) (take-length (map f xs))

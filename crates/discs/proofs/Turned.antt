-- Entries turned by quarters: four quarters turn an entry to itself, and none gets past 2^30. Assumes nothing.
use Prim.Native.Nat.{ℕ, zero, suc, ◌*◌, ◌/◌, ◌%◌, ◌^◌, ◌≤◌, ◌<◌}
use mathlib.Core.Path.{◌≡◌, refl}
use native.Mathlib.Omega.{arith}
use native.Mathlib.Nat.{div-le_of_le-mul, div-lt_iff_lt-mul, mod-lt}
use lib.IntN.{ℤ, pos, negsuc, ◌-ℤ◌, neg_ℤ, nat_abs, neg_ℤ-neg_ℤ, +ℤ_idl}
use mir.Syntax.{w32}
use mir.Val.{SFits, to_z, of_z}
use mir.ValLaws.{to_z-of_z}
use Rattle.disc_table.specs.Table.{entry_of}
use Rattle.disc_table.specs.declared.Entry.{Entry}
use Rattle.disc_table.proofs.Rule.{at_most}
use Rattle.discs.specs.Disc.{Narrow, quarter_turn, turned_by, entry_at}

-- every entry turned four times is itself
pub turned_four : (e : Entry) → turned_by 4 e ≡ e
unfolding turned_by quarter_turn
turned_four e = simp neg_ℤ-neg_ℤ

neg_abs : (z : ℤ) → nat_abs (neg_ℤ z) ≡ nat_abs z
neg_abs (pos zero) = refl
neg_abs (pos (suc n)) = refl
neg_abs (negsuc n) = refl

pub turn_narrow : (e : Entry) {f : Entry} → f ≡ quarter_turn e → Narrow e → Narrow f
unfolding quarter_turn
turn_narrow e q h = rw q (rw (neg_abs e.y) h.1, h.0)

pub entry_narrow : (k : ℕ) {e : Entry} → e ≡ entry_of k → k ≤ 256 → Narrow e
unfolding entry_of
entry_narrow k q h = rw q (at_most k h)

-- its negation fits an i32, as the machine has it
pub negated_is : (z : ℤ) → pos 0 -ℤ z ≡ neg_ℤ z
negated_is z = +ℤ_idl (neg_ℤ z)

pub negated_fits : (z : ℤ) → nat_abs z ≤ 2 ^ 30 → SFits w32 (neg_ℤ z)
negated_fits (pos zero) h = record { sfits = omega arith }
negated_fits (pos (suc n)) h = record { sfits = omega arith }
negated_fits (negsuc n) h = record { sfits = omega arith }

pub narrow_fits : (z : ℤ) → nat_abs z ≤ 2 ^ 30 → SFits w32 z
narrow_fits (pos n) h = record { sfits = omega arith }
narrow_fits (negsuc n) h = record { sfits = omega arith }

-- an entry made of its negated number and the other, as the machine reads them back
pub turn_is : (e : Entry) {n : ℤ} → n ≡ neg_ℤ (to_z w32 (of_z w32 e.y)) → Narrow e
    → ◌≡◌ {A = Entry} (record { x = to_z w32 (of_z w32 n); y = to_z w32 (of_z w32 e.x) }) (quarter_turn e)
unfolding quarter_turn
turn_is e q h = rw (q, to_z-of_z w32 e.y (narrow_fits e.y h.1), to_z-of_z w32 (neg_ℤ e.y) (negated_fits e.y h.1), to_z-of_z w32 e.x (narrow_fits e.x h.0))

-- the place in the table of a vertex of the first quarter
pub place_most : (m j : ℕ) → j < m → j * 256 / m ≤ 256
place_most m j h = div-le_of_le-mul m (omega arith)

-- the quarter of a vertex
pub quarter_below : (m i : ℕ) → i < 4 * m → i / m < 4
quarter_below m i h = let some : 0 < m = omega arith in (div-lt_iff_lt-mul some).1 h

turned_narrow : (q : ℕ) (e : Entry) → Narrow e → Narrow (turned_by q e)
unfolding turned_by
turned_narrow zero e h = h
turned_narrow (suc q) e h = turn_narrow (turned_by q e) refl (turned_narrow q e h)

pub at_narrow : (m i : ℕ) → i < 4 * m → Narrow (entry_at m i)
unfolding entry_at
at_narrow m i h =
    let j : i % m < m = mod-lt i (omega arith) in
    turned_narrow _ _ (entry_narrow (i % m * 256 / m) refl (place_most m (i % m) j))

-- `book_reader::check::check_entries` meets its contract. The loop's invariant: the check of the entries left, from i on, decides, and the rings passed
-- have the bytes before the next one. Assumes nothing.
use Prim.Native.Nat.{ℕ, ◌+◌, ◌*◌, ◌-◌}
use mathlib.Core.Path.{◌≡◌, sym, ap, ◌∙◌}
use mathlib.Core.Bool.{Bool, true, false}
use mathlib.Core.List.{List}
use native.Mathlib.Omega.{arith}
use lib.ListN.{take, drop}
use lib.Dec.{eqb}
use Rattle.number_bytes.specs.Bytes.{number_of}
use Rattle.refusals.specs.Rings.{vertices_least, vertices_most, within, total}
use Rattle.book_layout.specs.Layout.{field_bytes, vertex_bytes, entry_bytes, counts_in}
use Rattle.book_layout.specs.Faults.{entries_check}
use Rattle.refusals.proofs.Counts.{is_within}
use Rattle.book_reader.proofs.Entries.{offset_bad, count_bad, entry_good, total_left, entries_start, entries_end, fields_start, total_end, list_wrong, list_long, list_fine}
use Rattle.book_reader.proofs.check.check_entries.Goals as goal

-- the entry of this turn: the offset and the vertices that it tells
module _ (f : List ℕ) (from i : ℕ) where
  abbrev offset : ℕ
  offset = number_of (take field_bytes (drop (from + entry_bytes * i) f))

  abbrev n : ℕ
  n = number_of (take field_bytes (drop (from + entry_bytes * i + field_bytes) f))

  offset_right : {o : ℕ} {b : Bool} (before : ℕ) → o ≡ offset → b ≡ eqb o before → b ≡ true → eqb offset before ≡ true
  offset_right {o} {b} before e w t = ap (λ z. eqb z before) (sym e) ∙ sym w ∙ t

  offset_wrong : {o : ℕ} {b : Bool} (before : ℕ) → o ≡ offset → b ≡ eqb o before → b ≡ false → eqb offset before ≡ false
  offset_wrong {o} {b} before e w t = ap (λ z. eqb z before) (sym e) ∙ sym w ∙ t

  right : {m : ℕ} {b : Bool} → m ≡ n → b ≡ within vertices_least vertices_most m → b ≡ true → within vertices_least vertices_most n ≡ true
  right {m} {b} e w t = ap (within vertices_least vertices_most) (sym e) ∙ sym w ∙ t

  wrong : {m : ℕ} {b : Bool} → m ≡ n → b ≡ within vertices_least vertices_most m → b ≡ false → within vertices_least vertices_most n ≡ false
  wrong {m} {b} e w t = ap (within vertices_least vertices_most) (sym e) ∙ sym w ∙ t

pub loop-i-init : goal.loop-i-init
loop-i-init c =
    let a = c.args in
    let t : total (counts_in a.k (drop a.from a.f.now)) ≡ total (counts_in (a.k - 0) (drop (a.from + entry_bytes * 0) a.f.now)) = ap total (fields_start a.f.now field_bytes a.from a.k) in
    ((omega arith), entries_start a.f.now a.from a.k, (omega arith))

pub returns-then-not-is_right : goal.returns-then-not-is_right
returns-then-not-is_right c =
    let a = c.args in
    let i = c.loop-i.i in
    c.fault.ensures
    ∙ list_wrong a.f.now a.from a.k (a.from + entry_bytes * i)
    (c.loop-i.invariant.1 ∙ offset_bad a.f.now a.from a.k i c.loop-i.before c.loop-i-test.true (offset_wrong a.f.now a.from i c.loop-i.before c.number4-offset.ensures.0 c.is_right.ensures c.if-not-is_right.true))

pub returns-then-not-is_right-2 : goal.returns-then-not-is_right-2
returns-then-not-is_right-2 c =
    let a = c.args in
    let i = c.loop-i.i in
    c.fault-then-not-is_right-2.ensures
    ∙ list_wrong a.f.now a.from a.k (a.from + entry_bytes * i + field_bytes)
    (c.loop-i.invariant.1 ∙ count_bad a.f.now a.from a.k i c.loop-i.before c.loop-i-test.true (offset_right a.f.now a.from i c.loop-i.before c.number4-offset.ensures.0 c.is_right.ensures c.if-not-is_right.false) (wrong a.f.now a.from i c.number4-n.ensures.0 c.is_right-in-loop-i.ensures c.if-not-is_right-2.true))

pub overflow_mul-before : goal.overflow_mul-before
overflow_mul-before c =
    let a = c.args in
    let e = c.number4-n.ensures.0 in
    omega (arith, is_within vertices_least vertices_most (n a.f.now a.from c.loop-i.i) (right a.f.now a.from c.loop-i.i e c.is_right-in-loop-i.ensures c.if-not-is_right-2.false))

pub overflow_add-before : goal.overflow_add-before
overflow_add-before c =
    let a = c.args in
    let e = c.number4-n.ensures.0 in
    omega (arith, is_within vertices_least vertices_most (n a.f.now a.from c.loop-i.i) (right a.f.now a.from c.loop-i.i e c.is_right-in-loop-i.ensures c.if-not-is_right-2.false))

pub loop-i-preserved : goal.loop-i-preserved
loop-i-preserved c =
    let a = c.args in
    let f = a.f.now in
    let i = c.loop-i.i in
    let e = c.number4-n.ensures.0 in
    let r = right f a.from i e c.is_right-in-loop-i.ensures c.if-not-is_right-2.false in
    let s = is_within vertices_least vertices_most (n f a.from i) r in (
      (omega arith),
      c.loop-i.invariant.1
          ∙ entry_good f a.from a.k i c.loop-i.before c.loop-i-test.true (offset_right f a.from i c.loop-i.before c.number4-offset.ensures.0 c.is_right.ensures c.if-not-is_right.false) r
          ∙ ap (λ (j : ℕ). entries_check (a.k - (i + 1)) (a.from + entry_bytes * (i + 1)) (c.loop-i.before + vertex_bytes * j) (drop (a.from + entry_bytes * (i + 1)) f)) (sym e),
      (omega (arith, c.loop-i.invariant.2, total_left f a.from a.k i c.loop-i.before c.loop-i-test.true)),
    )

pub returns-then-before-from : goal.returns-then-before-from
returns-then-before-from c =
    let a = c.args in
    let s = total_end a.f.now a.from a.k c.loop-i.i c.loop-i-test.false in
    c.fault-then-before-from.ensures
    ∙ list_long a.f.now a.from a.k (c.loop-i.invariant.1 ∙ entries_end a.f.now a.from a.k c.loop-i.i c.loop-i.before c.loop-i-test.false) (λ w. c.if-before-from.true (omega (arith, w, s, c.loop-i.invariant.2)))

pub returns : goal.returns
returns c =
    let a = c.args in
    let s = total_end a.f.now a.from a.k c.loop-i.i c.loop-i-test.false in
    list_fine a.f.now a.from a.k (c.loop-i.invariant.1 ∙ entries_end a.f.now a.from a.k c.loop-i.i c.loop-i.before c.loop-i-test.false) (omega (arith, s, c.if-before-from.false, c.loop-i.invariant.2))

-- `book_reader::check::check_rings` meets its contract. The loop's invariant: the check of the rings left, from i on, decides; their entries and their
-- coordinates pass, and they end where the entries begin. Assumes nothing.
use mathlib.Core.Bool.{not}
use Prim.Native.Nat.{ℕ, ◌+◌, ◌*◌, ◌-◌, ◌/◌, ◌≤◌, ◌<◌}
use mathlib.Core.Path.{◌≡◌, sym, ap, ◌∙◌}
use mathlib.Core.List.{List}
use native.Mathlib.Omega.{arith}
use borrow.Author.Tests.{not-true, not-false}
use lib.ListN.{take, drop}
use Rattle.refusals.specs.Refusals.{passed}
use Rattle.reading.specs.Reading.{vertices, is_least}
use Rattle.number_bytes.specs.Bytes.{number_of}
use Rattle.refusals.specs.Rings.{vertices_least, vertices_most, total}
use Rattle.book_layout.specs.Layout.{field_bytes, coordinate_bytes, vertex_bytes, entry_bytes, coords_in, counts_in}
use Rattle.book_layout.specs.Faults.{◌passes, entries_check, coords_check, least_check}
use Rattle.book_reader.proofs.Entries.{entry_held, total_left, entries_start, fields_start, fields_end, list_passed}
use Rattle.book_reader.proofs.Rings.{coords_next, least_good, least_bad, least_end}
use Rattle.book_reader.proofs.check.check_rings.Goals as goal
use Rattle.book_reader.proofs.check.check_rings.Goals.{After-is_least_at, After-number4-n, At-loop-i}
use Rattle.book_reader.proofs.check.check_rings.Lts.View.{up-After-is_least_at, up-After-number4-n, up-At-loop-i}

-- the ring of this turn
module _ (c : After-number4-n) where
  abbrev l : At-loop-i
  l = up-At-loop-i _ _ _ _ _ _ c.before.before.before

  abbrev f : List ℕ
  f = l.args.f.now

  abbrev from : ℕ
  from = l.args.from

  abbrev k : ℕ
  k = l.args.k

  abbrev i : ℕ
  i = l.loop-i.i

  abbrev at : ℕ
  at = l.loop-i.at

  abbrev turn : i < k
  turn = c.loop-i-test.true

  abbrev n : ℕ
  n = number_of (take field_bytes (drop (from + entry_bytes * i + field_bytes) f))

  abbrev rest : List ℕ
  rest = counts_in (k - (i + 1)) (drop (from + entry_bytes * (i + 1)) f)

  is_n : c.number4-n.result ≡ n
  is_n = c.number4-n.ensures.0

  entry : (vertices_least ≤ n) × (n ≤ vertices_most) × (entries_check (k - (i + 1)) (from + entry_bytes * (i + 1)) (at + vertex_bytes * n) (drop (from + entry_bytes * (i + 1)) f) passes)
  entry = entry_held f from k i at turn l.loop-i.invariant.2

  left : at + vertex_bytes * n + vertex_bytes * total rest ≡ from
  left = omega (arith, total_left f from k i at turn, l.loop-i.invariant.1)

  coords : (coords_check (2 * n) at (drop at f) passes) × (coords_check (2 * total rest) (at + vertex_bytes * n) (drop (at + vertex_bytes * n) f) passes)
  coords = coords_next f from k i at turn l.loop-i.invariant.3

-- what was asked of it
asked : (c : After-is_least_at) → c.is_least_at.result ≡ is_least (vertices (coords_in (2 * n (up-After-number4-n _ _ _ _ _ _ c.before.before)) (drop (at (up-After-number4-n _ _ _ _ _ _ c.before.before)) (f (up-After-number4-n _ _ _ _ _ _ c.before.before)))))
asked c =
    c.is_least_at.ensures ∙ ap (λ (j : ℕ). is_least (vertices (coords_in (2 * j) (drop (at (up-After-number4-n _ _ _ _ _ _ c.before.before)) (f (up-After-number4-n _ _ _ _ _ _ c.before.before)))))) (is_n (up-After-number4-n _ _ _ _ _ _ c.before.before))

pub loop-i-init : goal.loop-i-init
loop-i-init c =
    let f = c.args.f.now in
    let from = c.args.from in
    let k = c.args.k in
    let p = list_passed f from k c.requires.list_check.0 in
    let z = fields_start f field_bytes from k in
    let t : total (counts_in k (drop from f)) ≡ total (counts_in (k - 0) (drop (from + entry_bytes * 0) f)) = ap total z in
    let m : 2 * total (counts_in (k - 0) (drop (from + entry_bytes * 0) f)) ≡ from / coordinate_bytes = omega (arith, p.1) in (
      ap (λ (ns : List ℕ). least_check ns 0 f) z,
      (omega (arith, p.1)),
      ap passed (sym (entries_start f from k)) ∙ p.0,
      ap (λ (j : ℕ). passed (coords_check j 0 f)) m ∙ c.requires.list_check.1,
    )

pub is_least_at-requires : goal.is_least_at-requires
is_least_at-requires c =
    record { n_in_bounds = ((omega (arith, is_n c, left c)), (omega (arith, is_n c, (entry c).0)), (omega (arith, is_n c, (entry c).1)), (l c).requires.tail_bytes_value.2); coords_check = ap (λ (j : ℕ). passed (coords_check (2 * j) (at c) (drop (at c) (f c)))) (is_n c) ∙ (coords c).0 }

pub returns-then-not-is_least_at : goal.returns-then-not-is_least_at
returns-then-not-is_least_at c =
    let here = up-After-number4-n _ _ _ _ _ _ c.before.before.before.before in
    c.fault.ensures
    ∙ sym ((l here).loop-i.invariant.0 ∙ least_bad (f here) (from here) (k here) (i here) (at here) (turn here) (sym (asked (up-After-is_least_at _ _ _ _ _ _ c.before.before.before)) ∙ not-true c.is_least_at.result (ap not c.if-not-is_least_at.true)))

pub overflow_mul-at : goal.overflow_mul-at
overflow_mul-at c =
    let here = up-After-number4-n _ _ _ _ _ _ c.before.before.before in
    omega (arith, is_n here, (entry here).1)

pub overflow_add-at : goal.overflow_add-at
overflow_add-at c =
    let here = up-After-number4-n _ _ _ _ _ _ c.before.before.before in
    omega (arith, is_n here, left here)

pub loop-i-preserved : goal.loop-i-preserved
loop-i-preserved c =
    let here = up-After-number4-n _ _ _ _ _ _ c.before.before.before in (
      (l here).loop-i.invariant.0
          ∙ least_good (f here) (from here) (k here) (i here) (at here) (turn here) (sym (asked (up-After-is_least_at _ _ _ _ _ _ c.before.before)) ∙ not-false c.is_least_at.result (ap not c.if-not-is_least_at.false))
          ∙ ap (λ (j : ℕ). least_check (rest here) (at here + vertex_bytes * j) (drop (at here + vertex_bytes * j) (f here))) (sym (is_n here)),
      (omega (arith, is_n here, left here)),
      ap (λ (j : ℕ). passed (entries_check (k here - (i here + 1)) (from here + entry_bytes * (i here + 1)) (at here + vertex_bytes * j) (drop (from here + entry_bytes * (i here + 1)) (f here)))) (is_n here) ∙ (entry here).2,
      ap (λ (j : ℕ). passed (coords_check (2 * total (rest here)) (at here + vertex_bytes * j) (drop (at here + vertex_bytes * j) (f here)))) (is_n here) ∙ (coords here).1,
    )

pub returns : goal.returns
returns c =
    let s = c.args in
    let f = s.f.now in
    let i = c.loop-i.i in
    sym (c.loop-i.invariant.0 ∙ least_end f (counts_in (s.k - i) (drop (s.from + entry_bytes * i) f)) c.loop-i.at (fields_end f field_bytes s.from s.k i c.loop-i-test.false))

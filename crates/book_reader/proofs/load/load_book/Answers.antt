-- `book_reader::load::load_book` meets its contract: the numbers, the counts and the parts, each at the front of its room. Assumes nothing.
use Prim.Native.Nat.{ℕ, ◌+◌, ◌*◌, ◌/◌, ◌≤◌}
use mathlib.Core.Path.{◌≡◌, sym, ap, ap₂, ◌∙◌}
use mathlib.Core.List.{List, map}
use native.Mathlib.Omega.{arith}
use lib.ListN.{length, drop}
use lib.Seq.{sets}
use lib.Ieee.{binary64, of_bits}
use Rattle.refusals.specs.Refusals.{passed}
use Rattle.refusals.specs.Rings.{rings_most}
use Rattle.book_layout.specs.Layout.{field_bytes, coordinate_bytes, entry_bytes, tail_bytes, coords_in, fields_in, ring_count, entry_offset, coords_of, counts_of, parts_of}
use Rattle.book_layout.specs.Faults.{coords_check}
use Rattle.book_layout.specs.Reader.{numbers_of}
use Rattle.ring.proofs.Emit.{laid_is}
use Rattle.book_layout.proofs.Exact.{Checked, checked}
use Rattle.book_layout.proofs.Lent.{length_numbers, length_counts, length_parts}
use Rattle.book_reader.proofs.load.load_book.Goals as goal
use Rattle.book_reader.proofs.load.load_book.Goals.{After-ring_count-k, After-slice_known-3-1, Start}
use Rattle.book_reader.proofs.load.load_book.Lts.View.{up-After-ring_count-k, up-After-slice_known-3-1}

-- the file
all : (c : After-slice_known-3-1) → Checked c.args.f.now
all c = checked c.args.f.now c.requires.book_check

module _ (c : After-ring_count-k) where
  abbrev s : Start
  s = c.before.before.before.before.before.before.before

  abbrev f : List ℕ
  f = s.args.f.now

  is_m : c.entry_offset-from.result / coordinate_bytes ≡ entry_offset f / coordinate_bytes
  is_m = ap (λ (e : ℕ). e / coordinate_bytes) c.entry_offset-from.ensures.0

  -- the entries are in the file
  entries_there : (c.entry_offset-from.result + entry_bytes * c.ring_count-k.result + tail_bytes ≡ length f) × (c.ring_count-k.result ≤ rings_most)
  entries_there =
      let a = all (up-After-slice_known-3-1 _ _ _ _ c.before.before.before) in
      ((omega (arith, c.entry_offset-from.ensures.0, c.ring_count-k.ensures.0, a.offset)), (omega (arith, c.ring_count-k.ensures.0, a.count)))

  -- a room for a field of each
  fits : (n : ℕ) → length (counts_of f) ≤ n → c.ring_count-k.result ≤ n
  fits n h = omega (arith, c.ring_count-k.ensures.0, length_counts f)

  -- a field of all of them
  loaded : (p : ℕ) (room : List ℕ) → sets room 0 (fields_in p c.ring_count-k.result (drop c.entry_offset-from.result f)) ≡ sets room 0 (fields_in p (ring_count f) (drop (entry_offset f) f))
  loaded p room = ap₂ (λ (i j : ℕ). sets room 0 (fields_in p i (drop j f))) c.ring_count-k.ensures.0 c.entry_offset-from.ensures.0

pub entry_offset-from-requires : goal.entry_offset-from-requires
entry_offset-from-requires c = omega (arith, (all c).long)

pub ring_count-k-requires : goal.ring_count-k-requires
ring_count-k-requires c = omega (arith, (all (up-After-slice_known-3-1 _ _ _ _ c.before.before)).long)

pub load-requires : goal.load-requires
load-requires c =
    let here = up-After-ring_count-k _ _ _ _ c.before.before in
    let a = all (up-After-slice_known-3-1 _ _ _ _ c.before.before.before.before) in record { m_in_bounds = ((omega (arith, is_m here, a.offset)), (omega (arith, is_m here, length_numbers (f here), (s here).requires.f_in_bounds.0)), a.long.1); coords_check = ap (λ (m : ℕ). passed (coords_check m 0 (f here))) (is_m here) ∙ a.coords }

pub load_fields-requires : goal.load_fields-requires
load_fields-requires c =
    let here = up-After-ring_count-k _ _ _ _ c.before.before.before.before.before.before in
    record { tail_bytes_value = ((entries_there here).0, (entries_there here).1, fits here _ (s here).requires.f_in_bounds.1); field_bytes_bound = (omega arith) }

pub load_fields-requires-2 : goal.load_fields-requires-2
load_fields-requires-2 c =
    let here = up-After-ring_count-k _ _ _ _ c.before.before.before.before.before.before.before.before.before.before in
    record { tail_bytes_value = ((entries_there here).0, (entries_there here).1, fits here _ (s here).requires.f_in_bounds.2); field_bytes_bound = (omega arith) }

pub returns : goal.returns
unfolding coords_of counts_of parts_of
returns c =
    let here = up-After-ring_count-k _ _ _ _ c.before.before.before.before.before.before.before.before.before.before.before.before.before in
    let a = (s here).args in (
      c.ring_count-k.ensures.0 ∙ sym (length_counts (f here)),
      c.load.ensures
          ∙ ap (λ (m : ℕ). sets a.room.now 0 (map (of_bits binary64) (coords_in m (f here)))) (is_m here)
          ∙ laid_is (numbers_of (f here)) a.room.now (s here).requires.f_in_bounds.0,
      c.load_fields.ensures ∙ loaded here field_bytes a.counts.now ∙ laid_is (counts_of (f here)) a.counts.now (s here).requires.f_in_bounds.1,
      c.load_fields-2.ensures
          ∙ loaded here (2 * field_bytes) a.parts.now
          ∙ laid_is (parts_of (f here)) a.parts.now (omega (arith, length_parts (f here), length_counts (f here), (s here).requires.f_in_bounds.2)),
    )

-- Books as they were before parts were in them, of 8 bytes to an entry, are refused. Assumes nothing.
use Prim.Native.Nat.{ℕ, ◌+◌, ◌-◌, ◌*◌, ◌%◌, ◌≤◌}
use native.Mathlib.Omega.{arith}
use mathlib.Core.Path.{◌≡◌}
use mathlib.Core.List.{List}
use lib.ListN.{length}
use borrow.Author.Tests.{le-leb, lt-leb, ne_eqb}
use Rattle.refusals.specs.Rings.{vertices_least, rings_most}
use Rattle.book_layout.specs.Layout.{field_bytes, vertex_bytes, entry_bytes, tail_bytes, book_least, book_most, ring_count, entry_offset}
use Rattle.book_layout.specs.Faults.{fault_at, book_check}

-- the longest had 32,840 bytes; the rings had three vertices each or more; and the entries began at the length less 8 less 8 per ring
pub record Old (f : List ℕ) : Type 0 where
  pub long : length f ≤ 32840
  pub count : (1 ≤ ring_count f) × (ring_count f ≤ rings_most)
  pub rings : (entry_offset f % vertex_bytes ≡ 0) × (vertices_least * vertex_bytes * ring_count f ≤ entry_offset f)
  pub offset : entry_offset f + 2 * field_bytes * ring_count f + tail_bytes ≡ length f

-- The shortest had 64 bytes and is too short now: its fault is at 0.
pub old_shortest : (f : List ℕ) → length f ≡ 64 → book_check f ≡ fault_at 0
unfolding book_check
old_shortest f h = rw (lt-leb book_least (length f) (omega arith))

-- Of every other the offset of the entries is wrong.
pub old_refused : (f : List ℕ) → Old f → (length f ≡ 64 → ⊥) → book_check f ≡ fault_at (length f - field_bytes)
unfolding book_check
old_refused f o h =
    let l : book_least ≤ length f = omega (arith, h, o.count.0, o.rings, o.offset) in
    let e = entry_offset f + entry_bytes * ring_count f + tail_bytes in
    let w : e ≡ length f → ⊥ = λ q. absurd (omega (arith, q, o.count.0, o.offset)) in
    rw (le-leb book_least (length f) l, le-leb (length f) book_most (omega (arith, o.long)), le-leb 1 (ring_count f) o.count.0, le-leb (ring_count f) rings_most o.count.1, ne_eqb e (length f) w)

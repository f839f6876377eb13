-- What a caller of `read_book` holds: the rings, their counts and their parts at the fronts of the rooms, or the first fault of the file. Assumes nothing.
use Prim.Native.Nat.{ℕ, ◌≤◌, ◌<◌}
use native.Mathlib.Omega.{arith}
use mathlib.Core.Path.{◌≡◌, refl, sym, ap, ◌∙◌}
use mathlib.Core.Bool.{Bool, true, false, cond}
use mathlib.Core.List.{List}
use lib.ListN.{length, get_or}
use lib.Ieee.{Float}
use Rattle.ring.specs.Room.{laid}
use Rattle.refusals.specs.Refusals.{passed}
use Rattle.std.specs.Prelude.{Result, Ok, Err}
use Rattle.refusals.specs.Answers.{Outcome, answers, refuses, tells, answered}
use Rattle.refusals.specs.Refusals.{Told}
use Rattle.refusals.specs.declared.Refusal.{Refusal}
use Rattle.number_bytes.proofs.Bytes.{each_byte}
use Rattle.refusals.specs.Rings.{rings_most}
use Rattle.book_layout.specs.Layout.{numbers_most, counts_of, parts_of}
use Rattle.book_layout.specs.Faults.{◌passes, book_check}
use Rattle.book_layout.specs.Writer.{Held}
use Rattle.book_layout.specs.Reader.{numbers_of, read_refusal}
use Rattle.book_layout.proofs.Lent.{read_held}
use Rattle.book_layout.proofs.Theorems.{enough}
use Rattle.book_reader.proofs.Files.{Promised, reads, at_fault}

was_answered : (r : Told) (t : Bool) (a b : ℕ) → passed r ≡ t → answers a ≡ cond t (answers b) (refuses r) → (r passes) × (a ≡ b)
was_answered r true a b e q = (e, (cc))
was_answered r false a b e q = absurd (let z : ◌≡◌ {A = ℕ} 0 1 = cc in omega arith)

was_refused : (r s : Told) (t : Bool) (b : ℕ) → passed r ≡ t → ◌≡◌ {A = Outcome ℕ} (refuses s) (cond t (answers b) (refuses r)) → (passed r ≡ false) × (s ≡ r)
was_refused r s true b e q = absurd (let z : ◌≡◌ {A = ℕ} 0 1 = cc in omega arith)
was_refused r s false b e q = (e, (cc))

-- a file, the rooms before and after, and what was answered
module _ (f : List ℕ) (bytes : (i : ℕ) → get_or f i 0 < 256) (room x : List Float) (counts n parts q : List ℕ) (r : Result ℕ Refusal) (p : Promised f room counts parts r x n q) where
  abbrev refusal : Told
  refusal = read_refusal f (length room) (length counts) (length parts)

  module _ (k : ℕ) (e : r ≡ Ok k) where
    taken : (refusal passes) × (k ≡ length (counts_of f))
    taken = was_answered refusal _ k (length (counts_of f)) refl (ap answered (sym e) ∙ p.0)

    pub rings_told : k ≡ length (counts_of f)
    rings_told = taken.1

    pub a_book : book_check f passes
    a_book = (reads f (length room) (length counts) (length parts) taken.0).0

    pub book_held : Held (numbers_of f) (counts_of f) (parts_of f)
    book_held = read_held f (each_byte f bytes) a_book

    pub room_is : x ≡ laid (numbers_of f) room
    room_is = p.1 ∙ (rw taken.0)

    pub counts_are : n ≡ laid (counts_of f) counts
    counts_are = p.2 ∙ (rw taken.0)

    pub parts_are : q ≡ laid (parts_of f) parts
    parts_are = p.3 ∙ (rw taken.0)

  -- rooms for every book
  module _ (numbers_fit : numbers_most ≤ length room) (counts-fit : rings_most ≤ length counts) (parts_fit : rings_most ≤ length parts) (why : Refusal) (e : r ≡ Err why) where
    not_read : (passed refusal ≡ false) × (tells why ≡ refusal)
    not_read = was_refused refusal (tells why) (passed refusal) (length (counts_of f)) refl (ap answered (sym e) ∙ p.0)

    read_all : book_check f passes → refusal passes
    unfolding read_refusal
    read_all ok = rw (ok, enough f (length room) (length counts) (length parts) (each_byte f bytes) ok numbers_fit counts-fit parts_fit) refl

    fault_by : (t : Bool) → passed (book_check f) ≡ t → (passed (book_check f) ≡ false) × (tells why ≡ book_check f)
    fault_by true ok = absurd (let q = read_all ok in let w = not_read.0 in let z : ◌≡◌ {A = ℕ} 0 1 = cc in omega arith)
    fault_by false ok = (ok, not_read.1 ∙ sym (at_fault f (length room) (length counts) (length parts) ok))

    pub no_book : (passed (book_check f) ≡ false) × (tells why ≡ book_check f)
    no_book = fault_by (passed (book_check f)) refl

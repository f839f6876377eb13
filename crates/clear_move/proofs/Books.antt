-- What the reader leaves of a book: the number of its rings, and a room whose numbers are the book's and then zeros. Assumes
-- nothing.
use Prim.Native.Nat.{ℕ, ◌<◌}
use mathlib.Core.Path.{◌≡◌, ap, ◌∙◌}
use mathlib.Core.Bool.{true}
use mathlib.Core.List.{List}
use lib.ListN.{length, get_or}
use lib.Ieee.{Float}
use Rattle.refusals.specs.Bounds.{coordinates}
use Rattle.std.specs.Prelude.{Result, Ok}
use Rattle.refusals.specs.declared.Refusal.{Refusal}
use Rattle.book_layout.specs.Layout.{numbers_most, counts_of}
use Rattle.book_layout.specs.Reader.{numbers_of}
use Rattle.book_reader.proofs.Files.{Promised}
use Rattle.book_reader.proofs.Handed.{rings_told, book_held, room_is}
use Rattle.pair_input.proofs.Rings.{room, counts, parts}
use Rattle.whole_input.specs.Whole.{all_whole}
use Rattle.clear_move.proofs.Tests.{coordinates_laid, whole_laid}

pub record Read (f : List ℕ) (k : ℕ) (x : List Float) : Type 0 where
  pub told : k ≡ length (counts_of f)
  pub bounded : coordinates x ≡ true
  pub whole : all_whole x ≡ all_whole (numbers_of f)

module _ (f : List ℕ) (bytes : (i : ℕ) → get_or f i 0 < 256) (x : List Float) (n q : List ℕ) (r : Result ℕ Refusal)
    (p : Promised f room counts parts r x n q) (k : ℕ) (e : r ≡ Ok k) where
  pub read : Read f k x
  read =
      let is = room_is f bytes room x counts n parts q r p k e in
      let held = book_held f bytes room x counts n parts q r p k e in
      record {
        told = rings_told f bytes room x counts n parts q r p k e;
        bounded = ap coordinates is ∙ coordinates_laid (numbers_of f) numbers_most ∙ held.bounded;
        whole = ap all_whole is ∙ whole_laid (numbers_of f) numbers_most;
      }

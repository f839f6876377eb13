-- The answer of `write_book` and the room that it leaves are the only ones that its promise allows. Assumes nothing.
use Prim.Native.Nat.{ℕ}
use mathlib.Core.Path.{◌≡◌, sym, ◌∙◌}
use mathlib.Core.List.{List}
use lib.ListN.{length}
use lib.Ieee.{Float}
use Rattle.std.specs.Prelude.{Result}
use Rattle.refusals.specs.Answers.{answered}
use Rattle.refusals.specs.declared.Refusal.{Refusal}
use Rattle.refusals.proofs.Calls.{unique, answered_only}
use Rattle.book_layout.specs.Writer.{write_call, write_room}

-- what `write_book` promises of its answer and of the room that it leaves
abbrev pub Promised : List Float → List ℕ → List ℕ → List ℕ → Result ℕ Refusal → List ℕ → Type 0
Promised xs ns ps room r after = (answered r ≡ write_call xs ns ps (length room)) × (after ≡ write_room xs ns ps room)

-- Two answers of the writer that meet its promise are equal, and so are the rooms.
pub write_only : (xs : List Float) (ns ps room after after' : List ℕ) (r r' : Result ℕ Refusal) → Promised xs ns ps room r after → Promised xs ns ps room r' after' → (r ≡ r') × (after ≡ after')
write_only xs ns ps room after after' r r' p q = (unique answered answered_only (write_call xs ns ps (length room)) r r' p.0 q.0, p.1 ∙ sym q.1)

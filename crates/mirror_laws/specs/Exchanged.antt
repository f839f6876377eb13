-- What a call of two lists answers once the lists are exchanged. Definitions only.
use Rattle.std.specs.Prelude.{ℕ, zero, suc, ◌≡◌}
use Rattle.refusals.specs.Refusals.{refuse}
use Rattle.refusals.specs.Lists.{Extent, list_fault}
use Rattle.refusals.specs.Answers.{Outcome, refuses}

-- the number of a list's fault, 0 where it has none
abbrev pub fault_number : Extent → ℕ
fault_number e = (list_fault e 0).number

-- The answer `other` of the call with its lists exchanged, by the faults of the first list and of the second: the same where neither has
-- one, so that refusal 2 stays too; a fault of one list keeps its number, and its place moves with the list; of two faults each call tells
-- that of its first list
abbrev pub Exchanged : {A : Type 0} → ℕ → ℕ → Outcome A → Outcome A → Type 0
Exchanged zero zero answer other = other ≡ answer
Exchanged (suc n) zero answer other = (answer ≡ refuses (refuse (suc n) 0)) × (other ≡ refuses (refuse (suc n) 1))
Exchanged zero (suc m) answer other = (answer ≡ refuses (refuse (suc m) 1)) × (other ≡ refuses (refuse (suc m) 0))
Exchanged (suc n) (suc m) answer other = (answer ≡ refuses (refuse (suc n) 0)) × (other ≡ refuses (refuse (suc m) 0))

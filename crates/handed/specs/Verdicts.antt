-- What an exported verdict on a path writes to its cells, by the outcome of the call. Definitions only.
use Rattle.std.specs.Prelude.{ℕ, Option, None, Some}
use Rattle.refusals.specs.Answers.{Outcome, answers, refuses}
use Rattle.path_check.specs.declared.Fault.{Fault}
use Rattle.path_check.specs.declared.Fault.TheVariants.{Point, Leg}

-- 0 accepted, 1 a point without a contact, 2 a leg that runs into something
unfoldable pub fault_number : Option Fault → ℕ
fault_number None = 0
fault_number (Some (Point i)) = 1
fault_number (Some (Leg i)) = 2

-- where the fault is
unfoldable pub fault_index : Option Fault → Option ℕ
fault_index None = None
fault_index (Some (Point i)) = Some i
fault_index (Some (Leg i)) = Some i

abbrev pub index_in : Outcome (Option Fault) → Outcome (Option ℕ)
index_in (answers f) = answers (fault_index f)
index_in (refuses r) = refuses r

-- `contacts_call::write::put_point` meets its contract: two stores. Assumes nothing.
use mathlib.Core.Path.{refl}
use Rattle.contacts_call.proofs.write.put_point.Goals as goal

pub returns : goal.returns
returns c = refl

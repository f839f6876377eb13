-- `contacts::has_contact` meets its contract: the first contact from pair 0 on is there or not. Assumes nothing.
use mathlib.Core.Path.{◌≡◌, refl, ap, ◌∙◌}
use mathlib.Core.List.{List, [], ◌∷◌}
use Prim.Native.Nat.{ℕ}
use Rattle.std.specs.Option.{is_some}
use Rattle.contacts.specs.Contacts.{first_contact, some_of}
use Rattle.contacts.proofs.has_contact.Goals as goal

-- a list has a first number where it has any
some_first : (l : List ℕ) → is_some (first_contact l) ≡ some_of l
some_first [] = refl
some_first (k ∷ l) = refl

pub returns : goal.returns
returns c = c.is_some.ensures ∙ ap is_some c.next_contact.ensures ∙ some_first _

-- The contacts one after the other: what `next_contact` found from the pair k on. Assumes nothing.
use Prim.Native.Nat.{ℕ}
use mathlib.Core.Path.{◌≡◌, refl, sym, ◌∙◌}
use mathlib.Core.Bool.{false}
use mathlib.Core.List.{List, [], ◌∷◌}
use lib.Ieee.{Float}
use Rattle.ring.specs.Ring.{count}
use Rattle.pairs.specs.Pairs.{pair_count}
use Rattle.contacts.specs.Contacts.{contacts_from, touches_at, some_of, first_contact}
use Rattle.std.specs.Prelude.{Option, Some, None}
use Rattle.contacts.proofs.Picks.{Found, found, none_left}

module _ (st orb : List Float) (tol : Float) where
  abbrev pub FoundAt : ℕ → ℕ → Type 0
  FoundAt k j = Found (touches_at st orb tol) (pair_count (count st) (count orb)) k j

  pub next_at : {k j : ℕ} {r : Option ℕ} → r ≡ first_contact (contacts_from st orb tol k) → r ≡ Some j → FoundAt k j
  next_at {k} {j} e q = found (touches_at st orb tol) (pair_count (count st) (count orb)) k j (sym e ∙ q)

  pub next_none : (k : ℕ) {r : Option ℕ} → r ≡ first_contact (contacts_from st orb tol k) → r ≡ None → contacts_from st orb tol k ≡ []
  next_none k e q = none_left (touches_at st orb tol) (pair_count (count st) (count orb)) k (sym e ∙ q)

-- without a contact there is none
pub none_there : (l : List ℕ) → some_of l ≡ false → l ≡ []
none_there [] h = refl
none_there (k ∷ ks) h = cc

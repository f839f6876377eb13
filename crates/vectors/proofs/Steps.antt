-- A step from one place among the vectors to the next, and the loop of `next_kept`: what is kept of the vectors at the place where it began is
-- what is kept of those where it is. Assumes nothing.
use Prim.Native.Nat.{ℕ, ◌+◌, ◌*◌, ◌-◌, ◌≤◌, ◌<◌}
use mathlib.Core.Path.{◌≡◌, refl, sym, ◌∙◌}
use mathlib.Core.Bool.{Bool, true, false}
use mathlib.Core.List.{List, [], ◌∷◌}
use native.Mathlib.Omega.{arith}
use native.Mathlib.Numerals.{add-one}
use lib.Ieee.{Float}
use borrow.Author.Tests.{eq-eqb, ne_eqb}
use Rattle.ring.specs.Ring.{count}
use Rattle.pairs.specs.Pairs.{pair_count}
use Rattle.contacts.specs.Contacts.{contacts_from}
use Rattle.contacts.proofs.Following.{FoundAt}
use Rattle.vectors.specs.Vectors.{Sourced, sourced, vector_of, vectors_from}
use Rattle.vectors.specs.Fit.{kept_vectors}
use Rattle.vectors.specs.Places.{Ready, Behind, left_at, far, all_left}
use Rattle.vectors.specs.declared.TranslationVector.{TranslationVector}
use Rattle.vectors.specs.declared.Place.{Place}

abbrev place : ℕ → ℕ → ℕ → Place
place k s i = record { contact = k; side = s; source = i }

module _ (st orb : List Float) (tol : Float) (p : Place) (r : Ready st orb p) where
  -- the first vector of the next contact
  pub first_step : {j : ℕ} {v : TranslationVector} → p.side ≡ 0 → FoundAt st orb tol p.contact j → v ≡ vector_of st orb j 0
      → Behind st orb tol all_left p (sourced v p.source) (place j 1 p.source)
  unfolding left_at vectors_from
  first_step {j} {v} z f e =
      record {
        then = rw (eq-eqb p.side 0 z, f.then, e, add-one p.source);
        ready = record { side_most = omega arith; contact_most = omega (arith, f.below); source_most = omega (arith, f.least, r.source_most) };
        farther = omega (arith, f.least, z);
      }

  pub second_below : (p.side ≡ 0 → ⊥) → p.contact < pair_count (count st) (count orb)
  second_below z = omega (arith, r.contact_most, z)

  -- the second vector of a contact
  pub second_step : {v : TranslationVector} → (p.side ≡ 0 → ⊥) → v ≡ vector_of st orb p.contact 1
      → Behind st orb tol all_left p (sourced v p.source) (place (p.contact + 1) 0 (p.source + 1))
  unfolding left_at
  second_step {v} z e =
      record {
        then = rw (ne_eqb p.side 0 z, e);
        ready = record { side_most = omega arith; contact_most = omega (arith, r.contact_most, z, r.side_most); source_most = omega (arith, r.source_most) };
        farther = omega (arith, r.side_most);
      }

  pub no_step : p.side ≡ 0 → contacts_from st orb tol p.contact ≡ [] → left_at st orb tol p ≡ []
  unfolding left_at vectors_from
  no_step z e = rw (eq-eqb p.side 0 z, e)

-- what a test keeps of the vectors at a place
module _ (st orb : List Float) (tol : Float) (keep : TranslationVector → Bool) {p q : Place} {s : Sourced} (b : Behind st orb tol all_left p s q) where
  keep_first : keep s.slide ≡ true → kept_vectors keep (left_at st orb tol p) ≡ s ∷ kept_vectors keep (left_at st orb tol q)
  unfolding kept_vectors
  keep_first t = rw (b.then, t)

  drop_first : keep s.slide ≡ false → kept_vectors keep (left_at st orb tol p) ≡ kept_vectors keep (left_at st orb tol q)
  unfolding kept_vectors
  drop_first t = rw (b.then, t)

module _ (st orb : List Float) (tol : Float) (keep : TranslationVector → Bool) where
  pub record Seeking (p q : Place) : Type 0 where
    pub same : kept_vectors keep (left_at st orb tol p) ≡ kept_vectors keep (left_at st orb tol q)
    pub ready : Ready st orb q
    pub farther : far p ≤ far q

  pub seek : (p : Place) → Ready st orb p → Seeking p p
  seek p r = record { same = refl; ready = r; farther = omega arith }

  module _ {p q : Place} (s : Seeking p q) where
    pub drops : {v : Sourced} {t : Place} {k : Bool} → Behind st orb tol all_left q v t → k ≡ keep v.slide → k ≡ false → Seeking p t
    drops b e f =
        record {
          same = s.same ∙ drop_first st orb tol keep b (sym e ∙ f);
          ready = b.ready;
          farther = omega (arith, s.farther, b.farther);
        }

    pub keeps_it : {v : Sourced} {t : Place} {k : Bool} → Behind st orb tol all_left q v t → k ≡ keep v.slide → k ≡ true → Behind st orb tol (kept_vectors keep) p v t
    keeps_it b e f =
        record {
          then = s.same ∙ keep_first st orb tol keep b (sym e ∙ f);
          ready = b.ready;
          farther = omega (arith, s.farther, b.farther);
        }

    pub ends : left_at st orb tol q ≡ [] → kept_vectors keep (left_at st orb tol p) ≡ []
    unfolding kept_vectors
    ends e = rw (s.same, e)

-- the measure of a loop over the vectors falls
pub nearer : (st orb : List Float) {tol : Float} {g : List Sourced → List Sourced} {p q : Place} {s : Sourced} → Behind st orb tol g p s q
    → 2 * pair_count (count st) (count orb) - far q < 2 * pair_count (count st) (count orb) - far p
nearer st orb b = omega (arith, b.farther, b.ready.contact_most)

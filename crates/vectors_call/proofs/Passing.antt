-- The loops of `count_vectors` and `write_vectors`, over plain values. The invariant: n of the kept vectors are behind the place q, and the
-- others are those kept of what is left there. Assumes nothing.
use Prim.Native.Nat.{ℕ, ◌+◌, ◌*◌, ◌≤◌, ◌<◌}
use mathlib.Core.Path.{◌≡◌, refl, ap}
use mathlib.Core.Bool.{Bool}
use mathlib.Core.List.{List, [], ◌∷◌}
use native.Mathlib.Omega.{arith}
use lib.ListN.{length, set}
use lib.Ieee.{Float}
use Rattle.ring.specs.Ring.{count}
use Rattle.ring.specs.Room.{laid}
use Rattle.pairs.specs.Pairs.{Sides}
use Rattle.pairs.proofs.Numbers.{most}
use Rattle.contacts_call.proofs.Filling.{Filling, begun, put, fits, filled}
use Rattle.vectors.specs.Vectors.{Sourced, sourced, vectors_of, vector_numbers, sources_of}
use Rattle.vectors.specs.Fit.{kept_vectors}
use Rattle.vectors.specs.Places.{Ready, Behind, left_at, far, front}
use Rattle.vectors.specs.declared.TranslationVector.{TranslationVector}
use Rattle.vectors.specs.declared.Place.{Place}
use Rattle.vectors.proofs.Numbers.{numbers_length}

sources_length : (l : List Sourced) → length (sources_of l) ≡ length l
unfolding sources_of
sources_length [] = refl
sources_length (s ∷ ss) = omega (arith, sources_length ss)

module _ (st orb : List Float) (tol : Float) (keep : TranslationVector → Bool) where
  abbrev all : List Sourced
  all = kept_vectors keep (vectors_of st orb tol)

  abbrev rest : Place → List Sourced
  rest q = kept_vectors keep (left_at st orb tol q)

  pub record Passing (n : ℕ) (q : Place) : Type 0 where
    pub ready : Ready st orb q
    pub few : n ≤ far q

  pub begin : Passing 0 front
  begin = record { ready = record { side_most = omega arith; contact_most = omega arith; source_most = omega arith }; few = omega arith }

  pub small : Sides (count st) (count orb) → {n : ℕ} {q : Place} → Passing n q → n ≤ 393216
  small d p = omega (arith, p.few, p.ready.contact_most, most (count st) (count orb) d)

  pub pass : {n : ℕ} {q t : Place} {s : Sourced} → Behind st orb tol (kept_vectors keep) q s t → Passing n q → Passing (n + 1) t
  pass b p = record { ready = b.ready; few = omega (arith, p.few, b.farther) }

  pub record Counting (n : ℕ) (q : Place) : Type 0 where
    pub passing : Passing n q
    pub sum : n + length (rest q) ≡ length all

  pub count_none : Counting 0 front
  unfolding left_at
  count_none = record { passing = begin; sum = omega arith }

  pub count_one : {n : ℕ} {q t : Place} {s : Sourced} → Counting n q → Behind st orb tol (kept_vectors keep) q s t → Counting (n + 1) t
  count_one c b = record { passing = pass b c.passing; sum = omega (arith, c.sum, ap length b.then) }

  pub count_all : {n : ℕ} {q : Place} → Counting n q → rest q ≡ [] → n ≡ length all
  count_all c e = omega (arith, c.sum, ap length e)

  module _ (v₀ : List Float) (s₀ : List ℕ) where
    pub record Writing (v : List Float) (s : List ℕ) (n : ℕ) (q : Place) : Type 0 where
      pub passing : Passing n q
      pub vectors : Filling (vector_numbers all) v₀ v (vector_numbers (rest q)) (3 * n)
      pub sources : Filling (sources_of all) s₀ s (sources_of (rest q)) n

    pub start : Writing v₀ s₀ 0 front
    unfolding left_at
    start = record { passing = begin; vectors = begun _ _; sources = begun _ _ }

    module _ (hv : 3 * length all ≤ length v₀) (hs : length all ≤ length s₀) where
      room_vectors : length (vector_numbers all) ≤ length v₀
      room_vectors = omega (arith, numbers_length all)

      room_sources : length (sources_of all) ≤ length s₀
      room_sources = omega (arith, sources_length all)

      module _ {v : List Float} {s : List ℕ} {n i : ℕ} {q t : Place} {u : TranslationVector} (w : Writing v s n q) (b : Behind st orb tol (kept_vectors keep) q (sourced u i) t) where
        left_vectors : Filling (vector_numbers all) v₀ v (vector_numbers (sourced u i ∷ rest t)) (3 * n)
        left_vectors = rw b.then at w.vectors

        left_sources : Filling (sources_of all) s₀ s (sources_of (sourced u i ∷ rest t)) n
        left_sources = rw b.then at w.sources

        pub vectors_fit : 3 * n + 2 < length v
        unfolding vector_numbers
        vectors_fit = omega (arith, fits room_vectors left_vectors)

        pub sources_fit : n < length s
        unfolding sources_of
        sources_fit = omega (arith, fits room_sources left_sources)

        pub turn : {v' : List Float} → v' ≡ set (set (set v (3 * n) u.direction.x) (3 * n + 1) u.direction.y) (3 * n + 2) u.distance
            → Writing v' (set s n i) (n + 1) t
        unfolding vector_numbers sources_of
        turn e =
            let a : 3 * n + 1 + 1 ≡ 3 * n + 2 = omega arith in
            let d : 3 * n + 1 + 1 + 1 ≡ 3 * (n + 1) = omega arith in
            record { passing = pass b w.passing; vectors = rw (e, ← a, ← d) (put (put (put left_vectors))); sources = put left_sources }

      pub done : {v : List Float} {s : List ℕ} {n : ℕ} {q : Place} → Writing v s n q → rest q ≡ [] → (v ≡ laid (vector_numbers all) v₀) × (s ≡ laid (sources_of all) s₀)
      unfolding vector_numbers sources_of
      done w e = (filled room_vectors (rw e at w.vectors), filled room_sources (rw e at w.sources))

-- The fault of a list, test by test; and the loop over vertex counts, in which the counts left decide. Assumes nothing.
use Prim.Native.Nat.{ℕ, suc, ◌+◌, ◌%◌, ◌/◌, ◌≤◌, ◌<◌}
use mathlib.Core.Path.{◌≡◌, refl, sym, ◌∙◌}
use mathlib.Core.Bool.{Bool, true, false}
use mathlib.Core.List.{List, [], ◌∷◌, map}
use native.Mathlib.Omega.{arith}
use native.Mathlib.Numerals.{add-one}
use lib.ListN.{length, get_or, drop}
use lib.Seq.{drop-cons}
use lib.Dec.{leb, eqb}
use lib.Ieee.{Float}
use borrow.Author.Tests.{le-leb, eq-eqb}
use Rattle.laws.proofs.Both.{both}
use Rattle.refusals.specs.Refusals.{refused_length, refused_few, refused_many, none, passed, unless, first, first_of}
use Rattle.refusals.specs.Rings.{vertices_least, vertices_most, within, sized_all}
use Rattle.refusals.specs.Lists.{Extent, list_fault, faults_from, count_extent, vectors_extent}
use Rattle.refusals.specs.Refusals.{Told}
use Rattle.refusals.proofs.Tests.{first_passed}
use Rattle.refusals.proofs.Sized.{Fine, fine, row_parts}
use Rattle.refusals.proofs.Counts.{within_true, is_within}

-- ---- one list

module _ (e : Extent) (at : ℕ) where
  pub fault_rest : {r : Told} → e.size % e.width ≡ 0 → e.least ≤ e.size / e.width → r ≡ unless (leb (e.size / e.width) e.most) refused_many at
      → r ≡ list_fault e at
  fault_rest w l q = rw (eq-eqb (e.size % e.width) 0 w, le-leb e.least (e.size / e.width) l) q

  pub fault_none : Fine e → none ≡ list_fault e at
  fault_none f = fault_rest f.whole f.enough (rw (le-leb (e.size / e.width) e.most f.within))

  fault_passes : passed (list_fault e at) ≡ true → list_fault e at ≡ none
  fault_passes h = sym (fault_none (fine e at h))

-- vectors are never too few or too many
pub vectors_whole : (vs : List Float) (at : ℕ) → list_fault (vectors_extent vs) at ≡ unless (eqb (length vs % 3) 0) refused_length at
vectors_whole vs at = rw (le-leb (length vs / 3) (length vs) (omega arith)) (go (eqb (length vs % 3) 0))
  where
    go : (b : Bool) → first (unless b refused_length at) (first (unless (leb 0 (length vs / 3)) refused_few at) none) ≡ unless b refused_length at
    go true = rw (le-leb 0 (length vs / 3) (omega arith))
    go false = refl

-- ---- the rings of a book, by their vertex counts

firstOf_first : (r : Told) (rs : List Told) → (passed r ≡ true → r ≡ none) → first_of (r ∷ rs) ≡ first r (first_of rs)
firstOf_first r [] n = go (passed r) refl
  where
    go : (p : Bool) → passed r ≡ p → r ≡ first r none
    go true h = rw h (n h)
    go false h = rw h
firstOf_first r (s ∷ rs) n = refl

abbrev pub counts_from : ℕ → List ℕ → Told
counts_from at ns = first_of (faults_from at (map count_extent ns))

counts_cons : (at n : ℕ) (ns : List ℕ) → counts_from at (n ∷ ns) ≡ first (list_fault (count_extent n) at) (counts_from (suc at) ns)
counts_cons at n ns = firstOf_first (list_fault (count_extent n) at) (faults_from (suc at) (map count_extent ns)) (fault_passes (count_extent n) at)

module _ (ns : List ℕ) (i : ℕ) where
  counts_here : i < length ns → counts_from i (drop i ns) ≡ first (list_fault (count_extent (get_or ns i 0)) i) (counts_from (i + 1) (drop (i + 1) ns))
  counts_here h = rw (drop-cons ns i 0 h, add-one) (counts_cons i (get_or ns i 0) (drop (suc i) ns))

  pub counts_on : i < length ns → none ≡ list_fault (count_extent (get_or ns i 0)) i → counts_from i (drop i ns) ≡ counts_from (i + 1) (drop (i + 1) ns)
  counts_on h e = counts_here h ∙ first_passed _ _ e

-- no ring has a fault exactly if each has 3 to 256 vertices
pub counts_sized : (at : ℕ) (ns : List ℕ) → passed (counts_from at ns) ≡ true → sized_all ns ≡ true
unfolding sized_all
counts_sized at [] h = refl
counts_sized at (n ∷ ns) h =
    let p = row_parts (list_fault (count_extent n) at) (counts_from (suc at) ns) (rw (counts_cons at n ns) at h) in
    let f = fine (count_extent n) at p.0 in
    rw (within_true vertices_least vertices_most n (omega (arith, f.enough)) (omega (arith, f.within))) (counts_sized (suc at) ns p.1)

pub sized_counts : (at : ℕ) (ns : List ℕ) → sized_all ns ≡ true → counts_from at ns ≡ none
unfolding sized_all
sized_counts at [] h = refl
sized_counts at (n ∷ ns) h =
    let p = both (within vertices_least vertices_most n) (sized_all ns) h in
    let w = is_within vertices_least vertices_most n p.0 in
    let f : Fine (count_extent n) = record { whole = omega arith; enough = omega (arith, w.0); within = omega (arith, w.1) } in
    counts_cons at n ns ∙ (rw (← fault_none (count_extent n) at f) (sized_counts (suc at) ns p.1))

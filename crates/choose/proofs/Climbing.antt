-- The vector chosen on the way, and the one that selection chooses from the list. The invariant over the first k vectors: the best has the score that
-- selection's has, and, where one is found, is the vector with its index; none is found only where k is 0. Assumes nothing.
use Prim.Native.Nat.{ℕ, zero, suc, ◌+◌, ◌*◌, ◌/◌, ◌≤◌}
use mathlib.Core.Path.{◌≡◌, refl, sym, ap, ◌∙◌}
use mathlib.Core.Bool.{Bool, true, false, cond, true≢false}
use mathlib.Core.List.{List, [], ◌∷◌}
use native.Mathlib.Omega.{arith}
use lib.ListN.{length, drop}
use lib.Dec.{eqb}
use lib.Ieee.{Float, lt}
use Rattle.plane.specs.declared.Point.{Point}
use Rattle.ring.specs.Ring.{count}
use Rattle.laws.specs.FirstBest.{over, better}
use Rattle.pairs.specs.Pairs.{pair_count}
use Rattle.contacts.specs.Contacts.{contacts_from}
use Rattle.contacts.proofs.Following.{FoundAt}
use Rattle.vectors.specs.Vectors.{Sourced, sourced, vector_numbers, vector_of, vectors_from, vectors_of}
use Rattle.vectors.specs.Fit.{kept_vectors}
use Rattle.vectors.specs.declared.TranslationVector.{TranslationVector}
use Rattle.vectors.proofs.Numbers.{numbers_length}
use Rattle.selection.specs.Score.{score_of}
use Rattle.selection.specs.Select.{vector_at, score_at, scored_at, above, unscored, select_of}
use Rattle.selection.specs.declared.Scored.{Scored}
use Rattle.choose.specs.Choose.{vector_no, choice_of, Standing, stands, standing, unset, raised, weigh_of, raised_by, weighed_by, taken_by, climb_of}
use Rattle.vectors.specs.Courses.{vector_is}
use Rattle.choose.specs.declared.Best.{Best}
use Rattle.std.specs.Prelude.{Option, Some, None}
use Rattle.vectors.specs.declared.course.Course.{Course}

none_at : {A : Type 0} (k : ℕ) {s : Sourced} {ss : List Sourced} → drop k [] ≡ s ∷ ss → A
none_at zero e = absurd (let q : ◌≡◌ {A = ℕ} 0 1 = cc in omega arith)
none_at (suc k) e = absurd (let q : ◌≡◌ {A = ℕ} 0 1 = cc in omega arith)

-- what a list has at k
number_at : (vs : List Sourced) (k : ℕ) {s : Sourced} {ss : List Sourced} → drop k vs ≡ s ∷ ss → vector_at (vector_numbers vs) k ≡ s.slide
unfolding vector_at vector_numbers
number_at [] k e = none_at k e
number_at (x ∷ xs) zero {s} e = let q : x ≡ s = cc in rw q refl
number_at (x ∷ xs) (suc k) e =
    let a : 3 * suc k ≡ suc (suc (suc (3 * k))) = omega arith in
    let b : 3 * suc k + 1 ≡ suc (suc (suc (3 * k + 1))) = omega arith in
    let d : 3 * suc k + 2 ≡ suc (suc (suc (3 * k + 2))) = omega arith in
    rw (d, b, a) (number_at xs k e)

vector_at_lem : (vs : List Sourced) (k : ℕ) {s : Sourced} {ss : List Sourced} → drop k vs ≡ s ∷ ss → vector_no vs k ≡ Some s.slide
unfolding vector_no
vector_at_lem [] k e = none_at k e
vector_at_lem (x ∷ xs) zero e = cc
vector_at_lem (x ∷ xs) (suc k) e = vector_at_lem xs k e

rest_at : (vs : List Sourced) (k : ℕ) {s : Sourced} {ss : List Sourced} → drop k vs ≡ s ∷ ss → drop (suc k) vs ≡ ss
rest_at [] k e = none_at k e
rest_at (x ∷ xs) zero e = cc
rest_at (x ∷ xs) (suc k) e = rest_at xs k e

-- what is chosen where the best stands so
abbrev pub chosen_by : Standing → Option TranslationVector
chosen_by b = cond b.found (Some b.best) None

module _ (vs : List Sourced) (previous : Option Point) (ccw : Point) where
  abbrev till : ℕ → Scored
  till k = over above (scored_at (vector_numbers vs) previous ccw) unscored k

  record Same (k : ℕ) (b : Standing) : Type 0 where
    score_same : (till k).score ≡ b.score
    vector_same : b.found ≡ true → vector_no vs (till k).index ≡ Some b.best
    none_yet : b.found ≡ false → k ≡ 0

  begin : Same 0 unset
  unfolding unset unscored over
  begin = record { score_same = refl; vector_same = λ t. cc; none_yet = λ t. refl }

  -- once there is a vector one is found
  ever : (b : Standing) (v : TranslationVector) → (raised previous ccw b v).found ≡ false → ⊥
  unfolding raised
  ever b v = by (lt b.score (score_of v previous ccw)) b.found refl
    where
      by : (t f : Bool) → b.found ≡ f → (cond t (stands true (score_of v previous ccw) v) (cond f b (stands true b.score v))).found ≡ false → ⊥
      by true f e h = true≢false h
      by false true e h = true≢false (sym e ∙ h)
      by false false e h = true≢false h

  at_zero : (k : ℕ) {s : Sourced} {ss : List Sourced} → k ≡ 0 → drop k vs ≡ s ∷ ss → vector_no vs (till k).index ≡ Some s.slide
  unfolding unscored over
  at_zero zero z e = vector_at_lem vs 0 e
  at_zero (suc k) z e = absurd (omega (arith, z))

  one_more : {k : ℕ} {b : Standing} {s : Sourced} {ss : List Sourced} → drop k vs ≡ s ∷ ss → Same k b → Same (suc k) (raised previous ccw b s.slide)
  unfolding raised scored_at score_at over better
  one_more {k} {b} {s} e i = by (lt (till k).score (score_of s.slide previous ccw)) b.found refl refl
    where
      by : (t f : Bool) → lt (till k).score (score_of s.slide previous ccw) ≡ t → b.found ≡ f → Same (suc k) (raised previous ccw b s.slide)
      by true f t u =
          record {
            score_same = rw (number_at vs k e, ← i.score_same, t) refl;
            vector_same = λ h. rw (number_at vs k e, ← i.score_same, t) (vector_at_lem vs k e);
            none_yet = λ h. absurd (ever b s.slide h);
          }
      by false true t u =
          record {
            score_same = rw (number_at vs k e, ← i.score_same, t, u) refl;
            vector_same = λ h. rw (number_at vs k e, ← i.score_same, t, u) (i.vector_same u);
            none_yet = λ h. absurd (ever b s.slide h);
          }
      by false false t u =
          record {
            score_same = rw (number_at vs k e, ← i.score_same, t, u) refl;
            vector_same = λ h. rw (number_at vs k e, ← i.score_same, t, u) (at_zero k (i.none_yet u) e);
            none_yet = λ h. absurd (ever b s.slide h);
          }

  climbs : (ss : List Sourced) (k : ℕ) {b : Standing} → drop k vs ≡ ss → Same k b → Same (k + length ss) (climb_of previous ccw b ss)
  unfolding climb_of
  climbs [] k e i = let z : k + 0 ≡ k = omega arith in rw z i
  climbs (s ∷ ss) k e i =
      let z : k + suc (length ss) ≡ suc k + length ss = omega arith in
      rw z (climbs ss (suc k) (rest_at vs k e) (one_more e i))

  -- by the end
  ends : (n : ℕ) {b : Standing} → n ≡ length vs → Same n b → chosen_by b ≡ vector_no vs (till n).index
  ends n {b} e i = by b.found refl
    where
      none_in : (l : List Sourced) (j : ℕ) → length l ≡ 0 → None ≡ vector_no l j
      none_in [] j z = unfold vector_no in refl
      none_in (s ∷ ss) j z = absurd (omega (arith, z))

      by : (f : Bool) → b.found ≡ f → cond f (Some b.best) None ≡ vector_no vs (till n).index
      by true f = sym (i.vector_same f)
      by false f = none_in vs _ (omega (arith, e, i.none_yet f))

pub climbed : (vs : List Sourced) (previous : Option Point) (ccw : Point) → chosen_by (climb_of previous ccw unset vs) ≡ choice_of vs previous ccw
unfolding choice_of select_of
climbed vs previous ccw =
    let z : 0 + length vs ≡ length (vector_numbers vs) / 3 = omega (arith, numbers_length vs) in
    ends vs previous ccw (length (vector_numbers vs) / 3) {b = climb_of previous ccw unset vs} (omega (arith, numbers_length vs)) (rw (← z) (climbs vs previous ccw vs 0 refl (begin vs previous ccw)))

-- the vectors of one contact
module _ (keep : TranslationVector → Bool) (previous : Option Point) (ccw : Point) where
  weighs : (b : Standing) (s : Sourced) (rest : List Sourced)
      → climb_of previous ccw b (kept_vectors keep (s ∷ rest)) ≡ climb_of previous ccw (weigh_of keep previous ccw b s.slide) (kept_vectors keep rest)
  unfolding kept_vectors climb_of weigh_of
  weighs b s rest = by (keep s.slide) refl
    where
      by : (t : Bool) → keep s.slide ≡ t
          → climb_of previous ccw b (kept_vectors keep (s ∷ rest)) ≡ climb_of previous ccw (weigh_of keep previous ccw b s.slide) (kept_vectors keep rest)
      by true t = rw t refl
      by false t = rw t refl

-- what a vector makes of the best: nothing where its score does not raise it, visited or not
module _ (keep : TranslationVector → Bool) (previous : Option Point) (ccw : Point) (found : Bool) (top : Float) (v : TranslationVector) {s : Float} {w : Option Float}
    (e : s ≡ score_of v previous ccw) (h : w ≡ raised_by found top s) where
  pub not_raised : w ≡ None → None ≡ weighed_by keep previous ccw found top v
  unfolding weighed_by
  not_raised k = rw (← e, ← h, k) (by (keep v))
    where
      by : (b : Bool) → ◌≡◌ {A = Option Float} None (cond b None None)
      by true = refl
      by false = refl

  pub raised_kept : {t : Float} → w ≡ Some t → keep v ≡ true → Some t ≡ weighed_by keep previous ccw found top v
  unfolding weighed_by
  raised_kept k l = rw (l, ← e, ← h, k) refl

pub visited_passed : (keep : TranslationVector → Bool) (previous : Option Point) (ccw : Point) (found : Bool) (top : Float) (v : TranslationVector)
    → keep v ≡ false → None ≡ weighed_by keep previous ccw found top v
unfolding weighed_by
visited_passed keep previous ccw found top v l = rw l refl

-- both steps of weighing
taken_is : (keep : TranslationVector → Bool) (previous : Option Point) (ccw : Point) (b : Standing) (v : TranslationVector)
    → taken_by (weighed_by keep previous ccw b.found b.score v) b v ≡ weigh_of keep previous ccw b v
unfolding taken_by weighed_by raised_by weigh_of raised
taken_is keep previous ccw b v = by (keep v) (lt b.score (score_of v previous ccw)) b.found
  where
    s : Float
    s = score_of v previous ccw

    by : (k t f : Bool) → taken_by (cond k (cond t (Some s) (cond f None (Some b.score))) None) b v ≡ cond k (cond t (stands true s v) (cond f b (stands true b.score v))) b
    by false t f = refl
    by true true f = refl
    by true false true = refl
    by true false false = refl

module _ (keep : TranslationVector → Bool) (previous : Option Point) (ccw : Point) where
  one_side : (b r : Best) (c : Course) {w : Option Float} {v : TranslationVector}
      → w ≡ weighed_by keep previous ccw (eqb b.found 1) b.score (vector_is c) → standing r ≡ taken_by w (standing b) (vector_is c) → vector_is c ≡ v
      → standing r ≡ weigh_of keep previous ccw (standing b) v
  one_side b r c h k e = k ∙ (rw (h, ← e) (taken_is keep previous ccw (standing b) (vector_is c)))

  pub both_sides : (b f r : Best) (c d : Course) {w x : Option Float} {v u : TranslationVector}
      → w ≡ weighed_by keep previous ccw (eqb b.found 1) b.score (vector_is c) → standing f ≡ taken_by w (standing b) (vector_is c) → vector_is c ≡ v
      → x ≡ weighed_by keep previous ccw (eqb f.found 1) f.score (vector_is d) → standing r ≡ taken_by x (standing f) (vector_is d) → vector_is d ≡ u
      → standing r ≡ weigh_of keep previous ccw (weigh_of keep previous ccw (standing b) v) u
  both_sides b f r c d {u = u} h k e h' k' e' =
      one_side f r d h' k' e' ∙ ap (λ (z : Standing). weigh_of keep previous ccw z u) (one_side b f c h k e)

-- the loop of `climb`: from where it is on, the vectors left give what all of them give from nothing
module _ (st orb : List Float) (tol : Float) (keep : TranslationVector → Bool) (previous : Option Point) (ccw : Point) where
  abbrev all : Standing
  all = climb_of previous ccw unset (kept_vectors keep (vectors_of st orb tol))

  pub record Climbing (b : Standing) (k : ℕ) : Type 0 where
    pub source : ℕ
    pub same : all ≡ climb_of previous ccw b (kept_vectors keep (vectors_from st orb source (contacts_from st orb tol k)))
    pub most : k ≤ pair_count (count st) (count orb)

  pub at_first : {b : Standing} → b ≡ unset → Climbing b 0
  at_first e = record { source = 0; same = rw e refl; most = omega arith }

  two : (b : Standing) (i j : ℕ) (ks : List ℕ)
      → climb_of previous ccw b (kept_vectors keep (vectors_from st orb i (j ∷ ks)))
      ≡ climb_of previous ccw (weigh_of keep previous ccw (weigh_of keep previous ccw b (vector_of st orb j 0)) (vector_of st orb j 1)) (kept_vectors keep (vectors_from st orb (suc i) ks))
  unfolding vectors_from
  two b i j ks =
      weighs keep previous ccw b (sourced (vector_of st orb j 0) i) (sourced (vector_of st orb j 1) i ∷ vectors_from st orb (suc i) ks)
      ∙ weighs keep previous ccw (weigh_of keep previous ccw b (vector_of st orb j 0)) (sourced (vector_of st orb j 1) i) (vectors_from st orb (suc i) ks)

  module _ {b : Standing} {k : ℕ} (i : Climbing b k) where
    pub up : {j : ℕ} {next : Standing} → FoundAt st orb tol k j
        → next ≡ weigh_of keep previous ccw (weigh_of keep previous ccw b (vector_of st orb j 0)) (vector_of st orb j 1) → Climbing next (j + 1)
    up {j} f e =
        record {
          source = suc i.source;
          same = (rw f.then at i.same) ∙ (rw e (two b i.source j (contacts_from st orb tol (j + 1))));
          most = omega (arith, f.below);
        }

    pub top : contacts_from st orb tol k ≡ [] → b ≡ all
    unfolding vectors_from kept_vectors climb_of
    top e = sym (i.same ∙ (rw e refl))

-- what `choose` makes of the best
module _ (vs : List Sourced) (previous : Option Point) (ccw : Point) (b : Best) (e : standing b ≡ climb_of previous ccw unset vs) where
  all_told : chosen_by (standing b) ≡ choice_of vs previous ccw
  all_told = ap chosen_by e ∙ climbed vs previous ccw

  pub some_vector : {v : TranslationVector} → eqb b.found 1 ≡ true → v ≡ vector_is b.course → Some v ≡ choice_of vs previous ccw
  some_vector f q = rw q (rw f at all_told)

  pub no_vector : eqb b.found 1 ≡ false → None ≡ choice_of vs previous ccw
  no_vector f = rw f at all_told

-- No two answers say the same, and an answer that keeps the call's promise says what the theorems demand: its ground is true of the pairs scanned, its
-- collision is what the check's theorem demands, and its counts are those of the pairs. Assumes nothing.
use Prim.Native.Nat.{ℕ}
use native.Mathlib.Omega.{arith}
use mathlib.Core.Path.{◌≡◌, refl, sym, ap, subst, ◌∙◌}
use mathlib.Core.Logic.{inl, ⊎_elim}
use mathlib.Core.Bool.{Bool, true, false, not, ◌&&◌, cond}
use mathlib.Core.List.{List}
use lib.Dec.{eqb}
use lib.Ieee.{Float, lt, eq}
use Rattle.std.specs.Prelude.{Option, Some, None, Result, Ok, Err}
use Rattle.plane.specs.Vector.{length_of}
use Rattle.laws.specs.Turns.{tally}
use Rattle.laws.proofs.Both.{both}
use Rattle.plane.specs.declared.Point.{Point}
use Rattle.refusals.specs.Refusals.{passed}
use Rattle.refusals.specs.Rows.{of_moving}
use Rattle.refusals.specs.Answers.{Outcome, answers, refuses, tells}
use Rattle.refusals.specs.declared.Refusal.{Refusal}
use Rattle.refusals.proofs.Calls.{answered_only}
use Rattle.collision.specs.Check.{sweep_of}
use Rattle.collision.specs.Nearest.{scans, Blocks, Told, nothing, hit}
use Rattle.collision.specs.declared.Hit as declared
use Rattle.collision.proofs.Nearest.{collision_told}
use Rattle.grounds.specs.Classes.{too_near, in_between, too_far, hit_at, how_many}
use Rattle.grounds.specs.Grounds.{ground_number, Says}
use Rattle.grounds.specs.Scan.{no_tally}
use Rattle.grounds.specs.Explanation.{others_at, tally_of, explanation_of}
use Rattle.grounds.specs.Calls.{Account, account, explained, explain_call}
use Rattle.grounds.specs.declared.Ground.{Ground}
use Rattle.grounds.specs.declared.Ground.TheVariants.{Hit, Short, Never, Near, Far, BothSides}
use Rattle.grounds.specs.declared.Explanation.{Explanation}
use Rattle.grounds.proofs.Classes.{no_bool}
use Rattle.grounds.proofs.Others.{others_other}
use Rattle.grounds.proofs.Grounds.{ground_says, ground_only, same_collision}

-- ---- no two answers say the same

-- the ground with a number
numbered : ℕ → Ground
numbered n = cond (eqb n 0) Hit (cond (eqb n 1) Short (cond (eqb n 2) Never (cond (eqb n 3) Near (cond (eqb n 4) Far BothSides))))

number_back : (g : Ground) → numbered (ground_number g) ≡ g
unfolding numbered
number_back Hit = refl
number_back Short = refl
number_back Never = refl
number_back Near = refl
number_back Far = refl
number_back BothSides = refl

pub ground_number_only : (g h : Ground) → ground_number g ≡ ground_number h → g ≡ h
ground_number_only g h e = sym (number_back g) ∙ ap numbered e ∙ number_back h

same_parts : (x : Explanation) (g : Ground) (c : Option declared.Hit) (o n b f : ℕ) → x.ground ≡ g → x.tally.best ≡ c → x.tally.others ≡ o → x.tally.near ≡ n
    → x.tally.between ≡ b → x.tally.far ≡ f → x ≡ record { ground = g; tally = record { best = c; others = o; near = n; between = b; far = f } }
same_parts x g c o n b f p q r s t u = rw (← p, ← q, ← r, ← s, ← t, ← u)

pub account_only : (x y : Explanation) → account x ≡ account y → x ≡ y
account_only x y h =
    same_parts x _ _ _ _ _ _
    (ground_number_only x.ground y.ground (ap (λ (a : Account). a.ground) h))
    (ap (λ (a : Account). a.hit) h)
    (ap (λ (a : Account). a.others) h)
    (ap (λ (a : Account). a.near) h)
    (ap (λ (a : Account). a.between) h)
    (ap (λ (a : Account). a.far) h)

-- two refusals that tell the same
refused_only : (r s : Refusal) → ◌≡◌ {A = Outcome Account} (refuses (tells r)) (refuses (tells s)) → ◌≡◌ {A = Result Explanation Refusal} (Err r) (Err s)
refused_only r s h = let e : ◌≡◌ {A = Result ℕ Refusal} (Err r) (Err s) = answered_only (Err r) (Err s) (cc) in cc

pub explained_only : (a b : Result Explanation Refusal) → explained a ≡ explained b → a ≡ b
explained_only (Ok x) (Ok y) h = cc (account_only x y (cc))
explained_only (Ok x) (Err r) h = cc
explained_only (Err r) (Ok y) h = cc
explained_only (Err r) (Err s) h = refused_only r s h

-- ---- an answer that keeps the call's promise

module _ (st orb : List Float) (move : Point) (tol : Float) (x : Explanation) (keeps : explained (Ok x) ≡ explain_call st orb move tol) where
  answer_is : (passed (of_moving st orb move tol) ≡ true) × (x ≡ explanation_of st orb move tol)
  answer_is = go (passed (of_moving st orb move tol)) refl keeps
    where
      go : (b : Bool) → passed (of_moving st orb move tol) ≡ b
          → answers (account x) ≡ cond b (answers (account (explanation_of st orb move tol))) (refuses (of_moving st orb move tol))
          → (passed (of_moving st orb move tol) ≡ true) × (x ≡ explanation_of st orb move tol)
      go true p e = (p, account_only x (explanation_of st orb move tol) (cc))
      go false p e = absurd (let z : ◌≡◌ {A = ℕ} 0 1 = cc in omega arith)

  pub answer_says : Says st orb move tol x.ground
  answer_says = rw answer_is.1 (ground_says st orb move tol answer_is.0)

  pub answer_told : Told st orb move tol x.tally.best
  answer_told = rw (answer_is.1, same_collision st orb move tol) (collision_told st orb move tol)

  -- a move shorter than the tolerance has no counts
  pub answer_short : lt (length_of move) tol ≡ true → x.tally ≡ no_tally
  unfolding explanation_of
  answer_short h = rw (answer_is.1, h)

  pub answer_counts : lt (length_of move) tol ≡ false →
      let w = sweep_of move tol in
      (x.tally.near ≡ how_many st orb move tol (too_near w))
      × (x.tally.between ≡ how_many st orb move tol (in_between w))
      × (x.tally.far ≡ how_many st orb move tol (too_far w))
  unfolding explanation_of tally_of
  answer_counts h = (rw (answer_is.1, h), rw (answer_is.1, h), rw (answer_is.1, h))

  scanned : lt (length_of move) tol ≡ false → x.tally ≡ tally_of st orb move tol
  unfolding explanation_of
  scanned h = rw (answer_is.1, h)

  others_told : {h : declared.Hit} → x.tally.best ≡ Some h → lt (length_of move) tol ≡ false
      → x.tally.others ≡ others_at st orb move tol (Some h)
  unfolding tally_of
  others_told e long =
      let b : (tally_of st orb move tol).best ≡ x.tally.best = rw (scanned long) in
      rw (scanned long) (ap (others_at st orb move tol) (b ∙ e))

  -- the others of a hit, whose pair has a number, are the other pairs at its distance
  pub answer_others : (h : declared.Hit) → x.tally.best ≡ Some h → (j : ℕ) → Blocks st orb move tol j h.distance
      → x.tally.others ≡ tally (λ i. not (eqb i j) && hit_at st orb move tol (λ e. eq e h.distance) i) (scans st orb)
  answer_others h e j b = go (lt (length_of move) tol) refl
    where
      go : (short : Bool) → lt (length_of move) tol ≡ short
          → x.tally.others ≡ tally (λ i. not (eqb i j) && hit_at st orb move tol (λ q. eq q h.distance) i) (scans st orb)
      go true short = absurd (let z : ◌≡◌ {A = ℕ} 0 1 = cc (answer_short short, e) in omega arith)
      go false long = others_told e long ∙ others_other st orb move tol h j b

  -- a hit is told with ground 0, and with no other
  hit_by : (c : Option declared.Hit) → Told st orb move tol c → {h : declared.Hit} → c ≡ Some h → Says st orb move tol Hit
  unfolding sweep_of
  hit_by c (nothing q) e = absurd (let z : ◌≡◌ {A = ℕ} 0 1 = cc in omega arith)
  hit_by c (hit q n) e = (
    long (lt (length_of move) tol) refl,
    record { number = n.number; distance = _; meets = n.blocks.meets; does = rw (n.blocks.above, n.blocks.below) },
  )
    where
      long : (short : Bool) → lt (length_of move) tol ≡ short → short ≡ false
      long true h = absurd (q (inl h))
      long false h = refl

  pub hit_named : {h : declared.Hit} → x.tally.best ≡ Some h → x.ground ≡ Hit
  hit_named e = ground_only st orb move tol x.ground Hit answer_says (hit_by _ answer_told e)

  none_by : (c : Option declared.Hit) → Told st orb move tol c → c ≡ None → Says st orb move tol Hit → ⊥
  unfolding sweep_of
  none_by c (hit q n) e w = absurd (let z : ◌≡◌ {A = ℕ} 0 1 = cc in omega arith)
  none_by c (nothing q) e (long, s) =
      let b = both _ _ s.does in
      ⊎_elim
      (λ short. no_bool (sym short ∙ long))
      (λ free. free s.number s.distance (record { meets = s.meets; above = b.0; below = b.1 }))
      q

  pub nothing_named : x.tally.best ≡ None → x.ground ≡ Hit → ⊥
  nothing_named e g = none_by _ answer_told e (subst (Says st orb move tol) g answer_says)

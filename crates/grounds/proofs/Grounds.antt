-- The theorem of the grounds: of a call that is not refused the ground named is true of the pairs scanned, and no ground that is true is another one. And
-- the collision told is that of the check. Assumes nothing.
use Prim.Native.Nat.{ℕ, ◌<◌}
use mathlib.Core.Path.{◌≡◌, refl, sym, ◌∙◌}
use mathlib.Core.Bool.{Bool, true, false, cond}
use mathlib.Core.List.{List}
use lib.Dec.{eqb}
use lib.Ieee.{Float, lt}
use borrow.Author.Tests.{eqb-true, eqb-false}
use Rattle.std.specs.Prelude as rust
use Rattle.laws.proofs.Turns.{none_passes, one_passes}
use Rattle.plane.specs.Vector.{length_of}
use Rattle.plane.specs.declared.Point.{Point}
use Rattle.refusals.specs.Refusals.{passed}
use Rattle.refusals.specs.Rows.{of_moving}
use Rattle.collision.specs.Check.{sweep_of, both_of, collision_of}
use Rattle.collision.specs.Nearest.{pair_no, scans, ray_at}
use Rattle.std.specs.Prelude.{Option, None as Miss, Some as At}
use Rattle.grounds.specs.Classes.{too_near, in_between, too_far, hit_is, hit_at, how_many}
use Rattle.grounds.specs.Grounds.{ground_by, Some, All, None, any, Says}
use Rattle.grounds.specs.Scan.{no_tally}
use Rattle.grounds.specs.Explanation.{tally_of, explanation_by, explanation_of}
use Rattle.grounds.specs.declared.Ground.{Ground}
use Rattle.grounds.specs.declared.Ground.TheVariants.{Hit, Short, Never, Near, Far, BothSides}
use Rattle.grounds.proofs.Classes.{no_bool, OneOf, the_first, the_second, the_third, apart, classes}

-- ---- of three truths, where two do not hold

left_first : {a b c : Bool} → OneOf a b c → b ≡ false → c ≡ false → a ≡ true
left_first the_first y z = refl
left_first the_second y z = no_bool y
left_first the_third y z = no_bool z

left_third : {a b c : Bool} → OneOf a b c → a ≡ false → b ≡ false → c ≡ true
left_third the_first x y = no_bool x
left_third the_second x y = no_bool y
left_third the_third x y = refl

module _ (st orb : List Float) (move : Point) (tol : Float) where
  -- ---- a count that is 0, and one that is not

  some_by : (passes : Float → Bool) (k : ℕ) → k < scans st orb → (ray : Option Float) → ray_at st orb move tol (pair_no st orb k) ≡ ray → hit_is passes ray ≡ true
      → Some st orb move tol passes
  unfolding hit_is
  some_by passes k l Miss e h = no_bool (sym h)
  some_by passes k l (At d) e h = record { number = k; distance = d; meets = record { scanned = l; at = e }; does = h }

  some_of : (passes : Float → Bool) → eqb (how_many st orb move tol passes) 0 ≡ false → Some st orb move tol passes
  unfolding how_many
  some_of passes h =
      let p = one_passes (hit_at st orb move tol passes) (scans st orb) (eqb-false _ _ h) in
      some_by passes p.which p.below _ refl p.does

  none_of : (passes : Float → Bool) → eqb (how_many st orb move tol passes) 0 ≡ true → None st orb move tol passes
  unfolding how_many hit_is
  none_of passes h k d m = rw m.at at (none_passes (hit_at st orb move tol passes) (scans st orb) (eqb-true _ _ h) k m.scanned)

  -- the other way round
  of_some : (passes : Float → Bool) → Some st orb move tol passes → eqb (how_many st orb move tol passes) 0 ≡ false
  of_some passes s = go (eqb (how_many st orb move tol passes) 0) refl
    where
      go : (b : Bool) → eqb (how_many st orb move tol passes) 0 ≡ b → b ≡ false
      go true e = no_bool (sym s.does ∙ none_of passes e s.number s.distance s.meets)
      go false e = refl

  of_none : (passes : Float → Bool) → None st orb move tol passes → eqb (how_many st orb move tol passes) 0 ≡ true
  of_none passes f = go (eqb (how_many st orb move tol passes) 0) refl
    where
      go : (b : Bool) → eqb (how_many st orb move tol passes) 0 ≡ b → b ≡ true
      go true e = refl
      go false e = let s = some_of passes e in no_bool (sym s.does ∙ f s.number s.distance s.meets)

  any_of : (passes : Float → Bool) → Some st orb move tol passes → Some st orb move tol any
  any_of passes s = record { number = s.number; distance = s.distance; meets = s.meets; does = refl }

  all_of : (passes : Float → Bool) → Some st orb move tol any → All st orb move tol passes → Some st orb move tol passes
  all_of passes s f = record { number = s.number; distance = s.distance; meets = s.meets; does = f s.number s.distance s.meets }

  -- ---- the ground named is true

  abbrev near : Float → Bool
  near = too_near (sweep_of move tol)

  abbrev between : Float → Bool
  between = in_between (sweep_of move tol)

  abbrev far : Float → Bool
  far = too_far (sweep_of move tol)

  abbrev zero : (Float → Bool) → Bool
  zero passes = eqb (how_many st orb move tol passes) 0

  module _ (takes : passed (of_moving st orb move tol) ≡ true) (long : lt (length_of move) tol ≡ false) where
    says_by : (b n f : Bool) → zero between ≡ b → zero near ≡ n → zero far ≡ f
        → Says st orb move tol (ground_by (how_many st orb move tol near) (how_many st orb move tol between) (how_many st orb move tol far))
    unfolding ground_by
    says_by false n f B N F = rw B (long, some_of between B)
    says_by true false false B N F = rw (B, N, F) (long, some_of near N, some_of far F, none_of between B)
    says_by true false true B N F =
        rw (B, N, F) (
          long,
          any_of near (some_of near N),
          λ k d m. left_first (classes st orb move tol takes k d m) (none_of between B k d m) (none_of far F k d m),
        )
    says_by true true false B N F =
        rw (B, N, F) (
          long,
          any_of far (some_of far F),
          λ k d m. left_third (classes st orb move tol takes k d m) (none_of near N k d m) (none_of between B k d m),
        )
    says_by true true true B N F =
        rw (B, N, F) (
          long,
          λ k d m. no_bool (sym (left_first (classes st orb move tol takes k d m) (none_of between B k d m) (none_of far F k d m)) ∙ none_of near N k d m),
        )

  -- the theorem
  pub ground_says : passed (of_moving st orb move tol) ≡ true → Says st orb move tol (explanation_of st orb move tol).ground
  unfolding explanation_of tally_of
  ground_says takes = go (lt (length_of move) tol) refl
    where
      go : (short : Bool) → lt (length_of move) tol ≡ short
          → Says st orb move tol (cond short (record { ground = Short; tally = no_tally }) (explanation_by (tally_of st orb move tol))).ground
      go true e = e
      go false e = says_by takes e (zero between) (zero near) (zero far) refl refl refl

  -- ---- and no other is

  -- where all hits are of one class, none is of the others
  near_only : All st orb move tol near → None st orb move tol between × None st orb move tol far
  near_only f = (λ k d m. ((apart (sweep_of move tol) d).by_first (f k d m)).0, λ k d m. ((apart (sweep_of move tol) d).by_first (f k d m)).1)

  far_only : All st orb move tol far → None st orb move tol near × None st orb move tol between
  far_only f = (λ k d m. ((apart (sweep_of move tol) d).by_third (f k d m)).0, λ k d m. ((apart (sweep_of move tol) d).by_third (f k d m)).1)

  no_hit : (passes : Float → Bool) → None st orb move tol any → None st orb move tol passes
  no_hit passes f k d m = no_bool (f k d m)

  -- what is true is named, of any call
  pub ground_named : (g : Ground) → Says st orb move tol g → (explanation_of st orb move tol).ground ≡ g
  unfolding explanation_of tally_of ground_by
  ground_named Short s = rw s
  ground_named Hit (long, s) = rw (long, of_some between s)
  ground_named Never (long, f) = rw (long, of_none between (no_hit between f), of_none near (no_hit near f), of_none far (no_hit far f))
  ground_named Near (long, s, f) =
      rw (long, of_none between (near_only f).0, of_some near (all_of near s f), of_none far (near_only f).1)
  ground_named Far (long, s, f) = rw (long, of_none between (far_only f).1, of_none near (far_only f).0, of_some far (all_of far s f))
  ground_named BothSides (long, s, t, f) = rw (long, of_none between f, of_some near s, of_some far t)

  pub ground_only : (g h : Ground) → Says st orb move tol g → Says st orb move tol h → g ≡ h
  ground_only g h s t = sym (ground_named g s) ∙ ground_named h t

  -- ---- the collision told

  pub same_collision : (explanation_of st orb move tol).tally.best ≡ collision_of st orb move tol
  unfolding explanation_of tally_of collision_of
  same_collision = go (lt (length_of move) tol)
    where
      go : (short : Bool) → (cond short (record { ground = Short; tally = no_tally }) (explanation_by (tally_of st orb move tol))).tally.best
          ≡ cond short rust.None (both_of st orb (sweep_of move tol))
      go true = refl
      go false = refl

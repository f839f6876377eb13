-- The theorem of the call: it says `clear` exactly if the search on each leg does; else it tells the first leg that is not clear,
-- and what is found there. Where it says `clear`, the moved polygon has on no leg and at no time a point inside it on a stationary
-- edge or within the stationary ring. The induction: all legs below k are clear, and so many are left. Assumes nothing.
use Prim.Native.Nat.{ℕ, zero, suc, ◌+◌, ◌/◌, ◌≤◌, ◌<◌}
use native.Mathlib.Nat.{eq-or-lt_of_le}
use native.Mathlib.Omega.{arith}
use mathlib.Core.Path.{◌≡◌, refl, sym, subst, ◌∙◌}
use mathlib.Core.Logic.{◌↔◌, ⊎_elim}
use mathlib.Core.Bool.{true}
use mathlib.Core.List.{List, map}
use lib.ListN.{length}
use lib.IntN.{ℤ}
use Rattle.refusals.specs.Refusals.{passed}
use Rattle.refusals.specs.Answers.{answers}
use Rattle.shifted.specs.Shifted.{up_of}
use Rattle.reasons.specs.Check.{Ground, clear, edge, enclosed}
use Rattle.clear_calls.specs.Told.{Apart}
use Rattle.clear_calls.proofs.Reasoned.{answered, search_apart}
use Rattle.clear_path.specs.Rows.{of_whole_path}
use Rattle.clear_path.specs.Path.{corners_at, corners_next, leg_found, or_else, first_leg}
use Rattle.clear_path.specs.Calls.{path_ground, clear_path_call}
use Rattle.clear_path.specs.Told.{ClearTo, Told, all_clear, at_edge, at_enclosed}
use Rattle.clear_path.specs.declared.PathGround.{PathGround}
use Rattle.clear_path.specs.declared.PathGround.TheVariants.{Clear}
use Rattle.clear_path.proofs.Placed.{path_passed, corners_length}

module _ (st orb path : List ℤ) where
  abbrev leg : ℕ → Ground
  leg = leg_found (map up_of st) orb path

  -- one leg more
  clear_next : (k : ℕ) → ClearTo st orb path k → leg k ≡ clear → ClearTo st orb path (suc k)
  clear_next k c e j h = ⊎_elim (λ q. subst (λ (i : ℕ). leg i ≡ clear) (sym q) e) (c j) (eq-or-lt_of_le (below h))
    where
      below : {j : ℕ} → j < suc k → j ≤ k
      below h = omega arith

  -- a leg, and then the rest
  told_here : (k : ℕ) → k < length path / 2 → ClearTo st orb path k → (rest : PathGround)
      → (ClearTo st orb path (suc k) → Told st orb path rest) → Told st orb path (or_else (leg k) k rest)
  unfolding or_else
  told_here k h c rest next = go (leg k) refl
    where
      go : (g : Ground) → leg k ≡ g → Told st orb path (or_else (leg k) k rest)
      go clear e = rw e (next (clear_next k c e))
      go (edge j) e = rw e (at_edge h c e)
      go enclosed e = rw e (at_enclosed h c e)

  told_from : (k m : ℕ) → k + m ≡ length path / 2 → ClearTo st orb path k → Told st orb path (first_leg leg k m)
  unfolding first_leg
  told_from k zero e c = let q : k ≡ length path / 2 = omega arith in all_clear (subst (ClearTo st orb path) q c)
  told_from k (suc m) e c = told_here k (omega arith) c _ (told_from (suc k) m (omega arith))

  path_told : Told st orb path (path_ground st orb path)
  path_told = told_from 0 (length path / 2) (omega arith) (λ j h. absurd (omega arith))

  pub call_told : (g : PathGround) → clear_path_call st orb path ≡ answers g → Told st orb path g
  call_told g c = subst (Told st orb path) (answered (of_whole_path st orb path) _ _ c).1 path_told

  -- ---- clear exactly if every leg is

  clear_legs : clear_path_call st orb path ≡ answers Clear → ClearTo st orb path (length path / 2)
  clear_legs c = go (call_told Clear c)
    where
      go : Told st orb path Clear → ClearTo st orb path (length path / 2)
      go (all_clear c) = c

  legs_clear : ClearTo st orb path (length path / 2) → path_ground st orb path ≡ Clear
  legs_clear c = go (path_ground st orb path) path_told
    where
      go : (g : PathGround) → Told st orb path g → g ≡ Clear
      go g (all_clear d) = refl
      go g (at_edge h d e) = let q = sym e ∙ c _ h in absurd (let z : ◌≡◌ {A = ℕ} 0 1 = cc in omega arith)
      go g (at_enclosed h d e) = let q = sym e ∙ c _ h in absurd (let z : ◌≡◌ {A = ℕ} 0 1 = cc in omega arith)

  pub clear_exactly : passed (of_whole_path st orb path) ≡ true
      → clear_path_call st orb path ≡ answers Clear ↔ ((k : ℕ) → k < length path / 2 → leg_found (map up_of st) orb path k ≡ clear)
  clear_exactly h = (clear_legs, λ c. rw (h, legs_clear c))

  -- ---- what it tells

  pub path_apart : clear_path_call st orb path ≡ answers Clear → (k : ℕ) → k < length path / 2
      → Apart (map up_of st) (corners_at orb path k) (corners_next orb path k)
  unfolding leg_found
  path_apart c k l =
      let L = path_passed st orb path (answered (of_whole_path st orb path) _ _ c).0 in
      let n = corners_length orb path k in
      search_apart (map up_of st) (corners_at orb path k) (corners_next orb path k) (omega (arith, n, L.least))
      (clear_legs c k l)

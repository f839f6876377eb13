-- The loop of `write_contacts`, over plain values. The invariant: n contacts are written, and those from pair k on are left. Assumes nothing.
use Prim.Native.Nat.{ℕ, ◌+◌, ◌*◌, ◌≤◌, ◌<◌}
use mathlib.Core.Path.{◌≡◌, refl}
use mathlib.Core.List.{List, [], ◌∷◌}
use native.Mathlib.Omega.{arith}
use lib.ListN.{length, set}
use lib.Ieee.{Float}
use Rattle.ring.specs.Ring.{count}
use Rattle.ring.specs.Room.{laid}
use Rattle.plane.specs.declared.Point.{Point}
use Rattle.pairs.specs.Pairs.{pair_count, pair_of}
use Rattle.pairs.specs.declared.Pair.{Pair}
use Rattle.contacts.specs.Touching.{contact_point}
use Rattle.contacts.specs.Contacts.{contacts_from, contacts_of, points_of}
use Rattle.contacts.proofs.Following.{FoundAt}
use Rattle.projection.specs.Foot.{foot_code}
use Rattle.contacts_call.specs.Which.{contact_foot, entry, which_of}
use Rattle.contacts_call.proofs.Filling.{Filling, begun, put, fits, filled}

which_length : (st orb : List Float) (ks : List ℕ) → length (which_of st orb ks) ≡ entry * length ks
unfolding which_of
which_length st orb [] = refl
which_length st orb (k ∷ ks) = omega (arith, which_length st orb ks)

points_length : (st orb : List Float) (ks : List ℕ) → length (points_of st orb ks) ≡ 2 * length ks
unfolding points_of
points_length st orb [] = refl
points_length st orb (k ∷ ks) = omega (arith, points_length st orb ks)

module _ (st orb : List Float) (tol : Float) (w₀ : List ℕ) (p₀ : List Float) where
  abbrev kinds : List ℕ → List ℕ
  kinds ks = which_of st orb ks

  pub record Writing (w : List ℕ) (p : List Float) (n k : ℕ) : Type 0 where
    pub most : k ≤ pair_count (count st) (count orb)
    pub few : n ≤ k
    pub which : Filling (kinds (contacts_of st orb tol)) w₀ w (kinds (contacts_from st orb tol k)) (entry * n)
    pub points : Filling (points_of st orb (contacts_of st orb tol)) p₀ p (points_of st orb (contacts_from st orb tol k)) (2 * n)

  pub start : Writing w₀ p₀ 0 0
  start = record { most = omega arith; few = omega arith; which = begun _ _; points = begun _ _ }

  module _ (hw : entry * length (contacts_of st orb tol) ≤ length w₀) (hp : 2 * length (contacts_of st orb tol) ≤ length p₀) where
    room_which : length (kinds (contacts_of st orb tol)) ≤ length w₀
    room_which = omega (arith, which_length st orb (contacts_of st orb tol))

    room_points : length (points_of st orb (contacts_of st orb tol)) ≤ length p₀
    room_points = omega (arith, points_length st orb (contacts_of st orb tol))

    module _ {w : List ℕ} {p : List Float} {n k j : ℕ} (s : Writing w p n k) (f : FoundAt st orb tol k j) where
      left_which : Filling (kinds (contacts_of st orb tol)) w₀ w (kinds (j ∷ contacts_from st orb tol (j + 1))) (entry * n)
      left_which = rw f.then at s.which

      left_points : Filling (points_of st orb (contacts_of st orb tol)) p₀ p (points_of st orb (j ∷ contacts_from st orb tol (j + 1))) (2 * n)
      left_points = rw f.then at s.points

      pub which_fits : entry * n + 3 < length w
      unfolding which_of
      which_fits = omega (arith, fits room_which left_which)

      pub points_fit : 2 * n + 1 < length p
      unfolding points_of
      points_fit = omega (arith, fits room_points left_points)

      pub turn : {w' : List ℕ} {p' : List Float} {q : Pair} {foot : ℕ} {at : Point} → q ≡ pair_of (count st) (count orb) j
          → foot ≡ foot_code (contact_foot st orb q) → at ≡ contact_point st orb q
          → w' ≡ set (set (set (set w (entry * n) q.kind) (entry * n + 1) q.stationary) (entry * n + 2) q.orbiting) (entry * n + 3) foot
          → p' ≡ set (set p (2 * n) at.x) (2 * n + 1) at.y → Writing w' p' (n + 1) (j + 1)
      unfolding which_of points_of
      turn {w'} {p'} {q} {foot} {at} eq ef et ew ep =
          let a : entry * n + 1 + 1 ≡ entry * n + 2 = omega arith in
          let a' : entry * n + 1 + 1 + 1 ≡ entry * n + 3 = omega arith in
          let b : entry * n + 1 + 1 + 1 + 1 ≡ entry * (n + 1) = omega arith in
          let d : 2 * n + 1 + 1 ≡ 2 * (n + 1) = omega arith in
          record {
            most = omega (arith, f.below);
            few = omega (arith, s.few, f.least);
            which = rw (ew, ef, eq, ← a, ← a', ← b) (put (put (put (put left_which))));
            points = rw (ep, et, eq, ← d) (put (put left_points));
          }

    pub done : {w : List ℕ} {p : List Float} {n k : ℕ} → Writing w p n k → contacts_from st orb tol k ≡ []
        → (w ≡ laid (which_of st orb (contacts_of st orb tol)) w₀) × (p ≡ laid (points_of st orb (contacts_of st orb tol)) p₀)
    unfolding which_of points_of
    done s e = (filled room_which (rw e at s.which), filled room_points (rw e at s.points))

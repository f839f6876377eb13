-- What a pass comes to, case by case, over plain values. Assumes nothing.
use Prim.Native.Nat.{ℕ, ◌+◌, ◌%◌, ◌≤◌, ◌<◌}
use mathlib.Core.Path.{◌≡◌, refl, sym, ◌∙◌}
use mathlib.Core.Bool.{Bool, true, false}
use mathlib.Core.List.{List}
use native.Mathlib.Omega.{arith}
use lib.ListN.{length, take}
use lib.Dec.{ltb}
use lib.Ieee.{Float}
use borrow.Author.Tests.{lt-ltb, le-ltb}
use Rattle.plane.specs.declared.Point.{Point}
use Rattle.contacts.specs.Contacts.{contacts_of, has_contact}
use Rattle.contacts.proofs.Following.{none_there}
use Rattle.vectors.specs.Fit.{kept_vectors, fit_of}
use Rattle.vectors.specs.Vectors.{vectors_from}
use Rattle.selection.specs.Score.{preferred_of}
use Rattle.ring.specs.Ring.{count}
use Rattle.ring.specs.Room.{laid}
use Rattle.pairs.specs.Pairs.{Sides}
use Rattle.ring.specs.Moved.{moved_of}
use Rattle.ring.proofs.Moved.{moved_front, moved_count}
use Rattle.choose.specs.Choose.{vector_no, choice_of}
use Rattle.pass.specs.Slide.{slide_of}
use Rattle.pass.specs.Pass.{Scene, regain_of, unstick_of, chosen, pass_at}
use Rattle.pass.specs.declared.Pose.{Pose}
use Rattle.pass.specs.declared.Step.{Step}
use Rattle.std.specs.Prelude.{Option, None, Some}
use Rattle.vectors.specs.declared.TranslationVector.{TranslationVector}

-- stuck for the third time at most, and more often
pub few : (n : ℕ) → n < 3 → ltb 3 (n + 1) ≡ false
few n h = le-ltb 3 (n + 1) (omega arith)

pub often : (n : ℕ) → 3 ≤ n → ltb 3 (n + 1) ≡ true
often n h = lt-ltb 3 (n + 1) (omega arith)

module _ (s : Scene) (moved path : List Float) (pose : Pose) where
  abbrev tol : Float
  tol = s.margins.tolerance

  pub loose : {r : Step} → has_contact s.stationary moved tol ≡ false → r ≡ regain_of s.stationary moved tol pose → r ≡ pass_at s moved path pose
  unfolding pass_at
  loose e h = rw (e, h)

  module _ {ccw : Point} {v : Option TranslationVector} (t : has_contact s.stationary moved tol ≡ true) (p : ccw ≡ preferred_of s.centroid pose.position)
      (q : v ≡ choice_of (fit_of s.stationary moved pose.position path tol) pose.previous ccw) where
    by : {r : Step} → r ≡ chosen v s moved path pose → r ≡ pass_at s moved path pose
    unfolding pass_at
    by h = h ∙ (rw (t, q, p) refl)

    pub stuck : {r : Step} → v ≡ None → r ≡ unstick_of s.stationary s.orbiting s.margins pose → r ≡ pass_at s moved path pose
    unfolding chosen
    stuck e h = by (rw (e, h))

    slides_there : {r : Step} {w : TranslationVector} → v ≡ Some w → r ≡ slide_of s.stationary moved s.margins s.start path pose w → r ≡ pass_at s moved path pose
    unfolding chosen
    slides_there e h = by (rw (e, h))

  -- a vector is that of a contact
  no_vector : (ccw : Point) → has_contact s.stationary moved tol ≡ false → choice_of (fit_of s.stationary moved pose.position path tol) pose.previous ccw ≡ None
  unfolding kept_vectors vectors_from choice_of vector_no
  no_vector ccw e = rw (none_there (contacts_of s.stationary moved tol) e) refl

  pub slides : {ccw : Point} {v : Option TranslationVector} {r : Step} {w : TranslationVector} → ccw ≡ preferred_of s.centroid pose.position
      → v ≡ choice_of (fit_of s.stationary moved pose.position path tol) pose.previous ccw → v ≡ Some w
      → r ≡ slide_of s.stationary moved s.margins s.start path pose w → r ≡ pass_at s moved path pose
  slides {ccw} {v} {r} {w} p q e h = go (has_contact s.stationary moved tol) refl
    where
      go : (b : Bool) → has_contact s.stationary moved tol ≡ b → r ≡ pass_at s moved path pose
      go false t = absurd (let z : None ≡ Some w = sym (no_vector ccw t) ∙ sym q ∙ e in let y : ◌≡◌ {A = ℕ} 0 1 = cc in omega arith)
      go true t = slides_there t p q e h

-- the front of the array that the orbiting polygon was moved into is the moved polygon
pub fronted : (orb : List Float) (by : Point) (held : List Float) {room : List Float} → length orb % 2 ≡ 0 → room ≡ laid (moved_of orb by) held
    → take (length orb) room ≡ moved_of orb by
fronted orb by held even e = rw e (moved_front orb by held even)

pub sides : (sn : ℕ) (orb : List Float) (by : Point) {front : List Float} → front ≡ moved_of orb by → Sides sn (count orb) → Sides sn (count front)
sides sn orb by e d = rw (e, moved_count orb by) d

pub as_many : (orb : List Float) (by : Point) {front : List Float} → front ≡ moved_of orb by → count front ≡ count orb
as_many orb by e = rw (e, moved_count orb by) refl

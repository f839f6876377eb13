-- Mirroring twice gives back every bit. By induction on the ring: the mirror of a ring with a vertex more begins with that vertex. Assumes
-- nothing.
use Prim.Native.Nat.{ℕ, ◌%◌}
use native.Mathlib.Omega.{arith}
use mathlib.Core.Path.{◌≡◌, refl, sym, ap, ap₂, ◌∙◌}
use mathlib.Core.Bool.{Bool, true, ◌&&◌, not-not, and-true, and_assoc, and_comm}
use mathlib.Core.List.{List, [], ◌∷◌, ◌++◌}
use lib.ListN.{length, take, length-append}
use lib.Seq.{take_at}
use lib.Ieee.{Float, nan, inf, fin, neg}
use Rattle.ring.specs.Ring.{count}
use Rattle.ring.specs.Room.{laid}
use Rattle.refusals.specs.Refusals.{passed}
use Rattle.refusals.specs.Bounds.{coordinate, every, coordinates}
use Rattle.refusals.specs.Screens.{wrong_room}
use Rattle.refusals.specs.Rows.{of_ring}
use Rattle.refusals.proofs.Sized.{row_parts, is_ring}
use Rattle.ring_copies.specs.Copies.{mirrored}
use Rattle.ring_copies.specs.Calls.{copy_refusal, mirror_room}
use Rattle.mirror_laws.specs.Mirrored.{Returns}

-- ---- numbers

pub neg_neg : (x : Float) → neg (neg x) ≡ x
unfolding neg
neg_neg nan = refl
neg_neg (inf s) = ap inf (not-not s)
neg_neg (fin s m e) = ap (λ (b : Bool). fin b m e) (not-not s)

pub coordinate_neg : (x : Float) → coordinate (neg x) ≡ coordinate x
unfolding coordinate neg
coordinate_neg nan = refl
coordinate_neg (inf s) = refl
coordinate_neg (fin s m e) = refl

-- ---- rings

-- the mirror of a ring begins with its last vertex
pub mirrored_last : (r : List Float) (x y : Float) → length r % 2 ≡ 0 → mirrored (r ++ (x ∷ y ∷ [])) ≡ neg x ∷ y ∷ mirrored r
unfolding mirrored
mirrored_last [] x y h = refl
mirrored_last (a ∷ []) x y h = absurd (omega arith)
mirrored_last (a ∷ b ∷ r) x y h = ap (λ (l : List Float). l ++ (neg a ∷ b ∷ [])) (mirrored_last r x y (omega arith))

pub length_mirrored : (r : List Float) → length r % 2 ≡ 0 → length (mirrored r) ≡ length r
unfolding mirrored
length_mirrored [] h = refl
length_mirrored (x ∷ []) h = absurd (omega arith)
length_mirrored (x ∷ y ∷ r) h = length-append (mirrored r) (neg x ∷ y ∷ []) ∙ (let e = length_mirrored r (omega arith) in omega arith)

pub twice : (r : List Float) → length r % 2 ≡ 0 → mirrored (mirrored r) ≡ r
unfolding mirrored
twice [] h = refl
twice (x ∷ []) h = absurd (omega arith)
twice (x ∷ y ∷ r) h =
    let e : length (mirrored r) % 2 ≡ 0 = rw (length_mirrored r (omega arith)) (omega arith) in
    mirrored_last (mirrored r) (neg x) y e ∙ ap₂ (λ (a : Float) (l : List Float). a ∷ y ∷ l) (neg_neg x) (twice r (omega arith))

-- ---- what the call takes

pub every_append : (p : Float → Bool) (a b : List Float) → every p (a ++ b) ≡ (every p a && every p b)
unfolding every
every_append p [] b = refl
every_append p (x ∷ a) b = ap (λ (t : Bool). p x && t) (every_append p a b) ∙ sym (and_assoc (p x) (every p a) (every p b))

pub coordinates_mirrored : (r : List Float) → length r % 2 ≡ 0 → coordinates (mirrored r) ≡ coordinates r
unfolding mirrored every
coordinates_mirrored [] h = refl
coordinates_mirrored (x ∷ []) h = absurd (omega arith)
coordinates_mirrored (x ∷ y ∷ r) h =
    every_append coordinate (mirrored r) (neg x ∷ y ∷ [])
    ∙ (rw (coordinates_mirrored r (omega arith), coordinate_neg x, and-true (coordinate y))
    (and_comm (coordinates r) (coordinate x && coordinate y)))
    ∙ and_assoc (coordinate x) (coordinate y) (coordinates r)

ring_mirrored : (r : List Float) → length r % 2 ≡ 0 → of_ring (mirrored r) ≡ of_ring r
unfolding of_ring
ring_mirrored r h = rw (length_mirrored r h, coordinates_mirrored r h) refl

refusal_mirrored : (r : List Float) (size : ℕ) → length r % 2 ≡ 0
    → copy_refusal (mirrored r) (count (mirrored r)) size ≡ copy_refusal r (count r) size
unfolding copy_refusal
refusal_mirrored r size h = rw (ring_mirrored r h, length_mirrored r h) refl

returns : (r : List Float) → length r % 2 ≡ 0 → Returns r (mirrored r)
returns r h =
    record {
      mirror = refl;
      answers = λ size. rw (refusal_mirrored r size h, length_mirrored r h) refl;
      writes = λ room. rw (refusal_mirrored r (length room) h, twice r h) refl;
    }

-- a ring that the call takes has whole points
whole_points : (r : List Float) (size : ℕ) → passed (copy_refusal r (count r) size) ≡ true → length r % 2 ≡ 0
unfolding copy_refusal
whole_points r size h = (is_ring r (row_parts (of_ring r) (wrong_room (count r) size) h).0).even

-- What the call wrote of a ring that it took, given to the call again, comes back as the ring.
pub mirror_twice : (r room : List Float) → passed (copy_refusal r (count r) (length room)) ≡ true
    → Returns r (take (length r) (mirror_room r room))
mirror_twice r room h =
    let p = whole_points r (length room) h in
    let e : take (length r) (laid (mirrored r) room) ≡ mirrored r = take_at (mirrored r) _ (length r) (length_mirrored r p) in
    rw (h, e) (returns r p)

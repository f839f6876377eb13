-- The dropped vertices, put back at their indices, give the ring that was lent. The step: the first i vertices of the ring with what stays of the others, and
-- what goes of the others put back, are the ring. Assumes nothing.
use Prim.Native.Nat.{ℕ, zero, suc, ◌+◌, ◌*◌, ◌<◌}
use mathlib.Core.Path.{◌≡◌, refl, ap, ◌∙◌}
use mathlib.Core.Bool.{Bool, true, false}
use mathlib.Core.List.{List, ◌∷◌, ◌++◌, append_assoc, append-nil}
use native.Mathlib.Omega.{arith}
use native.Mathlib.Numerals.{add-one}
use lib.ListN.{length, take}
use lib.Seq.{take-suc, take_all, take_at, drop_at, length-take-le}
use lib.Ieee.{Float, nan}
use Rattle.ring.specs.Ring.{count, point_at}
use Rattle.mending.specs.Mending.{goes_at, staying_from, going_from, vertices_at, whys_at, mended_of, dropped_of, dropped_points}
use Rattle.mending.specs.Restoring.{put_in, put_back}
use Rattle.mending.proofs.Counting.{stay_here, stay_past, stay_end, go_here, go_past, go_end}

module _ (r : List Float) (even : length r ≡ 2 * count r) where
  -- the first i vertices, and one more
  one_more : (i : ℕ) → i < count r → (l : List Float) → take (2 * i) r ++ ((point_at r i).x ∷ (point_at r i).y ∷ l) ≡ take (2 * (i + 1)) r ++ l
  unfolding point_at
  one_more i h l =
      let e : 2 * (i + 1) ≡ suc (suc (2 * i)) = omega arith in
      let a : 2 * i < length r = omega arith in
      let b : suc (2 * i) < length r = omega arith in
      rw (e, take-suc r (suc (2 * i)) nan b, take-suc r (2 * i) nan a, add-one (2 * i)) (simp append_assoc)

  -- a vertex put in behind the first i
  put_in_lem : (i : ℕ) → i < count r → (l : List Float) → put_in (take (2 * i) r ++ l) i (point_at r i).x (point_at r i).y ≡ take (2 * (i + 1)) r ++ l
  put_in_lem i h l =
      let n : length (take (2 * i) r) ≡ 2 * i = length-take-le (2 * i) r (omega arith) in
      rw (take_at (take (2 * i) r) l (2 * i) n, drop_at (take (2 * i) r) l (2 * i) n) (one_more i h l)

  abbrev Back : ℕ → Type 0
  Back i = put_back (take (2 * i) r ++ vertices_at r (staying_from r i)) (whys_at r (going_from r i)) (vertices_at r (going_from r i)) ≡ r

  back_end : (i : ℕ) → i ≡ count r → Back i
  unfolding vertices_at whys_at put_back
  back_end i e =
      rw (stay_end r i (omega arith), go_end r i (omega arith), append-nil) (take_all (2 * i) r (omega arith))

  back_stay : (i : ℕ) → i < count r → goes_at r i ≡ false → Back (i + 1) → Back i
  unfolding vertices_at
  back_stay i h t b = rw (stay_here r i h t, go_past r i h t) (rw (one_more i h (vertices_at r (staying_from r (i + 1)))) b)

  -- the first of the report put back
  put_first : (s : List Float) (i : ℕ) (is : List ℕ)
      → put_back s (whys_at r (i ∷ is)) (vertices_at r (i ∷ is)) ≡ put_back (put_in s i (point_at r i).x (point_at r i).y) (whys_at r is) (vertices_at r is)
  unfolding vertices_at whys_at put_back
  put_first s i is = refl

  back_go : (i : ℕ) → i < count r → goes_at r i ≡ true → Back (i + 1) → Back i
  back_go i h t b =
      let rest = going_from r (i + 1) in
      let q = ap (λ (s : List Float). put_back s (whys_at r rest) (vertices_at r rest)) (put_in_lem i h (vertices_at r (staying_from r (i + 1)))) in
      rw (stay_past r i h t, go_here r i h t) (put_first (take (2 * i) r ++ vertices_at r (staying_from r (i + 1))) i rest ∙ q ∙ b)

  from : (more i : ℕ) → i + more ≡ count r → Back i
  from zero i e = back_end i (omega arith)
  from (suc more) i e = go (from more (i + 1) (omega arith)) (goes_at r i) refl
    where
      go : Back (i + 1) → (b : Bool) → goes_at r i ≡ b → Back i
      go rest true q = back_go i (omega arith) q rest
      go rest false q = back_stay i (omega arith) q rest

  pub restored : put_back (mended_of r) (dropped_of r) (dropped_points r) ≡ r
  restored = from (count r) 0 (omega arith)

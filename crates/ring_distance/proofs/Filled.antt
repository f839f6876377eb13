-- Bounds of edges, edge by edge, and a table of them: what was written is read, and the rest stays. The invariant of the loop that fills it:
-- every edge before e is bounded by what the table has for its chain. Assumes nothing.
use Prim.Native.Nat.{ℕ, ◌+◌, ◌*◌, ◌/◌, ◌%◌, ◌≤◌}
use native.Mathlib.Omega.{arith}
use native.Mathlib.Nat.{eq-or-lt_of_le}
use mathlib.Core.Path.{◌≡◌, sym, ap, subst, ◌∙◌}
use mathlib.Core.Logic.{inl, inr}
use mathlib.Core.List.{List}
use lib.ListN.{length}
use lib.Ieee.{Float}
use Rattle.scalar.specs.Float.{f0}
use Rattle.plane.specs.Vector.{point, minus_of}
use Rattle.plane.specs.declared.Point.{Point}
use Rattle.ring.specs.Ring.{count, point_at, next_of}
use Rattle.ring.specs.Room.{put_at}
use Rattle.frames.specs.Frame.{Inside, WithinFrame, HeldPoint}
use Rattle.frames.specs.declared.Frame.{Frame}
use Rattle.chains.proofs.Table.{put_here, put_there, put_length, one_more}
use Rattle.ring_distance.specs.Far.{BoundsEdge, BoundsEdges, frame_in, put_frame, bounds_at, put_bounds, Tabled, Ready}
use Rattle.ring_distance.specs.declared.far.Bounds.{Bounds}

-- ---- edge by edge

module _ (r : List Float) (from : ℕ) where
  pub none_bounded : (w : Bounds) → BoundsEdges w r from from
  none_bounded w k l h = absurd (omega arith)

  pub one_bounded : (v w : Bounds) (e : ℕ) {a b d : Point} → BoundsEdges v r from e → Inside v.ways (point f0 f0)
      → a ≡ point_at r e → b ≡ point_at r (next_of e (count r)) → d ≡ minus_of b a
      → Inside w.starts a × (WithinFrame v.starts w.starts × HeldPoint a)
      → Inside w.ways d × (WithinFrame v.ways w.ways × HeldPoint d) → BoundsEdges w r from (e + 1)
  one_bounded v w e B z ea eb ed s i k l h =
      elim (eq-or-lt_of_le {n = k} {m = e} (omega arith)) [
        | inl q ↦ rw (q, ← ea, ← eb) (record { start = s.0; way = rw (← ed) i.0; nothing = i.1.0 _ z })
        | inr u ↦ let o = B k l u in record { start = s.1.0 _ o.start; way = i.1.0 _ o.way; nothing = i.1.0 _ o.nothing }
      ]

-- ---- frames in a table

frame_here : (t : List Float) (i : ℕ) (f : Frame) → 4 * i + 4 ≤ length t → frame_in (put_frame t i f) i ≡ f
unfolding frame_in put_frame
frame_here t i f h =
    let near = point f.left f.low in
    let k = put_length t (2 * i) near in
    rw (
      put_there (put_at t (2 * i) near) (2 * i + 1) (2 * i) (point f.right f.high) (λ e. omega (arith, e)),
      put_here t (2 * i) near (omega arith),
      put_here (put_at t (2 * i) near) (2 * i + 1) (point f.right f.high) (omega (arith, k)),
    )

frame_there : (t : List Float) (i k : ℕ) (f : Frame) → (i ≡ k → ⊥) → frame_in (put_frame t i f) k ≡ frame_in t k
unfolding frame_in put_frame
frame_there t i k f h =
    let near = point f.left f.low in
    let far = point f.right f.high in
    rw (
      put_there (put_at t (2 * i) near) (2 * i + 1) (2 * k) far (λ e. omega (arith, e)),
      put_there t (2 * i) (2 * k) near (λ e. h (omega (arith, e))),
      put_there (put_at t (2 * i) near) (2 * i + 1) (2 * k + 1) far (λ e. h (omega (arith, e))),
      put_there t (2 * i) (2 * k + 1) near (λ e. omega (arith, e)),
    )

frame_length : (t : List Float) (i : ℕ) (f : Frame) → length (put_frame t i f) ≡ length t
unfolding put_frame
frame_length t i f = put_length (put_at t (2 * i) (point f.left f.low)) (2 * i + 1) (point f.right f.high) ∙ put_length t (2 * i) (point f.left f.low)

-- ---- bounds in a table

bounds_here : (t : List Float) (c : ℕ) (w : Bounds) → 8 * c + 8 ≤ length t → bounds_at (put_bounds t c w) c ≡ w
unfolding bounds_at put_bounds
bounds_here t c w h =
    let u = put_frame t (2 * c) w.starts in
    let k = frame_length t (2 * c) w.starts in
    rw (
      frame_there u (2 * c + 1) (2 * c) w.ways (λ e. omega (arith, e)),
      frame_here t (2 * c) w.starts (omega arith),
      frame_here u (2 * c + 1) w.ways (omega (arith, k)),
    )

bounds_there : (t : List Float) (c k : ℕ) (w : Bounds) → (c ≡ k → ⊥) → bounds_at (put_bounds t c w) k ≡ bounds_at t k
unfolding bounds_at put_bounds
bounds_there t c k w h =
    let u = put_frame t (2 * c) w.starts in
    rw (
      frame_there u (2 * c + 1) (2 * k) w.ways (λ e. omega (arith, e)),
      frame_there t (2 * c) (2 * k) w.starts (λ e. h (omega (arith, e))),
      frame_there u (2 * c + 1) (2 * k + 1) w.ways (λ e. h (omega (arith, e))),
      frame_there t (2 * c) (2 * k + 1) w.starts (λ e. omega (arith, e)),
    )

-- ---- one chain more, and all

pub none_tabled : (t r : List Float) → Tabled t r 0
none_tabled t r c e i h = absurd (omega (arith, h))

module _ (t r : List Float) (c : ℕ) (w : Bounds) {u : List Float} (is : u ≡ put_bounds t c w) where
  others : (k : ℕ) → (c ≡ k → ⊥) → bounds_at u k ≡ bounds_at t k
  others k h = ap (λ (v : List Float). bounds_at v k) is ∙ bounds_there t c k w h

  here : 8 * c + 8 ≤ length t → bounds_at u c ≡ w
  here h = ap (λ (v : List Float). bounds_at v c) is ∙ bounds_here t c w h

pub one_tabled : (t r : List Float) (e to : ℕ) (w : Bounds) {u : List Float} → Tabled t r e → e % 8 ≡ 0 → 8 * (e / 8) + 8 ≤ length t → to ≤ e + 8
    → BoundsEdges w r e to → u ≡ put_bounds t (e / 8) w → Tabled u r to
one_tabled t r e to w {u} before whole room end new is =
    one_more bounds_at (BoundsEdge r) t u e to w before whole end (others t r (e / 8) w is) (here t r (e / 8) w is room) new

-- the bounds of all edges behind those of the chains
pub whole_tabled : (t r : List Float) (w : Bounds) {u : List Float} → count r ≤ 256 → 264 ≤ length t → length u ≡ length t
    → Tabled t r (count r) → BoundsEdges w r 0 (count r) → u ≡ put_bounds t 32 w → Ready u r
whole_tabled t r w {u} few room size chains all is =
    record {
      few = few;
      room = omega (arith, size, room);
      chains = λ c x i h.
          let n = i.not_before in
          subst (λ (v : Bounds). BoundsEdge r v x) (sym (others t r 32 w is c (λ z. omega (arith, z, n, h, few)))) (chains c x i h);
      whole = λ x l h. subst (λ (v : Bounds). BoundsEdge r v x) (sym (here t r 32 w is (omega (arith, room)))) (all x l h);
    }

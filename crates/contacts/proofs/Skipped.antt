-- A row is passed over where its point or its edge lies apart from the bounds of the ring: no pair of it touches. Assumes nothing.
use Prim.Native.Nat.{ℕ, ◌<◌}
use native.Mathlib.Omega.{arith}
use mathlib.Core.Path.{◌≡◌, refl, sym, ◌∙◌}
use mathlib.Core.Bool.{Bool, true, false, ◌&&◌}
use mathlib.Core.List.{List}
use lib.Dec.{T}
use lib.Ieee.{Float, binary64, fits}
use Rattle.plane.specs.Vector.{minus_of, parallel_of}
use Rattle.plane.specs.Segment.{near_segment_of}
use Rattle.plane.specs.declared.Point.{Point}
use Rattle.ring.specs.Ring.{count, point_at}
use Rattle.frames.specs.Frame.{Inside, Spans, Around, apart}
use Rattle.frames.specs.declared.Frame.{Frame}
use Rattle.frames.proofs.Clear.{clear}
use Rattle.contacts.specs.Touching.{edge_end, edges_touch}
use Rattle.contacts.specs.Rows.{FirstFrom, on_edge, along_edge}

none_of : (f : ℕ → Bool) (from n : ℕ) → from < n → ((k : ℕ) → k < n → f k ≡ false) → FirstFrom f from n n
none_of f from n h g = record { least = omega arith; most = omega arith; clear = λ k l u. g k u; hit = λ l. absurd (omega (arith, l)) }

never : (p t : Bool) → p && (false && t) ≡ false
never true t = refl
never false t = refl

module _ (r : List Float) (tol : Float) (around b : Frame) (from : ℕ) (h : from < count r) (A : Around around r (count r)) where
  pub no_near : (p : Point) {t : Bool} → Inside b p → (t ≡ apart around b tol) × T (fits binary64 tol) → t ≡ true → FirstFrom (on_edge p r tol) from (count r) (count r)
  unfolding on_edge edge_end
  no_near p P e k = none_of (on_edge p r tol) from (count r) h (λ i l. clear around b tol p _ _ e.1 (A i l) P (sym e.0 ∙ k))

  pub no_along : (c d : Point) {t : Bool} → Spans b c d → (t ≡ apart b around tol) × T (fits binary64 tol) → t ≡ true → FirstFrom (along_edge c d r tol) from (count r) (count r)
  unfolding along_edge edges_touch
  no_along c d S e k =
      none_of (along_edge c d r tol) from (count r) h
      (λ i l. rw (clear b around tol (point_at r i) c d e.1 S (A i l).first (sym e.0 ∙ k)) (never (parallel_of (minus_of d c) (minus_of (edge_end r i) (point_at r i))) (near_segment_of (edge_end r i) c d tol)))

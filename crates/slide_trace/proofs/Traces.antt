-- What is printed of the answer that a trace gave is what is said of the trace. Assumes nothing.
use Prim.Native.Nat.{ℕ, zero, suc, ◌+◌, ◌*◌, ◌≤◌, ◌<◌}
use native.Mathlib.Omega.{arith}
use mathlib.Core.Path.{◌≡◌, refl, ap, ap₂, ◌∙◌}
use mathlib.Core.Bool.{Bool, true, false, ◌||◌, cond}
use mathlib.Core.List.{List, ◌++◌}
use lib.ListN.{length, drop, length-append, get_or-append}
use lib.Ieee.{Float, nan, binary64, to_bits}
use Rattle.plane.specs.declared.Point.{Point}
use Rattle.ring.specs.Ring.{count, point_at}
use Rattle.ring.specs.Room.{laid}
use Rattle.print.specs.Text.{pair_line}
use Rattle.refusals.specs.Refusals.{passed}
use Rattle.refusals.specs.Refusals.{Told}
use Rattle.refusals.specs.declared.Settings.{Settings}
use Rattle.simplify.specs.Simplify.{simplified}
use Rattle.nfp_sliding.specs.Path.{traced_of}
use Rattle.refusals.specs.Rows.{of_trace}
use Rattle.nfp_sliding.specs.Calls.{Answer, traces, denied, overfull, too_short, traced, brief, came_to, result_after, refusal_of, trace_call, trace_result}
use Rattle.std.specs.Prelude.{Result, Ok, Err}
use Rattle.nfp_sliding.specs.declared.answer.Trace as answer
use Rattle.nfp_sliding.specs.declared.answer.Untraced.{Untraced}
use Rattle.nfp_sliding.specs.declared.answer.Untraced.TheVariants.{Refused, Full, Short}
use Rattle.lines.specs.Lines.{point_lines}
use Rattle.slide_trace.specs.Lines.{heading_line, answer_text, InList}
use Rattle.slide_trace.specs.Said.{text_of, trace_text}

-- ---- points at the front of a list

point_front : (xs rest : List Float) (k : ℕ) → 2 * k + 1 < length xs → point_at (xs ++ rest) k ≡ point_at xs k
unfolding point_at
point_front xs rest k h =
    ap₂ (λ (a b : Float). record { x = a; y = b }) (get_or-append xs rest nan (2 * k) (omega arith)) (get_or-append xs rest nan (2 * k + 1) h)

lines_front : (xs rest : List Float) (k : ℕ) → 2 * k ≤ length xs → point_lines (xs ++ rest) k ≡ point_lines xs k
unfolding point_lines
lines_front xs rest zero h = refl
lines_front xs rest (suc k) h =
    ap₂ (λ (l : List ℕ) (p : Point). l ++ pair_line (to_bits binary64 p.x) (to_bits binary64 p.y))
    (lines_front xs rest k (omega arith)) (point_front xs rest k (omega arith))

-- ---- an answer's values

abbrev values_of : Answer → ℕ
values_of (traces points stored passes stop) = 4
values_of (denied r) = 0
values_of (overfull passes) = 1
values_of (too_short passes stop) = 2

abbrev points_of : Answer → ℕ
points_of (traces points stored passes stop) = points
points_of (denied r) = 0
points_of (overfull passes) = 0
points_of (too_short passes stop) = 0

-- ---- the answer of a call, case by case: passed or not, the room full or not, the path short or not

module _ (r : Told) (passes reason stored : ℕ) (result held : List Float) where
  abbrev call : Bool → Bool → Bool → Answer
  call p f h = cond p (cond f (overfull passes) (cond h (too_short passes reason) (traces (count result) stored passes reason))) (denied r)

  abbrev after : Bool → Bool → Bool → List Float
  after p f h = cond p (cond (f || h) held (laid result held)) held

  -- so many values are returned
  many : (a b : Answer) → a ≡ b → values_of a ≡ values_of b
  many a b e = ap values_of e

  pub said : (p f h : Bool) → passed r ≡ p → (t : Result answer.Trace Untraced) (x : List Float) → traced t ≡ call p f h → x ≡ after p f h → answer_text t x ≡ text_of (call p f h) result
  unfolding refusal_of
  said false f h e (Ok v) x q w = absurd (let z : ◌≡◌ {A = ℕ} 4 0 = many _ _ q in omega arith)
  said false f h e (Err (Refused s)) x q w =
      ap (λ (y : Answer). text_of y result) q
  said false f h e (Err (Full a)) x q w = absurd (let z : ◌≡◌ {A = ℕ} 1 0 = many _ _ q in omega arith)
  said false f h e (Err (Short a b)) x q w = absurd (let z : ◌≡◌ {A = ℕ} 2 0 = many _ _ q in omega arith)
  said true true h e (Ok v) x q w = absurd (let z : ◌≡◌ {A = ℕ} 4 1 = many _ _ q in omega arith)
  said true true h e (Err (Refused s)) x q w = absurd (let z : ◌≡◌ {A = ℕ} 0 1 = many _ _ q in omega arith)
  said true true h e (Err (Full a)) x q w = refl
  said true true h e (Err (Short a b)) x q w = absurd (let z : ◌≡◌ {A = ℕ} 2 1 = many _ _ q in omega arith)
  said true false true e (Ok v) x q w = absurd (let z : ◌≡◌ {A = ℕ} 4 2 = many _ _ q in omega arith)
  said true false true e (Err (Refused s)) x q w = absurd (let z : ◌≡◌ {A = ℕ} 0 2 = many _ _ q in omega arith)
  said true false true e (Err (Full a)) x q w = absurd (let z : ◌≡◌ {A = ℕ} 1 2 = many _ _ q in omega arith)
  said true false true e (Err (Short a b)) x q w = refl
  said true false false e (Ok v) x q w =
      ap (λ (y : Answer). text_of y x) q
      ∙ (rw w (ap (λ (l : List ℕ). heading_line (count result) passes reason ++ l) (lines_front result (drop (length result) held) (count result) (omega arith))))
  said true false false e (Err (Refused s)) x q w = absurd (let z : ◌≡◌ {A = ℕ} 0 4 = many _ _ q in omega arith)
  said true false false e (Err (Full a)) x q w = absurd (let z : ◌≡◌ {A = ℕ} 1 4 = many _ _ q in omega arith)
  said true false false e (Err (Short a b)) x q w = absurd (let z : ◌≡◌ {A = ℕ} 2 4 = many _ _ q in omega arith)

  pub inside : (p f h : Bool) → (t : Result answer.Trace Untraced) (x : List Float) → traced t ≡ call p f h → x ≡ after p f h → InList t (length x)
  inside false f h (Ok v) x q w = absurd (let z : ◌≡◌ {A = ℕ} 4 0 = many _ _ q in omega arith)
  inside true true h (Ok v) x q w = absurd (let z : ◌≡◌ {A = ℕ} 4 1 = many _ _ q in omega arith)
  inside true false true (Ok v) x q w = absurd (let z : ◌≡◌ {A = ℕ} 4 2 = many _ _ q in omega arith)
  inside true false false (Ok v) x q w =
      let n : v.points ≡ count result = ap points_of q in
      omega (arith, ap length w, length-append result (drop (length result) held))
  inside p f h (Err (Refused s)) x q w = tt
  inside p f h (Err (Full a)) x q w = tt
  inside p f h (Err (Short a b)) x q w = tt

-- ---- the call

module _ (st orb : List Float) (s : Settings) (work : ℕ) (held : List Float) (t : Result answer.Trace Untraced) (x : List Float)
    (p : traced t ≡ trace_call st orb s work (length held)) (q : x ≡ trace_result st orb s work held) where
  pub points_inside : InList t (length x)
  unfolding trace_call trace_result came_to result_after
  points_inside =
      let r = of_trace st orb s work (length held) in
      let z = traced_of st orb s work in
      inside r z.passes z.reason (count z.path) (simplified z.path s.contact_tolerance) held (passed r) z.full (brief z) t x p q

  pub trace_said : work ≡ 20002 → length held ≡ 20002 → answer_text t x ≡ trace_text st orb s
  unfolding trace_call trace_result came_to result_after trace_text
  trace_said e l =
      let r = of_trace st orb s work (length held) in
      let z = traced_of st orb s work in
      said r z.passes z.reason (count z.path) (simplified z.path s.contact_tolerance) held (passed r) z.full (brief z) refl t x p q
      ∙ ap₂ (λ (a b : ℕ). text_of (trace_call st orb s a b) (simplified (traced_of st orb s a).path s.contact_tolerance)) e l

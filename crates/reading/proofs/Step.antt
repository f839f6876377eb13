-- One step of two starts that push each other on, as `pushed` takes it. Assumes nothing.
use Prim.Native.Nat.{ℕ, ◌+◌, ◌*◌, ◌≤◌, ◌<◌}
use native.Mathlib.Omega.{arith}
use native.Mathlib.Decide.{dec_lt}
use mathlib.Core.Path.{◌≡◌, sym, subst, ◌∙◌}
use borrow.Author.Tests.{lt-ltb, le-ltb, eq-eqb, ne_eqb}
use Rattle.reading.specs.declared.Starts.{Starts}
use Rattle.reading.specs.Starts.{stride, further, pushed_by}
use Rattle.reading.proofs.Pushing.{Open, open_equal, open_lower, open_higher}

-- the four ends of `pushed`
module _ (s : Starts) (u v : ℕ) where
  pub push_none : u ≡ v → record { first = s.first; second = s.second; alike = s.alike + 1 } ≡ pushed_by s u v
  unfolding pushed_by
  push_none e = rw (eq-eqb u v e)

  pub push_second : (u ≡ v → ⊥) → u < v
      → record { first = s.first; second = s.second + stride s; alike = 0 } ≡ pushed_by s u v
  unfolding pushed_by
  push_second d l = rw (ne_eqb u v d, lt-ltb u v l)

  pub push_past : (u ≡ v → ⊥) → v ≤ u → further s < s.second
      → record { first = s.second; second = s.second + 1; alike = 0 } ≡ pushed_by s u v
  unfolding pushed_by
  push_past d l h = rw (ne_eqb u v d, le-ltb u v l, lt-ltb (further s) s.second h)

  pub push_first : (u ≡ v → ⊥) → v ≤ u → s.second ≤ further s
      → record { first = further s; second = further s + 1; alike = 0 } ≡ pushed_by s u v
  unfolding pushed_by
  push_first d l h = rw (ne_eqb u v d, le-ltb u v l, le-ltb (further s) s.second h)

-- what a step keeps, and that it gets on
pub record Stepped (g : ℕ → ℕ) (n : ℕ) (s t : Starts) : Type 0 where
  pub still : Open g n t.first t.second t.alike
  pub on : 2 * s.first + 2 * s.second + s.alike < 2 * t.first + 2 * t.second + t.alike

module _
    (g : ℕ → ℕ)
    (n : ℕ)
    (round : (m : ℕ) → g (m + 2 * n) ≡ g m)
    (s : Starts)
    (o : Open g n s.first s.second s.alike)
    (second : s.second < n)
    (short : s.alike < 2 * n) where
  abbrev higher : g (2 * s.second + s.alike) < g (2 * s.first + s.alike) → (t : ℕ)
      → ((u : ℕ) → u < t → s.second ≤ u → u < further s) → Open g n t (t + 1) 0
  higher = open_higher g n round s.first s.second s.alike o second short

  pub step : (u v : ℕ) → u ≡ g (2 * s.first + s.alike) → v ≡ g (2 * s.second + s.alike) → Stepped g n s (pushed_by s u v)
  step u v p q = go (dec_lt u v) (dec_lt v u) (dec_lt (further s) s.second)
    where
      go : Dec (u < v) → Dec (v < u) → Dec (further s < s.second) → Stepped g n s (pushed_by s u v)
      go (yes l) h f =
          let x = open_lower g n round s.first s.second s.alike o second short (omega arith) in
          subst (Stepped g n s) (push_second s u v (λ e. omega arith) l) (record { still = x; on = omega arith })
      go (no l) (yes h) (yes f) =
          let x = higher (omega arith) s.second (λ y a c. absurd (omega arith)) in
          subst (Stepped g n s) (push_past s u v (λ e. omega arith) (omega arith) f) (record { still = x; on = omega arith })
      go (no l) (yes h) (no f) =
          let x = higher (omega arith) (further s) (λ y a c. a) in
          subst (Stepped g n s) (push_first s u v (λ e. omega arith) (omega arith) (omega arith))
          (record { still = x; on = omega arith })
      go (no l) (no h) f =
          let e : u ≡ v = omega arith in
          let x = open_equal g n round s.first s.second s.alike o second short (sym p ∙ e ∙ q) in
          subst (Stepped g n s) (push_none s u v e) (record { still = x; on = omega arith })

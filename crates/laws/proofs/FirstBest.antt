-- `over` answers the first of the best, and rows of candidates are scanned like one row. Assumes nothing.
use Prim.Native.Nat.{ℕ, zero, suc, ◌+◌, ◌*◌, ◌<◌}
use native.Mathlib.Nat.{lt-suc_self}
use native.Mathlib.Numerals.{add-one}
use native.Mathlib.Omega.{arith}
use mathlib.Core.Path.{◌≡◌, refl, sym, ap, ◌∙◌}
use mathlib.Core.Bool.{Bool, true, false, cond}
use borrow.Author.Count.{below_more, below_none}
use Rattle.laws.specs.Turns.{turns, turn_rows}
use Rattle.laws.proofs.Turns.{turns_split, turns_ext, rows_flat}
use Rattle.laws.specs.FirstBest.{better, over, nest, flat_rows, First, none, some}

-- what holds of each number below i, and of i, holds of each below suc i
pub below_suc : (P : ℕ → Type 0) (i : ℕ) → ((k : ℕ) → k < i → P k) → P i → (k : ℕ) → k < suc i → P k
below_suc P i all here k l = below_more P i all here k (rw add-one l)

-- ---- turn by turn, and rows

module _ {C : Type 0} (ahead : C → C → Bool) where
  -- a loop's turn: one candidate more, one row more
  pub over_turn : (f : ℕ → C) (from : C) (i : ℕ) {s x t : C} → s ≡ over ahead f from i → x ≡ f i → t ≡ better ahead s x → t ≡ over ahead f from (i + 1)
  unfolding over
  over_turn f from i h k e = rw (e, h, k, add-one i)

  pub nest_turn : (g : ℕ → ℕ → C) (n : ℕ) (from : C) (i : ℕ) {s t : C} → s ≡ nest ahead g n from i → t ≡ over ahead (g i) s n → t ≡ nest ahead g n from (i + 1)
  unfolding nest
  nest_turn g n from i h e = rw (e, h, add-one i)

  -- the candidates in turn are turns
  over_turns : (f : ℕ → C) (r : C) (n : ℕ) → over ahead f r n ≡ turns (λ s k. better ahead s (f k)) r n
  unfolding over turns
  over_turns f r zero = refl
  over_turns f r (suc n) = rw (over_turns f r n)

  nest_rows : (g : ℕ → ℕ → C) (n : ℕ) (r : C) (m : ℕ) → nest ahead g n r m ≡ turn_rows (λ s o k. better ahead s (g o k)) n r m
  unfolding nest turn_rows
  nest_rows g n r zero = refl
  nest_rows g n r (suc m) = over_turns (g m) (nest ahead g n r m) n ∙ (rw (nest_rows g n r m))

  -- the scan goes on where it stood
  pub over_split : (f : ℕ → C) (r : C) (a b : ℕ) → over ahead f r (a + b) ≡ over ahead (λ (k : ℕ). f (a + k)) (over ahead f r a) b
  over_split f r a b =
      over_turns f r (a + b)
      ∙ turns_split _ r a b
      ∙ ap (λ (q : C). turns (λ s k. better ahead s (f (a + k))) q b) (sym (over_turns f r a))
      ∙ sym (over_turns (λ (k : ℕ). f (a + k)) _ b)

  pub over_ext : (f g : ℕ → C) (r : C) (n : ℕ) → ((k : ℕ) → k < n → f k ≡ g k) → over ahead f r n ≡ over ahead g r n
  over_ext f g r n h = over_turns f r n ∙ turns_ext _ _ r n (λ s k l. ap (better ahead s) (h k l)) ∙ sym (over_turns g r n)

  -- m rows of n candidates are m * n candidates in one row
  pub nest_flat : (g : ℕ → ℕ → C) (n : ℕ) (r : C) (m : ℕ) → nest ahead g n r m ≡ over ahead (flat_rows g n) r (m * n)
  nest_flat g n r m = nest_rows g n r m ∙ rows_flat _ n r m ∙ sym (over_turns (flat_rows g n) r (m * n))

-- ---- the first of the best

module _ {C : Type 0} (ahead : C → C → Bool) (f : ℕ → C) (from : C)
    (weave : (x y : C) (j : ℕ) → ahead (f j) from ≡ true → ahead x y ≡ true → ahead (f j) y ≡ false → ahead x (f j) ≡ true)
    (irrefl : (x : C) → ahead x x ≡ false) (asym : (x y : C) → ahead x y ≡ true → ahead y x ≡ false)
    (behind : (x y : C) → ahead x from ≡ false → ahead y from ≡ true → ahead x y ≡ false) where
  -- what is ahead of a candidate that counts does so too
  counts : (x y : C) → ahead x y ≡ true → ahead y from ≡ true → ahead x from ≡ true
  counts x y h t = go (ahead x from) refl
    where
      go : (b : Bool) → ahead x from ≡ b → ahead x from ≡ true
      go true e = e
      go false e = cc (behind x y e t)

  -- no candidate before is ahead of one that each that counts is behind
  rest : (n j : ℕ) → ahead (f n) from ≡ true → (ahead (f j) from ≡ true → ahead (f n) (f j) ≡ true) → ahead (f j) (f n) ≡ false
  rest n j t h = go (ahead (f j) from) refl
    where
      go : (b : Bool) → ahead (f j) from ≡ b → ahead (f j) (f n) ≡ false
      go true e = asym (f n) (f j) (h e)
      go false e = behind (f j) (f n) e t

  -- the new candidate replaces
  fresh : (n : ℕ) → ahead (f n) from ≡ true → ((j : ℕ) → j < n → ahead (f j) from ≡ true → ahead (f n) (f j) ≡ true)
      → First ahead f from (suc n) (f n)
  fresh n t first =
      some n (lt-suc_self n) refl t first
      (below_suc (λ (j : ℕ). ahead (f j) (f n) ≡ false) n (λ j l. rest n j t (first j l)) (irrefl (f n)))

  -- by the test
  pick : (n : ℕ) (r : C) (b : Bool) → ahead (f n) r ≡ b → First ahead f from n r → First ahead f from (suc n) (cond b (f n) r)
  pick n r true t (none z all) =
      fresh n (rw z at t) (λ j l hj. absurd (let e : ◌≡◌ {A = ℕ} 0 1 = cc (all j l) in omega arith))
  pick n r true t (some k l q h first least) =
      fresh n (counts (f n) (f k) (rw q at t) h) (λ j l' hj. weave (f n) (f k) j hj (rw q at t) (least j l'))
  pick n r false t (none z all) = none z (below_suc (λ (k : ℕ). ahead (f k) from ≡ false) n all (rw z at t))
  pick n r false t (some k l q h first least) =
      some k (omega arith) q h first (below_suc (λ (j : ℕ). ahead (f j) (f k) ≡ false) n least (rw q at t))

  -- the theorem: `over` answers the first of the best
  pub over_first : (n : ℕ) → First ahead f from n (over ahead f from n)
  unfolding over better
  over_first zero = none refl (below_none (λ (k : ℕ). ahead (f k) from ≡ false))
  over_first (suc n) = pick n (over ahead f from n) (ahead (f n) (over ahead f from n)) refl (over_first n)

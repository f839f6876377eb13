-- The pair with a number is one of the rings'. Assumes nothing.
use Prim.Native.Nat.{ℕ, ◌+◌, ◌*◌, ◌/◌, ◌%◌, ◌≤◌, ◌<◌}
use mathlib.Core.Path.{◌≡◌, refl, sym, ◌∙◌}
use native.Mathlib.Omega.{arith}
use native.Mathlib.Nat.{add-zero, mul-le-mul, mul-le-mul_right, mul_comm, mul-add-div_right, mul-add-mod_self_right, div-eq_of_lt, mod-eq_of_lt, div-add-mod', div-lt_iff_lt-mul, mod-lt}
use native.Mathlib.Decide.{dec_le}
use borrow.Author.Tests.{ne_eqb}
use Rattle.pairs.specs.Pairs.{Sides, Within, pair, pair_count, pair_of}
use Rattle.pairs.specs.declared.Pair.{Pair}

-- a quotient and a remainder
pub div_of : (q n b : ℕ) → b < n → (q * n + b) / n ≡ q
div_of q n b h = mul-add-div_right (omega arith) q b ∙ (rw (div-eq_of_lt h) (add-zero q))

pub mod_of : (q n b : ℕ) → b < n → (q * n + b) % n ≡ b
mod_of q n b h = mul-add-mod_self_right q n b ∙ mod-eq_of_lt h

-- an element of a row of a rows
pub below : (a b q r : ℕ) → q < a → r < b → q * b + r < a * b
below a b q r h k = let m : (q + 1) * b ≤ a * b = mul-le-mul_right b (omega arith) in omega arith

-- the pairs of kind 0, and then those of kind 1
pub first_pairs : (sn on k : ℕ) → k < sn * on → pair_of sn on k ≡ pair 0 (k % sn) (k / sn)
unfolding pair_of
first_pairs sn on k h = rw (div-eq_of_lt h, mod-eq_of_lt h)

pub second_pairs : (sn on k : ℕ) → k < sn * on → pair_of sn on (sn * on + k) ≡ pair 1 (k / on) (k % on)
unfolding pair_of
second_pairs sn on k h =
    let e : sn * on + k ≡ 1 * (sn * on) + k = omega arith in
    rw (e, div_of 1 (sn * on) k h, mod_of 1 (sn * on) k h)

-- the pair with a number, of rings with vertices
module _ (sn on : ℕ) (d : Sides sn on) where
  pub some : 0 < sn * on
  some = omega (arith, below sn on 0 0 d.stationary_some d.orbiting_some)

  pub most : sn * on ≤ 65536
  most = mul-le-mul {n₂ = 256} {m₂ = 256} d.stationary_most d.orbiting_most

  pub kind_most : (k : ℕ) → k ≤ pair_count sn on → k / (sn * on) ≤ 3
  kind_most k h =
      let l : k / (sn * on) < 4 = (div-lt_iff_lt-mul some).1 (omega (arith, some)) in
      omega arith

  pub at_first : (k : ℕ) → k < sn * on → pair 0 (k % (sn * on) % sn) (k % (sn * on) / sn) ≡ pair_of sn on k
  unfolding pair_of
  at_first k h = rw (div-eq_of_lt h)

  later : (k : ℕ) → sn * on ≤ k → k / (sn * on) ≡ 0 → ⊥
  later k h e = omega (arith, rw e at (div-add-mod' k (sn * on)), mod-lt k some)

  pub at_later : (k : ℕ) → sn * on ≤ k → pair (k / (sn * on)) (k % (sn * on) / on) (k % (sn * on) % on) ≡ pair_of sn on k
  unfolding pair_of
  at_later k h = rw (ne_eqb (k / (sn * on)) 0 (later k h))

  -- what is known of it, by the quotients and remainders
  record Known (k : ℕ) (p : Pair) : Type 0 where
    pub kind_is : p.kind ≡ k / (sn * on)
    pub stationary_in : p.stationary < sn
    pub orbiting_in : p.orbiting < on

  known : (k : ℕ) → Known k (pair_of sn on k)
  known k = go (dec_le (sn * on) k)
    where
      r : ℕ
      r = k % (sn * on)

      row : (a b : ℕ) → r < a * b → 0 < b → r / b < a
      row a b h l = (div-lt_iff_lt-mul l).1 h

      go : Dec (sn * on ≤ k) → Known k (pair_of sn on k)
      go (yes h) =
          rw (← at_later k h)
          (record {
            kind_is = refl;
            stationary_in = row sn on (mod-lt k some) d.orbiting_some;
            orbiting_in = mod-lt r d.orbiting_some;
          })
      go (no h) =
          let l : k < sn * on = omega arith in
          rw (← at_first k l)
          (record {
            kind_is = sym (div-eq_of_lt l);
            stationary_in = mod-lt r d.stationary_some;
            orbiting_in = row on sn (rw (mul_comm on sn) (mod-lt k some)) d.stationary_some;
          })

  pub within : (k : ℕ) → k < pair_count sn on → Within sn on (pair_of sn on k)
  within k h =
      let w = known k in
      record {
        kind_below = rw w.kind_is ((div-lt_iff_lt-mul some).1 h);
        stationary_below = w.stationary_in;
        orbiting_below = w.orbiting_in;
      }

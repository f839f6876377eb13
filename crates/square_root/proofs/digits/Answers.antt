-- `square_root::digits` meets its contract. The loop's invariant: the digits are found down to `place`, a power of 4, as
-- `Found` of `proofs/Pairs.antt` has it. The measure is `place` itself. Assumes nothing.
use Prim.Native.Nat.{ℕ, zero, suc, ◌-◌, ◌*◌, ◌/◌, ◌%◌, ◌^◌, ◌≤◌, ◌<◌}
use mathlib.Core.Path.{◌≡◌, refl}
use native.Mathlib.Omega.{arith}
use native.Mathlib.Nat.{pow-succ', one-le-pow, zero-lt-suc}
use Rattle.square_root.specs.Root.{Pair, takes}
use Rattle.square_root.proofs.Pairs.{Found, next_found, short, done, square}
use Rattle.square_root.proofs.digits.Invariants.{Inv}
use Rattle.square_root.proofs.digits.Goals as goal

-- ---- a turn, on plain numbers
-- a power of 4 above 1 is four times another
quarter : (i p : ℕ) → p ≡ 4 ^ i → 1 < p → (k : ℕ) × (p / 4 ≡ 4 ^ k) × (p ≡ 4 * (p / 4))
quarter zero p e h = absurd (omega arith)
quarter (suc k) p e h = let f : p ≡ 4 * 4 ^ k = rw pow-succ' at e in (k, omega arith, omega arith)

-- and one that is not is 1
last : (i p : ℕ) → p ≡ 4 ^ i → p ≤ 1 → p ≡ 1
last i p e h = let g : 1 ≤ 4 ^ i = one-le-pow i 4 (zero-lt-suc 3) in omega arith

module _ (m root left place : ℕ) (h : m < 2 ^ 54) (v : Inv m root left place) (g : 1 < place) where
  -- what the shift makes of `left`
  fourfold : left * 4 % 2 ^ 64 ≡ 4 * left
  fourfold = omega (arith, v.found.under, v.most, short (omega arith) v.found)

  asked : (root < 2 ^ 54) × (place / 4 ≤ 2 ^ 52) × (left * 4 % 2 ^ 64 < takes root (place / 4) 4)
  asked =
      let w = quarter v.power place v.is g in
      (short (omega arith) v.found, omega (arith, v.most), omega (arith, fourfold, w.2, v.found.under))

  turn : (q t : ℕ) → Pair root (left * 4 % 2 ^ 64) (place / 4) q t → Inv m q (left * 4 % 2 ^ 64 - t) (place / 4)
  turn q t w =
      let (k, e, f) = quarter v.power place v.is g in
      let was : Found (m * 2 ^ 54) (4 * (place / 4)) root left = rw (← f) v.found in
      record {
        power = k;
        is = e;
        most = omega (arith, v.most);
        found = rw fourfold (next_found (m * 2 ^ 54) root (place / 4) left q t was (rw fourfold at w));
      }

-- ---- in the code
pub loop-place-init : goal.loop-place-init
loop-place-init c =
    record {
      power = 27;
      is = refl;
      most = omega arith;
      found = record { all = omega arith; under = omega arith };
    }

pub returns-then-left-eq0 : goal.returns-then-left-eq0
returns-then-left-eq0 c =
    let f = c.loop-place.invariant.found in
    square _ _ _ (rw c.if-left-eq0.true at f)

pub pair-next-requires : goal.pair-next-requires
pair-next-requires c =
    let l = c.loop-place in
    asked _ _ _ _ c.requires l.invariant (omega arith)

pub overflow_sub-left : goal.overflow_sub-left
overflow_sub-left c = c.pair-next.ensures.held

pub loop-place-preserved : goal.loop-place-preserved
loop-place-preserved c =
    let l = c.loop-place in
    turn _ _ _ _ c.requires l.invariant (omega arith) _ _ c.pair-next.ensures

pub returns : goal.returns
returns c =
    let l = c.loop-place in
    let e : l.place ≡ 1 = last _ _ l.invariant.is (omega arith) in
    done _ _ _ (rw e at l.invariant.found)

-- `reading::fill` meets its contract. The invariant: the first i keys are written, and the room is as long as it came. Assumes
-- nothing.
use Prim.Native.Nat.{ℕ, ◌+◌, ◌<◌}
use mathlib.Core.Path.{◌≡◌, refl, ap, ◌∙◌}
use mathlib.Core.List.{List}
use native.Mathlib.Omega.{arith}
use native.Mathlib.Decide.{dec_lt}
use lib.Ieee.{Float, nan}
use lib.ListN.{length, get_or, set, length-set}
use lib.Seq.{get_or-set_same, get_or-set_other}
use Rattle.reading.specs.Reading.{ord}
use Rattle.reading.specs.Lent.{kept}
use Rattle.reading.proofs.fill.Goals as goal

-- one more key
stored : (keys : List ℕ) (xs : List Float) (i v : ℕ) → i < length keys
    → ((m : ℕ) → m < i → get_or keys m 0 ≡ ord (kept (get_or xs m nan)))
    → v ≡ ord (kept (get_or xs i nan))
    → (m : ℕ) → m < i + 1 → get_or (set keys i v) m 0 ≡ ord (kept (get_or xs m nan))
stored keys xs i v h before e m l = go (dec_lt m i)
  where
    go : Dec (m < i) → get_or (set keys i v) m 0 ≡ ord (kept (get_or xs m nan))
    go (yes d) = get_or-set_other keys i m v 0 (λ z. omega arith) ∙ before m d
    go (no d) =
        let z : m ≡ i = omega arith in
        rw z (get_or-set_same keys i v 0 h ∙ e)

pub loop-i-init : goal.loop-i-init
loop-i-init c = (refl, λ m l. absurd (omega arith))

pub kept_bits-requires : goal.kept_bits-requires
kept_bits-requires c =
    c.requires.lent.numbers c.loop-i.i (omega arith)

pub loop-i-preserved : goal.loop-i-preserved
loop-i-preserved c =
    let xs = c.args.ring.now in
    let e = c.key.ensures ∙ ap ord c.kept_bits.ensures in (
      (simp length-set (omega arith)),
      stored c.loop-i.room xs c.loop-i.i c.key.result (omega arith) c.loop-i.invariant.1 e,
    )

pub returns : goal.returns
returns c =
    record { most = omega arith; each = λ m h. c.loop-i.invariant.1 m (omega arith) }

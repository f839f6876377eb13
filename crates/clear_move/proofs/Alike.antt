-- The same text of two reasons whose edges have the same first edges and the same lines. Assumes nothing.
use Prim.Native.Nat.{ℕ, zero, suc, ◌+◌, ◌*◌, ◌≤◌, ◌<◌}
use native.Mathlib.Omega.{arith}
use mathlib.Core.Path.{◌≡◌, refl}
use mathlib.Core.Bool.{Bool, true, false, ◌&&◌}
use mathlib.Core.List.{List, ◌++◌}
use lib.Dec.{ltb}
use lib.ListN.{length, get_or-append}
use lib.IntN.{ℤ, pos}
use borrow.Author.Tests.{ltb-true}
use Rattle.laws.specs.Turns.{tally}
use Rattle.reasons.specs.First.{first_from}
use Rattle.clear_move.specs.Shared.{same_line, owner, has, has_before, has_after, line_count, run_text, range_part, ranges_to}
use Rattle.clear_move.specs.Lines.{reason_line, shared_line, first_line, shared_lines, lines_text}

-- ---- two functions that agree on m edges

module _ (o o' : ℕ → ℕ) (m : ℕ) (e : (k : ℕ) → k < m → o k ≡ o' k) where
  before_same : (j k : ℕ) → k < m → has_before o j k ≡ has_before o' j k
  unfolding has_before
  before_same j zero h = refl
  before_same j (suc k) h = rw (e k (omega arith))

  after_same : (j k : ℕ) → has_after o m j k ≡ has_after o' m j k
  unfolding has_after
  after_same j k = go (ltb (suc k) m) refl
    where
      go : (x : Bool) → ltb (suc k) m ≡ x → x && has o j (suc k) ≡ x && has o' j (suc k)
      go true h = rw (e (suc k) (ltb-true (suc k) m h))
      go false h = refl

  part_same : (j k : ℕ) → k < m → range_part o m j k ≡ range_part o' m j k
  unfolding range_part run_text
  part_same j k h = rw (e k h, before_same j k h, after_same j k)

  ranges_same : (j k : ℕ) → k ≤ m → ranges_to o m j k ≡ ranges_to o' m j k
  unfolding ranges_to
  ranges_same j zero h = refl
  ranges_same j (suc k) h = rw (ranges_same j k (omega arith), part_same j k (omega arith))

  count_same : (k : ℕ) → k ≤ m → line_count o k ≡ line_count o' k
  unfolding tally
  count_same zero h = refl
  count_same (suc k) h = rw (count_same k (omega arith), e k (omega arith))

  -- and two reasons

  module _ (ls ls' : List ℤ) (f : (j : ℕ) → j < m → reason_line ls j ≡ reason_line ls' j) where
    first_same : (j : ℕ) → j < m → first_line o ls m j ≡ first_line o' ls' m j
    unfolding first_line shared_line
    first_same j h = rw (e j h, ranges_same j m (omega arith), f j h)

    lines_same : (k : ℕ) → k ≤ m → shared_lines o ls m k ≡ shared_lines o' ls' m k
    unfolding shared_lines
    lines_same zero h = refl
    lines_same (suc k) h = rw (lines_same k (omega arith), first_same k (omega arith))

    pub text_same : lines_text o ls m ≡ lines_text o' ls' m
    unfolding lines_text
    text_same = rw (count_same m (omega arith), lines_same m (omega arith))

-- ---- the front of a room

first_alike : (t u : ℕ → Bool) (k n : ℕ) → ((i : ℕ) → i < k + n → t i ≡ u i) → first_from t k n ≡ first_from u k n
unfolding first_from
first_alike t u k zero h = refl
first_alike t u k (suc n) h = rw (h k (omega arith), first_alike t u (suc k) n (λ i l. h i (omega arith)))

module _ (ls rest : List ℤ) (m : ℕ) (h : 4 * m ≤ length ls) where
  line_front : (i j : ℕ) → i < m → j < m → same_line (ls ++ rest) i j ≡ same_line ls i j
  unfolding same_line
  line_front i j k l =
      rw (
        get_or-append ls rest (pos 0) (4 * i) (omega arith),
        get_or-append ls rest (pos 0) (4 * i + 1) (omega arith),
        get_or-append ls rest (pos 0) (4 * i + 2) (omega arith),
        get_or-append ls rest (pos 0) (4 * i + 3) (omega arith),
        get_or-append ls rest (pos 0) (4 * j) (omega arith),
        get_or-append ls rest (pos 0) (4 * j + 1) (omega arith),
        get_or-append ls rest (pos 0) (4 * j + 2) (omega arith),
        get_or-append ls rest (pos 0) (4 * j + 3) (omega arith),
      )

  pub owner_front : (k : ℕ) → k < m → owner (ls ++ rest) k ≡ owner ls k
  unfolding owner
  owner_front k l = first_alike _ _ 0 k (λ i g. line_front i k (omega arith) l)

-- The rooms that hold the disc put aside, at the start and at the end of a move. Assumes nothing.
use Prim.Native.Nat.{ℕ, ◌*◌}
use native.Mathlib.Omega.{arith}
use mathlib.Core.Path.{◌≡◌, sym, ◌∙◌}
use mathlib.Core.Bool.{Bool, true, false}
use mathlib.Core.List.{List}
use lib.ListN.{length, take}
use lib.Seq.{take_at}
use Rattle.shifted.specs.declared.Spot.{Spot}
use Rattle.put_aside.specs.Aside.{aside, stays_on, room_of, DiscLent}
use Rattle.put_aside.proofs.Off.{aside_length}
use Rattle.drawn_aside.specs.Found.{stays_both}
use Rattle.clear_aside.specs.Aside.{DiscMoved, BothHold}

-- ---- one room

module _ (list : List ℕ) (from to : Spot) (how : ℕ) (pairs : (k : ℕ) × (length list ≡ 2 * k)) where
  pub as_long : length (aside list from to how) ≡ length list
  as_long = omega (arith, aside_length list from to how, pairs.1)

  front : (held : List ℕ) {room : List ℕ} → stays_on list from to how ≡ true → room ≡ room_of list from to how held
      → take (length list) room ≡ aside list from to how
  front held s e = rw (e, s) (take_at (aside list from to how) _ (length list) as_long)

-- ---- both

module _ {a b : List ℕ} {from to : Spot} (M : DiscMoved a b from to) where
  pub end_pairs : (k : ℕ) × (length b ≡ 2 * k)
  end_pairs = (M.pairs.0, M.same ∙ M.pairs.1)

  -- what is asked for the second
  pub end_lent : DiscLent b from to
  end_lent =
      record {
        some = omega (arith, M.same, M.some);
        most = omega (arith, M.same, M.most);
        corners_small = M.ends_small;
        from_small = M.from_small;
        to_small = M.to_small;
      }

module _ (a b : List ℕ) (from to : Spot) (how : ℕ) {t : Bool} (e : t ≡ stays_on a from to how) where
  pub start_leaves : t ≡ false → false ≡ stays_both a b from to how
  start_leaves q = rw (← e, q)

  module _ (q : t ≡ true) {u : Bool} (f : u ≡ stays_on b from to how) where
    pub start_stays : u ≡ stays_both a b from to how
    start_stays = rw (← e, q, f)

    pub both_hold : DiscMoved a b from to → (c d : List ℕ) {start end : List ℕ} → start ≡ room_of a from to how c
        → end ≡ room_of b from to how d → u ≡ true → BothHold a b from to how start end
    both_hold M c d g h r =
        record {
          starts = front a from to how M.pairs c (sym e ∙ q) g;
          ends = front b from to how (end_pairs M) d (sym f ∙ r) h;
        }

-- The corners of a list, put aside by a rule: the loop that tests them, the loop that writes them, and the whole call. Assumes
-- nothing.
use Prim.Native.Nat.{ℕ, zero, suc, ◌+◌, ◌*◌, ◌-◌, ◌/◌, ◌≤◌, ◌<◌}
use native.Mathlib.Decide.{dec_lt}
use native.Mathlib.Numerals.{add-one}
use native.Mathlib.Omega.{arith}
use mathlib.Core.Path.{◌≡◌, refl, sym, ◌∙◌}
use mathlib.Core.Bool.{Bool, true, false}
use mathlib.Core.List.{List, ◌++◌}
use lib.ListN.{length, drop, length-append, length-set, get_or-append}
use lib.Seq.{get_or-append_seam, get_or-append-add}
use Rattle.ring.specs.Each.{each}
use Rattle.ring.specs.Room.{laid}
use Rattle.ring.proofs.Each.{each_on, each_off, each_end}
use Rattle.ring.proofs.Emit.{emit2}
use Rattle.shifted.specs.Shifted.{spot_at, Small}
use Rattle.shifted.specs.declared.Spot.{Spot}
use Rattle.put_aside.specs.Middle.{middle_of}
use Rattle.put_aside.specs.Aside.{width_of, way_of, rule_of, corner_by, spots, put_spot, on_grid, aside_by}
use Rattle.put_aside.specs.Aside.{stay_by, stays_on, room_of, Ruled}
use Rattle.put_aside.specs.declared.Rule.{Rule}

-- ---- the numbers of a row of points

pub spots_length : (f : ℕ → Spot) (n : ℕ) → length (spots f n) ≡ 2 * n
unfolding spots
spots_length f zero = refl
spots_length f (suc n) = simp length-append (omega (arith, spots_length f n))

module _ (f : ℕ → Spot) (n i : ℕ) where
  earlier : i < n → spot_at (spots f (suc n)) i ≡ spot_at (spots f n) i
  unfolding spots
  earlier h =
      let l = spots_length f n in
      let a : 2 * i < length (spots f n) = omega arith in
      let b : 2 * i + 1 < length (spots f n) = omega arith in
      rw (get_or-append _ _ _ _ a, get_or-append _ _ _ _ b)

  last : i ≡ n → spot_at (spots f (suc n)) i ≡ f i
  unfolding spots
  last e = rw (e, ← spots_length f n) (rw (get_or-append_seam, get_or-append-add))

-- its points are those of the row
pub spots_at : (f : ℕ → Spot) (n i : ℕ) → i < n → spot_at (spots f n) i ≡ f i
spots_at f zero i h = absurd (omega arith)
spots_at f (suc n) i h = go (λ k. spots_at f n i k) (dec_lt i n)
  where
    go : (i < n → spot_at (spots f n) i ≡ f i) → Dec (i < n) → spot_at (spots f (suc n)) i ≡ f i
    go more (yes k) = earlier f n i k ∙ more k
    go more (no k) = last f n i (omega arith)

module _ (list : List ℕ) (r : Rule) where
  abbrev put_by : ℕ → Spot
  put_by i = corner_by r (spot_at list i)

  abbrev corners : ℕ
  corners = length list / 2

  abbrev stays_at : ℕ → Bool
  stays_at i = on_grid (put_by i)

  -- ---- the test: the corners from i on decide

  pub record Rest (i : ℕ) : Type 0 where
    pub most : i ≤ corners
    pub left : stay_by list r ≡ each stays_at i (corners - i)

  pub rest_start : Rest 0
  unfolding stay_by
  rest_start = let e : corners - 0 ≡ corners = omega arith in record { most = omega arith; left = rw e }

  module _ {i : ℕ} {v u : Spot} {t : Bool} (R : Rest i) (h : i < corners)
      (e : v ≡ spot_at list i) (f : u ≡ corner_by r v) (g : t ≡ on_grid u) where
    pub rest_off : t ≡ false → stay_by list r ≡ false
    rest_off q = R.left ∙ each_off stays_at i corners h (rw (← e, ← f, ← g, q))

    pub rest_turn : t ≡ true → Rest (i + 1)
    rest_turn q = record { most = omega arith; left = R.left ∙ each_on stays_at i corners h (rw (← e, ← f, ← g, q)) }

  pub rest_end : {i : ℕ} → Rest i → corners ≤ i → stay_by list r ≡ true
  rest_end {i} R h = R.left ∙ each_end stays_at i corners h

  -- ---- the corners: the first i are written, and the rest of the room is as it came

  module _ (held : List ℕ) where
    pub record Laid (room : List ℕ) (i : ℕ) : Type 0 where
      pub most : i ≤ corners
      pub same : length room ≡ length held
      pub holds : room ≡ spots put_by i ++ drop (2 * i) held

    pub lay_start : Laid held 0
    unfolding spots
    lay_start = record { most = omega arith; same = refl; holds = refl }

    pub lay_turn : {room next : List ℕ} {i : ℕ} {v u : Spot} → length list ≤ length held → i < corners → v ≡ spot_at list i
        → u ≡ corner_by r v → next ≡ put_spot room i u → Laid room i → Laid next (i + 1)
    unfolding spots put_spot
    lay_turn {room} {next} {i} {v} {u} fits h e f n t =
        let q : 2 * (i + 1) ≡ 2 * i + 2 = omega arith in
        let there : 2 * i + 1 < length held = omega arith in
        record {
          most = omega arith;
          same = rw n (simp length-set t.same);
          holds =
              rw (n, f, e, t.holds, q, add-one i)
              (emit2 (spots put_by i) held (2 * i) (put_by i).x (put_by i).y (spots_length put_by i) there);
        }

    pub lay_end : {room : List ℕ} {i : ℕ} → corners ≤ i → Laid room i → room ≡ laid (aside_by list r) held
    lay_end {room} {i} h t =
        let e : i ≡ corners = omega (arith, t.most) in
        rw (spots_length put_by corners, ← e) t.holds

-- ---- the rule

pub ruled : (list : List ℕ) {from to : Spot} (how : ℕ) {way w x y across : ℕ} → Small from → Small to → way ≡ way_of how
    → (w ≡ width_of how) × (w ≤ 2) → (x ≡ middle_of 0 list from to) × (x ≤ 16000000000000)
    → (y ≡ middle_of 1 list from to) × (y ≤ 16000000000000) → (across ≡ middle_of 2 list from to) × (across ≤ 16000000000000)
    → (let r : Rule = record { way = way; w = w; from = from; to = to; x = x; y = y; across = across } in
    (r ≡ rule_of list from to how) × Ruled r)
ruled list how a b e f x y z = (
  rw (e, f.0, x.0, y.0, z.0),
  record { narrow = f.1; starts = a; ends = b; x_fits = x.1; y_fits = y.1 },
)

-- ---- the whole call

module _ (list : List ℕ) (from to : Spot) (how : ℕ) {r : Rule} {t : Bool}
    (e : r ≡ rule_of list from to how) (f : t ≡ stay_by list r) where
  is : t ≡ stays_on list from to how
  is = f ∙ rw e

  pub leaves : (room : List ℕ) → t ≡ false → (false ≡ stays_on list from to how) × (room ≡ room_of list from to how room)
  leaves room q = (sym q ∙ is, rw (← is, q))

  pub stays : (room : List ℕ) {next : List ℕ} → t ≡ true → next ≡ laid (aside_by list r) room
      → (true ≡ stays_on list from to how) × (next ≡ room_of list from to how room)
  stays room q n = (sym q ∙ is, rw (← is, q, n, e))

-- The lines of a way and of an edge, as the code makes them, and that their points are within the bounds. Assumes nothing.
use Prim.Native.Nat.{ℕ, zero, suc, ◌+◌, ◌*◌, ◌-◌, ◌/◌, ◌%◌, ◌≤◌, ◌<◌}
use native.Mathlib.Nat.{mod-lt}
use native.Mathlib.Omega.{arith}
use mathlib.Core.Path.{◌≡◌, refl, sym, subst}
use mathlib.Core.Bool.{Bool, true, false, cond}
use mathlib.Core.List.{List}
use lib.Dec.{ltb}
use lib.ListN.{length}
use borrow.Author.Tests.{ltb-true, ltb-false, lt-ltb, le-ltb}
use Rattle.ring.specs.Ring.{next_of}
use Rattle.shifted.specs.Shifted.{spot_at, Small}
use Rattle.shifted.specs.declared.Spot.{Spot}
use Rattle.reasons.specs.Parting.{differ, way_left}
use Rattle.reason_check.specs.Lent.{WayLent}
use Rattle.reason_search.specs.Lines.{line, box_low, box_high, box_line, either_way, way_line, line_of}
use Rattle.reason_search.specs.Noted.{useful}
use Rattle.reason_search.specs.declared.Line.{Line}
use Rattle.reason_search.proofs.Boxes.{box_small, side_small}

abbrev pub Fit : Line → Type 0
Fit l = Small l.p × Small l.q

-- ---- either way

pub turned_line : (c : ℕ) (u v : Spot) → 0 < c → line v u ≡ either_way c u v
unfolding either_way
turned_line c u v h = let e : c ≡ suc (c - 1) = omega arith in rw e

pub either_fits : (c : ℕ) {u v : Spot} → Small u → Small v → Fit (either_way c u v)
unfolding either_way
either_fits zero h k = (h, k)
either_fits (suc c) h k = (k, h)

-- ---- of the way

abbrev pub Made : (ℕ → Spot) → (ℕ → Spot) → ℕ → ℕ → Line → Type 0
Made a b n c l = (l ≡ way_line a b n c) × Small l.p × Small l.q

module _ (a b : ℕ → Spot) (n c : ℕ) {u v : Spot} {l : Line} where
  fitting : (d : ℕ) → l ≡ either_way d u v → Small u → Small v → Fit l
  fitting d e h k = subst Fit (sym e) (either_fits d h k)

  -- of a corner's way
  pub way_is : c < 2 * n → u ≡ a (c / 2) → v ≡ b (c / 2) → l ≡ either_way (c % 2) u v → Small u → Small v → Made a b n c l
  unfolding way_line
  way_is h eu ev el hu hv =
      let f = fitting (c % 2) el hu hv in
      (rw (lt-ltb c (2 * n) h, ← eu, ← ev) el, f.0, f.1)

  module _ {e k : ℕ} (h : 2 * n ≤ c) (ee : e ≡ c - 2 * n) (ek : k ≡ next_of (e / 4) n) where
    -- of an edge at the start
    pub start_is : e % 4 < 2 → u ≡ a (e / 4) → v ≡ a k → l ≡ either_way (e % 2) u v → Small u → Small v → Made a b n c l
    unfolding way_line
    start_is r eu ev el hu hv =
        let f = fitting (e % 2) el hu hv in
        (rw (le-ltb c (2 * n) h, ← ee, lt-ltb (e % 4) 2 r, ← ek, ← eu, ← ev) el, f.0, f.1)

    -- and at the end
    pub end_is : 2 ≤ e % 4 → u ≡ b (e / 4) → v ≡ b k → l ≡ either_way (e % 2) u v → Small u → Small v → Made a b n c l
    unfolding way_line
    end_is r eu ev el hu hv =
        let f = fitting (e % 2) el hu hv in
        (rw (le-ltb c (2 * n) h, ← ee, le-ltb (e % 4) 2 r, ← ek, ← eu, ← ev) el, f.0, f.1)

module _ (a b : ℕ → Spot) (n c : ℕ) {l : Line} {d : Bool} (e : l ≡ way_line a b n c) (f : d ≡ differ l.p l.q) where
  pub useful_is : {w : Bool} → d ≡ true → w ≡ way_left a b n l.p l.q → w ≡ useful a b n c
  unfolding useful
  useful_is h g = rw (← e, ← f, h) g

  pub useful_not : d ≡ false → false ≡ useful a b n c
  unfolding useful
  useful_not h = rw (← e, ← f, h)

-- ---- of an edge

module _ (a b : ℕ → Spot) (n : ℕ) (s t : Spot) (k : ℕ) where
  pub line_side : k < 4 → line_of a b n s t k ≡ box_line k (box_low a b n) (box_high a b n)
  unfolding line_of
  line_side h = rw (lt-ltb k 4 h)

  pub line_own : 4 + 6 * n ≤ k → line_of a b n s t k ≡ either_way (k - (4 + 6 * n)) s t
  unfolding line_of
  line_own h = rw (le-ltb k 4 (omega arith), le-ltb k (4 + 6 * n) h)

pub line_way : (a b : ℕ → Spot) (n : ℕ) (s t : Spot) (c : ℕ) → c < 6 * n → line_of a b n s t (4 + c) ≡ way_line a b n c
unfolding line_of
line_way a b n s t c h =
    let e : 4 + c - 4 ≡ c = omega arith in
    rw (le-ltb (4 + c) 4 (omega arith), lt-ltb (4 + c) (4 + 6 * n) (omega arith), e)

-- ---- within the bounds

-- one of two
by_cases : {A : Type 0} (P : A → Type 0) (x : Bool) {u v : A} → (x ≡ true → P u) → (x ≡ false → P v) → P (cond x u v)
by_cases P true h k = h refl
by_cases P false h k = k refl

module _ (a b : ℕ → Spot) (n : ℕ) (small : (i : ℕ) → i < n → Small (a i) × Small (b i)) where
  way_fits : (c : ℕ) → c < 6 * n → Fit (way_line a b n c)
  unfolding way_line
  way_fits c h =
      let e = c - 2 * n in
      let i = e / 4 in
      let k : next_of i n < n = mod-lt (i + 1) (omega arith) in
      by_cases Fit (ltb c (2 * n))
      (λ q. let r = small (c / 2) (omega (arith, ltb-true c (2 * n) q)) in either_fits (c % 2) r.0 r.1)
      (λ q.
      let l : i < n = omega (arith, ltb-false c (2 * n) q) in
      by_cases Fit (ltb (e % 4) 2)
      (λ _. either_fits (e % 2) (small i l).0 (small _ k).0)
      (λ _. either_fits (e % 2) (small i l).1 (small _ k).1))

  pub line_fits : 0 < n → {s t : Spot} → Small s → Small t → (k : ℕ) → Fit (line_of a b n s t k)
  unfolding line_of
  line_fits some hs ht k =
      let x = box_small a b n some small in
      by_cases Fit (ltb k 4)
      (λ _. side_small _ _ k x.0 x.1)
      (λ q.
      by_cases Fit (ltb k (4 + 6 * n))
      (λ r. way_fits (k - 4) (omega (arith, ltb-false k 4 q, ltb-true k (4 + 6 * n) r)))
      (λ r. either_fits (k - (4 + 6 * n)) hs ht))

-- the corners of a way that is lent
pub way_small : (a b : List ℕ) → WayLent a b → (i : ℕ) → i < length a / 2 → Small (spot_at a i) × Small (spot_at b i)
way_small a b W i h = (W.starts_small i h, W.ends_small i (omega (arith, W.same)))

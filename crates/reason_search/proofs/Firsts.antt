-- The first line that parts an edge: a side of the way's box, the first of the way that helps, or the edge's own; and the line
-- before where that parts it. Assumes nothing.
use Prim.Native.Nat.{ℕ, ◌+◌, ◌-◌, ◌/◌, ◌≤◌, ◌<◌}
use native.Mathlib.Nat.{le_antisymm}
use native.Mathlib.Omega.{arith}
use mathlib.Core.Path.{◌≡◌, refl, sym, subst, ap, ◌∙◌}
use mathlib.Core.Bool.{Bool, true, false, ◌&&◌, cond, true≢false}
use mathlib.Core.List.{List}
use lib.Dec.{ltb}
use lib.ListN.{length}
use borrow.Author.Tests.{ltb-true, ltb-false}
use Rattle.std.proofs.Common.{Some, None}
use Rattle.laws.proofs.Both.{both}
use Rattle.shifted.specs.Shifted.{spot_at, Small}
use Rattle.shifted.specs.declared.Spot.{Spot}
use Rattle.reasons.specs.Parting.{differ, way_left, edge_right, parts}
use Rattle.reasons.specs.First.{first_from}
use Rattle.reasons.proofs.First.{first_passes, none_before}
use Rattle.reason_check.specs.Lent.{WayLent}
use Rattle.reason_search.specs.Lines.{line, box_low, box_high, box_line, either_way}
use Rattle.reason_search.specs.Search.{parts_by, parting, line_for, tried, first_line, anew, onward}
use Rattle.reason_search.specs.Noted.{IsBox, beside_box, first_side, leaves, useful, way_lines, line_in}
use Rattle.reason_search.specs.Noted.{helpful, first_of_way, Held}
use Rattle.reason_search.specs.declared.Line.{Line}
use Rattle.reason_search.specs.declared.Span.{Span}
use Rattle.reason_search.proofs.Boxes.{box_small, side_leaves}
use Rattle.reason_search.proofs.WayLines.{Fit, line_side, line_way, line_own, line_fits, turned_line, way_small}

-- ---- a row of tests

module _ (t : ℕ → Bool) (n k : ℕ) (none : (i : ℕ) → i < k → t i ≡ false) where
  at_least : k ≤ n → k ≤ first_from t 0 n
  at_least l = go (ltb (first_from t 0 n) k) refl
    where
      go : (x : Bool) → ltb (first_from t 0 n) k ≡ x → k ≤ first_from t 0 n
      go true e =
          let h = ltb-true _ _ e in
          absurd (true≢false (sym (first_passes t 0 n (omega arith)) ∙ none (first_from t 0 n) h))
      go false e = ltb-false _ _ e

  is_first : k < n → t k ≡ true → first_from t 0 n ≡ k
  is_first l h = go (ltb k (first_from t 0 n)) refl
    where
      go : (x : Bool) → ltb k (first_from t 0 n) ≡ x → first_from t 0 n ≡ k
      go true e = absurd (true≢false (sym h ∙ none_before t 0 n k (omega arith) (ltb-true _ _ e)))
      go false e = le_antisymm (ltb-false _ _ e) (at_least (omega arith))

-- ---- a line with the way on its left

grouped : (d w e : Bool) → d && (w && e) ≡ (d && w) && e
grouped true w e = refl
grouped false w e = refl

module _ (a b : List ℕ) (s t : Spot) where
  -- a line parts the edge exactly if it leaves the way left and the edge right
  parts_both : (l : Line) → parts_by a b s t l ≡ leaves (spot_at a) (spot_at b) (length a / 2) l && edge_right l.p l.q s t
  unfolding parts
  parts_both l =
      let w = way_left (spot_at a) (spot_at b) (length a / 2) l.p l.q in
      grouped (differ l.p l.q) w (edge_right l.p l.q s t)

  pub leaves_parts : (l : Line) → leaves (spot_at a) (spot_at b) (length a / 2) l ≡ true
      → parts_by a b s t l ≡ edge_right l.p l.q s t
  leaves_parts l h = parts_both l ∙ ap (λ (x : Bool). x && edge_right l.p l.q s t) h

  pub parts_leaves : (l : Line) → parts_by a b s t l ≡ true → leaves (spot_at a) (spot_at b) (length a / 2) l ≡ true
  parts_leaves l h = (both _ (edge_right l.p l.q s t) (sym (parts_both l) ∙ h)).0

  -- of a line of the way
  pub unnoted : (c : ℕ) {l : Line} {x : Bool} → l ≡ line_in a b c → x ≡ parts_by a b s t l → x ≡ helpful a b s t c
  unfolding helpful useful
  unnoted c e h = h ∙ ap (parts_by a b s t) e ∙ parts_both (line_in a b c)

-- ---- a line where it parts the edge

module _ (a b : List ℕ) (s t : Spot) where
  pub some_is : {l m : Line} {x : Bool} → l ≡ m → x ≡ parts_by a b s t l → x ≡ true → Some l ≡ parting a b s t m
  some_is {l} e f h = ap (λ (y : Bool). cond y (Some l) None) (sym h ∙ f) ∙ ap (parting a b s t) e

  pub none_is : {l m : Line} {x : Bool} → l ≡ m → x ≡ parts_by a b s t l → x ≡ false → None ≡ parting a b s t m
  none_is {l} e f h = ap (λ (y : Bool). cond y (Some l) None) (sym h ∙ f) ∙ ap (parting a b s t) e

  pub of_some : {l m : Line} → Some l ≡ parting a b s t m → (l ≡ m) × (true ≡ parts_by a b s t l)
  of_some {l} {m} h = go (parts_by a b s t m) refl h
    where
      go : (x : Bool) → parts_by a b s t m ≡ x → Some l ≡ cond x (Some m) None → (l ≡ m) × (true ≡ parts_by a b s t l)
      go true e f = let q : l ≡ m = cc in (q, sym (ap (parts_by a b s t) q ∙ e))
      go false e f = cc

  pub of_none : (m : Line) → None ≡ parting a b s t m → parts_by a b s t m ≡ false
  of_none m h = go (parts_by a b s t m) refl h
    where
      go : (x : Bool) → parts_by a b s t m ≡ x → None ≡ cond x (Some m) None → parts_by a b s t m ≡ false
      go true e f = cc
      go false e f = e

-- ---- the lines of an edge, one after the other

module _ (a b : List ℕ) (s t : Spot) where
  -- line k parts the edge
  abbrev pub test : ℕ → Bool
  test k = parts_by a b s t (line_for a b s t k)

  abbrev NoneTo : ℕ → Type 0
  NoneTo k = (i : ℕ) → i < k → test i ≡ false

  -- what is told of a line that is taken
  abbrev pub Right : Line → Type 0
  Right l = (l ≡ anew a b s t) × (true ≡ parts_by a b s t l)

  -- line k is the first that parts the edge
  found : (k : ℕ) {l : Line} → NoneTo k → k < tried a → l ≡ line_for a b s t k → parts_by a b s t l ≡ true → Right l
  unfolding first_line
  found k none h e p =
      (e ∙ ap (line_for a b s t) (sym (is_first test (tried a) k none h (ap (parts_by a b s t) (sym e) ∙ p))), sym p)

  -- ---- the sides of the box

  abbrev low : Spot
  low = box_low (spot_at a) (spot_at b) (length a / 2)

  abbrev high : Spot
  high = box_high (spot_at a) (spot_at b) (length a / 2)

  side_test : (c : ℕ) → c < 4 → test c ≡ beside_box low high s t c
  unfolding beside_box
  side_test c h =
      ap (parts_by a b s t) (line_side (spot_at a) (spot_at b) (length a / 2) s t c h)
      ∙ leaves_parts a b s t (box_line c low high) (side_leaves (spot_at a) (spot_at b) (length a / 2) c)

  module _ {u v : Spot} (eu : u ≡ low) (ev : v ≡ high) {c : ℕ} (ec : c ≡ first_side u v s t) where
    side_row : c ≡ first_side low high s t
    side_row = ec ∙ (rw (eu, ev))

    side_none : (k : ℕ) → k ≤ c → k ≤ 4 → NoneTo k
    side_none k l m i h =
        side_test i (omega arith) ∙ none_before (beside_box low high s t) 0 4 i (omega arith) (omega (arith, side_row))

    pub anew_side : {l : Line} → c < 4 → l ≡ box_line c u v → Right l
    anew_side {l} h e =
        let f : l ≡ line_for a b s t c = e ∙ (rw (eu, ev)) ∙ sym (line_side (spot_at a) (spot_at b) (length a / 2) s t c h) in
        let p : beside_box low high s t c ≡ true =
        ap (beside_box low high s t) side_row ∙ first_passes (beside_box low high s t) 0 4 (omega (arith, side_row)) in
        found c (side_none c (omega arith) (omega arith)) (omega arith) f (ap (parts_by a b s t) f ∙ side_test c h ∙ p)

    -- ---- the lines of the way

    way_test : (i : ℕ) → i < way_lines a → test (4 + i) ≡ helpful a b s t i
    unfolding helpful useful
    way_test i h =
        ap (parts_by a b s t) (line_way (spot_at a) (spot_at b) (length a / 2) s t i h) ∙ parts_both a b s t (line_in a b i)

    module _ (no-side : 4 ≤ c) {r : ℕ} (er : r ≡ first_of_way a b s t) where
      way_none : (k : ℕ) → k ≤ r → k ≤ way_lines a → NoneTo (4 + k)
      way_none k l m i h = go (ltb i 4) refl
        where
          go : (x : Bool) → ltb i 4 ≡ x → test i ≡ false
          go true e = side_none 4 (omega arith) (omega arith) i (ltb-true _ _ e)
          go false e =
              let g = ltb-false i 4 e in
              let f : 4 + (i - 4) ≡ i = omega arith in
              subst (λ (j : ℕ). test j ≡ false) f
              (way_test (i - 4) (omega arith)
              ∙ none_before (helpful a b s t) 0 (way_lines a) (i - 4) (omega arith) (omega (arith, er)))

      pub anew_way : {l : Line} → r < way_lines a → l ≡ line_in a b r → Right l
      anew_way {l} h e =
          let f : l ≡ line_for a b s t (4 + r) = e ∙ sym (line_way (spot_at a) (spot_at b) (length a / 2) s t r h) in
          let p : helpful a b s t r ≡ true =
          ap (helpful a b s t) er ∙ first_passes (helpful a b s t) 0 (way_lines a) (omega (arith, er)) in
          found (4 + r) (way_none r (omega arith) (omega arith)) (omega arith) f (ap (parts_by a b s t) f ∙ way_test r h ∙ p)

      -- ---- the edge's own

      module _ (no_way : way_lines a ≤ r) {x : Bool} (ex : x ≡ parts_by a b s t (line s t)) where
        own : line_for a b s t (4 + way_lines a) ≡ line s t
        unfolding either_way
        own =
            let e : 4 + way_lines a - (4 + way_lines a) ≡ 0 = omega arith in
            line_own (spot_at a) (spot_at b) (length a / 2) s t (4 + way_lines a) (omega arith) ∙ (rw e)

        pub anew_own : x ≡ true → Right (line s t)
        anew_own h = found (4 + way_lines a) (way_none (way_lines a) no_way (omega arith)) (omega arith) (sym own) (sym ex ∙ h)

        own_none : x ≡ false → NoneTo (5 + way_lines a)
        own_none h i l = go (ltb i (4 + way_lines a)) refl
          where
            go : (y : Bool) → ltb i (4 + way_lines a) ≡ y → test i ≡ false
            go true e = way_none (way_lines a) no_way (omega arith) i (ltb-true _ _ e)
            go false e =
                let g = ltb-false i (4 + way_lines a) e in
                let f : 4 + way_lines a ≡ i = omega arith in
                subst (λ (j : ℕ). test j ≡ false) f (ap (parts_by a b s t) own ∙ sym ex ∙ h)

        pub anew_last : x ≡ false → line t s ≡ anew a b s t
        unfolding first_line
        anew_last h =
            let k = at_least test (tried a) (5 + way_lines a) (own_none h) (omega arith) in
            turned_line (first_line a b s t - (4 + way_lines a)) s t (omega arith)
            ∙ sym (line_own (spot_at a) (spot_at b) (length a / 2) s t (first_line a b s t) (omega arith))

-- ---- the line before

module _ (a b : List ℕ) (s t : Spot) (l : Line) where
  pub onward_same : parts_by a b s t l ≡ true → l ≡ onward a b s t l
  unfolding onward
  onward_same h = rw h

  pub onward_anew : parts_by a b s t l ≡ false → {m : Line} → m ≡ anew a b s t → m ≡ onward a b s t l
  unfolding onward
  onward_anew h e = rw h e

-- one that has the way on its left parts the edge exactly if it has the edge on its right
module _ {a b : List ℕ} {l : Line} (H : Held a b l) (s t : Spot) {x : Bool} (e : x ≡ edge_right l.p l.q s t) where
  held_parts : x ≡ parts_by a b s t l
  held_parts = e ∙ sym (leaves_parts a b s t l H.left)

  pub again : x ≡ true → (l ≡ onward a b s t l) × (true ≡ parts_by a b s t l)
  again h = (onward_same a b s t l (sym held_parts ∙ h), sym h ∙ held_parts)

  pub instead : {m : Line} → x ≡ false → m ≡ anew a b s t → m ≡ onward a b s t l
  instead h = onward_anew a b s t l (sym held_parts ∙ h)

-- before the first edge the right side of the box stands for it
pub onward_side : (a b : List ℕ) (s t : Spot)
    → onward a b s t (box_line 0 (box_low (spot_at a) (spot_at b) (length a / 2)) (box_high (spot_at a) (spot_at b) (length a / 2)))
    ≡ anew a b s t
onward_side a b s t = go (parts_by a b s t l) refl
  where
    l : Line
    l = box_line 0 (box_low (spot_at a) (spot_at b) (length a / 2)) (box_high (spot_at a) (spot_at b) (length a / 2))

    go : (x : Bool) → parts_by a b s t l ≡ x → onward a b s t l ≡ anew a b s t
    go true h =
        sym (onward_same a b s t l h)
        ∙ (found a b s t 0 (λ i k. absurd (omega arith)) (omega arith)
        (sym (line_side (spot_at a) (spot_at b) (length a / 2) s t 0 (omega arith))) h).0
    go false h = sym (onward_anew a b s t l h refl)

-- ---- within the bounds

pub box_fits : (a b : List ℕ) {x : Span} → WayLent a b → 0 < length a / 2 → IsBox a b x → Small x.low × Small x.high
box_fits a b W some B = rw (B.0, B.1) (box_small (spot_at a) (spot_at b) (length a / 2) some (way_small a b W))

pub anew_fits : (a b : List ℕ) (s t : Spot) → WayLent a b → 0 < length a / 2 → Small s → Small t → Fit (anew a b s t)
anew_fits a b s t W some hs ht = line_fits (spot_at a) (spot_at b) (length a / 2) (way_small a b W) some hs ht (first_line a b s t)

pub onward_fits : (a b : List ℕ) (s t : Spot) (l : Line) → Fit l → Fit (anew a b s t) → Fit (onward a b s t l)
unfolding onward
onward_fits a b s t l h k = go (parts_by a b s t l)
  where
    go : (x : Bool) → Fit (cond x l (anew a b s t))
    go true = h
    go false = k

-- ---- an edge that its line does not part

pub none_parts : (a b : List ℕ) (s t : Spot) → parts_by a b s t (anew a b s t) ≡ false
    → (k : ℕ) → k < tried a → test a b s t k ≡ false
unfolding first_line
none_parts a b s t h k l = go (ltb (first_line a b s t) (tried a)) refl
  where
    go : (x : Bool) → ltb (first_line a b s t) (tried a) ≡ x → test a b s t k ≡ false
    go true e =
        let m = ltb-true (first_line a b s t) (tried a) e in
        absurd (true≢false (sym (first_passes (test a b s t) 0 (tried a) (omega arith)) ∙ h))
    go false e =
        let m = ltb-false (first_line a b s t) (tried a) e in
        none_before (test a b s t) 0 (tried a) k (omega arith) (omega arith)

pub onward_lost : (a b : List ℕ) (s t : Spot) (l : Line) → parts_by a b s t (onward a b s t l) ≡ false
    → parts_by a b s t (anew a b s t) ≡ false
onward_lost a b s t l h = go (parts_by a b s t l) refl
  where
    go : (x : Bool) → parts_by a b s t l ≡ x → parts_by a b s t (anew a b s t) ≡ false
    go true e = absurd (true≢false (sym e ∙ ap (parts_by a b s t) (onward_same a b s t l e) ∙ h))
    go false e = ap (parts_by a b s t) (onward_anew a b s t l e refl) ∙ h

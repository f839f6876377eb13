-- The loop of `lay`: the lines of the first j edges stand at the front of the room, the line before is held, and the edges from
-- j on decide. Assumes nothing.
use Prim.Native.Nat.{ℕ, zero, suc, ◌+◌, ◌*◌, ◌/◌, ◌≤◌, ◌<◌}
use native.Mathlib.Numerals.{add-one}
use native.Mathlib.Omega.{arith}
use mathlib.Core.Path.{◌≡◌, refl, sym, subst, ap, ◌∙◌}
use mathlib.Core.Bool.{Bool, true, false, not}
use mathlib.Core.List.{List, [], ◌∷◌, ◌++◌}
use lib.ListN.{length, take, drop, set, length-append}
use lib.Seq.{sets, sets-eq, length-sets, take_at, drop-append-add, drop-drop}
use borrow.Author.Tests.{not-false}
use Rattle.shifted.specs.Shifted.{spot_at, Small}
use Rattle.shifted.specs.declared.Spot.{Spot}
use Rattle.reasons.specs.Check.{corner}
use Rattle.reasons.proofs.First as row
use Rattle.reasons.proofs.First.{none_before}
use Rattle.reason_search.specs.Lines.{box_low, box_high, box_line}
use Rattle.reason_search.specs.Search.{parts_by, onward, line_at, is_parted, reached}
use Rattle.reason_search.specs.Room.{SearchLent, numbers, lines_to, room_of}
use Rattle.reason_search.specs.Noted.{IsBox, Held}
use Rattle.reason_search.specs.declared.Line.{Line}
use Rattle.reason_search.specs.declared.Span.{Span}
use Rattle.reason_search.proofs.Boxes.{box_small, side_small, side_leaves}
use Rattle.reason_search.proofs.WayLines.{Fit, way_small}
use Rattle.reason_search.proofs.Firsts.{parts_leaves, onward_side, anew_fits, onward_fits}

-- ---- a room

-- four stores, one after the other
pub four_stores : (room : List ℕ) (i x y u v : ℕ)
    → set (set (set (set room i x) (i + 1) y) (i + 2) u) (i + 3) v ≡ sets room i (x ∷ y ∷ u ∷ v ∷ [])
four_stores room i x y u v =
    let e : i + 1 ≡ suc i = omega arith in
    let f : i + 2 ≡ suc (suc i) = omega arith in
    let g : i + 3 ≡ suc (suc (suc i)) = omega arith in
    rw (e, f, g)

-- a list stored behind what is written
stored : (out more d room : List ℕ) (k : ℕ) → length out ≡ k → k + length more ≤ length d → length room ≡ length d
    → room ≡ out ++ drop k d → sets room k more ≡ (out ++ more) ++ drop (k + length more) d
stored out more d room k e h same q =
    let n = length more in
    let z : drop (k + n) room ≡ drop (k + n) d =
    ap (λ l. drop (k + n) l) q ∙ ap (λ j. drop (j + n) (out ++ drop k d)) (sym e) ∙ drop-append-add out (drop k d) n
    ∙ drop-drop n k d in
    let y : take k room ≡ out = ap (take k) q ∙ take_at out (drop k d) k e in
    sets-eq more room k (omega arith) ∙ (rw (y, z))

-- ---- the line before

-- that of the edge before j, and before the first edge the right side of the box
unfoldable pub prior : (st a b : List ℕ) → ℕ → Line
prior st a b zero = box_line 0 (box_low (spot_at a) (spot_at b) (length a / 2)) (box_high (spot_at a) (spot_at b) (length a / 2))
prior st a b (suc j) = line_at st a b j

prior_onward : (st a b : List ℕ) (j : ℕ) → onward a b (corner st j) (corner st (suc j)) (prior st a b j) ≡ line_at st a b j
unfolding prior line_at
prior_onward st a b zero = onward_side a b (corner st 0) (corner st 1)
prior_onward st a b (suc j) = refl

-- ---- the loop

pub length_lines : (st a b : List ℕ) (k : ℕ) → length (lines_to st a b k) ≡ 4 * k
unfolding lines_to
length_lines st a b zero = refl
length_lines st a b (suc k) = simp length-append (omega (arith, length_lines st a b k))

-- no line parts edge j
abbrev lost : (st a b : List ℕ) → ℕ → Bool
lost st a b j = not (is_parted st a b j)

-- an edge before the first of these is parted by its line
pub lined : (st a b : List ℕ) (j : ℕ) → j < reached st a b → is_parted st a b j ≡ true
unfolding reached
lined st a b j h = not-false _ (none_before (lost st a b) 0 (length st / 2) j (omega arith) h)

module _ (st a b d : List ℕ) where
  pub record Laid (room : List ℕ) (l : Line) (j : ℕ) : Type 0 where
    pub rest : row.Rest (lost st a b) (length st / 2) j
    pub same : length room ≡ length d
    pub holds : room ≡ lines_to st a b j ++ drop (4 * j) d
    pub before : l ≡ prior st a b j
    pub held : Held a b l

  pub start : {x : Span} {l : Line} → SearchLent st a b d → IsBox a b x → l ≡ box_line 0 x.low x.high → Laid d l 0
  unfolding lines_to prior
  start {x} {l} L B e =
      let n = length a / 2 in
      let f : l ≡ box_line 0 (box_low (spot_at a) (spot_at b) n) (box_high (spot_at a) (spot_at b) n) = e ∙ (rw (B.0, B.1)) in
      let z = box_small (spot_at a) (spot_at b) n L.some (way_small a b L.moved) in
      let s = side_small _ _ 0 z.0 z.1 in
      record {
        rest = row.start (lost st a b) _;
        same = refl;
        holds = refl;
        before = f;
        held = subst (Held a b) (sym f)
            (record { left = side_leaves (spot_at a) (spot_at b) n 0; from_small = s.0; to_small = s.1 });
      }

  module _ {room : List ℕ} {j : ℕ} {s t : Spot} {l k : Line} {x : Bool} (L : Laid room l j) (h : j < length st / 2)
      (es : s ≡ corner st j) (et : t ≡ corner st (suc j)) (ek : k ≡ onward a b s t l) (ex : x ≡ parts_by a b s t k) where
    line_is : k ≡ line_at st a b j
    line_is = ek ∙ (rw (es, et, L.before)) ∙ prior_onward st a b j

    lost_is : not x ≡ lost st a b j
    lost_is = let e : x ≡ is_parted st a b j = ex ∙ (rw (es, et, line_is)) in ap not e

    pub turn : {next : List ℕ} → SearchLent st a b d → Small s → Small t → x ≡ true → next ≡ sets room (4 * j) (numbers k)
        → Laid next k (j + 1)
    unfolding lines_to prior
    turn {next} R hs ht p en =
        let f : 4 * j + 4 ≡ 4 * suc j = omega arith in
        let fits : Fit k = subst Fit (sym ek)
        (onward_fits a b s t l (L.held.from_small, L.held.to_small) (anew_fits a b s t R.moved R.some hs ht)) in
        record {
          rest = row.turn (lost st a b) _ L.rest h lost_is (ap not p);
          same = ap length en ∙ length-sets room (4 * j) (numbers k) ∙ L.same;
          holds =
              en
              ∙ stored (lines_to st a b j) (numbers k) d room (4 * j) (length_lines st a b j) (omega (arith, R.enough)) L.same
              L.holds
              ∙ (rw (add-one j, line_is, f));
          before = rw (add-one j) line_is;
          held = record { left = parts_leaves a b s t k (sym ex ∙ p); from_small = fits.0; to_small = fits.1 };
        }

    pub stop : x ≡ false → j ≡ reached st a b
    unfolding reached
    stop p = row.here (lost st a b) _ L.rest h lost_is (ap not p)

  pub done : {room : List ℕ} {l : Line} {j : ℕ} → Laid room l j → length st / 2 ≤ j → j ≡ reached st a b
  unfolding reached
  done L h = row.end (lost st a b) _ L.rest h

  -- what the room holds
  pub room_is : {room : List ℕ} {l : Line} {j : ℕ} → Laid room l j → j ≡ reached st a b → room ≡ room_of st a b d
  room_is {j = j} L e = L.holds ∙ ap (λ i. lines_to st a b j ++ drop i d) (sym (length_lines st a b j)) ∙ (rw e)

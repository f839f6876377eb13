-- Every float that fits the grid is within the bounds there, and has its picture, with half a unit 2 ^ 1073: its value is a whole
-- number of units of 2 ^ -1074. Assumes nothing.
use Prim.Native.Nat.{ℕ, zero, suc, ◌+◌, ◌*◌, ◌-◌, ◌^◌, ◌≤◌}
use native.Mathlib.Omega.{arith}
use mathlib.Core.Path.{◌≡◌, refl, sym, ap}
use mathlib.Core.Bool.{Bool, true, false, true≢false}
use mathlib.Core.List.{List, [], ◌∷◌, map}
use lib.Dec.{T}
use lib.Ieee.{Float, nan, inf, fin, binary64, up, down, fits}
use lib.Ieee.Fits.{down_pos}
use lib.Ieee.Exact.{HasValue}
use borrow.Author.Tests.{leb-true, le-leb, lt-ltb}
use Rattle.laws.proofs.Both.{both}
use Rattle.refusals.specs.Bounds.{every}
use Rattle.shifted.specs.Shifted.{in_bounds}
use Rattle.whole_engine.specs.Rows.{all_in_bounds}
use Rattle.to_grid.specs.Grid.{signed, nearest, fits_grid}
use Rattle.to_grid.proofs.Rounding.{nearest_most}
use Rattle.to_grid.proofs.Sized.{sign_of, size_of, value, within}
use Rattle.number_bytes.specs.Bytes.{Formed}
use Rattle.drawn_floats.specs.Picture.{Exactly, Pictured, Placed, Picture}

-- ---- within the bounds

small : (s : Bool) (g : ℕ) → g ≤ 1000000 → in_bounds (signed s g) ≡ true
small false g h = le-leb g 1000000 h
small true zero h = refl
small true (suc g) h = lt-ltb g 1000000 (omega arith)

pub stays : (n : ℕ) (x : Float) → fits_grid n x ≡ true → in_bounds (nearest n x) ≡ true
unfolding fits_grid nearest
stays n nan h = absurd (true≢false (sym h))
stays n (inf s) h = absurd (true≢false (sym h))
stays n (fin s m e) h =
    small s _ (nearest_most (n * (m * up e)) (down e) 1000000 (down_pos e) (leb-true (n * (m * up e)) (1000000 * down e) h))

-- so whatever the call writes, those in whole numbers take
pub all_stay : (n : ℕ) (xs : List Float) → every (fits_grid n) xs ≡ true → all_in_bounds (map (nearest n) xs) ≡ true
unfolding every all_in_bounds
all_stay n [] h = refl
all_stay n (x ∷ xs) h =
    let p = both (fits_grid n x) (every (fits_grid n) xs) h in
    rw (stays n x p.0, all_stay n xs p.1)

-- ---- the picture of a value that is v over 2 * E, a million above the lowest

drawn_at : (E n : ℕ) (x : Float) (s : Bool) (v : ℕ) → HasValue x s v (2 * E) → n * v ≤ 1000000 * (2 * E)
    → (X : ℕ) × Exactly E n x X × (2 * E * 1000000 ≤ X)
drawn_at E n nan s v h l = absurd h
drawn_at E n (inf t) s v h l = absurd h
drawn_at E n (fin false m e) s v h l = (2000000 * (2 * E) + n * v, omega (arith, ap (λ z. n * z) h.1), omega arith)
drawn_at E n (fin true m e) s v h l =
    let X = 2000000 * (2 * E) - n * v in
    let q : X + n * v ≡ 2000000 * (2 * E) = omega arith in
    (X, omega (arith, ap (λ z. z * down e) q, ap (λ z. n * z) h.1), omega arith)

-- ---- that of a float that the format holds, of a list of them, and of corners at a position

made : (n : ℕ) (x : Float) → T (fits binary64 x) → fits_grid n x ≡ true
    → (X : ℕ) × Exactly (2 ^ 1073) n x X × (2 * 2 ^ 1073 * 1000000 ≤ X)
made n x f h = drawn_at (2 ^ 1073) n x (sign_of x) (size_of x) (value n x f h) (within n x f h)

abbrev AllOver : ℕ → List ℕ → Type 0
AllOver l [] = Unit
AllOver l (X ∷ Xs) = (l ≤ X) × AllOver l Xs

all_made : (n : ℕ) (xs : List Float) → Formed xs → every (fits_grid n) xs ≡ true
    → (Xs : List ℕ) × Pictured (2 ^ 1073) n xs Xs × AllOver (2 * 2 ^ 1073 * 1000000) Xs
unfolding every
all_made n [] f h = ([], tt, tt)
all_made n (x ∷ xs) f h =
    let p = both (fits_grid n x) (every (fits_grid n) xs) h in
    let here = made n x f.0 p.0 in
    let rest = all_made n xs f.1 p.1 in
    (here.0 ∷ rest.0, (here.1, rest.1), (here.2, rest.2))

all_at : (E U W : ℕ) (Xs : List ℕ) → 2 * E * 1000000 ≤ U → 2 * E * 1000000 ≤ W → AllOver (2 * E * 1000000) Xs
    → (Zs : List ℕ) × Placed E U W Xs Zs
all_at E U W [] u w h = ([], tt)
all_at E U W (X ∷ Xs) u w h =
    let rest = all_at E W U Xs w u h.1 in
    let q : X + U - 2 * E * 2000000 + 2 * E * 2000000 ≡ X + U = omega (arith, h.0) in
    ((X + U - 2 * E * 2000000) ∷ rest.0, (q, rest.1))

-- every drawing that fits the grid has its picture
pub picture_made : (n : ℕ) (xs ys : List Float) (fx fy tx ty : Float) → Formed xs → Formed ys → Formed (fx ∷ fy ∷ tx ∷ ty ∷ [])
    → every (fits_grid n) xs ≡ true → every (fits_grid n) ys ≡ true → every (fits_grid n) (fx ∷ fy ∷ tx ∷ ty ∷ []) ≡ true
    → (ring : List ℕ) × (c : List ℕ) × (d : List ℕ) × Picture (2 ^ 1073) n xs ys fx fy tx ty ring c d
unfolding every
picture_made n xs ys fx fy tx ty fr fd fp hr hd hp =
    let p = both (fits_grid n fx) (every (fits_grid n) (fy ∷ tx ∷ ty ∷ [])) hp in
    let q = both (fits_grid n fy) (every (fits_grid n) (tx ∷ ty ∷ [])) p.1 in
    let r = both (fits_grid n tx) (every (fits_grid n) (ty ∷ [])) q.1 in
    let s = both (fits_grid n ty) true r.1 in
    let ring = all_made n xs fr hr in
    let disc = all_made n ys fd hd in
    let ax = made n fx fp.0 p.0 in
    let ay = made n fy fp.1.0 q.0 in
    let bx = made n tx fp.1.1.0 r.0 in
    let by = made n ty fp.1.1.1.0 s.0 in
    let c = all_at (2 ^ 1073) ax.0 ay.0 disc.0 ax.2 ay.2 disc.2 in
    let d = all_at (2 ^ 1073) bx.0 by.0 disc.0 bx.2 by.2 disc.2 in (
      ring.0,
      c.0,
      d.0,
      record {
        corners = disc.0;
        from_x = ax.0;
        from_y = ay.0;
        to_x = bx.0;
        to_y = by.0;
        stationary = ring.1;
        orbiting = disc.1;
        from_across = ax.1;
        from_upward = ay.1;
        to_across = bx.1;
        to_upward = by.1;
        starts = c.1;
        ends = d.1;
      },
    )

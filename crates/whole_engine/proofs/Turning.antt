-- The turn by two products: with m added to each difference from a, what is compared stands as far apart as what the
-- definition compares. Assumes nothing.
use Prim.Native.Nat.{ℕ, ◌+◌, ◌*◌}
use native.Mathlib.Omega.{arith}
use mathlib.Core.Path.{◌≡◌, ap}
use lib.Dec.{lit<}
use Rattle.shifted.specs.declared.Spot.{Spot}
use Rattle.whole_floats.proofs.Fraction.{alike}
use Rattle.whole_rules.specs.Segments.{left_of, right_of, whole_turn}
use Rattle.whole_engine.specs.Sides.{side_of}

-- p is b - a and m: a product with p by the products of the others
times : (m p a b k : ℕ) → p + a ≡ b + m → p * k + a * k ≡ b * k + m * k
times m p a b k h = let x : (p + a) * k ≡ (b + m) * k = ap (λ (z : ℕ). z * k) h in omega arith

-- one product replaced after the other, each a number here: a is (u, v), b is (b, e) and c is (d, c)
replaced : (ps us bs ms uv uc um bc bm bv qr vr er mr de em ue dv vm pm mm qm : ℕ)
    → ps + us ≡ bs + ms → us + uv ≡ uc + um → bs + bv ≡ bc + bm
    → qr + vr ≡ er + mr → vr + uv ≡ dv + vm → er + ue ≡ de + em
    → pm + um ≡ bm + mm → qm + vm ≡ em + mm
    → ps + (qm + mr) + (uc + de + bv) ≡ qr + (pm + ms) + (bc + dv + ue)
replaced ps us bs ms uv uc um bc bm bv qr vr er mr de em ue dv vm pm mm qm h1 h2 h3 h4 h5 h6 h7 h8 = omega arith

level : (m u v b e d c p q r s : ℕ) → p + u ≡ b + m → q + v ≡ e + m → r + u ≡ d + m → s + v ≡ c + m
    → p * s + m * (q + r) + (u * c + e * d + b * v) ≡ q * r + m * (p + s) + (b * c + v * d + u * e)
level m u v b e d c p q r s h k f g =
    let x1 = times m p u b s h in
    let x2 = times m s v c u g in
    let x3 = times m s v c b g in
    let y1 = times m q v e r k in
    let y2 = times m r u d v f in
    let y3 = times m r u d e f in
    let z1 = times m p u b m h in
    let z2 = times m q v e m k in
    let z =
    replaced (p * s) (u * s) (b * s) (m * s) (u * v) (u * c) (u * m) (b * c) (b * m) (b * v) (q * r)
    (v * r) (e * r) (m * r) (d * e) (e * m) (u * e) (d * v) (v * m) (p * m) (m * m) (q * m)
    (omega arith) (omega arith) (omega arith) (omega arith) (omega arith) (omega arith) (omega arith) (omega arith) in
    omega arith

pub side_is : (a b c : Spot) (p q r s : ℕ) → p + a.x ≡ b.x + 4194304 → q + a.y ≡ b.y + 4194304
    → r + a.x ≡ c.x + 4194304 → s + a.y ≡ c.y + 4194304 → side_of p q r s ≡ whole_turn a b c
unfolding side_of whole_turn
side_is a b c p q r s e f g h =
    let left = p * s + 4194304 * (q + r) in
    let right = q * r + 4194304 * (p + s) in
    let z : left + right_of a b c ≡ right + left_of a b c =
    level 4194304 a.x a.y b.x b.y c.x c.y p q r s e f g h in
    let l = alike right left (right_of a b c) (left_of a b c) 1 1 (lit< tt) (lit< tt) (omega arith) in
    let m = alike left right (left_of a b c) (right_of a b c) 1 1 (lit< tt) (lit< tt) (omega arith) in
    rw (l, m)

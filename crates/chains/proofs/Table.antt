-- A table of chains: the chain that was written is read, and the others stay. The invariant of the loop that fills it: every edge before e is bounded by its chain. Assumes nothing.
use Prim.Native.Nat.{ℕ, ◌+◌, ◌*◌, ◌/◌, ◌%◌, ◌≤◌, ◌<◌, min}
use native.Mathlib.Omega.{arith}
use native.Mathlib.Decide.{dec_lt}
use mathlib.Core.Path.{◌≡◌, sym, ap, subst, ◌∙◌}
use mathlib.Core.Bool.{true, false}
use mathlib.Core.List.{List}
use lib.ListN.{length, set, length-set}
use lib.Seq.{get_or-set_same, get_or-set_other}
use lib.Ieee.{Float, nan, lt, neg}
use Rattle.plane.specs.Vector.{point}
use Rattle.plane.specs.declared.Point.{Point}
use Rattle.ring.specs.Ring.{count, point_at, next_of}
use Rattle.ring.specs.Room.{put_at}
use Rattle.chains.specs.Chain.{aside_of, passes, Bounds, BoundsEdges, chain_at, put_chain, InChain, Tabled}
use Rattle.chains.specs.declared.Chain.{Chain}

-- ---- points

pub put_here : (t : List Float) (i : ℕ) (p : Point) → 2 * i + 1 < length t → point_at (put_at t i p) i ≡ p
unfolding point_at put_at
put_here t i p h =
    let l = length-set t (2 * i) p.x in
    rw (get_or-set_other (set t (2 * i) p.x) (2 * i + 1) (2 * i) p.y nan (λ e. omega (arith, e)), get_or-set_same t (2 * i) p.x nan (omega arith), get_or-set_same (set t (2 * i) p.x) (2 * i + 1) p.y nan (omega (arith, l)))

pub put_there : (t : List Float) (i j : ℕ) (p : Point) → (i ≡ j → ⊥) → point_at (put_at t i p) j ≡ point_at t j
unfolding point_at put_at
put_there t i j p h =
    rw (
      get_or-set_other (set t (2 * i) p.x) (2 * i + 1) (2 * j) p.y nan (λ e. omega (arith, e)),
      get_or-set_other t (2 * i) (2 * j) p.x nan (λ e. h (omega (arith, e))),
      get_or-set_other (set t (2 * i) p.x) (2 * i + 1) (2 * j + 1) p.y nan (λ e. h (omega (arith, e))),
      get_or-set_other t (2 * i) (2 * j + 1) p.x nan (λ e. omega (arith, e)),
    )

pub put_length : (t : List Float) (i : ℕ) (p : Point) → length (put_at t i p) ≡ length t
unfolding put_at
put_length t i p = length-set (set t (2 * i) p.x) (2 * i + 1) p.y ∙ length-set t (2 * i) p.x

-- ---- chains

pub chain_here : (t : List Float) (c : ℕ) (b : Chain) → 6 * c + 6 ≤ length t → chain_at (put_chain t c b) c ≡ b
unfolding chain_at put_chain
chain_here t c b h =
    let u = put_at t (3 * c) b.least in
    let v = put_at u (3 * c + 1) b.most in
    let k = put_length t (3 * c) b.least in
    let l = put_length u (3 * c + 1) b.most in
    rw (
      put_there v (3 * c + 2) (3 * c) (point b.far b.far) (λ e. omega (arith, e)),
      put_there u (3 * c + 1) (3 * c) b.most (λ e. omega (arith, e)),
      put_here t (3 * c) b.least (omega arith),
      put_there v (3 * c + 2) (3 * c + 1) (point b.far b.far) (λ e. omega (arith, e)),
      put_here u (3 * c + 1) b.most (omega (arith, k)),
      put_here v (3 * c + 2) (point b.far b.far) (omega (arith, k, l)),
    )

pub chain_there : (t : List Float) (c k : ℕ) (b : Chain) → (c ≡ k → ⊥) → chain_at (put_chain t c b) k ≡ chain_at t k
unfolding chain_at put_chain
chain_there t c k b h =
    let u = put_at t (3 * c) b.least in
    let v = put_at u (3 * c + 1) b.most in
    let w = point b.far b.far in
    rw (
      put_there v (3 * c + 2) (3 * k) w (λ e. omega (arith, e)),
      put_there u (3 * c + 1) (3 * k) b.most (λ e. omega (arith, e)),
      put_there t (3 * c) (3 * k) b.least (λ e. h (omega (arith, e))),
      put_there v (3 * c + 2) (3 * k + 1) w (λ e. omega (arith, e)),
      put_there u (3 * c + 1) (3 * k + 1) b.most (λ e. h (omega (arith, e))),
      put_there t (3 * c) (3 * k + 1) b.least (λ e. omega (arith, e)),
      put_there v (3 * c + 2) (3 * k + 2) w (λ e. h (omega (arith, e))),
      put_there u (3 * c + 1) (3 * k + 2) b.most (λ e. omega (arith, e)),
      put_there t (3 * c) (3 * k + 2) b.least (λ e. omega (arith, e)),
    )

-- ---- one chain more

-- what a table tells of each edge by what it has for its chain, whatever that is
module _ {C : Type 0} (at : List Float → ℕ → C) (Of : C → ℕ → Type 0) where
  abbrev Told : List Float → ℕ → Type 0
  Told t n = (c e : ℕ) → InChain c e → e < n → Of (at t c) e

  pub one_more : (t u : List Float) (e to : ℕ) (b : C) → Told t e → e % 8 ≡ 0 → to ≤ e + 8
      → ((k : ℕ) → (e / 8 ≡ k → ⊥) → at u k ≡ at t k) → at u (e / 8) ≡ b → ((x : ℕ) → e ≤ x → x < to → Of b x) → Told u to
  one_more t u e to b before whole end others here new c x i h = go (dec_lt x e)
    where
      go : Dec (x < e) → Of (at u c) x
      go (yes l) =
          let n = i.not_before in
          let other : e / 8 ≡ c → ⊥ = λ z. omega (arith, z, n, l, whole) in
          subst (λ (w : C). Of w x) (sym (others c other)) (before c x i l)
      go (no l) =
          let n = i.not_before in
          let m = i.not_after in
          let this : c ≡ e / 8 = omega (arith, l, n, m, whole, h, end) in
          subst (λ (w : C). Of w x) (sym (ap (at u) this ∙ here)) (new x (omega (arith, l)) h)

pub none_tabled : (t : List Float) (d : Point) (r : List Float) → Tabled t d r 0
none_tabled t d r c e i h = absurd (omega (arith, h))

pub one_tabled : (t : List Float) (d : Point) (r : List Float) (e to : ℕ) (b : Chain) {u : List Float} → Tabled t d r e → e % 8 ≡ 0 → 6 * (e / 8) + 6 ≤ length t → to ≤ e + 8
    → BoundsEdges b d r e to → u ≡ put_chain t (e / 8) b → Tabled u d r to
one_tabled t d r e to b {u} before whole room end bounds is =
    one_more chain_at (λ (w : Chain) (x : ℕ). Bounds w d (point_at r x) (point_at r (next_of x (count r)))) t u e to b before whole end
    (λ k h. ap (λ (w : List Float). chain_at w k) is ∙ chain_there t (e / 8) k b h)
    (ap (λ (w : List Float). chain_at w (e / 8)) is ∙ chain_here t (e / 8) b room)
    bounds

-- where the chain c of n edges ends
pub chain_to : (c n to : ℕ) → to ≤ n → to ≤ 8 * (8 * c / 8) + 8 → (to < n → to ≡ 8 * (8 * c / 8) + 8) → to ≡ min (8 * (c + 1)) n
chain_to c n to a b h = go (dec_lt to n)
  where
    go : Dec (to < n) → to ≡ min (8 * (c + 1)) n
    go (yes l) = omega (arith, h l)
    go (no l) = omega (arith, l)

-- ---- the test

module _ (t : List Float) (c : ℕ) (v d : Point) {w l : Point} {a : Float} (ew : w ≡ point_at t (3 * c + 2)) (el : l ≡ point_at t (3 * c)) (ea : a ≡ aside_of v d l) where
  pub by_least : lt w.x a ≡ true → true ≡ passes (chain_at t c) v d
  unfolding passes chain_at
  by_least h = rw (← el, ← ea, ← ew, h)

  pub by_most : {m : Point} {b : Float} → lt w.x a ≡ false → m ≡ point_at t (3 * c + 1) → b ≡ aside_of v d m → lt w.x (neg b) ≡ passes (chain_at t c) v d
  unfolding passes chain_at
  by_most h em eb = rw (← el, ← ea, ← ew, h, ← em, ← eb)

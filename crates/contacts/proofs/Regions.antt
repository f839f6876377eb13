-- The pairs of each kind, as the rows have them; and the search for the next contact, kind by kind: the numbers before the one that a row scan found have
-- no contact. Assumes nothing.
use Prim.Native.Nat.{ℕ, zero, suc, ◌+◌, ◌*◌, ◌-◌, ◌/◌, ◌%◌, ◌≤◌, ◌<◌}
use native.Mathlib.Omega.{arith}
use native.Mathlib.Nat.{mod-eq_of_lt, mod-lt, mul_comm, div-add-mod', div-lt_iff_lt-mul}
use mathlib.Core.Path.{◌≡◌, refl, sym, ap, ◌∙◌}
use mathlib.Core.Bool.{Bool, false}
use mathlib.Core.List.{List}
use lib.Ieee.{Float}
use Rattle.ring.specs.Ring.{count}
use Rattle.pairs.specs.Pairs.{Sides}
use Rattle.pairs.proofs.Numbers.{at_first, at_later, div_of, mod_of}
use Rattle.contacts.specs.Touching.{edges_of, touches_by, touching}
use Rattle.contacts.specs.Contacts.{picks, touches_at, contacts_from, first_contact}
use Rattle.contacts.specs.Rows.{FirstFrom, on_edge, along_edge, on_edge_at, along_edge_at}
use Rattle.std.specs.Prelude.{Some, None}
use Rattle.contacts.proofs.Picks.{picks_on, picks_off, picks_end}

module _ (p : ℕ → Bool) (n : ℕ) where
  skip : (more a b : ℕ) → b ≡ a + more → b ≤ n → ((k : ℕ) → a ≤ k → k < b → p k ≡ false) → picks p a (n - a) ≡ picks p b (n - b)
  skip zero a b e h c = let q : b ≡ a = omega arith in rw q refl
  skip (suc more) a b e h c =
      picks_off p n a (omega arith) (c a (omega arith) (omega arith)) ∙ skip more (a + 1) b (omega arith) h (λ k l u. c k (omega (arith, l)) u)

  -- the numbers from base on, of which m have a test F of their own
  module _ (F : ℕ → Bool) (base m from k a : ℕ) (e : a ≡ base + from) (l : base + m ≤ n) (same : (j : ℕ) → j < m → p (base + j) ≡ F j) (w : FirstFrom F from m k) where
    past : picks p a (n - a) ≡ picks p (base + k) (n - (base + k))
    past = skip (k - from) a (base + k) (omega (arith, w.least)) (omega (arith, w.most)) clear
      where
        clear : (x : ℕ) → a ≤ x → x < base + k → p x ≡ false
        clear x g u =
            let q : base + (x - base) ≡ x = omega (arith, g) in
            rw (← q) (same (x - base) (omega (arith, g, u, w.most)) ∙ w.clear (x - base) (omega (arith, g)) (omega (arith, g, u)))

    pub region_hit : (r : ℕ) → r ≡ base + k → k < m → Some r ≡ first_contact (picks p a (n - a))
    region_hit r q h = rw (past, picks_on p n (base + k) (omega arith) (same k h ∙ w.hit h), q) refl

    pub region_end : (b : ℕ) → b ≡ base + m → m ≤ k → picks p a (n - a) ≡ picks p b (n - b)
    region_end b q h = let z : base + k ≡ b = omega (arith, w.most) in past ∙ (rw z refl)

-- the row and the place of a number
module _ (sn on : ℕ) (d : Sides sn on) where
  pub rows_in : (j : ℕ) → j < sn * on → (j / on < sn) × (j % on < on)
  rows_in j h = ((div-lt_iff_lt-mul d.orbiting_some).1 h, mod-lt j d.orbiting_some)

  pub columns_in : (j : ℕ) → j < sn * on → (j / sn < on) × (j % sn < sn)
  columns_in j h = ((div-lt_iff_lt-mul d.stationary_some).1 (rw (mul_comm on sn) h), mod-lt j d.stationary_some)

module _ (st orb : List Float) (tol : Float) (d : Sides (count st) (count orb)) where
  abbrev sn : ℕ
  sn = count st

  abbrev on : ℕ
  on = count orb

  abbrev each : ℕ
  each = sn * on

  pub kind_0 : (k : ℕ) → k < each → touches_at st orb tol (0 + k) ≡ on_edge_at orb st tol k
  unfolding touching touches_by edges_of on_edge_at on_edge
  kind_0 k h = let z : 0 + k ≡ k = omega arith in rw (z, ← at_first sn on d k h, mod-eq_of_lt h) refl

  pub kind_1 : (j : ℕ) → j < each → touches_at st orb tol (each + j) ≡ on_edge_at st orb tol j
  unfolding touching touches_by edges_of on_edge_at on_edge
  kind_1 j h =
      let z : each + j ≡ 1 * each + j = omega arith in
      rw (← at_later sn on d (each + j) (omega arith), z, div_of 1 each j h, mod_of 1 each j h) refl

  pub kind_2 : (j : ℕ) → j < each → touches_at st orb tol (2 * each + j) ≡ along_edge_at st orb tol j
  unfolding touching touches_by edges_of along_edge_at along_edge
  kind_2 j h = rw (← at_later sn on d (2 * each + j) (omega arith), div_of 2 each j h, mod_of 2 each j h) refl

  -- orbiting vertices by stationary edges
  module _ (from k : ℕ) (l : from < each) (w : FirstFrom (on_edge_at orb st tol) (from / sn * sn + from % sn) (on * sn) k) where
    rows_0 : FirstFrom (on_edge_at orb st tol) from each k
    rows_0 = rw (div-add-mod' from sn, mul_comm on sn) at w

    pub first_hit : k < each → Some k ≡ first_contact (contacts_from st orb tol from)
    first_hit h = region_hit (touches_at st orb tol) (3 * each) (on_edge_at orb st tol) 0 each from k from (omega arith) (omega arith) kind_0 rows_0 k (omega arith) h

    pub first_end : each ≤ k → contacts_from st orb tol from ≡ contacts_from st orb tol each
    first_end h = region_end (touches_at st orb tol) (3 * each) (on_edge_at orb st tol) 0 each from k from (omega arith) (omega arith) kind_0 rows_0 each (omega arith) h

  -- stationary vertices by orbiting edges
  module _ (from k : ℕ) (g : each ≤ from) (w : FirstFrom (on_edge_at st orb tol) ((from - each) / on * on + (from - each) % on) each k) where
    rows_1 : FirstFrom (on_edge_at st orb tol) (from - each) each k
    rows_1 = rw (div-add-mod' (from - each) on) at w

    pub later_hit : k < each → Some (each + k) ≡ first_contact (contacts_from st orb tol from)
    later_hit h = region_hit (touches_at st orb tol) (3 * each) (on_edge_at st orb tol) each each (from - each) k from (omega arith) (omega arith) kind_1 rows_1 (each + k) refl h

    pub later_end : each ≤ k → contacts_from st orb tol from ≡ contacts_from st orb tol (2 * each)
    later_end h = region_end (touches_at st orb tol) (3 * each) (on_edge_at st orb tol) each each (from - each) k from (omega arith) (omega arith) kind_1 rows_1 (2 * each) (omega arith) h

  -- stationary edges by orbiting edges
  pub none_past : (from : ℕ) → 3 * each ≤ from → None ≡ first_contact (contacts_from st orb tol from)
  none_past from h = rw (picks_end (touches_at st orb tol) (3 * each) from h) refl

  module _ (from k : ℕ) (g : 2 * each ≤ from) (w : FirstFrom (along_edge_at st orb tol) ((from - 2 * each) / on * on + (from - 2 * each) % on) each k) where
    rows_2 : FirstFrom (along_edge_at st orb tol) (from - 2 * each) each k
    rows_2 = rw (div-add-mod' (from - 2 * each) on) at w

    pub last_hit : k < each → Some (2 * each + k) ≡ first_contact (contacts_from st orb tol from)
    last_hit h = region_hit (touches_at st orb tol) (3 * each) (along_edge_at st orb tol) (2 * each) each (from - 2 * each) k from (omega arith) (omega arith) kind_2 rows_2 (2 * each + k) refl h

    pub last_none : each ≤ k → None ≡ first_contact (contacts_from st orb tol from)
    last_none h =
        none_past (3 * each) (omega arith)
        ∙ sym (ap first_contact (region_end (touches_at st orb tol) (3 * each) (along_edge_at st orb tol) (2 * each) each (from - 2 * each) k from (omega arith) (omega arith) kind_2 rows_2 (3 * each) (omega arith) h))

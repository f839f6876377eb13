-- One way of putting aside after the other: what is left of the row decides, and what is kept for the answer. Assumes nothing.
use Prim.Native.Nat.{ℕ, suc, ◌+◌, ◌-◌, ◌≤◌, ◌<◌}
use native.Mathlib.Numerals.{add-one}
use native.Mathlib.Omega.{arith}
use mathlib.Core.Path.{◌≡◌, sym, ap, subst, ◌∙◌}
use mathlib.Core.List.{List}
use Rattle.shifted.specs.declared.Spot.{Spot}
use Rattle.put_aside.proofs.Off.{aside_none, stays_as_it_is}
use Rattle.reasons.specs.Check.{Ground, clear, edge, enclosed}
use Rattle.reason_search.specs.Search.{search_of}
use Rattle.reason_search.specs.Room.{room_of}
use Rattle.reason_search.proofs.Lines.{lines_front}
use Rattle.drawn_aside.specs.Found.{found_by, Least, clear_by, edge_first, enclosed_by, or_else, least_from, unparted, least_how}
use Rattle.clear_aside.specs.Aside.{least, DiscMoved, LinesHeld, Kept}
use Rattle.clear_aside.specs.declared.Found.TheVariants.{Clear, Edge, Enclosed}
use Rattle.clear_aside.proofs.Held.{end_pairs}

-- ---- the row, up to n

module _ (f : ℕ → Ground) (k n : ℕ) (last : Least) where
  one_less : k < n → n - k ≡ suc (n - (k + 1))
  one_less h = omega arith

  module _ (h : k < n) {v : Ground} (e : v ≡ f k) where
    pub how_on : {j : ℕ} → v ≡ edge j → least_from f k (n - k) last ≡ least_from f (k + 1) (n - (k + 1)) last
    unfolding least_from or_else
    how_on t = rw (one_less h, ← e, t, add-one k)

    pub how_clear : v ≡ clear → least_from f k (n - k) last ≡ clear_by k
    unfolding least_from or_else
    how_clear t = rw (one_less h, ← e, t)

    pub how_enclosed : v ≡ enclosed → least_from f k (n - k) last ≡ enclosed_by k
    unfolding least_from or_else
    how_enclosed t = rw (one_less h, ← e, t)

  pub how_end : n ≤ k → least_from f k (n - k) last ≡ last
  unfolding least_from
  how_end h = let z : n - k ≡ 0 = omega arith in rw z

-- ---- the first of them, the search as it is

module _ (st a b : List ℕ) (from to : Spot) (M : DiscMoved a b from to) {v : Ground} (e : v ≡ search_of st a b) where
  as_found : v ≡ found_by st a b from to 0
  unfolding found_by
  as_found =
      e
      ∙ rw (
        stays_as_it_is a from to M.starts_small,
        stays_as_it_is b from to M.ends_small,
        aside_none a from to M.pairs,
        aside_none b from to (end_pairs M),
      )

  abbrev found : ℕ → Ground
  found = found_by st a b from to

  abbrev last_word : Least
  last_word = edge_first (unparted (found 0))

  pub first_clear : v ≡ clear → clear_by 0 ≡ least_how st a b from to
  unfolding least_how
  first_clear t = sym (how_clear found 0 21 last_word (omega arith) as_found t)

  pub first_enclosed : v ≡ enclosed → enclosed_by 0 ≡ least_how st a b from to
  unfolding least_how
  first_enclosed t = sym (how_enclosed found 0 21 last_word (omega arith) as_found t)

  pub first_edge : {j : ℕ} {r : Least} → v ≡ edge j → r ≡ least_from found 1 20 (edge_first j) → r ≡ least_how st a b from to
  unfolding least_how
  first_edge {j} t q =
      let word : edge_first j ≡ last_word = rw (← as_found, t) in
      q ∙ ap (least_from found 1 20) word ∙ sym (how_on found 0 21 last_word (omega arith) as_found t)

  pub first_lines : (held : List ℕ) {out : List ℕ} → out ≡ room_of st a b held → v ≡ clear → LinesHeld st a b from to 0 out
  first_lines held g t =
      rw (aside_none a from to M.pairs, aside_none b from to (end_pairs M)) (lines_front st a b held g (sym e ∙ t))

-- ---- what is kept

module _ (st a b : List ℕ) (from to : Spot) (lines : List ℕ) where
  pub kept_clear : (k : ℕ) → LinesHeld st a b from to k lines → Kept st a b from to (Clear k) lines
  kept_clear k h how e =
      let q : clear_by k ≡ clear_by how = ap least e in
      let r : k ≡ how = cc in
      subst (λ (i : ℕ). LinesHeld st a b from to i lines) r h

  pub kept_edge : (j : ℕ) → Kept st a b from to (Edge j) lines
  kept_edge j how e = let q = ap least e in cc

  pub kept_enclosed : (k : ℕ) → Kept st a b from to (Enclosed k) lines
  kept_enclosed k how e = let q = ap least e in cc

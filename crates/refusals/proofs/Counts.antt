-- Vertex counts: their bounds, and loops over them, in which what is left of the list decides. Assumes nothing.
use Prim.Native.Nat.{ℕ, ◌+◌, ◌*◌, ◌≤◌, ◌<◌}
use native.Mathlib.Omega.{arith}
use native.Mathlib.Numerals.{add-one}
use mathlib.Core.Path.{◌≡◌, sym, ◌∙◌}
use mathlib.Core.Bool.{true, ◌&&◌}
use mathlib.Core.List.{List, [], ◌∷◌}
use lib.ListN.{length, get_or, drop, drop_of_length-le}
use lib.Seq.{drop-cons}
use lib.Dec.{leb}
use borrow.Author.Tests.{le-leb, leb-true}
use Rattle.laws.proofs.Both.{both}
use Rattle.refusals.specs.Rings.{vertices_least, vertices_most, within, total, sized_all}

pub within_true : (low high n : ℕ) → low ≤ n → n ≤ high → within low high n ≡ true
within_true low high n h k = rw (le-leb low n h, le-leb n high k)

pub is_within : (low high n : ℕ) → within low high n ≡ true → (low ≤ n) × (n ≤ high)
is_within low high n h = let p = both (leb low n) (leb n high) h in (leb-true low n p.0, leb-true n high p.1)

pub total_bounds : (ns : List ℕ) → sized_all ns ≡ true → (vertices_least * length ns ≤ total ns) × (total ns ≤ vertices_most * length ns)
unfolding sized_all total
total_bounds [] h = ((omega arith), (omega arith))
total_bounds (n ∷ ns) h =
    let p = both (within vertices_least vertices_most n) (sized_all ns) h in
    let w = is_within vertices_least vertices_most n p.0 in
    let b = total_bounds ns p.1 in
    ((omega arith), (omega arith))

module _ (ns : List ℕ) (i : ℕ) where
  pub total_on : i < length ns → total (drop i ns) ≡ get_or ns i 0 + total (drop (i + 1) ns)
  unfolding total
  total_on h = rw (drop-cons ns i 0 h, add-one)

  pub total_end : length ns ≤ i → total (drop i ns) ≡ 0
  unfolding total
  total_end h = rw (drop_of_length-le ns h)

  sized_is : i < length ns → sized_all (drop i ns) ≡ (within vertices_least vertices_most (get_or ns i 0) && sized_all (drop (i + 1) ns))
  unfolding sized_all
  sized_is h = rw (drop-cons ns i 0 h, add-one)

  -- a list that passes, from here on
  pub sized_here : i < length ns → sized_all (drop i ns) ≡ true → (vertices_least ≤ get_or ns i 0) × (get_or ns i 0 ≤ vertices_most) × (sized_all (drop (i + 1) ns) ≡ true)
  sized_here h t =
      let p = both (within vertices_least vertices_most (get_or ns i 0)) (sized_all (drop (i + 1) ns)) (sym (sized_is h) ∙ t) in
      let q = is_within vertices_least vertices_most (get_or ns i 0) p.0 in
      (q.0, q.1, p.1)

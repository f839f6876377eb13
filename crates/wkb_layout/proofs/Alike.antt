-- Of the same coordinates, the files in two byte orders are read alike: the same first fault, the same vertices, the same ring. Assumes
-- nothing.
use Prim.Native.Nat.{ℕ, ◌-◌, ◌*◌, ◌/◌, ◌^◌, ◌<◌}
use native.Mathlib.Omega.{arith}
use mathlib.Core.Path.{◌≡◌, sym, ap, ◌∙◌}
use mathlib.Core.List.{List, map}
use lib.ListN.{length, take}
use lib.Ieee.{binary64, of_bits}
use Rattle.number_bytes.specs.Bytes.{Each}
use Rattle.wkb_layout.specs.Layout.{code_bytes, points_at, wkb_of, code_in, open_vertices, open_numbers}
use Rattle.wkb_layout.specs.Faults.{wkb_check}
use Rattle.wkb_layout.specs.Reader.{open_ring}
use Rattle.wkb_layout.specs.declared.Order.{Order}
use Rattle.wkb_layout.proofs.Numbers.{Pattern}
use Rattle.wkb_layout.proofs.Checks.{all_numbers, same_check}
use Rattle.wkb_layout.proofs.ReadBack.{length_file, order_small, type_back, rings_back, points_back, numbers_in_lem, closes_back}

module _ (cs : List ℕ) (fit : Each Pattern cs) (few : length cs / 2 < 256 ^ code_bytes) where
  -- what is read does not depend on the order
  all_in : (o : Order) → all_numbers (wkb_of o cs) ≡ take (2 * (length cs / 2)) cs
  all_in o =
      let k = 2 * code_in (wkb_of o cs) points_at in
      let e : k ≡ 2 * (length cs / 2) = omega (arith, points_back o cs few) in
      numbers_in_lem o cs fit k (omega (arith, e)) ∙ ap (λ (j : ℕ). take j cs) e

  open_in : (o : Order) → open_numbers (wkb_of o cs) ≡ take (2 * (length cs / 2 - 1)) cs
  unfolding open_numbers
  open_in o =
      let k = 2 * open_vertices (wkb_of o cs) in
      let e : k ≡ 2 * (length cs / 2 - 1) = omega (arith, points_back o cs few) in
      numbers_in_lem o cs fit k (omega (arith, e)) ∙ ap (λ (j : ℕ). take j cs) e

  module _ (o p : Order) where
    pub check_alike : wkb_check (wkb_of o cs) ≡ wkb_check (wkb_of p cs)
    check_alike =
        same_check
        (wkb_of o cs)
        (wkb_of p cs)
        (length_file o cs ∙ sym (length_file p cs))
        (order_small o cs)
        (order_small p cs)
        (type_back o cs ∙ sym (type_back p cs))
        (rings_back o cs ∙ sym (rings_back p cs))
        (points_back o cs few ∙ sym (points_back p cs few))
        (all_in o ∙ sym (all_in p))
        (closes_back o cs fit few ∙ sym (closes_back p cs fit few))

    pub vertices_alike : open_vertices (wkb_of o cs) ≡ open_vertices (wkb_of p cs)
    vertices_alike = omega (arith, points_back o cs few, points_back p cs few)

    pub ring_alike : open_ring (wkb_of o cs) ≡ open_ring (wkb_of p cs)
    ring_alike = ap (map (of_bits binary64)) (open_in o ∙ sym (open_in p))

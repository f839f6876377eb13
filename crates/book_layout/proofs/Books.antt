-- Two books are the same bytes exactly if the least readings of the rings are the same, and the parts. Assumes nothing.
use Prim.Native.Nat.{ℕ, ◌<◌}
use native.Mathlib.Omega.{arith}
use mathlib.Core.Path.{◌≡◌, ap₂}
use mathlib.Core.Logic.{◌↔◌}
use mathlib.Core.List.{List, [], ◌∷◌, map}
use lib.ListN.{length, length-map}
use Rattle.reading.specs.Reading.{Vertex, least_reading}
use Rattle.number_bytes.specs.Bytes.{Each}
use Rattle.book_layout.specs.Layout.{layout, book_of, Corner, Outline, Accepted}
use Rattle.reading.proofs.Leasts.{least_reads, length_least}
use Rattle.book_layout.proofs.Each.{each_reads}
use Rattle.book_layout.proofs.Laid.{layout_inj}

least_outline : (r : List Vertex) → Outline r → Outline (least_reading r)
least_outline r o =
    let n : 0 < length r = omega (arith, o.least) in
    let e = length_least r n in
    record { least = omega (arith, o.least); most = omega (arith, o.most); corners = each_reads Corner (least_reads r n) o.corners }

least_each : (rs : List (List Vertex)) → Each Outline rs → Each Outline (map least_reading rs)
least_each [] h = tt
least_each (r ∷ rs) h = (least_outline r h.0, least_each rs h.1)

pub least_accepted : (rs : List (List Vertex)) (ps : List ℕ) → Accepted rs ps → Accepted (map least_reading rs) ps
least_accepted rs ps a =
    let e = length-map rs least_reading in
    record {
      least = omega (arith, a.least);
      most = omega (arith, a.most);
      rings = least_each rs a.rings;
      many = omega (arith, a.many);
      parts = a.parts;
    }

pub same_book : (rs xs : List (List Vertex)) (ps qs : List ℕ) → Accepted rs ps → Accepted xs qs
    → (book_of rs ps ≡ book_of xs qs) ↔ ((map least_reading rs ≡ map least_reading xs) × (ps ≡ qs))
unfolding book_of
same_book rs xs ps qs a b = (
  layout_inj (map least_reading rs) (map least_reading xs) ps qs (least_accepted rs ps a) (least_accepted xs qs b),
  λ e. ap₂ layout e.0 e.1,
)

-- Discs that are computed, so that the definitions say what they should. Assumes nothing.
use mathlib.Core.Path.{◌≡◌, refl}
use mathlib.Core.List.{[], ◌∷◌}
use lib.IntN.{pos, negsuc}
use lib.Ieee.{Float, neg, of_int, of_bits, add, mul, div, lt, le, eq}
use Rattle.scalar.specs.Float.{float, f0, f1}
use Rattle.plane.specs.Vector.{point}
use Rattle.ring.specs.Points.{points}
use Rattle.refusals.specs.Refusals.{refuse}
use Rattle.refusals.specs.Bounds.{coordinate, finite, every}
use Rattle.refusals.specs.Answers.{answers, refuses}
use Rattle.disc_table.specs.Table.{table_x, table_y, entry_of}
use Rattle.disc_table.specs.declared.Entry.{Entry}
use Rattle.discs.specs.Disc.{quarter_ok, quarter_turn, turned_by, entry_at, reach_of, vertex_of, disc_of}
use Rattle.discs.specs.Calls.{of_disc, of_vertices, disc_refusal, disc_call}

-- the eight entries of a disc of eight vertices: 0.6 and 0.8 of 2^30, rounded down, and each quarter's turned from the one before
eight : (◌≡◌ {A = Entry} (entry_at 2 1) (record { x = pos 644245094; y = pos 858993459 })) × (◌≡◌ {A = Entry} (entry_at 2 2) (record { x = pos 0; y = pos 1073741824 })) × (◌≡◌ {A = Entry} (entry_at 2 3) (record { x = negsuc 858993458; y = pos 644245094 })) × (◌≡◌ {A = Entry} (entry_at 2 4) (record { x = negsuc 1073741823; y = pos 0 })) × (◌≡◌ {A = Entry} (entry_at 2 7) (record { x = pos 858993459; y = negsuc 644245093 }))
unfolding entry_at turned_by quarter_turn entry_of table_x table_y
eight = (refl, refl, refl, refl, refl)

f_1 : Float
f_1 = neg f1

-- about -0.0: no entry 0 is -0.0, so each sum that is zero is +0.0
about_zero : disc_of (point (neg f0) (neg f0)) f1 1 ≡ f1 ∷ f0 ∷ f0 ∷ f1 ∷ f_1 ∷ f0 ∷ f0 ∷ f_1 ∷ []
unfolding f_1 disc_of points vertex_of reach_of entry_at turned_by quarter_turn entry_of table_x table_y of_int of_bits add mul div neg
about_zero = refl

f_3 : Float
f_3 = neg (float 0x4008_0000_0000_0000)

-- the refusals, one before the other: 12, 2 for the radius, 2 for a vertex, 4
refused : (disc_call (point f0 f0) f_3 3 0 ≡ refuses (refuse 12 0)) × (disc_call (point f0 f0) f_3 1 0 ≡ refuses (refuse 2 0)) × (disc_call (point (float 0x412e_8480_0000_0000) f0) f1 1 0 ≡ refuses (refuse 2 0)) × (disc_call (point f0 f0) f1 1 7 ≡ refuses (refuse 4 0)) × (disc_call (point f0 f0) f1 1 8 ≡ answers 4)
unfolding f_3 disc_refusal of_disc of_vertices quarter_ok finite coordinate every disc_of points vertex_of reach_of entry_at turned_by quarter_turn entry_of table_x table_y of_int of_bits add mul div neg lt le eq
refused = (refl, refl, refl, refl, refl)

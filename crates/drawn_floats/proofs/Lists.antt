-- The same of lists: what was put on the grid and moved up, and the picture, place by place. Assumes nothing.
use Prim.Native.Nat.{ℕ, zero, suc, ◌+◌, ◌*◌, ◌≤◌, ◌<◌}
use native.Mathlib.Omega.{arith}
use mathlib.Core.Path.{◌≡◌, refl, ap}
use mathlib.Core.Bool.{true}
use mathlib.Core.List.{List, [], ◌∷◌, map}
use lib.ListN.{length, get_or}
use lib.IntN.{ℤ}
use lib.Ieee.{Float}
use Rattle.laws.proofs.Both.{both}
use Rattle.shifted.specs.Shifted.{in_bounds, up_of}
use Rattle.whole_engine.specs.Rows.{all_in_bounds}
use Rattle.whole_moves.specs.Moved.{moved_by}
use Rattle.drawn.specs.Told.{NearList}
use Rattle.to_grid.specs.Grid.{nearest}
use Rattle.drawn_floats.specs.Picture.{Pictured, Placed, Aside}
use Rattle.drawn_floats.proofs.Off.{Off, off_grid, off_placed, off_aside, off_up}

-- ---- whole numbers off by no more than F

abbrev pub AllOff : (K F : ℕ) → List ℤ → List ℕ → Type 0
AllOff K F [] [] = Unit
AllOff K F [] (X ∷ Xs) = ⊥
AllOff K F (z ∷ zs) [] = ⊥
AllOff K F (z ∷ zs) (X ∷ Xs) = Off K F z X × AllOff K F zs Xs

pub all_grid : (E n : ℕ) (xs : List Float) (Xs : List ℕ) → Pictured E n xs Xs → AllOff (2 * E) E (map (nearest n) xs) Xs
all_grid E n (x ∷ xs) [] h = elim h [ ]
all_grid E n [] (X ∷ Xs) h = elim h [ ]
all_grid E n [] [] h = tt
all_grid E n (x ∷ xs) (X ∷ Xs) h = (off_grid E n x X h.0, all_grid E n xs Xs h.1)

pub all_placed : (E F G : ℕ) (px py : ℤ) (U W : ℕ) (zs : List ℤ) (Xs Zs : List ℕ) → Off (2 * E) G px U → Off (2 * E) G py W
    → AllOff (2 * E) F zs Xs → Placed E U W Xs Zs → AllOff (2 * E) (F + G) (moved_by px py zs) Zs
unfolding moved_by
all_placed E F G px py U W (z ∷ zs) (X ∷ Xs) [] u w r m = elim m [ ]
all_placed E F G px py U W (z ∷ zs) [] Zs u w r m = elim r [ ]
all_placed E F G px py U W [] (X ∷ Xs) Zs u w r m = elim r [ ]
all_placed E F G px py U W [] [] (Z ∷ Zs) u w r m = elim m [ ]
all_placed E F G px py U W [] [] [] u w r m = tt
all_placed E F G px py U W (z ∷ zs) (X ∷ Xs) (Z ∷ Zs) u w r m =
    (off_placed m.0 r.0 u, all_placed E F G py px W U zs Xs Zs w u r.1 m.1)

pub all_aside : (K F w : ℕ) (zs bs : List ℤ) (Xs : List ℕ) → Aside w zs bs → AllOff K F zs Xs → AllOff K (F + K * w) bs Xs
all_aside K F w (z ∷ zs) (a ∷ bs) [] h r = elim r [ ]
all_aside K F w (z ∷ zs) [] Xs h r = elim h [ ]
all_aside K F w [] (a ∷ bs) Xs h r = elim h [ ]
all_aside K F w [] [] (X ∷ Xs) h r = elim r [ ]
all_aside K F w [] [] [] h r = tt
all_aside K F w (z ∷ zs) (a ∷ bs) (X ∷ Xs) h r = (off_aside z h.0.0 h.0.1 h.0.2 r.0, all_aside K F w zs bs Xs h.1 r.1)

-- ---- how long they are

pub pictured_length : (E n : ℕ) (xs : List Float) (Xs : List ℕ) → Pictured E n xs Xs → length Xs ≡ length xs
pictured_length E n (x ∷ xs) [] h = elim h [ ]
pictured_length E n [] (X ∷ Xs) h = elim h [ ]
pictured_length E n [] [] h = refl
pictured_length E n (x ∷ xs) (X ∷ Xs) h = ap suc (pictured_length E n xs Xs h.1)

pub placed_length : (E U W : ℕ) (Xs Zs : List ℕ) → Placed E U W Xs Zs → length Zs ≡ length Xs
placed_length E U W (X ∷ Xs) [] h = elim h [ ]
placed_length E U W [] (Z ∷ Zs) h = elim h [ ]
placed_length E U W [] [] h = refl
placed_length E U W (X ∷ Xs) (Z ∷ Zs) h = ap suc (placed_length E W U Xs Zs h.1)

-- ---- the points of their lists

module _ (K F : ℕ) where
  same_length : (zs : List ℤ) (Xs : List ℕ) → AllOff K F zs Xs → length Xs ≡ length (map up_of zs)
  same_length (z ∷ zs) [] r = elim r [ ]
  same_length [] (X ∷ Xs) r = elim r [ ]
  same_length [] [] r = refl
  same_length (z ∷ zs) (X ∷ Xs) r = ap suc (same_length zs Xs r.1)

  at_place : (zs : List ℤ) (Xs : List ℕ) → all_in_bounds zs ≡ true → AllOff K F zs Xs → (i : ℕ) → i < length (map up_of zs)
      → (K * (get_or (map up_of zs) i 0 + 1000000) ≤ get_or Xs i 0 + F) × (get_or Xs i 0 ≤ K * (get_or (map up_of zs) i 0 + 1000000) + F)
  unfolding all_in_bounds
  at_place (z ∷ zs) [] h r i l = elim r [ ]
  at_place [] (X ∷ Xs) h r i l = elim r [ ]
  at_place [] [] h r i l = absurd (omega arith)
  at_place (z ∷ zs) (X ∷ Xs) h r zero l = off_up z (both (in_bounds z) _ h).0 r.0
  at_place (z ∷ zs) (X ∷ Xs) h r (suc i) l = at_place zs Xs (both (in_bounds z) _ h).1 r.1 i (omega arith)

  pub near_list : (zs : List ℤ) (Xs : List ℕ) → all_in_bounds zs ≡ true → AllOff K F zs Xs → NearList 1000000 K F (map up_of zs) Xs
  near_list zs Xs h r =
      record {
        same = same_length zs Xs r;
        each =
            λ i l.
            let a = at_place zs Xs h r (2 * i) (omega arith) in
            let b = at_place zs Xs h r (2 * i + 1) (omega arith) in
            record { right = a.1; left = a.0; higher = b.1; lower = b.0 };
      }

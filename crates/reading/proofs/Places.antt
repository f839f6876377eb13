-- Where the coordinates of a reading lie in the ring that is lent. Assumes nothing.
use Prim.Native.Nat.{ℕ, zero, suc, ◌+◌, ◌-◌, ◌*◌, ◌/◌, ◌%◌, ◌≤◌, ◌<◌}
use native.Mathlib.Omega.{arith}
use native.Mathlib.Decide.{dec_lt}
use native.Mathlib.Nat.{not-suc-le-zero}
use native.Mathlib.Numerals.{add-one}
use mathlib.Core.Path.{◌≡◌, refl, sym, ap, ◌∙◌}
use mathlib.Core.Bool.{Bool, true, false, not, cond}
use mathlib.Core.List.{List, [], ◌∷◌, ◌++◌, map, reverse, reverse-cons}
use lib.ListN.{length, get_or, take, drop, length-drop, length-reverse, length-map, drop_of_length-le, get_or-append, get_or-map}
use lib.Seq.{get_or-append-add, get_or_at, get_or-drop, get_or-take, drop-cons}
use lib.Dec.{ltb}
use lib.Ieee.{Float, nan}
use borrow.Author.Tests.{ltb-true, ltb-false, lt-ltb, le-ltb}
use Rattle.reading.specs.Reading.{rot, reading, Vertex, flat, vertices, ord, less, choice}
use Rattle.reading.specs.Lent.{kept, ring_of, wrap, vertex_place}
use Rattle.reading.proofs.Turning.{length_rot, length_reading}
use Rattle.reading.proofs.Leasts.{length_flat}
use Rattle.reading.proofs.Order.{less_lower, less_higher, less_equal, ord_inj}

-- ---- the vertices

pub wrap_low : (n i : ℕ) → i < n → wrap n i ≡ i
wrap_low n i h = rw (lt-ltb i n h)

pub wrap_high : (n i : ℕ) → n ≤ i → wrap n i ≡ i - n
wrap_high n i h = rw (le-ltb i n h)

pub vertex_onward : (n c i : ℕ) → c < n → vertex_place n c i ≡ wrap n (c + i)
unfolding vertex_place
vertex_onward n c i h = rw (lt-ltb c n h)

pub vertex_back : (n c i : ℕ) → n ≤ c → vertex_place n c i ≡ wrap n (c - i)
unfolding vertex_place
vertex_back n c i h = rw (le-ltb c n h)

-- the four ends of `vertex`
module _ (n c i : ℕ) (low : c < 2 * n) (k : i < n) where
  pub onward_low : c < n → c + i < n → (c + i ≡ vertex_place n c i) × (c + i < n)
  onward_low h l = (sym (vertex_onward n c i h ∙ wrap_low n (c + i) l), l)

  pub onward_high : c < n → n ≤ c + i → (c + i - n ≡ vertex_place n c i) × (c + i - n < n)
  onward_high h l = (sym (vertex_onward n c i h ∙ wrap_high n (c + i) l), (omega arith))

  pub back_low : n ≤ c → c - i < n → (c - i ≡ vertex_place n c i) × (c - i < n)
  back_low h l = (sym (vertex_back n c i h ∙ wrap_low n (c - i) l), l)

  pub back_high : n ≤ c → n ≤ c - i → (c - i - n ≡ vertex_place n c i) × (c - i - n < n)
  back_high h l = (sym (vertex_back n c i h ∙ wrap_high n (c - i) l), (omega arith))

module _ {A : Type 0} (d : A) where
  rot_at : (k : ℕ) (r : List A) (i : ℕ) → k ≤ length r → i < length r → get_or (rot k r) i d ≡ get_or r (wrap (length r) (k + i)) d
  rot_at k r i h l = go (dec_lt (k + i) (length r))
    where
      e : length (drop k r) ≡ length r - k
      e = length-drop k r

      go : Dec (k + i < length r) → get_or (rot k r) i d ≡ get_or r (wrap (length r) (k + i)) d
      go (yes m) =
          get_or-append (drop k r) (take k r) d i (omega (arith, e))
          ∙ get_or-drop k r i d
          ∙ ap (λ (j : ℕ). get_or r j d) (sym (wrap_low (length r) (k + i) m))
      go (no m) =
          let j = k + i - length r in
          ap (λ (x : ℕ). get_or (rot k r) x d) (omega (arith, e))
          ∙ get_or-append-add (drop k r) (take k r) j d
          ∙ get_or-take k r j d (omega arith)
          ∙ ap (λ (x : ℕ). get_or r x d) (sym (wrap_high (length r) (k + i) (omega arith)))

  reverse_at : (r : List A) (i : ℕ) → i < length r → get_or (reverse r) i d ≡ get_or r (length r - suc i) d
  reverse_at [] i h = absurd (not-suc-le-zero h)
  reverse_at (a ∷ r) i h = ap (λ (l : List A). get_or l i d) (reverse-cons a r) ∙ go (dec_lt i (length r)) (reverse_at r i)
    where
      e : length (reverse r) ≡ length r
      e = length-reverse r

      go : Dec (i < length r) → (i < length r → get_or (reverse r) i d ≡ get_or r (length r - suc i) d) → get_or (reverse r ++ (a ∷ [])) i d ≡ get_or (a ∷ r) (suc (length r) - suc i) d
      go (yes l) ih =
          let z : suc (length r) - suc i ≡ suc (length r - suc i) = omega arith in
          get_or-append (reverse r) (a ∷ []) d i (omega (arith, e)) ∙ ih l ∙ ap (λ (j : ℕ). get_or (a ∷ r) j d) (sym z)
      go (no l) ih =
          let z : suc (length r) - suc i ≡ 0 = omega arith in
          get_or_at (reverse r) a [] d i (omega (arith, e)) ∙ ap (λ (j : ℕ). get_or (a ∷ r) j d) (sym z)

  pub choice_at : (r : List A) (c i : ℕ) → c < 2 * length r → i < length r → get_or (choice r c) i d ≡ get_or r (vertex_place (length r) c i) d
  choice_at r c i h l = go (ltb c (length r)) refl
    where
      go : (b : Bool) → ltb c (length r) ≡ b → get_or (reading r (cond b c (c - length r)) (not b)) i d ≡ get_or r (vertex_place (length r) c i) d
      go true e =
          let m : c < length r = ltb-true _ _ e in
          rot_at c r i (omega arith) l ∙ ap (λ (j : ℕ). get_or r j d) (sym (vertex_onward (length r) c i m))
      go false e =
          let m : length r ≤ c = ltb-false _ _ e in
          let s = suc (c - length r) in
          let k : length (rot s r) ≡ length r = length_rot s r in
          let z : s + (length r - suc i) ≡ c - i = omega arith in
          reverse_at (rot s r) i (omega arith)
          ∙ ap (λ (x : ℕ). get_or (rot s r) (x - suc i) d) k
          ∙ rot_at s r (length r - suc i) (omega arith) (omega arith)
          ∙ ap (λ (x : ℕ). get_or r (wrap (length r) x) d) z
          ∙ ap (λ (x : ℕ). get_or r x d) (sym (vertex_back (length r) c i m))

-- ---- the coordinates

-- in range, the default says nothing
any_default : {A : Type 0} (l : List A) (i : ℕ) (d d' : A) → i < length l → get_or l i d ≡ get_or l i d'
any_default [] i d d' h = absurd (not-suc-le-zero h)
any_default (a ∷ l) zero d d' h = refl
any_default (a ∷ l) (suc i) d d' h = any_default l i d d' (omega arith)

-- a vertex that no ring asks for
abbrev pub nowhere : Vertex
nowhere = record { x = 0; y = 0 }

flat_even : (p : List Vertex) (i : ℕ) → get_or (flat p) (2 * i) 0 ≡ (get_or p i nowhere).x
flat_even [] i = refl
flat_even (v ∷ p) zero = refl
flat_even (v ∷ p) (suc i) =
    let e : 2 * suc i ≡ suc (suc (2 * i)) = omega arith in
    rw e (flat_even p i)

flat_odd : (p : List Vertex) (i : ℕ) → get_or (flat p) (2 * i + 1) 0 ≡ (get_or p i nowhere).y
flat_odd [] i = refl
flat_odd (v ∷ p) zero = refl
flat_odd (v ∷ p) (suc i) =
    let e : 2 * suc i + 1 ≡ suc (suc (2 * i + 1)) = omega arith in
    rw e (flat_odd p i)

pub flat_vertices : (l : List ℕ) → length l % 2 ≡ 0 → flat (vertices l) ≡ l
flat_vertices [] h = refl
flat_vertices (a ∷ []) h = absurd (omega arith)
flat_vertices (a ∷ b ∷ l) h = ap (λ (t : List ℕ). a ∷ b ∷ t) (flat_vertices l (omega arith))

-- two rings whose vertices are related by place have coordinates related by place
pub coord_of_vertex : (p r : List Vertex) (v j : ℕ) → get_or p (j / 2) nowhere ≡ get_or r v nowhere → get_or (flat p) j 0 ≡ get_or (flat r) (2 * v + j % 2) 0
coord_of_vertex p r v j e = go (j % 2) refl (omega arith)
  where
    go : (m : ℕ) → j % 2 ≡ m → m < 2 → get_or (flat p) j 0 ≡ get_or (flat r) (2 * v + m) 0
    go zero q h =
        ap (λ (k : ℕ). get_or (flat p) k 0) (omega arith)
        ∙ flat_even p (j / 2) ∙ ap (λ (w : Vertex). w.x) e ∙ sym (flat_even r v)
        ∙ ap (λ (k : ℕ). get_or (flat r) k 0) (omega arith)
    go (suc m) q h =
        let z : m ≡ 0 = omega arith in
        ap (λ (k : ℕ). get_or (flat p) k 0) (omega arith)
        ∙ flat_odd p (j / 2) ∙ ap (λ (w : Vertex). w.y) e ∙ sym (flat_odd r v)
        ∙ ap (λ (k : ℕ). get_or (flat r) k 0) (omega arith)

module _ (xs : List Float) (even : length xs % 2 ≡ 0) where
  pub length_ringOf : length xs ≡ 2 * length (ring_of xs)
  length_ringOf =
      let m : length (map kept xs) ≡ length xs = length-map xs kept in
      sym m ∙ ap length (sym (flat_vertices (map kept xs) (omega arith))) ∙ length_flat (ring_of xs)

  -- coordinate i of the ring
  lent_at : (i : ℕ) → i < length xs → get_or (flat (ring_of xs)) i 0 ≡ kept (get_or xs i nan)
  lent_at i h =
      let m : length (map kept xs) ≡ length xs = length-map xs kept in
      ap (λ (l : List ℕ). get_or l i 0) (flat_vertices (map kept xs) (omega arith))
      ∙ any_default (map kept xs) i 0 (kept nan) (omega arith)
      ∙ get_or-map kept xs i nan

  -- coordinate j of the reading c, where the vertex that it belongs to is v
  pub coord_at : (c j v : ℕ) → c < length xs → j < length xs → v ≡ vertex_place (length xs / 2) c (j / 2) → v < length xs / 2
      → kept (get_or xs (2 * v + j % 2) nan) ≡ get_or (flat (choice (ring_of xs) c)) j 0
  coord_at c j v h k e l =
      let r = ring_of xs in
      let n : length xs / 2 ≡ length r = omega (arith, length_ringOf) in
      sym
      (coord_of_vertex (choice r c) r v j (choice_at nowhere r c (j / 2) (omega (arith, length_ringOf)) (omega (arith, length_ringOf)) ∙ ap (λ (i : ℕ). get_or r i nowhere) (ap (λ (m : ℕ). vertex_place m c (j / 2)) (sym n) ∙ sym e))
      ∙ lent_at (2 * v + j % 2) (omega arith))

  pub length_choice : (c : ℕ) → length (flat (choice (ring_of xs) c)) ≡ length xs
  length_choice c =
      let r = ring_of xs in
      length_flat (choice r c) ∙ ap (λ (m : ℕ). 2 * m) (length_reading r (cond (ltb c (length r)) c (c - length r)) (not (ltb c (length r)))) ∙ sym length_ringOf

-- ---- the loop of `before`: what is left of the two readings decides

module _ (p q : List ℕ) (j : ℕ) (h : j < length p) (k : j < length q) where
  opened : less (drop j p) (drop j q) ≡ less (get_or p j 0 ∷ drop (suc j) p) (get_or q j 0 ∷ drop (suc j) q)
  opened = rw (drop-cons p j 0 h, drop-cons q j 0 k)

  pub left_lower : ord (get_or p j 0) < ord (get_or q j 0) → less (drop j p) (drop j q) ≡ true
  left_lower l = opened ∙ less_lower (get_or p j 0) (get_or q j 0) (drop (suc j) p) (drop (suc j) q) l

  pub left_higher : ord (get_or q j 0) < ord (get_or p j 0) → less (drop j p) (drop j q) ≡ false
  left_higher l = opened ∙ less_higher (get_or p j 0) (get_or q j 0) (drop (suc j) p) (drop (suc j) q) l

  pub left_equal : ord (get_or p j 0) ≡ ord (get_or q j 0) → less (drop j p) (drop j q) ≡ less (drop (j + 1) p) (drop (j + 1) q)
  left_equal e =
      opened
      ∙ less_equal (get_or p j 0) (get_or q j 0) (drop (suc j) p) (drop (suc j) q) (ord_inj (get_or p j 0) (get_or q j 0) e)
      ∙ ap (λ (m : ℕ). less (drop m p) (drop m q)) (sym (add-one j))

pub left_none : (p q : List ℕ) (j : ℕ) → length p ≤ j → length q ≤ j → less (drop j p) (drop j q) ≡ false
unfolding less
left_none p q j h k = rw (drop_of_length-le p h, drop_of_length-le q k)

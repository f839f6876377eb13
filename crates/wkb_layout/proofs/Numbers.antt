-- Coordinates one after the other, by their bit patterns: read back from their bytes, and written again from what was
-- read. Assumes nothing.
use Prim.Native.Nat.{ℕ, zero, suc, ◌+◌, ◌*◌, ◌^◌, ◌≤◌, ◌<◌}
use native.Mathlib.Omega.{arith}
use mathlib.Core.Path.{◌≡◌, refl, sym, ap, ap₂, ◌∙◌}
use mathlib.Core.List.{List, [], ◌∷◌, ◌++◌}
use lib.ListN.{length, get_or, take, drop, length-append, length-drop}
use lib.Seq.{drop-nil, drop-drop, take-add}
use Rattle.number_bytes.specs.Bytes.{number_of, Byte, Each}
use Rattle.number_bytes.proofs.Each.{each_drop}
use Rattle.wkb_layout.specs.Layout.{number_bytes, written_as, read_as, numbers_as, numbers_in}
use Rattle.wkb_layout.specs.declared.Order.{Order}
use Rattle.wkb_layout.specs.declared.Order.TheVariants.{Big, Little}
use Rattle.wkb_layout.proofs.Ordered.{length_written, take_written, drop_written, written_read, read_lt}

-- what eight bytes hold
abbrev pub Pattern : ℕ → Type 0
Pattern c = c < 2 ^ 64

pub length_numbersAs : (o : Order) (cs : List ℕ) → length (numbers_as o cs) ≡ number_bytes * length cs
unfolding numbers_as
length_numbersAs o [] = refl
length_numbersAs o (c ∷ cs) =
    omega (arith, length-append (written_as o number_bytes c) (numbers_as o cs), length_written o number_bytes c, length_numbersAs o cs)

pub length_numbersIn : (o : Order) (k : ℕ) (f : List ℕ) → length (numbers_in o k f) ≡ k
unfolding numbers_in
length_numbersIn o zero f = refl
length_numbersIn o (suc k) f = ap suc (length_numbersIn o k (drop number_bytes f))

-- ---- what was laid out is read back: some of it from the front on, and at each place

pub numbers_back : (o : Order) (k : ℕ) (cs : List ℕ) → Each Pattern cs → k ≤ length cs → numbers_in o k (numbers_as o cs) ≡ take k cs
unfolding numbers_in numbers_as
numbers_back o zero cs h n = refl
numbers_back o (suc k) [] h n = absurd (omega arith)
numbers_back o (suc k) (c ∷ cs) h n =
    ap₂ (λ (a : ℕ) (l : List ℕ). a ∷ l)
    (take_written o number_bytes c (numbers_as o cs) h.0)
    (ap (numbers_in o k) (drop_written o number_bytes c (numbers_as o cs)) ∙ numbers_back o k cs h.1 (omega arith))

-- no bytes are a 0
read_none : (o : Order) → read_as o [] ≡ 0
unfolding read_as number_of
read_none Big = refl
read_none Little = refl

pub number_back : (o : Order) (cs : List ℕ) (i : ℕ) → Each Pattern cs
    → read_as o (take number_bytes (drop (number_bytes * i) (numbers_as o cs))) ≡ get_or cs i 0
unfolding numbers_as
number_back o [] i h = ap (λ (l : List ℕ). read_as o (take number_bytes l)) (drop-nil (number_bytes * i)) ∙ read_none o
number_back o (c ∷ cs) zero h = take_written o number_bytes c (numbers_as o cs) h.0
number_back o (c ∷ cs) (suc i) h =
    let l = written_as o number_bytes c ++ numbers_as o cs in
    let e : number_bytes * suc i ≡ number_bytes + number_bytes * i = omega arith in
    let d : drop (number_bytes * suc i) l ≡ drop (number_bytes * i) (numbers_as o cs) =
    ap (λ (j : ℕ). drop j l) e
    ∙ sym (drop-drop (number_bytes * i) number_bytes l)
    ∙ ap (drop (number_bytes * i)) (drop_written o number_bytes c (numbers_as o cs)) in
    ap (λ (m : List ℕ). read_as o (take number_bytes m)) d ∙ number_back o cs i h.1

-- ---- what was read: in two parts, its size, and its bytes

pub numbers_add : (o : Order) (a b : ℕ) (f : List ℕ) → numbers_in o (a + b) f ≡ numbers_in o a f ++ numbers_in o b (drop (number_bytes * a) f)
unfolding numbers_in
numbers_add o zero b f = let e : 0 + b ≡ b = omega arith in ap (λ (n : ℕ). numbers_in o n f) e
numbers_add o (suc a) b f =
    let c = read_as o (take number_bytes f) in
    let e : suc a + b ≡ suc (a + b) = omega arith in
    let d : number_bytes + number_bytes * a ≡ number_bytes * suc a = omega arith in
    ap (λ (n : ℕ). numbers_in o n f) e
    ∙ ap (λ (l : List ℕ). c ∷ l) (numbers_add o a b (drop number_bytes f))
    ∙ ap (λ (g : List ℕ). c ∷ (numbers_in o a (drop number_bytes f) ++ numbers_in o b g))
    (drop-drop (number_bytes * a) number_bytes f ∙ ap (λ (j : ℕ). drop j f) d)

module _ (o : Order) where
  pub numbers_lt : (k : ℕ) (f : List ℕ) → Each Byte f → number_bytes * k ≤ length f → Each Pattern (numbers_in o k f)
  unfolding numbers_in
  numbers_lt zero f h n = tt
  numbers_lt (suc k) f h n = (
    read_lt o number_bytes f h (omega arith),
    numbers_lt k (drop number_bytes f) (each_drop Byte number_bytes f h) (omega (arith, length-drop number_bytes f)),
  )

  pub numbers_again : (k : ℕ) (f : List ℕ) → Each Byte f → number_bytes * k ≤ length f
      → numbers_as o (numbers_in o k f) ≡ take (number_bytes * k) f
  unfolding numbers_in numbers_as
  numbers_again zero f h n = refl
  numbers_again (suc k) f h n =
      let e : number_bytes * suc k ≡ number_bytes + number_bytes * k = omega arith in
      let rest : numbers_as o (numbers_in o k (drop number_bytes f)) ≡ take (number_bytes * k) (drop number_bytes f) =
      numbers_again k (drop number_bytes f) (each_drop Byte number_bytes f h) (omega (arith, length-drop number_bytes f)) in
      ap₂ (λ (a b : List ℕ). a ++ b) (written_read o number_bytes f h (omega arith)) rest
      ∙ sym (ap (λ (j : ℕ). take j f) e ∙ take-add number_bytes (number_bytes * k) f)

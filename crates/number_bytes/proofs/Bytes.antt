-- Numbers and their bytes, there and back. Assumes nothing.
use Prim.Native.Nat.{ℕ, zero, suc, ◌+◌, ◌*◌, ◌/◌, ◌%◌, ◌^◌, ◌≤◌, ◌<◌}
use native.Mathlib.Omega.{arith}
use native.Mathlib.Nat.{pow-succ'}
use mathlib.Core.Path.{◌≡◌, refl, sym, ap, ◌∙◌}
use mathlib.Core.List.{List, [], ◌∷◌, ◌++◌}
use lib.ListN.{length, get_or, take, drop}
use lib.Seq.{take_at, drop_at, length-take-le}
use Rattle.number_bytes.specs.Bytes.{bytes_of, number_of, Byte, Each}
use Rattle.number_bytes.proofs.Each.{each_take}

-- ---- a number is read back from its bytes

pub length_bytesOf : (k n : ℕ) → length (bytes_of k n) ≡ k
unfolding bytes_of
length_bytesOf zero n = refl
length_bytesOf (suc k) n = ap suc (length_bytesOf k (n / 256))

quotient : (n m : ℕ) → n < 256 * m → n / 256 < m
quotient n m h = omega arith

number_bytes : (k n : ℕ) → n < 256 ^ k → number_of (bytes_of k n) ≡ n
unfolding bytes_of number_of
number_bytes zero n h = omega arith
number_bytes (suc k) n h =
    let e : number_of (bytes_of k (n / 256)) ≡ n / 256 = number_bytes k (n / 256) (quotient n (256 ^ k) (rw pow-succ' at h)) in
    omega arith

pub take_number : (k n : ℕ) (q : List ℕ) → n < 256 ^ k → number_of (take k (bytes_of k n ++ q)) ≡ n
take_number k n q h = ap number_of (take_at (bytes_of k n) q k (length_bytesOf k n)) ∙ number_bytes k n h

pub drop_number : (k n : ℕ) (q : List ℕ) → drop k (bytes_of k n ++ q) ≡ q
drop_number k n q = drop_at (bytes_of k n) q k (length_bytesOf k n)

-- ---- a number's bytes are those that it was read from

pub each_byte : (f : List ℕ) → ((i : ℕ) → get_or f i 0 < 256) → Each Byte f
each_byte [] g = tt
each_byte (b ∷ f) g = (g 0, each_byte f (λ i. g (suc i)))

low_byte : (b m : ℕ) → b < 256 → (b + 256 * m) % 256 ≡ b
low_byte b m h = omega arith

high_bytes : (b m : ℕ) → b < 256 → (b + 256 * m) / 256 ≡ m
high_bytes b m h = omega arith

bytes_number : (l : List ℕ) → Each Byte l → bytes_of (length l) (number_of l) ≡ l
unfolding bytes_of number_of
bytes_number [] h = refl
bytes_number (b ∷ l) h = rw (low_byte b (number_of l) h.0, high_bytes b (number_of l) h.0) (ap (λ (t : List ℕ). b ∷ t) (bytes_number l h.1))

pub bytes_take : (k : ℕ) (f : List ℕ) → Each Byte f → k ≤ length f → bytes_of k (number_of (take k f)) ≡ take k f
bytes_take k f h n =
    ap (λ (j : ℕ). bytes_of j (number_of (take k f))) (sym (length-take-le k f n)) ∙ bytes_number (take k f) (each_take Byte k f h)

-- the number of k bytes is below 256 ^ k
more_bytes : (b n p : ℕ) → b < 256 → n < p → b + 256 * n < 256 * p
more_bytes b n p h k = omega arith

pub number_lt : (l : List ℕ) → Each Byte l → number_of l < 256 ^ length l
unfolding number_of
number_lt [] h = omega arith
number_lt (b ∷ l) h = rw pow-succ' (more_bytes b (number_of l) (256 ^ length l) h.0 (number_lt l h.1))

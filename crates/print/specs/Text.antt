-- A text in a room of bytes. Definitions only.
use Rattle.std.specs.Prelude.{ℕ, ◌+◌, ◌≡◌, List, [], ◌∷◌, ◌++◌, length, take}
use Rattle.print.specs.Digits.{hex}

-- after a text was put into the room: it follows what the room held up to the place `at`, and ends at the place `next`
pub record Put (room : List ℕ) (at : ℕ) (text after : List ℕ) (next : ℕ) : Type 0 where
  pub ends : next ≡ at + length text
  pub holds : take next after ≡ take at room ++ text

-- " "
abbrev pub space : List ℕ
space = 32 ∷ []

-- the end of a line
abbrev pub newline : List ℕ
newline = 10 ∷ []

-- two numbers in hexadecimal digits
abbrev pub pair_line : ℕ → ℕ → List ℕ
pair_line a b = hex a ++ (space ++ (hex b ++ newline))

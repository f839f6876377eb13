-- A measured piece: what a written rule answers, and the value that docs/SCOPE.md gives. Definitions only.
use Rattle.std.specs.Prelude.{◌≡◌, List, [], ◌∷◌}

pub record Piece : Type 1 where
  pub Answer : Type 0
  pub rule : Answer
  pub value : Answer

infix 68 ◌gives◌
abbrev pub ◌gives◌ : {A : Type 0} → A → A → Piece
◌gives◌ {A} answer told = record { Answer = A; rule = answer; value = told }

-- the rule's answer is that value. Of floats: bit for bit
abbrev pub Holds : Piece → Type 0
Holds p = p.rule ≡ p.value

abbrev pub AllHold : List Piece → Type 0
AllHold [] = Unit {0}
AllHold (p ∷ ps) = Holds p × AllHold ps

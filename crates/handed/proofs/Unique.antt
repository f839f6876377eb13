-- Two runs that meet one statement leave the same. Assumes nothing.
use mathlib.Core.Path.{◌≡◌, sym, ◌∙◌}

-- What an exported function returns, and what each cell and each room holds afterwards, is equal to a definition of what was lent: so no two differ.
pub unique : {A : Type 0} (d x y : A) → x ≡ d → y ≡ d → x ≡ y
unique d x y p q = p ∙ sym q

-- What a test of sameness tells. Definitions only.
use Rattle.std.specs.Prelude.{◌≡◌, Bool, true}

-- where it holds, a is b
abbrev pub Same : {A : Type 0} → Bool → A → A → Type 0
Same r a b = r ≡ true → a ≡ b

-- The line of an explanation, by the nearest hit. Assumes nothing.
use Prim.Native.Nat.{ℕ}
use mathlib.Core.Path.{◌≡◌, sym, ap, ◌∙◌}
use lib.Ieee.{Float}
use Rattle.std.specs.Prelude.{Option, None, Some}
use Rattle.collision.specs.declared.Hit.{Hit}
use Rattle.grounds.specs.Grounds.{ground_number}
use Rattle.grounds.specs.Calls.{account}
use Rattle.grounds.specs.declared.Explanation.{Explanation}
use Rattle.explain_move.specs.Lines.{hit_line, clear_line, found_line}

pub clear_said : (x : Explanation) {n : ℕ} → x.tally.best ≡ None → n ≡ ground_number x.ground
    → clear_line n ≡ found_line (account x).hit (account x)
clear_said x e q = ap clear_line q ∙ ap (λ (b : Option Hit). found_line b (account x)) (sym e)

pub hit_said : (x : Explanation) {h : Hit} → x.tally.best ≡ Some h
    → hit_line h x.tally.others ≡ found_line (account x).hit (account x)
hit_said x e = ap (λ (b : Option Hit). found_line b (account x)) (sym e)

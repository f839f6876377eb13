-- What a caller lends as numbers. Definitions only.
use Rattle.std.specs.Prelude.{ℕ, cond, eqb, Float, Option, None, Some}
use Rattle.plane.specs.Vector.{point}
use Rattle.plane.specs.declared.Point.{Point}
use Rattle.refusals.specs.declared.Settings.{Settings}

-- a previous direction: 0 for none, anything else for the one lent
abbrev pub previous_of : ℕ → Float → Float → Option Point
previous_of has x y = cond (eqb has 0) None (Some (point x y))

-- the settings of a trace
abbrev pub settings_of : Float → Float → ℕ → Settings
settings_of tolerance smallest limit = record { contact_tolerance = tolerance; min_translation = smallest; max_iterations = limit }

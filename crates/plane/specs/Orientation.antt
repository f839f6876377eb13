-- Which way three points turn, as a number: 1 counter-clockwise, -1 clockwise, 0 collinear. Definitions only.
use Rattle.std.specs.Prelude.{ℤ, pos, negsuc}
use Rattle.plane.specs.declared.Orientation.{Orientation}
use Rattle.plane.specs.declared.Orientation.TheVariants.{CounterClockwise, Clockwise, Collinear}

abbrev pub turn_number : Orientation → ℤ
turn_number CounterClockwise = pos 1
turn_number Clockwise = negsuc 0
turn_number Collinear = pos 0

-- A tally that can be counted on. Definitions only.
use Rattle.std.specs.Prelude.{◌+◌, ◌≤◌}
use Rattle.replay.specs.declared.Tally.{Tally}

-- no more records agreed than were seen, and those that are left can be counted too
pub record Counted (t : Tally) : Type 0 where
  pub some : t.agreed ≤ t.seen
  pub bounded : t.seen + t.left ≤ 1000000

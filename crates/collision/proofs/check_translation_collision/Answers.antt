-- `collision::check_translation_collision` meets its contract: the length of the move, and then both scans. Assumes nothing.
use Rattle.collision.specs.Check.{sweep_of, collision_of}
use Rattle.collision.proofs.check_translation_collision.Goals as goal

pub returns-then-len-tolerance : goal.returns-then-len-tolerance
unfolding collision_of
returns-then-len-tolerance c = rw (← c.length-len.ensures, c.if-len-tolerance.true)

pub returns : goal.returns
unfolding collision_of sweep_of
returns c =
    rw (c.both.ensures, c.rays.ensures, ← c.length-len.ensures, c.if-len-tolerance.false)

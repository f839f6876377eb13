-- `choose::weigh_both` meets its contract: one side after the other. Assumes nothing.
use Rattle.choose.proofs.Climbing.{both_sides}
use Rattle.choose.proofs.weigh_both.Goals as goal

pub course_by-one-requires : goal.course_by-one-requires
course_by-one-requires c = c.requires

pub course_by-two-requires : goal.course_by-two-requires
course_by-two-requires c = c.requires

pub returns : goal.returns
returns c =
    both_sides _ _ _ c.args.best c.taken-first.result c.taken.result _ _ c.weigh-w1.ensures c.taken-first.ensures c.course_by-one.ensures c.weigh-w2.ensures c.taken.ensures c.course_by-two.ensures

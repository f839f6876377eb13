-- `put_aside::rule_of` meets its contract: part by part. Assumes nothing.
use Rattle.put_aside.proofs.Laying.{ruled}
use Rattle.put_aside.proofs.rule_of.Goals as goal

pub returns : goal.returns
returns c =
    ruled c.args.list.now c.args.how c.requires.from_small c.requires.to_small
    c.way_of.ensures c.width_of.ensures c.middle_of.ensures c.middle_of-2.ensures c.middle_of-3.ensures

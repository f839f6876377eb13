-- `put_aside::put_aside` meets its contract: the rule, the test, and the corners. Assumes nothing.
use Rattle.put_aside.proofs.Laying.{leaves, stays}
use Rattle.put_aside.proofs.put_aside.Goals as goal

pub stay_by-requires : goal.stay_by-requires
stay_by-requires c = (c.requires.0.corners_small, c.rule_of-r.ensures.1)

pub returns-then-not-stay_by : goal.returns-then-not-stay_by
returns-then-not-stay_by c =
    let g = c.args in
    record {
      value = (leaves g.list.now g.from g.to g.how c.rule_of-r.ensures.0 c.stay_by.ensures
          g.room.now c.if-not-stay_by.true).0;
      room_after = (leaves g.list.now g.from g.to g.how c.rule_of-r.ensures.0 c.stay_by.ensures
          g.room.now c.if-not-stay_by.true).1;
    }

pub lay-requires : goal.lay-requires
lay-requires c =
    (c.requires.0.corners_small, c.rule_of-r.ensures.1, c.requires.2)

pub returns : goal.returns
returns c =
    let g = c.args in
    record {
      value = (stays g.list.now g.from g.to g.how c.rule_of-r.ensures.0 c.stay_by.ensures
          g.room.now c.if-not-stay_by.false c.lay.ensures).0;
      room_after = (stays g.list.now g.from g.to g.how c.rule_of-r.ensures.0 c.stay_by.ensures
          g.room.now c.if-not-stay_by.false c.lay.ensures).1;
    }

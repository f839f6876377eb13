-- `chains::put_chain` meets its contract. Assumes nothing.
use Rattle.chains.specs.Chain.{put_chain}
use Rattle.chains.proofs.put_chain.Goals as goal

pub returns : goal.returns
unfolding put_chain
returns c =
    rw (c.put-3.ensures, c.put-2.ensures, c.put.ensures)

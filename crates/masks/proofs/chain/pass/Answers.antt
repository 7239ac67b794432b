-- `masks::chain::pass` meets its contract: the arm of an AND gate.
-- Assumes nothing.
use Rattle.masks.proofs.Begun.{and-passes}
use Rattle.masks.proofs.chain.pass.Goals as goal

pub returns-in-And : goal.returns-in-And
returns-in-And c =
    let x = c.args in
    let p = and-passes x.gate x.out x.k x.p x.at x.t x.byte _ _ _ _ _ x.memory.now c.requires c.in-And.is c.bit.ensures c.bit-in-And.ensures c.carried.ensures in
    record { memory_after = p.0; ands_value = p.1 }

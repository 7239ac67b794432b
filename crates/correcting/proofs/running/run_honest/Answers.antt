-- `correcting::running::run_honest` meets its contract.
-- Assumes nothing.
use native.Mathlib.Omega.{arith}
use Rattle.walk.proofs.Turns.{ready, ended}
use Rattle.packed.proofs.Runs.{lent-held}
use Rattle.correcting.proofs.Ran.{done-is, memory-ran, output-ran, corrections-given}
use Rattle.correcting.proofs.running.run_honest.Goals as goal

pub walk-requires : goal.walk-requires
walk-requires c =
    let p = c.requires in
    let e = c.load.auto.memory in
    (ready _ _ _ c.args.y.now (lent-held _ _ _ _ p.0 _ _ e p.1.1.1.1) _ c.head-head.ensures, omega (arith, e, p.0.rows))

pub broadcast_outputs-requires : goal.broadcast_outputs-requires
broadcast_outputs-requires c =
    let p = c.requires in
    ended _ _ c.load.new.memory _ (lent-held _ _ _ _ p.0 _ _ c.load.auto.memory p.1.1.1.1) _ c.walk.auto.memory

pub returns : goal.returns
returns c =
    let x = c.args in
    let p = c.requires in
    let w = done-is x.s.now x.z x.n x.memory.now p.0 p.1.0 x.witness.now _ _ _ _ c.head-head.ensures c.place-last.ensures c.load.ensures.memory_after c.walk.ensures in
    let m = memory-ran x.s.now x.z x.n x.memory.now p.0 p.1.0 x.witness.now _ _ w c.broadcast_outputs.ensures.memory_after in record {
      masked_after = c.load.ensures.masked_after;
      y_after = output-ran x.s.now x.z x.n x.memory.now p.0 p.1.0 x.witness.now _ _ w c.broadcast_outputs.ensures.y_after;
      memory_after = m;
      memory_after_2 = corrections-given x.s.now x.z x.n x.memory.now p.0 p.1.0 x.witness.now _ m (λ j. (c.slice_known-7-1.given j).fits);
    }

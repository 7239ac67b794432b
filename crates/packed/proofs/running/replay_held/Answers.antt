-- `packed::running::replay_held` meets its contract.
-- Assumes nothing.
use Rattle.packed.proofs.Runs.{lent-held, memory-replayed, output-replayed}
use Rattle.packed.proofs.running.replay_held.Goals as goal

pub place-hidden-requires : goal.place-hidden-requires
place-hidden-requires c = tt

pub load_showing-requires : goal.load_showing-requires
load_showing-requires c = let p = c.requires in (p.0, (p.1.1.0, p.1.1.1.0))

pub run-requires : goal.run-requires
run-requires c = let p = c.requires in lent-held _ _ _ _ p.0 _ _ c.load_showing.auto.memory p.1.1.1.1

pub returns : goal.returns
returns c =
    let x = c.args in
    let p = c.requires in record {
      y_after = output-replayed x.s.now x.z x.n x.memory.now p.0 x.p x.masked.now x.row.now p.1.0 _ _ c.place-hidden.ensures c.load_showing.ensures _ c.run.ensures.y_after;
      memory_after = memory-replayed x.s.now x.z x.n x.memory.now p.0 x.p x.masked.now x.row.now p.1.0 _ _ c.place-hidden.ensures c.load_showing.ensures _ c.run.ensures.memory_after;
    }

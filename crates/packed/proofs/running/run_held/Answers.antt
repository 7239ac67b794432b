-- `packed::running::run_held` meets its contract.
-- Assumes nothing.
use Rattle.packed.proofs.Runs.{lent-held, memory-ran, output-ran}
use Rattle.packed.proofs.running.run_held.Goals as goal

pub place-hidden-requires : goal.place-hidden-requires
place-hidden-requires c = tt

pub load_witness-requires : goal.load_witness-requires
load_witness-requires c = let p = c.requires in (p.0, (p.1.0, p.1.1.0))

pub run-requires : goal.run-requires
run-requires c = let p = c.requires in lent-held _ _ _ _ p.0 _ _ c.load_witness.auto.memory p.1.1.1

pub returns : goal.returns
returns c =
    let x = c.args in
    let held = c.requires.0 in record {
      masked_after = c.load_witness.ensures.masked_after;
      y_after = output-ran x.s.now x.z x.n x.memory.now held x.witness.now _ _ c.place-hidden.ensures c.load_witness.ensures.memory_after _ c.run.ensures.y_after;
      memory_after = memory-ran x.s.now x.z x.n x.memory.now held x.witness.now _ _ c.place-hidden.ensures c.load_witness.ensures.memory_after _ c.run.ensures.memory_after;
    }

-- `reading::read_wires` meets its contract.
-- Assumes nothing.
use mathlib.Core.Path.{◌∙◌}
use Rattle.circuit.proofs.Readings.{fell, held, chain_same, refuse-reads, refuse-outputs, accept}
use Rattle.reading.proofs.read_wires.Goals as goal

pub good_reads-requires : goal.good_reads-requires
good_reads-requires c =
    let p = c.requires in
    record { laid = p.framed.laid; chain = chain_same _ _ _ _ _ _ p.framed ∙ p.chain }

pub returns-then-not-good_reads : goal.returns-then-not-good_reads
returns-then-not-good_reads c =
    let p = c.requires in
    rw c.into.ensures (refuse-reads _ _ _ _ _ _ p.framed p.records p.chain (fell _ _ c.good_reads.ensures c.if-not-good_reads.true-raw))

pub returns-then-not-good_outputs : goal.returns-then-not-good_outputs
returns-then-not-good_outputs c =
    let p = c.requires in
    rw c.into-then-not-good_outputs.ensures (
    refuse-outputs _ _ _ _ _ _ p.framed p.records p.chain
    (held _ _ c.good_reads.ensures c.if-not-good_reads.false-raw)
    (fell _ _ c.good_outputs.ensures c.if-not-good_outputs.true-raw)
    )

pub and_count-ands-requires : goal.and_count-ands-requires
and_count-ands-requires c =
    let p = c.requires in
    record { laid = p.framed.laid; chain = chain_same _ _ _ _ _ _ p.framed ∙ p.chain }

pub returns : goal.returns
returns c =
    let p = c.requires in
    accept _ _ _ _ _ _ p.framed _ p.records p.chain
    (held _ _ c.good_reads.ensures c.if-not-good_reads.false-raw)
    (held _ _ c.good_outputs.ensures c.if-not-good_outputs.false-raw)
    c.and_count-ands.ensures

-- `reading::read_body` meets its contract.
-- Assumes nothing.
use Rattle.std.proofs.lemmas.Result.{err_from_is_err_and}
use Rattle.circuit.proofs.Readings.{fell, held, walked-well, refuse-records, refuse-chain}
use Rattle.reading.proofs.read_body.Goals as goal

pub returns-then-not-good_records : goal.returns-then-not-good_records
returns-then-not-good_records c =
    let f = c.requires in
    rw c.into.ensures (refuse-records _ _ _ _ _ _ f (fell _ _ c.good_records.ensures c.if-not-good_records.true-raw))

pub read_wires-requires : goal.read_wires-requires
read_wires-requires c =
    record {
      framed = c.requires;
      records = held _ _ c.good_records.ensures c.if-not-good_records.false-raw;
      chain = walked-well _ _ c.in_ok-walk_chain.was c.walk_chain.ensures;
    }

pub returns-in_err-walk_chain : goal.returns-in_err-walk_chain
returns-in_err-walk_chain c =
    let p = err_from_is_err_and c.from_residual.result c.from_residual.ensures.1 in
    rw (p.1, p.2) (refuse-chain _ _ _ _ _ _ c.requires _ _
    (held _ _ c.good_records.ensures c.if-not-good_records.false-raw)
    c.in_err-walk_chain.was
    c.walk_chain.ensures)

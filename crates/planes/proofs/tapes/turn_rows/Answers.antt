-- `planes::tapes::turn_rows` meets its contract: a word gathered from the rows, transposed and stored.
-- Assumes nothing.
use native.Mathlib.Omega.{arith}
use Rattle.planes.proofs.Within.{rows-length, rows-turned}
use Rattle.planes.proofs.tapes.turn_rows.Goals as goal

pub gather-x-requires : goal.gather-x-requires
gather-x-requires c =
    let x = c.args in
    (omega arith, omega (arith, rows-length x.n x.len x.a x.memory.now _ (omega arith) c.row-rows.ensures))

pub returns : goal.returns
returns c =
    let x = c.args in
    let p = c.requires in
    rows-turned x.n x.len x.a x.memory.now _ p.1.1.0 c.row-rows.ensures x.k _ _ _ _ p.0 p.1.0 c.gather-x.ensures c.transpose8.ensures c.scatter.ensures

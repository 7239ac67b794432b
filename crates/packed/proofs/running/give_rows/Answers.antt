-- `packed::running::give_rows` meets its contract.
-- Assumes nothing.
use native.Mathlib.Omega.{arith}
use Rattle.walk.proofs.Turns.{layout-room, layout-ands, layout-outputs}
use Rattle.packed.proofs.Rows.{rows-room, rows-given}
use Rattle.packed.proofs.Runs.{layout-inputs}
use Rattle.packed.proofs.running.give_rows.Goals as goal

pub layout-l-requires : goal.layout-l-requires
layout-l-requires c = omega (arith, c.requires.0.few_wires)

pub row_bytes-len-requires : goal.row_bytes-len-requires
row_bytes-len-requires c = omega (arith, c.requires.0.few_words)

pub store_rows-requires : goal.store_rows-requires
store_rows-requires c =
    let p = c.requires in (
      layout-room _ _ c.layout-l.ensures _ p.0,
      (omega (arith, p.1.0), (omega (arith, c.row_bytes-len.ensures, layout-inputs _ _ c.layout-l.ensures, layout-ands _ _ c.layout-l.ensures, layout-outputs _ _ c.layout-l.ensures), rows-room _ _ _ _ c.row_bytes-len.ensures p.1.1)),
    )

pub returns : goal.returns
returns c =
    let x = c.args in
    let p = c.requires in
    rows-given _ _ _ _ x.n x.memory.now x.rows.now _ c.layout-l.ensures c.row_bytes-len.ensures p.1.0
    (λ j. (c.shared_slice_known-1.given j).fits) (λ j. (c.slice_known-2-1.given j).fits) p.1.1 c.store_rows.auto.rows c.store_rows.ensures

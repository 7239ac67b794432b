-- `planes::tapes::put_corrections` meets its contract.
-- Assumes nothing.
use native.Mathlib.Omega.{arith}
use Rattle.planes.proofs.Fits.{spare-small}
use Rattle.planes.proofs.Within.{corrections-put}
use Rattle.planes.proofs.tapes.put_corrections.Goals as goal

pub put_held_bits-requires : goal.put_held_bits-requires
put_held_bits-requires c =
    let p = c.requires in
    (omega (arith, c.corrections_at-a.ensures, p.0.few_wires, p.0.few_words, spare-small c.args.l), (omega (arith, c.tape_at-to.ensures, c.corrections_at-a.ensures), omega (arith, c.corrections_at-a.ensures, p.1)))

pub returns : goal.returns
returns c =
    let x = c.args in
    corrections-put x.l x.p _ _ _ x.memory.now _ c.tape_at-to.ensures c.place.ensures c.corrections_at-a.ensures c.put_held_bits.ensures

-- `choice::absorb_bound` meets its contract: the parts taken in one after the other are the bound.
-- Assumes nothing.
use Rattle.bits.specs.Bytes.{le_bytes}
use Rattle.choice.proofs.Bounds.{part_room, bound-taken}
use native.Mathlib.Omega.{arith}
use mathlib.Core.Path.{refl}
use Rattle.choice.proofs.absorb_bound.Goals as goal

pub absorb-requires-2 : goal.absorb-requires-2
absorb-requires-2 c = (omega arith, (refl, (part_room _ _ _ c.requires c.absorb.ensures)))

pub absorb-requires-3 : goal.absorb-requires-3
absorb-requires-3 c = (omega arith, (refl, (part_room _ _ _ (part_room _ _ _ c.requires c.absorb.ensures) c.absorb-2.ensures)))

pub absorb-requires-4 : goal.absorb-requires-4
absorb-requires-4 c = (omega arith, (refl, (part_room _ _ _ (part_room _ _ _ (part_room _ _ _ c.requires c.absorb.ensures) c.absorb-2.ensures) c.absorb-3.ensures)))

pub absorb-requires-5 : goal.absorb-requires-5
absorb-requires-5 c = (omega arith, (refl, (part_room _ _ _ (part_room _ _ _ (part_room _ _ _ (part_room _ _ _ c.requires c.absorb.ensures) c.absorb-2.ensures) c.absorb-3.ensures) c.absorb-4.ensures)))

pub absorb-requires-6 : goal.absorb-requires-6
absorb-requires-6 c = (omega arith, (refl, (part_room _ _ _ (part_room _ _ _ (part_room _ _ _ (part_room _ _ _ (part_room _ _ _ c.requires c.absorb.ensures) c.absorb-2.ensures) c.absorb-3.ensures) c.absorb-4.ensures) c.absorb-5.ensures)))

pub returns : goal.returns
unfolding le_bytes
returns c =
    let x = c.args in
    bound-taken x.sponge x.salt.now x.m x.tau x.n x.digest.now x.y.now x.message.now _ _ _ _ _ _ c.ranges.n.fits c.absorb.ensures c.absorb-2.ensures c.absorb-3.ensures c.absorb-4.ensures c.absorb-5.ensures c.absorb-6.ensures

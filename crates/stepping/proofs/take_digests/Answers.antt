-- `stepping::take_digests` meets its contract.
-- Assumes nothing.
use mathlib.Core.Path.{refl}
use native.Mathlib.Omega.{arith}
use Rattle.stepping.proofs.Stepped.{more-both}
use Rattle.stepping.proofs.take_digests.Goals as goal

pub absorb-requires : goal.absorb-requires
absorb-requires c = (omega arith, (refl, c.requires.0))

pub absorb-requires-2 : goal.absorb-requires-2
absorb-requires-2 c = (omega arith, (refl, c.requires.1))

pub returns : goal.returns
returns c = more-both c.args.d _ _ _ _ c.absorb.ensures c.absorb-2.ensures

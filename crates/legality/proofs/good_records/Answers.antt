-- `legality::good_records` meets its contract. The loop's invariant: what is gathered is the test of the first k slots.
-- Assumes nothing.
use mathlib.Core.Path.{◌≡◌, refl}
use native.Mathlib.Omega.{arith}
use Rattle.circuit.specs.Fields.{good_records}
use Rattle.circuit.proofs.Slots.{inside, records-turn}
use Rattle.legality.proofs.good_records.Goals as goal

pub loop-k-init : goal.loop-k-init
unfolding good_records
loop-k-init c = refl

pub good_record-good-requires : goal.good_record-good-requires
good_record-good-requires c = inside _ _ _ _ _ _ c.requires (omega arith) (omega arith)

pub loop-k-preserved : goal.loop-k-preserved
loop-k-preserved c =
    let l = c.loop-k in
    records-turn _ _ _ _ _ l.invariant c.good_record-good.ensures refl

pub returns : goal.returns
returns c =
    let e : c.loop-k.k ≡ c.args.f.gates = omega arith in
    rw (← e) c.loop-k.invariant

-- `legality::good_outputs` meets its contract.
-- Assumes nothing.
use Rattle.std.proofs.Common.{rules, refl, ◌≡◌, ◌+◌, ◌∙◌, arith}
use Rattle.std.proofs.Math.Dec.{ltb}
use Rattle.std.proofs.lemmas.Iterator.{YieldsList-from_range}
use Rattle.std.proofs.lemmas.Iterator.Search.{all_from_yields_List}
use Rattle.circuit.specs.Fields.{field, good_outputs, output_wire, inputs_of, gates_of}
use Rattle.legality.proofs.Every.{every}
use Rattle.legality.proofs.good_outputs.Goals as goal

pub returns : goal.returns
unfolding good_outputs
returns c =
    let x = field c.args.f.width c.args.s.now in
    let wires : c.args.f.inputs + c.args.f.gates ≡ inputs_of x + gates_of x = omega arith in
    all_from_yields_List (λ k. ltb (output_wire x k) (c.args.f.inputs + c.args.f.gates)) _ _ _ c.all.ensures.ran (YieldsList-from_range 0 c.args.f.outputs c.args.f.outputs refl (omega arith)) (λ k b q w. search rules)
    ∙ rw wires (every (λ k. ltb (output_wire x k) (inputs_of x + gates_of x)) (good_outputs x) refl (λ _. refl) c.args.f.outputs)

-- `bristol_lines::heading::read_inputs` meets its contract: by cases of the sum on the line.
-- Assumes nothing.
use native.Mathlib.Omega.{arith}
use mathlib.Core.Path.{sym, ap, ◌∙◌}
use Rattle.bristol_lines.specs.Rules.{output_line}
use Rattle.bristol_lines.proofs.Heads.{header-same, inputs-none, inputs-other, inputs-few, inputs-many, inputs-good}
use Rattle.bristol_lines.proofs.heading.read_inputs.Goals as goal

pub returns-in_default : goal.returns-in_default
returns-in_default c =
    let x = c.args in
    λ below. inputs-none below x.gates x.wires _ c.in_default.ensures

pub returns-then-wires-gates : goal.returns-then-wires-gates
returns-then-wires-gates c =
    let x = c.args in
    let k = c.in-Some.ensures in
    λ below. inputs-other below x.gates x.wires _ _ k.found (λ e. omega arith)

pub returns-then-wires-gates-2 : goal.returns-then-wires-gates-2
returns-then-wires-gates-2 c =
    let x = c.args in
    let k = c.in-Some.ensures in
    λ below. inputs-other below x.gates x.wires _ _ k.found (λ e. c.if-wires-gates-2.true (omega arith))

pub returns-then-inputs-lt1 : goal.returns-then-inputs-lt1
returns-then-inputs-lt1 c =
    let x = c.args in
    let k = c.in-Some.ensures in
    λ below. inputs-few below x.gates x.wires _ _ k.found (omega arith) (omega arith)

pub returns-then-inputs-gt-MAX_INPUTS : goal.returns-then-inputs-gt-MAX_INPUTS
returns-then-inputs-gt-MAX_INPUTS c =
    let x = c.args in
    let k = c.in-Some.ensures in
    λ below. inputs-many below x.gates x.wires _ _ k.found (omega arith) (omega arith) (omega arith)

pub read_outputs-requires : goal.read_outputs-requires
read_outputs-requires c =
    let p = c.requires in
    (omega arith, (omega arith, p))

pub returns : goal.returns
returns c =
    let x = c.args in
    let k = c.in-Some.ensures in
    header-same x.s.now c.read_outputs.result _ _
    (λ below. inputs-good below x.gates x.wires _ _ k.found (omega arith) (omega arith) (omega arith) ∙ ap (output_line below _ x.gates) (sym k.rest))
    c.read_outputs.ensures

-- `bristol_lines::heading::read_outputs` meets its contract: by cases of the sum on the line.
-- Assumes nothing.
use native.Mathlib.Omega.{arith}
use Rattle.bristol_lines.proofs.Heads.{outputs-none, outputs-above, outputs-few, outputs-many, outputs-begun}
use Rattle.bristol_lines.proofs.heading.read_outputs.Goals as goal

pub returns-in_default : goal.returns-in_default
returns-in_default c =
    let x = c.args in
    λ below. outputs-none below x.inputs x.gates _ c.in_default.ensures

pub returns-then-inputs-gates : goal.returns-then-inputs-gates
returns-then-inputs-gates c =
    let x = c.args in
    let k = c.in-Some.ensures in
    λ below. outputs-above below x.inputs x.gates _ _ k.found (omega arith)

pub returns-then-outputs-lt1 : goal.returns-then-outputs-lt1
returns-then-outputs-lt1 c =
    let x = c.args in
    let k = c.in-Some.ensures in
    λ below. outputs-few below x.inputs x.gates _ _ k.found (omega arith) (omega arith)

pub returns-then-outputs-gt-MAX_OUTPUTS : goal.returns-then-outputs-gt-MAX_OUTPUTS
returns-then-outputs-gt-MAX_OUTPUTS c =
    let x = c.args in
    let k = c.in-Some.ensures in
    λ below. outputs-many below x.inputs x.gates _ _ k.found (omega arith) (omega arith) (omega arith)

pub returns : goal.returns
returns c =
    let x = c.args in
    let p = c.requires in
    let k = c.in-Some.ensures in
    outputs-begun x.s.now x.c.at x.inputs x.gates _ _ k (omega arith) (omega arith) (omega arith) p.0 p.1.0 p.1.1

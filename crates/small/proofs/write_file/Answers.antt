-- `small::write_file` meets its contract: by the number of gates.
-- Assumes nothing.
use mathlib.Core.Path.{◌∙◌, ◌≡◌, ap, subst}
use Prim.Native.Nat.{◌<◌, ℕ}
use native.Mathlib.Omega.{arith}
use lib.Seq.{sets}
use Rattle.small.specs.Steps.{count_of, fields_at}
use Rattle.small.specs.Small.{in_bytes}
use Rattle.small.proofs.write_file.Goals as goal

pub write_two-requires : goal.write_two-requires
write_two-requires c = let x = c.args in
    let e : x.gates ≡ 2 = omega arith in
    (omega arith, (omega arith, (subst (λ (k : ℕ). x.place < count_of x.inputs k) e c.requires.1.1.1.0, omega arith)))

pub returns-then-gates-eq0 : goal.returns-then-gates-eq0
unfolding fields_at
returns-then-gates-eq0 c = let x = c.args in
    let e : 0 ≡ x.gates = omega arith in
    c.write_front.ensures ∙ ap (λ (k : ℕ). sets x.out.now 0 (in_bytes (fields_at x.inputs k x.place))) e

pub returns-then-gates-eq1 : goal.returns-then-gates-eq1
returns-then-gates-eq1 c = let x = c.args in
    let e : 1 ≡ x.gates = omega arith in
    c.write_one.ensures ∙ ap (λ (k : ℕ). sets x.out.now 0 (in_bytes (fields_at x.inputs k x.place))) e

pub returns-else-gates-eq1 : goal.returns-else-gates-eq1
returns-else-gates-eq1 c = let x = c.args in
    let e : 2 ≡ x.gates = omega arith in
    c.write_two.ensures ∙ ap (λ (k : ℕ). sets x.out.now 0 (in_bytes (fields_at x.inputs k x.place))) e

use native.Mathlib.Omega.{arith}
use Rattle.std.proofs.Common.{rules}
use mathlib.Core.Path.{refl, sym, ap, ◌∙◌}
use Prim.Native.Nat.{ℕ}
use lib.ListN.{replicate, length-set}
use Rattle.proof.specs.Steps.{table_of}
use Rattle.proof.proofs.Choices.{table_none, turn-entered, turn-beyond, table-whole}
use Rattle.proof.proofs.asking.enter.Goals as goal

pub loop-k-init : goal.loop-k-init
loop-k-init c =
    let x = c.args in
    (omega arith, (refl, table_none _ x.n x.choices.now _ (c.fill.ensures.after (λ y h. search rules) ∙ ap (λ (i : ℕ). replicate i x.n) (sym c.fill.ensures.len))))

pub loop-k-preserved-then-j-table : goal.loop-k-preserved-then-j-table
loop-k-preserved-then-j-table c =
    let l = c.loop-k in
    let x = c.args in
    (omega arith, (rw length-set l.invariant.1.0, turn-entered _ x.n x.choices.now l.table l.k c.read_u16-j.result (omega arith) l.invariant.0 c.read_u16-j.ensures l.invariant.1.1 _ refl))

pub loop-k-preserved : goal.loop-k-preserved
loop-k-preserved c =
    let l = c.loop-k in
    let x = c.args in
    (omega arith, (l.invariant.1.0, turn-beyond _ x.n x.choices.now l.table l.k c.read_u16-j.result (omega arith) l.invariant.0 c.read_u16-j.ensures l.invariant.1.1 (omega arith)))

pub returns : goal.returns
returns c =
    let l = c.loop-k in
    let x = c.args in
    table-whole _ x.n x.choices.now l.table l.k (omega arith) l.invariant.1.1 ∙ ap (λ (i : ℕ). table_of i x.n x.choices.now) c.fill.ensures.len

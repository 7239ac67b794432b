-- `proof::nodes::mark_nodes` meets its contract: the opened nodes are counted by the marks.
-- Assumes nothing.
use mathlib.Core.Path.{sym, ap, ◌∙◌}
use Prim.Native.Nat.{ℕ, suc, ◌^◌}
use native.Mathlib.Omega.{arith}
use Rattle.proof.specs.File.{hides}
use Rattle.proof.specs.Steps.{asks_in}
use Rattle.proof.proofs.Leaves.{opened-few, marks-made, opened-bytes}
use Rattle.proof.proofs.nodes.mark_nodes.Goals as goal

pub mark-requires : goal.mark-requires
mark-requires c =
    let p = c.requires in
    (omega (arith, p.1.1.0), p.1.1.1 ∙ ap (λ (h : ℕ). 2 ^ suc h) (sym c.height.ensures))

pub overflow_mul-result : goal.overflow_mul-result
overflow_mul-result c =
    let p = c.requires in
    let x = c.args in
    omega (
      arith,
      opened-bytes x.k.instances x.k.parties x.table.now p.1.1.0 _ _ (marks-made _ _ _ _ _ c.height.ensures c.mark.ensures) c.opened_before.ensures,
      opened-few x.k.instances p.0 (hides (asks_in x.k.parties x.table.now)),
    )

pub returns : goal.returns
returns c =
    let p = c.requires in
    let x = c.args in
    let e = marks-made x.k.instances x.k.parties x.table.now _ _ c.height.ensures c.mark.ensures in record {
      value = opened-bytes x.k.instances x.k.parties x.table.now p.1.1.0 _ _ e c.opened_before.ensures;
      marks_after = e;
    }

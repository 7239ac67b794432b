-- `evaluation::evaluate_legal` meets its contract.
-- Assumes nothing.
use mathlib.Core.Path.{sym, ap, ◌∙◌}
use Prim.Native.Nat.{ℕ}
use native.Mathlib.Omega.{arith}
use lib.ListN.{length-replicate}
use Rattle.circuit.specs.Steps.{wire_bytes}
use Rattle.bits.specs.Bits.{pack}
use Rattle.circuit.proofs.Outcomes.{ready, ended, outputs-right}
use Rattle.evaluation.proofs.evaluate_legal.Goals as goal

pub slice_bounds-load-end : goal.slice_bounds-load-end
slice_bounds-load-end c = sym (length-replicate {A = ℕ} wire_bytes 0)

pub load-requires : goal.load-requires
load-requires c = (omega (arith, c.requires.0.laid.few_inputs, length-replicate {A = ℕ} wire_bytes 0), omega (arith, c.requires.1.witness))

pub slice_bounds-walk-end : goal.slice_bounds-walk-end
slice_bounds-walk-end c = sym (c.load.auto.values ∙ length-replicate {A = ℕ} wire_bytes 0)

pub walk-requires : goal.walk-requires
walk-requires c = ready _ _ _ _ c.requires.0 _ _ _ c.head-first.ensures c.load.ensures

pub slice_bounds-store-end : goal.slice_bounds-store-end
slice_bounds-store-end c =
    sym (c.walk.auto.values ∙ c.load.auto.values ∙ length-replicate {A = ℕ} wire_bytes 0)

pub store-requires : goal.store-requires
store-requires c =
    let p = c.requires in
    (p.1.output, ended _ _ _ _ p.0 _ _ _ _ c.load.ensures c.walk.ensures)

pub returns : goal.returns
returns c =
    let p = c.requires in
    c.store.ensures
    ∙ ap pack
    (outputs-right _ _ _ _ p.0 _ _ _ _ c.head-first.ensures p.1.unused c.load.ensures c.walk.ensures)

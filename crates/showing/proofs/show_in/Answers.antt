-- `showing::show_in` meets its contract.
-- Assumes nothing.
use mathlib.Core.Path.{sym, ap, ◌∙◌}
use Prim.Native.Nat.{ℕ, ◌*◌}
use native.Mathlib.Omega.{arith}
use Rattle.bits.proofs.Rows.{row_fits}
use Rattle.mpc.proofs.Opened.{ands-low}
use Rattle.mpc.proofs.Places.{memory-held, placed, working-kept}
use Rattle.shown_parts.proofs.Shows.{corrections-made, masked-made, row_made, hidden-made, show-made}
use Rattle.showing.proofs.show_in.Goals as goal

pub overflow_mul-z : goal.overflow_mul-z
overflow_mul-z c = omega (arith, ands-low _ _ _ _ _ c.requires.0, c.requires.0.legal.laid.few_gates)

pub overflow_add-z : goal.overflow_add-z
overflow_add-z c = omega (arith, ands-low _ _ _ _ _ c.requires.0, c.requires.0.legal.laid.few_inputs, c.requires.0.legal.laid.few_gates)

pub prepare_held-requires : goal.prepare_held-requires
prepare_held-requires c =
    let p = c.requires in
    (p.0, (p.1.0, p.1.1.1.1.0.tapes_fit))

pub show_corrections-requires : goal.show_corrections-requires
show_corrections-requires c =
    let p = c.requires in
    let w = working-kept _ _ c.args.memory.now _ c.prepare_held.auto.memory p.1.0 in
    (placed c.args.s.now _ _ p.0 _ w, (p.1.1.0, p.1.1.1.1.1.corrections_fit))

pub run_honest-requires : goal.run_honest-requires
run_honest-requires c =
    let p = c.requires in
    let w = working-kept _ _ c.args.memory.now _ c.prepare_held.auto.memory p.1.0 in
    (p.0, (w, (p.1.1.1.1.0.witness_fits, p.1.1.1.1.1.masked_fit)))

pub show_row-requires : goal.show_row-requires
show_row-requires c =
    let p = c.requires in
    let w = working-kept _ _ c.args.memory.now _ (c.run_honest.auto.memory ∙ c.prepare_held.auto.memory) p.1.0 in
    (p.0, ((memory-held c.args.s.now _ _ p.0 _ w).room, (omega (arith, p.1.1.0, p.1.0.parties.few), (p.1.1.1.0, p.1.1.1.1.1.row_fits))))

pub hide_row-requires : goal.hide_row-requires
hide_row-requires c =
    let x = c.args in
    let p = c.requires in
    let f = p.1.1.1.1.0.tapes_fit in
    let q = f ∙ ap (λ (k : ℕ). x.n * k) (sym c.oct-len.ensures) in
    (p.1.1.1.1.1.tapes_fit ∙ sym f, omega (arith, q, row_fits x.n c.oct-len.result x.p p.1.1.0))

pub returns : goal.returns
returns c =
    let x = c.args in
    let p = c.requires in
    let f = p.1.1.1.1.0 in
    show-made _ x.n x.p x.cut x.witness.now x.tapes.now _ _ _ _ (hidden-made _ _ _ _ _ p.0 _ x.p x.tapes.now _ c.oct-len.ensures c.hide_row.ensures)
    (corrections-made x.s.now x.z x.n x.witness.now x.tapes.now x.memory.now _ _ p.0 p.1.0 f.tapes_fit f.unused c.prepare_held.ensures c.run_honest.ensures.memory_after x.p _ c.show_corrections.ensures)
    (masked-made x.s.now x.z x.n x.witness.now x.tapes.now x.memory.now _ _ p.0 p.1.0 f.tapes_fit f.unused c.prepare_held.ensures c.run_honest.ensures.memory_after _ c.run_honest.ensures.masked_after)
    (row_made x.s.now x.z x.n x.witness.now x.tapes.now x.memory.now _ _ p.0 p.1.0 f.tapes_fit f.unused c.prepare_held.ensures c.run_honest.ensures.memory_after x.p x.cut _ p.1.1.0 c.show_row.ensures)

-- `checking::verify` meets its contract.
-- Assumes nothing.
use mathlib.Core.Path.{◌≡◌, sym, ap, ◌∙◌}
use Prim.Native.Nat.{ℕ, suc, ◌*◌, ◌^◌}
use native.Mathlib.Omega.{arith}
use Rattle.bits.proofs.Copies.{prefix-length}
use Rattle.circuit.specs.File.{circuit_of}
use Rattle.cover.specs.Masters.{height}
use Rattle.instance.proofs.Sent.{front-inside, front-back, front-taken}
use Rattle.proof.specs.Steps.{asks_in}
use Rattle.proof.proofs.Leaves.{masters-low}
use Rattle.proof_tests.proofs.Checks.{tested-opened, tested-values, tested-marks, tested-rebuilt, judged-output, judged-digest, judged-accepted}
use Rattle.checking.proofs.verify.Goals as goal

pub overflow_add-first : goal.overflow_add-first
overflow_add-first c =
    let x = c.args in
    omega (arith, tested-opened x.s.now x.f x.proof.now x.table.now x.marks.now c.requires.0)

pub row_count-e-requires : goal.row_count-e-requires
row_count-e-requires c = c.requires.0.sized.few

pub overflow_mul-e : goal.overflow_mul-e
overflow_mul-e c = omega (arith, c.row_count-e.ensures.1)

pub height-requires : goal.height-requires
height-requires c = c.requires.0.sized.few

pub slice_bounds-regrow-end : goal.slice_bounds-regrow-end
slice_bounds-regrow-end c =
    let x = c.args in
    tested-opened x.s.now x.f x.proof.now x.table.now x.marks.now c.requires.0

pub slice_bounds-nodes-end : goal.slice_bounds-nodes-end
slice_bounds-nodes-end c = omega (arith, c.row_count-e.ensures.1)

pub slice_bounds-regrow-end-2 : goal.slice_bounds-regrow-end-2
slice_bounds-regrow-end-2 c = sym (prefix-length (16 * c.row_count-e.result) 16384 (omega (arith, c.row_count-e.ensures.1)))

pub regrow-requires : goal.regrow-requires
regrow-requires c =
    let x = c.args in
    let t = c.requires.0 in
    let rows : 2 ^ suc (height x.f.counts.instances) ≡ 2 ^ suc c.height.result = ap (λ (i : ℕ). 2 ^ suc i) (sym c.height.ensures) in (
      (omega (arith, c.height.ensures, masters-low x.f.counts.instances t.sized.few), tested-marks x.s.now x.f x.proof.now x.table.now x.marks.now t ∙ rows),
      (
        tested-values x.s.now x.f x.proof.now x.table.now x.marks.now t,
        prefix-length (16 * c.row_count-e.result) 16384 (omega (arith, c.row_count-e.ensures.1)) ∙ ap (λ (i : ℕ). 16 * i) (c.row_count-e.ensures.0 ∙ rows),
      ),
    )

pub slice_bounds-nodes-end-2 : goal.slice_bounds-nodes-end-2
slice_bounds-nodes-end-2 c =
    front-inside 16384 (16 * c.row_count-e.result) c.regrow.new.nodes (omega (arith, c.row_count-e.ensures.1)) c.regrow.auto.nodes

pub slice_bounds-recompute-end : goal.slice_bounds-recompute-end
slice_bounds-recompute-end c =
    front-taken 16384 (16 * c.row_count-e.result) c.regrow.new.nodes (omega (arith, c.row_count-e.ensures.1)) c.regrow.auto.nodes

pub recompute-v-requires : goal.recompute-v-requires
recompute-v-requires c =
    let x = c.args in
    let t = c.requires.0 in
    let b = front-back 16384 (16 * c.row_count-e.result) c.regrow.new.nodes (omega (arith, c.row_count-e.ensures.1)) c.regrow.auto.nodes in (
      record { known = t.known; tree = t.tree; room = c.requires.1 },
      (
        t.sized,
        (
          t.unused,
          (
            t.cover,
            tested-rebuilt x.s.now x.f x.proof.now x.table.now x.marks.now t c.proof_tree.result c.proof_tree.ensures _ _ c.height.ensures (b ∙ c.regrow.ensures),
          ),
        ),
      ),
    )

pub returns-then-not-v : goal.returns-then-not-v
returns-then-not-v c =
    let x = c.args in
    judged-output (circuit_of x.s.now) x.y.now x.proof.now x.f.counts.instances x.f.counts.parties (asks_in x.f.counts.parties x.table.now) _ c.recompute-v.ensures.0 c.if-not-v.true-raw

pub slice_bounds-same-end-2 : goal.slice_bounds-same-end-2
slice_bounds-same-end-2 c =
    let x = c.args in
    omega (arith, tested-opened x.s.now x.f x.proof.now x.table.now x.marks.now c.requires.0)

pub returns-then-not-same : goal.returns-then-not-same
returns-then-not-same c =
    let x = c.args in
    judged-digest (circuit_of x.s.now) x.y.now x.proof.now x.f.counts.instances x.f.counts.parties (asks_in x.f.counts.parties x.table.now) _ c.recompute-v.ensures.0 c.if-not-v.false-raw _ c.recompute-v.ensures.1 _ c.same.ensures c.if-not-same.true-raw

pub returns : goal.returns
returns c =
    let x = c.args in
    judged-accepted (circuit_of x.s.now) x.y.now x.proof.now x.f.counts.instances x.f.counts.parties (asks_in x.f.counts.parties x.table.now) _ c.recompute-v.ensures.0 c.if-not-v.false-raw _ c.recompute-v.ensures.1 _ c.same.ensures c.if-not-same.false-raw

pub proof_tree-requires : goal.proof_tree-requires
proof_tree-requires c =
    let x = c.args in
    omega (arith, tested-opened x.s.now x.f x.proof.now x.table.now x.marks.now c.requires.0)

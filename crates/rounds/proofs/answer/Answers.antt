-- `rounds::answer` meets its contract: the stretches are written over the h'_j, then the opened nodes before them.
-- Assumes nothing.
use mathlib.Core.Path.{sym, ap, ◌∙◌}
use Prim.Native.Nat.{ℕ, ◌*◌, ◌/◌}
use native.Mathlib.Omega.{arith}
use lib.ListN.{length}
use Rattle.bits.proofs.Copies.{prefix-length}
use Rattle.circuit.specs.File.{circuit_of}
use Rattle.instance.proofs.Sent.{front-inside, front-back, front-taken}
use Rattle.instance.proofs.Trees.{tree-sizes}
use Rattle.proof.specs.Protocol.{response_of}
use Rattle.proof.specs.Steps.{asks_in, master_in}
use Rattle.proof.proofs.Leaves.{rows_right, rows-low}
use Rattle.rounds.proofs.Buffers.{size-start, part-inside, length_part, response-asks, front-place, front-part, front_fits, answer-made}
use Rattle.rounds.proofs.answer.Goals as goal

pub slice_bounds-marks-end : goal.slice_bounds-marks-end
slice_bounds-marks-end c =
    let x = c.args in
    let p = c.requires in
    rows-low x.k.instances p.1.1.few x.nodes.now p.1.1.rows

pub slice_bounds-mark_nodes-end : goal.slice_bounds-mark_nodes-end
slice_bounds-mark_nodes-end c =
    let x = c.args in
    let p = c.requires in
    sym (prefix-length (length x.nodes.now / 16) 1024 (rows-low x.k.instances p.1.1.few x.nodes.now p.1.1.rows))

pub mark_nodes-opened-requires : goal.mark_nodes-opened-requires
mark_nodes-opened-requires c =
    let x = c.args in
    let p = c.requires in
    let low = rows-low x.k.instances p.1.1.few x.nodes.now p.1.1.rows in
    (p.1.1.few, (omega (arith, (tree-sizes _ _ p.0.tree).few), (p.1.1.entries, prefix-length (length x.nodes.now / 16) 1024 low ∙ rows_right x.k.instances p.1.1.few x.nodes.now p.1.1.rows)))

pub proof_bytes-size-requires : goal.proof_bytes-size-requires
proof_bytes-size-requires c =
    let p = c.requires in
    (p.0.known, (p.0.tree, (p.1.1.few, (p.1.1.asking, c.mark_nodes-opened.ensures.value))))

pub overflow_sub-end : goal.overflow_sub-end
overflow_sub-end c =
    let x = c.args in
    let p = c.requires in
    size-start x.s.now x.k.instances x.k.parties x.salt x.witness.now x.nodes.now x.table.now x.part.now p.1.1 c.mark_nodes-opened.result c.proof_bytes-size.result c.mark_nodes-opened.ensures.value c.proof_bytes-size.ensures

pub slice_bounds-respond-end : goal.slice_bounds-respond-end
slice_bounds-respond-end c =
    let x = c.args in
    let p = c.requires in
    part-inside x.s.now x.k.instances x.k.parties x.salt x.witness.now x.nodes.now x.table.now x.part.now p.1.1 c.mark_nodes-opened.result c.proof_bytes-size.result c.mark_nodes-opened.ensures.value c.proof_bytes-size.ensures

pub slice_bounds-respond-end-2 : goal.slice_bounds-respond-end-2
slice_bounds-respond-end-2 c =
    let x = c.args in
    let p = c.requires in
    sym (length_part x.s.now x.k.instances x.k.parties x.salt x.witness.now x.nodes.now x.table.now x.part.now p.1.1 c.mark_nodes-opened.result c.proof_bytes-size.result c.mark_nodes-opened.ensures.value c.proof_bytes-size.ensures)

pub respond-requires : goal.respond-requires
respond-requires c =
    let x = c.args in
    let p = c.requires in
    (p.0, (p.1.0, response-asks x.s.now x.k.instances x.k.parties x.salt x.witness.now x.nodes.now x.table.now x.part.now p.1.1 c.mark_nodes-opened.result c.proof_bytes-size.result c.mark_nodes-opened.ensures.value c.proof_bytes-size.ensures))

pub slice_bounds-marks-end-2 : goal.slice_bounds-marks-end-2
slice_bounds-marks-end-2 c =
    let x = c.args in
    let p = c.requires in
    front-inside 1024 (length x.nodes.now / 16) c.mark_nodes-opened.new.marks (rows-low x.k.instances p.1.1.few x.nodes.now p.1.1.rows) c.mark_nodes-opened.auto.marks

pub slice_bounds-gather-end : goal.slice_bounds-gather-end
slice_bounds-gather-end c =
    let x = c.args in
    let p = c.requires in
    front-taken 1024 (length x.nodes.now / 16) c.mark_nodes-opened.new.marks (rows-low x.k.instances p.1.1.few x.nodes.now p.1.1.rows) c.mark_nodes-opened.auto.marks

pub slice_bounds-gather-end-2 : goal.slice_bounds-gather-end-2
slice_bounds-gather-end-2 c =
    let x = c.args in
    let p = c.requires in
    front-place x.s.now x.k.instances x.k.parties x.salt x.witness.now x.nodes.now x.table.now x.part.now p.1.1 c.mark_nodes-opened.result c.proof_bytes-size.result c.mark_nodes-opened.ensures.value c.proof_bytes-size.ensures (response_of (circuit_of x.s.now) x.k.instances x.k.parties x.salt x.witness.now (master_in x.nodes.now) (asks_in x.k.parties x.table.now)) c.respond.new.part c.respond.ensures

pub slice_bounds-gather-end-3 : goal.slice_bounds-gather-end-3
slice_bounds-gather-end-3 c =
    let x = c.args in
    let p = c.requires in
    sym (front-part x.s.now x.k.instances x.k.parties x.salt x.witness.now x.nodes.now x.table.now x.part.now p.1.1 c.mark_nodes-opened.result c.proof_bytes-size.result c.mark_nodes-opened.ensures.value c.proof_bytes-size.ensures (response_of (circuit_of x.s.now) x.k.instances x.k.parties x.salt x.witness.now (master_in x.nodes.now) (asks_in x.k.parties x.table.now)) c.respond.new.part c.respond.ensures)

pub gather-requires : goal.gather-requires
gather-requires c =
    let x = c.args in
    let p = c.requires in
    let low = rows-low x.k.instances p.1.1.few x.nodes.now p.1.1.rows in
    let back = front-back 1024 (length x.nodes.now / 16) c.mark_nodes-opened.new.marks low c.mark_nodes-opened.auto.marks in
    let l = ap length back ∙ c.mark_nodes-opened.auto.marks ∙ prefix-length (length x.nodes.now / 16) 1024 low ∙ rows_right x.k.instances p.1.1.few x.nodes.now p.1.1.rows in
    (p.1.1.rows ∙ ap (λ (i : ℕ). 16 * i) (sym l), front_fits x.s.now x.k.instances x.k.parties x.salt x.witness.now x.nodes.now x.table.now x.part.now p.1.1 c.mark_nodes-opened.result c.proof_bytes-size.result c.mark_nodes-opened.ensures.value c.proof_bytes-size.ensures (response_of (circuit_of x.s.now) x.k.instances x.k.parties x.salt x.witness.now (master_in x.nodes.now) (asks_in x.k.parties x.table.now)) c.respond.new.part c.respond.ensures _ (back ∙ c.mark_nodes-opened.ensures.marks_after))

pub returns : goal.returns
returns c =
    let x = c.args in
    let p = c.requires in
    let low = rows-low x.k.instances p.1.1.few x.nodes.now p.1.1.rows in
    let back = front-back 1024 (length x.nodes.now / 16) c.mark_nodes-opened.new.marks low c.mark_nodes-opened.auto.marks in record {
      value = c.proof_bytes-size.ensures;
      part_after = answer-made x.s.now x.k.instances x.k.parties x.salt x.witness.now x.nodes.now x.table.now x.part.now p.1.1 c.mark_nodes-opened.result c.proof_bytes-size.result c.mark_nodes-opened.ensures.value c.proof_bytes-size.ensures (response_of (circuit_of x.s.now) x.k.instances x.k.parties x.salt x.witness.now (master_in x.nodes.now) (asks_in x.k.parties x.table.now)) c.respond.new.part c.respond.ensures _ _ (back ∙ c.mark_nodes-opened.ensures.marks_after) c.gather.ensures;
    }

-- `proving::writing::prove_from` meets its contract: the h'_j, the header, and round 3 over the h'_j.
-- Assumes nothing.
use mathlib.Core.Path.{sym, ◌∙◌}
use native.Mathlib.Omega.{arith}
use Rattle.bits.proofs.Copies.{prefix-length}
use Rattle.instance.proofs.Sent.{front-inside, front-back, front-taken}
use Rattle.rounds.proofs.Buffers.{head-inside, head-part, head-fits, few-instances, onlines-fit, onlines-part, length-first, first-drawable, ready-inside, answer-asks, proof-made, size-made}
use Rattle.rounds.proofs.Firsts.{lent-kept}
use Rattle.proving.proofs.writing.prove_from.Goals as goal

pub overflow_cast-m : goal.overflow_cast-m
overflow_cast-m c = omega (arith, few-instances _ _ _ _ _ _ _ _ _ _ c.args.nodes.now _ c.requires.1.0 c.requires.0.tree c.requires.1.1)

pub overflow_mul-kept : goal.overflow_mul-kept
overflow_mul-kept c = omega (arith, few-instances _ _ _ _ _ _ _ _ _ _ c.args.nodes.now _ c.requires.1.0 c.requires.0.tree c.requires.1.1)

pub overflow_add-kept : goal.overflow_add-kept
overflow_add-kept c = omega (arith, few-instances _ _ _ _ _ _ _ _ _ _ c.args.nodes.now _ c.requires.1.0 c.requires.0.tree c.requires.1.1)

pub slice_bounds-first-end : goal.slice_bounds-first-end
slice_bounds-first-end c = onlines-fit _ _ _ _ _ _ _ _ _ _ c.args.nodes.now _ c.requires.1.0 c.requires.0.tree c.requires.1.1

pub first-hstar-requires : goal.first-hstar-requires
first-hstar-requires c = (c.requires.0, (c.requires.1.0.witness_fits, (few-instances _ _ _ _ _ _ _ _ _ _ c.args.nodes.now _ c.requires.1.0 c.requires.0.tree c.requires.1.1, (c.requires.1.1, onlines-part _ _ _ _ _ _ _ _ _ _ c.args.nodes.now _ c.requires.1.0 c.requires.0.tree c.requires.1.1))))

pub slice_bounds-head-end : goal.slice_bounds-head-end
slice_bounds-head-end c = sym (length-first _ _ _ _ _ _ _ _ _ _ c.args.nodes.now _ c.requires.1.0 c.requires.0.tree c.requires.1.1 _ c.first-hstar.ensures.value)

pub slice_bounds-head-end-3 : goal.slice_bounds-head-end-3
slice_bounds-head-end-3 c = head-inside _ c.args.buffer.now c.first-hstar.new.onlines (onlines-fit _ _ _ _ _ _ _ _ _ _ c.args.nodes.now _ c.requires.1.0 c.requires.0.tree c.requires.1.1) c.first-hstar.auto.onlines

pub slice_bounds-head-end-4 : goal.slice_bounds-head-end-4
slice_bounds-head-end-4 c = sym (head-part _ c.args.buffer.now c.first-hstar.new.onlines (onlines-fit _ _ _ _ _ _ _ _ _ _ c.args.nodes.now _ c.requires.1.0 c.requires.0.tree c.requires.1.1) c.first-hstar.auto.onlines)

pub head-requires : goal.head-requires
head-requires c =
    let z = head-fits _ _ _ _ _ _ _ _ _ _ c.args.nodes.now _ c.requires.1.0 c.requires.0.tree c.requires.1.1 in
    (z.0, (z.1.0, (z.1.1, (length-first _ _ _ _ _ _ _ _ _ _ c.args.nodes.now _ c.requires.1.0 c.requires.0.tree c.requires.1.1 _ c.first-hstar.ensures.value, (c.requires.1.0.salt_size, head-part _ c.args.buffer.now c.first-hstar.new.onlines (onlines-fit _ _ _ _ _ _ _ _ _ _ c.args.nodes.now _ c.requires.1.0 c.requires.0.tree c.requires.1.1) c.first-hstar.auto.onlines)))))

pub slice_bounds-draw_challenge-end : goal.slice_bounds-draw_challenge-end
slice_bounds-draw_challenge-end c = sym (length-first _ _ _ _ _ _ _ _ _ _ c.args.nodes.now _ c.requires.1.0 c.requires.0.tree c.requires.1.1 _ c.first-hstar.ensures.value)

pub slice_bounds-table-end : goal.slice_bounds-table-end
slice_bounds-table-end c = few-instances _ _ _ _ _ _ _ _ _ _ c.args.nodes.now _ c.requires.1.0 c.requires.0.tree c.requires.1.1

pub slice_bounds-draw_challenge-end-3 : goal.slice_bounds-draw_challenge-end-3
slice_bounds-draw_challenge-end-3 c = sym (prefix-length c.args.k.instances 512 (few-instances _ _ _ _ _ _ _ _ _ _ c.args.nodes.now _ c.requires.1.0 c.requires.0.tree c.requires.1.1))

pub draw_challenge-requires : goal.draw_challenge-requires
draw_challenge-requires c = (first-drawable _ _ _ _ _ _ _ _ _ _ c.args.nodes.now _ c.requires.1.0 c.requires.0.tree c.requires.1.1 _ c.first-hstar.ensures.value, prefix-length c.args.k.instances 512 (few-instances _ _ _ _ _ _ _ _ _ _ c.args.nodes.now _ c.requires.1.0 c.requires.0.tree c.requires.1.1))

pub slice_bounds-table-end-2 : goal.slice_bounds-table-end-2
slice_bounds-table-end-2 c = front-inside 512 c.args.k.instances c.draw_challenge.new.table (few-instances _ _ _ _ _ _ _ _ _ _ c.args.nodes.now _ c.requires.1.0 c.requires.0.tree c.requires.1.1) c.draw_challenge.auto.table

pub slice_bounds-answer-end : goal.slice_bounds-answer-end
slice_bounds-answer-end c = front-taken 512 c.args.k.instances c.draw_challenge.new.table (few-instances _ _ _ _ _ _ _ _ _ _ c.args.nodes.now _ c.requires.1.0 c.requires.0.tree c.requires.1.1) c.draw_challenge.auto.table

pub slice_bounds-answer-count : goal.slice_bounds-answer-count
slice_bounds-answer-count c = ready-inside _ _ _ _ _ _ _ _ _ _ c.args.nodes.now _ c.requires.1.0 c.requires.0.tree c.requires.1.1 _ c.first-hstar.ensures.value _ _ c.first-hstar.auto.onlines c.first-hstar.ensures.onlines_after c.head.ensures

pub slice_bounds-answer-start : goal.slice_bounds-answer-start
slice_bounds-answer-start c = ready-inside _ _ _ _ _ _ _ _ _ _ c.args.nodes.now _ c.requires.1.0 c.requires.0.tree c.requires.1.1 _ c.first-hstar.ensures.value _ _ c.first-hstar.auto.onlines c.first-hstar.ensures.onlines_after c.head.ensures

pub answer-requires : goal.answer-requires
answer-requires c =
    (lent-kept _ _ _ _ _ _ _ _ _ c.requires.0 c.first-hstar.auto.memory, (c.requires.1.0.witness_fits, answer-asks _ _ _ _ _ _ _ _ _ _ c.args.nodes.now _ c.requires.1.0 c.requires.0.tree c.requires.1.1 _ c.first-hstar.ensures.value _ _ c.first-hstar.auto.onlines c.first-hstar.ensures.onlines_after c.head.ensures _ (front-back 512 c.args.k.instances c.draw_challenge.new.table (few-instances _ _ _ _ _ _ _ _ _ _ c.args.nodes.now _ c.requires.1.0 c.requires.0.tree c.requires.1.1) c.draw_challenge.auto.table ∙ c.draw_challenge.ensures)))

pub returns : goal.returns
returns c = record {
  value = size-made _ _ _ _ _ _ _ _ _ _ c.args.nodes.now _ c.requires.1.0 c.requires.0.tree c.requires.1.1 _ c.first-hstar.ensures.value _ _ c.first-hstar.auto.onlines c.first-hstar.ensures.onlines_after c.head.ensures _ (front-back 512 c.args.k.instances c.draw_challenge.new.table (few-instances _ _ _ _ _ _ _ _ _ _ c.args.nodes.now _ c.requires.1.0 c.requires.0.tree c.requires.1.1) c.draw_challenge.auto.table ∙ c.draw_challenge.ensures) _ _ c.answer.ensures.value c.answer.ensures.part_after c.answer.auto.part;
  buffer_after = proof-made _ _ _ _ _ _ _ _ _ _ c.args.nodes.now _ c.requires.1.0 c.requires.0.tree c.requires.1.1 _ c.first-hstar.ensures.value _ _ c.first-hstar.auto.onlines c.first-hstar.ensures.onlines_after c.head.ensures _ (front-back 512 c.args.k.instances c.draw_challenge.new.table (few-instances _ _ _ _ _ _ _ _ _ _ c.args.nodes.now _ c.requires.1.0 c.requires.0.tree c.requires.1.1) c.draw_challenge.auto.table ∙ c.draw_challenge.ensures) _ _ c.answer.ensures.value c.answer.ensures.part_after;
}

pub slice_bounds-head-end-2 : goal.slice_bounds-head-end-2
slice_bounds-head-end-2 c = sym c.requires.1.0.salt_size

pub slice_bounds-draw_challenge-end-2 : goal.slice_bounds-draw_challenge-end-2
slice_bounds-draw_challenge-end-2 c = sym c.requires.1.0.salt_size

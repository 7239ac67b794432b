-- `instance::checking::unused` meets its contract.
-- Assumes nothing.
use mathlib.Core.Path.{refl}
use native.Mathlib.Omega.{arith}
use Rattle.mpc.proofs.Opened.{ands-low}
use Rattle.instance.proofs.Trees.{tree-low}
use Rattle.instance.proofs.Checks.{stretch-size, sent-small, unused-made}
use Rattle.instance.proofs.checking.unused.Goals as goal

pub overflow_mul-first : goal.overflow_mul-first
overflow_mul-first c = omega (arith, tree-low _ _ c.requires.1.0)

pub sent_bytes-requires : goal.sent_bytes-requires
sent_bytes-requires c = (omega (arith, ands-low _ _ _ _ _ c.requires.0, c.requires.0.legal.laid.few_gates), c.requires.1.1.0)

pub overflow_add-second : goal.overflow_add-second
overflow_add-second c =
    let p = c.requires in
    omega (arith, tree-low _ _ p.1.0, sent-small _ _ _ _ _ p.0 _ _ _ p.1.0 c.args.part.now p.1.1.1 _ c.sent_bytes.ensures, ands-low _ _ _ _ _ p.0, p.0.legal.laid.few_gates)

pub overflow_add-third : goal.overflow_add-third
overflow_add-third c =
    let p = c.requires in
    omega (arith, tree-low _ _ p.1.0, sent-small _ _ _ _ _ p.0 _ _ _ p.1.0 c.args.part.now p.1.1.1 _ c.sent_bytes.ensures, ands-low _ _ _ _ _ p.0, p.0.legal.laid.few_gates)

pub overflow_add-fourth : goal.overflow_add-fourth
overflow_add-fourth c =
    let p = c.requires in
    omega (arith, tree-low _ _ p.1.0, sent-small _ _ _ _ _ p.0 _ _ _ p.1.0 c.args.part.now p.1.1.1 _ c.sent_bytes.ensures, ands-low _ _ _ _ _ p.0, p.0.legal.laid.few_gates, p.0.legal.laid.few_inputs, c.oct.ensures)

pub slice_bounds-unused_zero-end : goal.slice_bounds-unused_zero-end
slice_bounds-unused_zero-end c =
    let p = c.requires in
    omega (arith, stretch-size _ _ _ _ _ p.0 _ _ _ p.1.0 c.args.part.now p.1.1.1 _ c.sent_bytes.ensures)

pub slice_bounds-unused_zero-end-2 : goal.slice_bounds-unused_zero-end-2
slice_bounds-unused_zero-end-2 c =
    let p = c.requires in
    omega (arith, stretch-size _ _ _ _ _ p.0 _ _ _ p.1.0 c.args.part.now p.1.1.1 _ c.sent_bytes.ensures, c.oct.ensures)

pub slice_bounds-unused_zero-count-3 : goal.slice_bounds-unused_zero-count-3
slice_bounds-unused_zero-count-3 c =
    let p = c.requires in
    omega (arith, stretch-size _ _ _ _ _ p.0 _ _ _ p.1.0 c.args.part.now p.1.1.1 _ c.sent_bytes.ensures, c.oct.ensures)

pub slice_bounds-unused_zero-start-3 : goal.slice_bounds-unused_zero-start-3
slice_bounds-unused_zero-start-3 c =
    let p = c.requires in
    omega (arith, stretch-size _ _ _ _ _ p.0 _ _ _ p.1.0 c.args.part.now p.1.1.1 _ c.sent_bytes.ensures, c.oct.ensures)

pub overflow_add-z : goal.overflow_add-z
overflow_add-z c = omega (arith, ands-low _ _ _ _ _ c.requires.0, c.requires.0.legal.laid.few_gates, c.requires.0.legal.laid.few_outputs)

pub returns : goal.returns
returns c =
    let p = c.requires in
    unused-made _ _ _ _ _ p.0 _ _ _ p.1.0 c.args.part.now p.1.1.1 _ c.sent_bytes.ensures _ c.oct.ensures _ _ _ _ c.unused_zero-c.ensures c.unused_zero-m.ensures c.unused_zero-r.ensures refl

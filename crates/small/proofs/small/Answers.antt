-- `small::small` meets its contract: by the sizes, the place and the length of the output.
-- Assumes nothing.
use mathlib.Core.Path.{sym}
use native.Mathlib.Omega.{arith}
use Rattle.circuit.proofs.Readings.{fell, held}
use Rattle.small.proofs.Bounds.{count_low, count-some}
use Rattle.small.proofs.Every.{given}
use Rattle.small.proofs.Writes.{op-beyond, op-passed, op-short, op-written}
use Rattle.small.specs.Small.{small_sizes}
use Rattle.small.proofs.small.Goals as goal

pub returns-then-not-small_sizes : goal.returns-then-not-small_sizes
returns-then-not-small_sizes c = let x = c.args in
    sym (op-beyond x.inputs x.outputs x.gates x.place x.out.now (fell _ _ c.small_sizes.ensures c.if-not-small_sizes.true-raw))

pub count-requires : goal.count-requires
count-requires c = let x = c.args in
    let t = held (small_sizes x.inputs x.outputs x.gates) _ c.small_sizes.ensures c.if-not-small_sizes.false-raw in
    let g = given x.inputs x.outputs x.gates t in
    (g.few, g.most)

pub overflow_sub-last : goal.overflow_sub-last
overflow_sub-last c = let x = c.args in
    let t = held (small_sizes x.inputs x.outputs x.gates) _ c.small_sizes.ensures c.if-not-small_sizes.false-raw in
    let g = given x.inputs x.outputs x.gates t in
    let some = count-some x.inputs g.few g.some x.gates in
    omega arith

pub returns-then-place-last : goal.returns-then-place-last
returns-then-place-last c = let x = c.args in
    let t = held (small_sizes x.inputs x.outputs x.gates) _ c.small_sizes.ensures c.if-not-small_sizes.false-raw in
    let g = given x.inputs x.outputs x.gates t in
    let some = count-some x.inputs g.few g.some x.gates in
    sym (op-passed x.inputs x.outputs x.gates x.place x.out.now t g (omega arith))

pub returns-then-out-size : goal.returns-then-out-size
returns-then-out-size c = let x = c.args in
    let t = held (small_sizes x.inputs x.outputs x.gates) _ c.small_sizes.ensures c.if-not-small_sizes.false-raw in
    let g = given x.inputs x.outputs x.gates t in
    let some = count-some x.inputs g.few g.some x.gates in
    sym (op-short x.inputs x.outputs x.gates x.place x.out.now t g (omega arith) (omega arith))

pub overflow_cast-place : goal.overflow_cast-place
overflow_cast-place c = let x = c.args in
    let t = held (small_sizes x.inputs x.outputs x.gates) _ c.small_sizes.ensures c.if-not-small_sizes.false-raw in
    let g = given x.inputs x.outputs x.gates t in
    let some = count-some x.inputs g.few g.some x.gates in
    omega (arith, count_low x.inputs g.few x.gates)

pub write_file-requires : goal.write_file-requires
write_file-requires c = let x = c.args in
    let t = held (small_sizes x.inputs x.outputs x.gates) _ c.small_sizes.ensures c.if-not-small_sizes.false-raw in
    let g = given x.inputs x.outputs x.gates t in
    let some = count-some x.inputs g.few g.some x.gates in
    (g.some, (g.few, (g.most, (omega arith, omega arith))))

pub returns : goal.returns
returns c = let x = c.args in
    let t = held (small_sizes x.inputs x.outputs x.gates) _ c.small_sizes.ensures c.if-not-small_sizes.false-raw in
    let g = given x.inputs x.outputs x.gates t in
    let some = count-some x.inputs g.few g.some x.gates in
    op-written x.inputs x.outputs x.gates x.place x.out.now t g (omega arith) (omega arith) _ c.write_file.ensures

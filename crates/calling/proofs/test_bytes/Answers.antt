-- `calling::test_bytes` meets its contract.
-- Assumes nothing.
use mathlib.Core.Path.{refl}
use Rattle.std.proofs.lemmas.Result.{err_from_is_err_and}
use Rattle.circuit.proofs.Answered.{fell, held}
use Rattle.calling.proofs.Keeping.{keeps_outside, keeps-refused, keeps-ready}
use Rattle.calling.proofs.test_bytes.Goals as goal

pub returns-then-not-all_inside : goal.returns-then-not-all_inside
returns-then-not-all_inside c = keeps_outside c.args.buffer.now c.args.p (fell _ _ c.all_inside.ensures c.if-not-all_inside.true-raw)

pub look-requires : goal.look-requires
look-requires c = (held _ _ c.all_inside.ensures c.if-not-all_inside.false-raw, (refl, refl))

pub returns-in_err-shape : goal.returns-in_err-shape
returns-in_err-shape c =
    let p = err_from_is_err_and c.from_residual.result c.from_residual.ensures.1 in
    rw (p.1, p.2) (keeps-refused c.args.buffer.now c.args.p _ _ c.in_err-shape.was c.look.ensures.result_value)

pub returns : goal.returns
returns c =
    keeps-ready c.args.buffer.now c.args.p _ _ _ _ c.in_ok-shape.was c.look.ensures.result_value c.look.ensures.looking (held _ _ c.all_inside.ensures c.if-not-all_inside.false-raw) c.look.auto.table c.look.auto.marks

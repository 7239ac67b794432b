-- `one_of::build` meets its contract: by the gates and the length of the output.
-- Assumes nothing.
use mathlib.Core.Path.{refl}
use native.Mathlib.Omega.{arith}
use Rattle.one_of.proofs.Outcomes.{products, too_many, too_short, given, all-gates, done}
use Rattle.one_of.proofs.build.Goals as goal

pub overflow_add-z : goal.overflow_add-z
overflow_add-z c =
    let x = c in
    omega (arith, x.requires.0, x.requires.1.1.0, products x.args.n x.args.z.outputs x.requires.1.1.1.0 x.requires.0.few_outputs)

pub overflow_add-z-2 : goal.overflow_add-z-2
overflow_add-z-2 c =
    let x = c in
    omega (arith, x.requires.0, x.requires.1.1.0, products x.args.n x.args.z.outputs x.requires.1.1.1.0 x.requires.0.few_outputs)

pub overflow_mul-n : goal.overflow_mul-n
overflow_mul-n c =
    let x = c in
    omega (arith, x.requires.0, x.requires.1.1.0, products x.args.n x.args.z.outputs x.requires.1.1.1.0 x.requires.0.few_outputs)

pub overflow_add-z-3 : goal.overflow_add-z-3
overflow_add-z-3 c =
    let x = c in
    omega (arith, x.requires.0, x.requires.1.1.0, products x.args.n x.args.z.outputs x.requires.1.1.1.0 x.requires.0.few_outputs)

pub returns-then-z-n-gt-MAX_GATES : goal.returns-then-z-n-gt-MAX_GATES
returns-then-z-n-gt-MAX_GATES c =
    let x = c in
    too_many x.args.s.now x.args.list.now x.args.z x.args.n x.requires.0 x.requires.1.0 x.requires.1.1.1.1 x.args.out.now (omega (arith, c.if-z-n-gt-MAX_GATES.true))

pub overflow_add-total : goal.overflow_add-total
overflow_add-total c =
    let x = c in
    omega (arith, x.requires.0, x.requires.1.1.0, products x.args.n x.args.z.outputs x.requires.1.1.1.0 x.requires.0.few_outputs)

pub overflow_add-total-2 : goal.overflow_add-total-2
overflow_add-total-2 c =
    let x = c in
    omega (arith, x.requires.0, x.requires.1.1.0, products x.args.n x.args.z.outputs x.requires.1.1.1.0 x.requires.0.few_outputs)

pub overflow_mul-total : goal.overflow_mul-total
overflow_mul-total c =
    let x = c in
    omega (arith, x.requires.0, x.requires.1.1.0, products x.args.n x.args.z.outputs x.requires.1.1.1.0 x.requires.0.few_outputs)

pub overflow_add-total-3 : goal.overflow_add-total-3
overflow_add-total-3 c =
    let x = c in
    omega (arith, x.requires.0, x.requires.1.1.0, products x.args.n x.args.z.outputs x.requires.1.1.1.0 x.requires.0.few_outputs)

pub overflow_mul-size : goal.overflow_mul-size
overflow_mul-size c =
    let x = c in
    omega (arith, x.requires.0, x.requires.1.1.0, products x.args.n x.args.z.outputs x.requires.1.1.1.0 x.requires.0.few_outputs)

pub overflow_add-size : goal.overflow_add-size
overflow_add-size c =
    let x = c in
    omega (arith, x.requires.0, x.requires.1.1.0, products x.args.n x.args.z.outputs x.requires.1.1.1.0 x.requires.0.few_outputs)

pub overflow_mul-size-2 : goal.overflow_mul-size-2
overflow_mul-size-2 c =
    let x = c in
    omega (arith, x.requires.0, x.requires.1.1.0, products x.args.n x.args.z.outputs x.requires.1.1.1.0 x.requires.0.few_outputs)

pub returns-then-out-size : goal.returns-then-out-size
returns-then-out-size c =
    let x = c in
    too_short x.args.s.now x.args.list.now x.args.z x.args.n x.requires.0 x.requires.1.0 x.requires.1.1.1.1 x.requires.1.1.0 (omega (arith, c.if-z-n-gt-MAX_GATES.false)) _ refl x.args.out.now c.if-out-size.true

pub write_file-requires : goal.write_file-requires
write_file-requires c =
    let x = c in
    record {
      given = given x.args.s.now x.args.list.now x.args.z x.args.n x.requires.0 x.requires.1.0 x.requires.1.1.1.1 x.requires.1.1.0 (omega (arith, c.if-z-n-gt-MAX_GATES.false)) _ refl;
      all = all-gates x.args.s.now x.args.list.now x.args.z x.args.n x.requires.0 x.requires.1.0 x.requires.1.1.1.1 x.requires.1.1.0 (omega (arith, c.if-z-n-gt-MAX_GATES.false)) _ refl;
      room = c.if-out-size.false;
    }

pub returns : goal.returns
returns c =
    let x = c in
    done x.args.s.now x.args.list.now x.args.z x.args.n x.requires.0 x.requires.1.0 x.requires.1.1.1.1 x.requires.1.1.0 (omega (arith, c.if-z-n-gt-MAX_GATES.false)) _ refl x.args.out.now _ c.if-out-size.false c.write_file.ensures

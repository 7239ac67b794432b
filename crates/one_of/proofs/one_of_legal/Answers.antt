-- `one_of::one_of_legal` meets its contract: test by test.
-- Assumes nothing.
use mathlib.Core.Path.{◌∙◌}
use native.Mathlib.Omega.{arith}
use Rattle.one_of.proofs.Outcomes.{empty, long, uneven, unclean, clean, sizes}
use Rattle.one_of.proofs.one_of_legal.Goals as goal

pub returns-then-list-lt1 : goal.returns-then-list-lt1
returns-then-list-lt1 c =
    let x = c in
    empty x.args.s.now x.args.list.now x.args.out.now x.args.z x.requires.0 _ c.oct-len.ensures c.if-list-lt1.true

pub overflow_mul-len : goal.overflow_mul-len
overflow_mul-len c =
    let x = c in
    omega (arith, c.oct-len.ensures, x.requires.0.laid.few_outputs)

pub returns-then-len-list : goal.returns-then-len-list
returns-then-len-list c =
    let x = c in
    long x.args.s.now x.args.list.now x.args.out.now x.args.z x.requires.0 _ c.oct-len.ensures c.if-list-lt1.false c.if-len-list.true

pub nonzero_rem-list : goal.nonzero_rem-list
nonzero_rem-list c =
    let x = c in
    omega (arith, c.oct-len.ensures, x.requires.1)

pub returns-then-list-len-ne0 : goal.returns-then-list-len-ne0
returns-then-list-len-ne0 c =
    let x = c in
    uneven x.args.s.now x.args.list.now x.args.out.now x.args.z x.requires.0 _ c.oct-len.ensures c.if-list-lt1.false c.if-len-list.false c.if-list-len-ne0.true

pub nonzero_div-n : goal.nonzero_div-n
nonzero_div-n c =
    let x = c in
    omega (arith, c.oct-len.ensures, x.requires.1)

pub returns-then-not-unused_entries : goal.returns-then-not-unused_entries
returns-then-not-unused_entries c =
    let x = c in
    unclean x.args.s.now x.args.list.now x.args.out.now x.args.z x.requires.0 _ c.oct-len.ensures c.if-list-lt1.false c.if-len-list.false c.if-list-len-ne0.false _ c.unused_entries.ensures c.if-not-unused_entries.true-raw

pub build-requires : goal.build-requires
build-requires c =
    let x = c in
    (x.requires.0.laid, (x.requires.1, sizes x.args.list.now x.args.z.outputs _ c.oct-len.ensures x.requires.1 c.if-list-lt1.false c.if-len-list.false c.if-list-len-ne0.false))

pub returns : goal.returns
returns c =
    let x = c in
    c.build.ensures ∙ clean x.args.s.now x.args.list.now x.args.out.now x.args.z x.requires.0 _ c.oct-len.ensures c.if-list-lt1.false c.if-len-list.false c.if-list-len-ne0.false _ c.unused_entries.ensures c.if-not-unused_entries.false-raw

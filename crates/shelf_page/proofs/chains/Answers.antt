-- `shelf_page::chains` meets its contract: the tests of the chains, one after the other.
-- Assumes nothing.
use mathlib.Core.Path.{refl, sym, ◌∙◌}
use native.Mathlib.Omega.{arith}
use lib.ListN.{replicate}
use Rattle.shelf_page.proofs.Walks.{get_or-zeros, zeros-small}
use Rattle.shelf_page.proofs.Soundness.{as-true, as-false, tally-small, no-ready-end, no-spare-end, no-once, all-but-blank}
use mathlib.Core.Path.{ap}
use mathlib.Core.Bool.{not}
use Rattle.shelf_page.proofs.chains.Goals as goal

pub tally-requires : goal.tally-requires
tally-requires c = (refl, (omega arith, (omega arith, λ k. zeros-small 256 k)))

pub returns-then-not-tally : goal.returns-then-not-tally
returns-then-not-tally c =
    let x = c.args in
    sym (no-ready-end x.page.now x.size x.ready x.spare
    (as-false x.page.now x.size x.ready (replicate 256 0) c.tally.new.seen _ c.tally.ensures (ap not c.if-not-tally.true)))

pub tally-requires-2 : goal.tally-requires-2
tally-requires-2 c =
    let x = c.args in (
      c.tally.auto.seen,
      (
        omega arith,
        (omega arith, tally-small x.page.now x.size x.ready (replicate 256 0) c.tally.new.seen (omega arith) (get_or-zeros 256) (as-true x.page.now x.size x.ready (replicate 256 0) c.tally.new.seen _ c.tally.ensures (ap not c.if-not-tally.false))),
      ),
    )

pub returns-then-not-tally-2 : goal.returns-then-not-tally-2
returns-then-not-tally-2 c =
    let x = c.args in
    sym (no-spare-end x.page.now x.size x.ready x.spare
    (as-false x.page.now x.size x.spare c.tally.new.seen c.tally-2.new.seen _ c.tally-2.ensures (ap not c.if-not-tally-2.true)))

pub returns-then-not-each_once : goal.returns-then-not-each_once
returns-then-not-each_once c =
    let x = c.args in
    sym (no-once x.page.now x.size x.ready x.spare (replicate 256 0) c.tally.new.seen c.tally-2.new.seen (get_or-zeros 256) (as-true x.page.now x.size x.ready (replicate 256 0) c.tally.new.seen _ c.tally.ensures (ap not c.if-not-tally.false)) (as-true x.page.now x.size x.spare c.tally.new.seen c.tally-2.new.seen _ c.tally-2.ensures (ap not c.if-not-tally-2.false)) (sym c.each_once.ensures ∙ c.if-not-each_once.true))

pub blanks-requires : goal.blanks-requires
blanks-requires c =
    let x = c.args in
    (omega arith, (omega arith, sym (as-true x.page.now x.size x.spare c.tally.new.seen c.tally-2.new.seen _ c.tally-2.ensures (ap not c.if-not-tally-2.false)).is_ended))

pub returns : goal.returns
returns c =
    let x = c.args in
    c.blanks.ensures ∙ all-but-blank x.page.now x.size x.ready x.spare (replicate 256 0) c.tally.new.seen c.tally-2.new.seen (get_or-zeros 256) (as-true x.page.now x.size x.ready (replicate 256 0) c.tally.new.seen _ c.tally.ensures (ap not c.if-not-tally.false)) (as-true x.page.now x.size x.spare c.tally.new.seen c.tally-2.new.seen _ c.tally-2.ensures (ap not c.if-not-tally-2.false)) (sym c.each_once.ensures ∙ c.if-not-each_once.false)

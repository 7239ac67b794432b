-- `choice::write_chosen` meets its contract: the loop's invariant is that the first k instances are written.
-- Assumes nothing.
use native.Mathlib.Omega.{arith}
use Rattle.choice.proofs.Choosing.{written_none, written-more, written_all}
use Rattle.choice.proofs.write_chosen.Goals as goal

pub loop-k-init : goal.loop-k-init
loop-k-init c = let b = c in written_none b.args.chosen.now b.args.n b.args.bytes.now b.args.out.now b.requires.1.1

pub loop-k-preserved : goal.loop-k-preserved
loop-k-preserved c =
    let b = c in
    let x = b.args in
    let l = c.loop-k in
    written-more x.chosen.now x.n x.bytes.now l.out c.write_choice.new.out l.k b.requires.1.0 l.invariant (omega arith) c.write_choice.ensures

pub returns : goal.returns
returns c =
    let x = c.args in
    let l = c.loop-k in
    written_all x.chosen.now x.n x.bytes.now l.out l.k l.invariant c.loop-k-test.false

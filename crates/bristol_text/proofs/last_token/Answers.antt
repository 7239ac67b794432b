-- `bristol_text::last_token` meets its contract. The loop's invariant: the bytes from i on have no space.
-- Assumes nothing.
use native.Mathlib.Omega.{arith}
use Rattle.bristol_text.proofs.Tokens.{alone-start, alone-whole, alone-space, alone-back}
use Rattle.bristol_text.proofs.last_token.Goals as goal

pub loop-i-init : goal.loop-i-init
loop-i-init c = alone-start c.args.l.now

pub returns-then-l-i-eq32 : goal.returns-then-l-i-eq32
returns-then-l-i-eq32 c =
    alone-space c.args.l.now c.loop-i.i (omega arith) c.loop-i.invariant c.if-l-i-eq32.true

pub loop-i-preserved : goal.loop-i-preserved
loop-i-preserved c =
    alone-back c.args.l.now c.loop-i.i (omega arith) c.loop-i.invariant c.if-l-i-eq32.false

pub returns : goal.returns
returns c = alone-whole c.args.l.now c.loop-i.i (omega arith) c.loop-i.invariant

-- `calling::call` meets its contract: the refusals in their order, and the call.
-- Assumes nothing.
use borrow.Author.Rules.{rules}
use native.Mathlib.Omega.{arith}
use mathlib.Core.Path.{ap, ◌∙◌}
use Prim.Native.Nat.{ℕ}
use lib.ListN.{replicate}
use Rattle.calling.proofs.Calls.{quota-beyond, nobody-waits, short-work, call-made}
use Rattle.calling.proofs.call.Goals as goal

pub returns-then-not-named : goal.returns-then-not-named
returns-then-not-named c =
    let x = c.args in
    quota-beyond x.s x.quota x.buffer.now x.work.now (search rules)

pub returns-then-not-served : goal.returns-then-not-served
returns-then-not-served c =
    let x = c.args in
    nobody-waits x.s x.quota x.buffer.now x.work.now (search rules) (omega (arith, c.next_caller-served.ensures, c.if-not-served.true))

pub returns-then-work-lt-SHARED_WORK : goal.returns-then-work-lt-SHARED_WORK
returns-then-work-lt-SHARED_WORK c =
    let x = c.args in
    short-work x.s x.quota x.buffer.now x.work.now (search rules) (omega (arith, c.next_caller-served.ensures)) c.if-work-lt-SHARED_WORK.true

pub returns : goal.returns
returns c =
    let x = c.args in
    call-made x.s x.quota x.buffer.now x.work.now (search rules) (omega (arith, c.next_caller-served.ensures)) c.serve_all-r.result _ c.if-work-lt-SHARED_WORK.false
    c.serve_all-r.ensures (c.clear.ensures ∙ ap (λ (n : ℕ). replicate n 0) c.serve_all-r.auto.work)

-- `calling::serve_all`: what the services that are left make of the answer so far is what all services make of none.
-- Assumes nothing.
use borrow.Author.Rules.{rules}
use native.Mathlib.Omega.{arith}
use mathlib.Core.Path.{◌≡◌, refl, ◌∙◌}
use Prim.Native.Nat.{◌≤◌, ◌-◌}
use lib.ListN.{length}
use Rattle.calling.proofs.Turns.{standing, serve-none, serve-end, waits-now, turn-first, turn_last, turn_more}
use Rattle.calling.proofs.serve_all.Goals as goal

pub loop-turn-init : goal.loop-turn-init
loop-turn-init c =
    let x = c.args.s in
    let f : length x.waiting ≡ 16 = search rules in
    let j : length x.jobs ≡ 16 = search rules in
    (refl, turn-first c.args.buffer.now c.args.quota _ x.begin x.waiting x.jobs f j (omega arith))

pub returns-then-c-gt15 : goal.returns-then-c-gt15
returns-then-c-gt15 c =
    let x = c.args in
    let l = c.loop-turn in
    turn_last x.buffer.now x.quota (standing x.s.begin x.s.waiting x.s.jobs) l.begin l.waiting l.jobs l.kept l.verdicts (x.quota - l.turn) l.invariant.1
    (serve-none x.buffer.now l.begin l.waiting l.jobs (x.quota - l.turn) (omega (arith, c.next_caller-c.ensures, c.if-c-gt15.true))) _ (omega arith) _ c.answer.ensures

pub test_once-tested-requires : goal.test_once-tested-requires
test_once-tested-requires c =
    let x = c.args in
    let l = c.loop-turn in
    let w : c.next_caller-c.result ≤ 15 = omega (arith, c.if-c-gt15.false) in
    λ k q. l.invariant.1.keeps c.next_caller-c.result _ k (omega (arith, w)) (waits-now x.buffer.now l.begin l.waiting l.jobs c.next_caller-c.result c.next_caller-c.ensures w) q

pub serve_tested-r-requires : goal.serve_tested-r-requires
serve_tested-r-requires c = (c.test_once-tested.ensures, omega (arith, c.loop-turn.invariant.0, c.requires))

pub loop-turn-preserved : goal.loop-turn-preserved
loop-turn-preserved c =
    let x = c.args in
    let l = c.loop-turn in (
      c.serve_tested-r.auto.work ∙ l.invariant.0,
      turn_more x.buffer.now x.quota (standing x.s.begin x.s.waiting x.s.jobs) l.begin l.waiting l.jobs l.kept l.verdicts c.next_caller-c.result c.next_caller-c.ensures
          (omega (arith, c.if-c-gt15.false)) _ c.test_once-tested.result c.test_once-tested.ensures c.serve_tested-r.result c.serve_tested-r.ensures
          (x.quota - l.turn) c.told_after.result _ c.waits_on.result c.job_after.result c.ok.result (omega arith) c.told_after.ensures c.waits_on.ensures c.job_after.ensures c.ok.ensures.value (omega arith) l.invariant.1,
    )

pub returns : goal.returns
returns c =
    let x = c.args in
    let l = c.loop-turn in
    turn_last x.buffer.now x.quota (standing x.s.begin x.s.waiting x.s.jobs) l.begin l.waiting l.jobs l.kept l.verdicts (x.quota - l.turn) l.invariant.1
    (serve-end x.buffer.now l.begin l.waiting l.jobs (x.quota - l.turn) (omega arith)) _ (omega arith) _ c.answer-2.ensures

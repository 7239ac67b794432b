-- `instance::seeding::seed_rows` meets its contract. The loop's invariant: the first i rows are written.
-- Assumes nothing.
use native.Mathlib.Omega.{arith}
use mathlib.Core.Path.{◌≡◌, refl, ap, ◌∙◌}
use mathlib.Core.List.{List, flatten}
use Prim.Native.Nat.{ℕ, ◌+◌, ◌*◌}
use lib.ListN.{length, take, drop}
use lib.Seq.{sets, length-sets}
use Rattle.bits.specs.Bits.{tabulate}
use Rattle.instance.specs.Steps.{seed_but}
use Rattle.four_sponges.proofs.Rows.{sets-after}
use Rattle.instance.proofs.Written.{none_written, rows-length}
use Rattle.instance.proofs.Together.{rows_more}
use Rattle.instance.proofs.Seeded.{seed-size, seeds-end}
use Rattle.instance.proofs.seeding.seed_rows.Goals as goal

pub loop-i-init : goal.loop-i-init
loop-i-init c = (omega arith, (refl, none_written _ _))

pub next_seeds-i-requires : goal.next_seeds-i-requires
next_seeds-i-requires c =
    let p = c.requires in
    (p.0, (c.loop-i-test.true, (p.1.0, omega (arith, p.1.1, c.loop-i.invariant.1.0))))

pub overflow_add-i : goal.overflow_add-i
overflow_add-i c = omega (arith, c.next_seeds-i.ensures.1.0, c.requires.0)

pub loop-i-smaller : goal.loop-i-smaller
loop-i-smaller c = omega (arith, c.next_seeds-i.ensures.0, c.next_seeds-i.ensures.1.0)

pub loop-i-preserved : goal.loop-i-preserved
loop-i-preserved c =
    let o = c in
    let x = o.args in
    let l = c.loop-i in
    let m = x.memory.now in
    let n = x.inst.parties in
    let L = take (16 * n) (drop x.leaves m) in
    let f = seed_but x.p x.inst.context L in
    let size = seed-size x.p x.inst.context L in
    let rows = flatten (tabulate l.i f) in
    let kept : take (16 * n) (drop x.leaves l.memory) ≡ L =
    ap (λ (t : List ℕ). take (16 * n) (drop x.leaves t)) l.invariant.1.1
    ∙ ap (take (16 * n)) (sets-after m x.to rows x.leaves (omega (arith, rows-length 32 f size l.i, o.requires.1.0, c.loop-i-test.true))) in
    let q = rows_more 32 f size m x.to l.i c.next_seeds-i.result l.memory c.next_seeds-i.new.memory l.invariant.1.1
    (c.next_seeds-i.ensures.1.1 ∙ ap (λ (t : List ℕ). sets l.memory (x.to + l.i * 32) (flatten (tabulate c.next_seeds-i.result (λ k. seed_but x.p x.inst.context t (l.i + k))))) kept) in
    (c.next_seeds-i.ensures.1.0, (ap length q ∙ length-sets m x.to (flatten (tabulate (l.i + c.next_seeds-i.result) f)), q))

pub returns : goal.returns
returns c =
    let x = c.args in
    let l = c.loop-i in
    seeds-end x.p x.inst.context (take (16 * x.inst.parties) (drop x.leaves x.memory.now)) x.inst.parties l.i x.to x.memory.now l.memory (omega arith) l.invariant.1.1

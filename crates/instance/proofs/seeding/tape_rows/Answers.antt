-- `instance::seeding::tape_rows` meets its contract. The loop's invariant: the first i rows are written.
-- Assumes nothing.
use native.Mathlib.Omega.{arith}
use mathlib.Core.Path.{◌≡◌, refl, sym, ap, ◌∙◌}
use mathlib.Core.List.{List, flatten}
use Prim.Native.Nat.{ℕ, ◌+◌, ◌*◌}
use lib.ListN.{length, take, drop}
use lib.Seq.{sets, length-sets}
use Rattle.bits.specs.Bits.{oct, tabulate}
use Rattle.circuit.specs.File.{circuit_of}
use Rattle.mpc.proofs.Opened.{circuit-row}
use Rattle.instance.specs.Steps.{tape_but}
use Rattle.instance.proofs.Written.{part-ahead, none_written}
use Rattle.instance.proofs.Together.{rows_more}
use Rattle.instance.proofs.Seeded.{tape-size, tapes-end}
use Rattle.instance.proofs.seeding.tape_rows.Goals as goal

pub loop-i-init : goal.loop-i-init
loop-i-init c = (omega arith, (refl, none_written _ _))

pub next_tapes-i-requires : goal.next_tapes-i-requires
next_tapes-i-requires c =
    let p = c.requires in
    (p.0, (p.1.0, (c.loop-i-test.true, (p.1.1.0, omega (arith, p.1.1.1, c.loop-i.invariant.1.0)))))

pub overflow_add-i : goal.overflow_add-i
overflow_add-i c = omega (arith, c.next_tapes-i.ensures.1.0, c.requires.1.0)

pub loop-i-smaller : goal.loop-i-smaller
loop-i-smaller c = omega (arith, c.next_tapes-i.ensures.0, c.next_tapes-i.ensures.1.0)

pub loop-i-preserved : goal.loop-i-preserved
loop-i-preserved c =
    let o = c in
    let x = o.args in
    let l = c.loop-i in
    let m = x.memory.now in
    let n = x.inst.parties in
    let C = circuit_of x.s.now in
    let S = take (32 * n) (drop x.seeds m) in
    let f = tape_but C n x.p x.inst.context S in
    let len = oct (x.z.inputs + 2 * x.z.ands) in
    let size = tape-size C n x.p x.inst.context S len (sym (circuit-row _ _ _ _ _ o.requires.0)) in
    let r = c.next_tapes-i.result in
    let kept : take (32 * n) (drop x.seeds l.memory) ≡ S =
    ap (λ (t : List ℕ). take (32 * n) (drop x.seeds t)) l.invariant.1.1 ∙ part-ahead (32 * n) x.seeds x.to m (flatten (tabulate l.i f)) o.requires.1.1.0 in
    let q = rows_more len f size m x.to l.i r l.memory c.next_tapes-i.new.memory l.invariant.1.1
    (c.next_tapes-i.ensures.1.1 ∙ ap (λ (t : List ℕ). sets l.memory (x.to + l.i * len) (flatten (tabulate r (λ k. tape_but C n x.p x.inst.context t (l.i + k))))) kept) in
    (c.next_tapes-i.ensures.1.0, (ap length q ∙ length-sets m x.to (flatten (tabulate (l.i + r) f)), q))

pub returns : goal.returns
returns c =
    let x = c.args in
    let l = c.loop-i in
    tapes-end (circuit_of x.s.now) x.inst.parties x.p x.inst.context (take (32 * x.inst.parties) (drop x.seeds x.memory.now)) l.i x.to x.memory.now l.memory (omega arith) l.invariant.1.1

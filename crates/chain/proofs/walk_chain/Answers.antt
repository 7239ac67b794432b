-- `chain::walk_chain` meets its contract. The loop's invariant: the walk from the slot in hand, with the visits that are left,
-- comes to what the walk from head comes to.
-- Assumes nothing.
use mathlib.Core.Path.{◌≡◌, sym, ap, ap₂, ◌∙◌}
use Prim.Native.Nat.{ℕ, ◌-◌, ◌+◌}
use native.Mathlib.Omega.{arith}
use Rattle.circuit.specs.Chain.{walk_from}
use Rattle.circuit.specs.Steps.{walk_paper}
use Rattle.circuit.specs.Fields.{field, gates_of, link_of, chain_walk}
use Rattle.circuit.proofs.Slots.{inside, next-read}
use Rattle.circuit.proofs.Walking.{at-beyond, at-early, at_next, at_last, link-head, link-slot}
use Rattle.chain.proofs.walk_chain.Goals as goal

pub loop-init : goal.loop-init
unfolding chain_walk
loop-init c =
    let s = field c.args.f.width c.args.s.now in
    let f = c.requires in
    let n : c.args.f.gates - 0 ≡ gates_of s = omega (arith, f.laid.gates) in
    (f.head ∙ sym (link-head s), ap (λ (n : ℕ). walk_from (gates_of s) (link_of s) n 0) n)

pub returns-then-gates-link : goal.returns-then-gates-link
returns-then-gates-link c =
    let l = c.loop in
    let s = field c.args.f.width c.args.s.now in
    let g = c.requires.laid.gates in
    ap walk_paper c.fault.ensures ∙ sym (at-beyond (gates_of s) (link_of s) (c.args.f.gates - l.counter) l.holder (omega (arith, l.invariant.0, g, c.if-gates-link.true))) ∙ l.invariant.1

pub returns-then-link-eq0 : goal.returns-then-link-eq0
returns-then-link-eq0 c =
    let l = c.loop in
    let s = field c.args.f.width c.args.s.now in
    ap walk_paper c.fault-then-link-eq0.ensures ∙ sym (at-early (gates_of s) (link_of s) (c.args.f.gates - l.counter) l.holder (omega arith) (omega (arith, l.invariant.0, c.if-link-eq0.true))) ∙ l.invariant.1

pub record_with-r-requires : goal.record_with-r-requires
record_with-r-requires c = inside _ _ _ _ _ _ c.requires.laid (omega arith) (omega arith)

pub loop-preserved : goal.loop-preserved
loop-preserved c =
    let l = c.loop in
    let x = c in
    let s = field x.args.f.width x.args.s.now in
    let g = x.requires.laid.gates in
    let n = next-read s l.link _ c.record_with-r.ensures in
    let e = l.invariant.0 in
    let t : c.args.f.gates - (l.counter + 1) ≡ c.args.f.gates - l.counter - 1 = omega arith in (
      n ∙ sym (link-slot s l.link (omega arith)),
      ap₂ (walk_from (gates_of s) (link_of s)) t e
          ∙ sym (at_next (gates_of s) (link_of s) (c.args.f.gates - l.counter) l.holder (omega arith) (omega (arith, e)) (omega (arith, e, g)))
          ∙ l.invariant.1,
    )

pub returns : goal.returns
returns c =
    let l = c.loop in
    let x = c in
    let s = field x.args.f.width x.args.s.now in
    let g = x.requires.laid.gates in
    c.last_link.ensures
    ∙ ap₂ (λ (n k : ℕ). walk_from n (λ _. k) 0 l.holder) g l.invariant.0
    ∙ sym (at_last (gates_of s) (link_of s) (c.args.f.gates - l.counter) l.holder (omega arith))
    ∙ l.invariant.1

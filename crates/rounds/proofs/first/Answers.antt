-- `rounds::first` meets its contract. The loop's invariant: the h_i below j are taken in, and the h'_i below j are written.
-- Assumes nothing.
use native.Mathlib.Omega.{arith}
use mathlib.Core.Path.{◌≡◌, refl, sym, ap, ◌∙◌}
use mathlib.Core.List.{[]}
use Prim.Native.Nat.{◌+◌, ◌-◌, ◌*◌, ◌≤◌}
use borrow.Rule.Slice.PartMut.{same_len_mid}
use lib.ListN.{length}
use Rattle.bits.proofs.Rows.{part_length, rows_none, rows-turn}
use Rattle.circuit.specs.File.{circuit_of}
use Rattle.hashing.specs.Inputs.{context_of, all_online_input}
use Rattle.hashing.proofs.Digests.{taken_more}
use Rattle.instance.specs.Instance.{master_commitments, master_online}
use Rattle.proof.specs.Steps.{master_in}
use Rattle.proof.proofs.Leaves.{length-master_in}
use Rattle.rounds.specs.Steps.{onlines_of}
use Rattle.rounds.proofs.Firsts.{lent-kept, length-online, length-given, taken-fits, online_at, all_none, all-turn, first-end, onlines-end}
use Rattle.rounds.proofs.first.Goals as goal
use Rattle.rounds.proofs.first.Goals.{After-copy-arg-in-loop-i-1}

-- the row lies inside
inside : (c : After-copy-arg-in-loop-i-1) → 32 * c.loop-i.i + 32 ≤ length c.loop-i.onlines
inside c = omega (arith, c.loop-i-test.true, c.loop-i.invariant.0, c.requires.1.1.1.1)

pub loop-i-init : goal.loop-i-init
loop-i-init c =
    let x = c.args in
    (refl, (refl, (all_none (circuit_of x.s.now) x.k.parties x.salt x.witness.now (master_in x.nodes.now) _ c.start_all_commitments-all.ensures, rows_none 32 x.onlines.now)))

pub master-requires : goal.master-requires
master-requires c = omega (arith, c.requires.1.1.0)

pub digests-d-requires : goal.digests-d-requires
digests-d-requires c =
    let x = c.args in
    let p = c.requires in
    let l = c.loop-i in
    (lent-kept _ _ _ _ _ _ _ _ _ p.0 l.invariant.1.0, (p.1.0, ap length c.master.ensures ∙ length-master_in x.k.instances x.nodes.now p.1.1.1.0 l.i c.loop-i-test.true))

pub absorb-all-requires : goal.absorb-all-requires
absorb-all-requires c =
    let l = c.loop-i in
    (omega arith, (refl, taken-fits _ l.all l.invariant.1.1.0))

pub overflow_cast-a : goal.overflow_cast-a
overflow_cast-a c = omega (arith, c.requires.1.1.0)

pub overflow_mul-a : goal.overflow_mul-a
overflow_mul-a c = omega (arith, c.requires.1.1.0)

pub overflow_add-e : goal.overflow_add-e
overflow_add-e c = omega (arith, c.requires.1.1.0)

pub slice_bounds-copy-end-in-loop-i : goal.slice_bounds-copy-end-in-loop-i
slice_bounds-copy-end-in-loop-i c = inside c

pub copy-requires : goal.copy-requires
copy-requires c =
    let l = c.loop-i in
    part_length 32 l.i (32 * l.i) (32 * l.i + 32) (omega arith) refl l.onlines (inside (goal.at.copy-requires c).After-copy-arg-in-loop-i-1) ∙ sym (ap length c.digests-d.ensures.1 ∙ length-online _ _ _ _ _)

pub loop-i-preserved : goal.loop-i-preserved
loop-i-preserved c =
    let l = c.loop-i in
    let x = c.args in
    let z = c.copy.new.to in
    let a = 32 * l.i in
    let k = c.copy.auto.to in (
      same_len_mid a (a + 32 - a) l.onlines z k ∙ l.invariant.0,
      (
        c.digests-d.auto.memory ∙ l.invariant.1.0,
        (
          all-turn (circuit_of x.s.now) x.k.parties x.salt x.witness.now (master_in x.nodes.now) l.i l.all l.invariant.1.1.0 _ _
              (c.digests-d.ensures.0 ∙ ap (master_commitments (circuit_of x.s.now) x.k.parties (context_of x.salt l.i)) c.master.ensures) c.absorb-all.ensures,
          rows-turn 32 l.i a (a + 32) (omega arith) refl l.onlines (inside (goal.at.loop-i-preserved c).After-copy-arg-in-loop-i-1) (online_at (circuit_of x.s.now) x.k.parties x.salt x.witness.now (master_in x.nodes.now)) z
              (k ∙ part_length 32 l.i a (a + 32) (omega arith) refl l.onlines (inside (goal.at.loop-i-preserved c).After-copy-arg-in-loop-i-1))
              l.invariant.1.1.1
              (c.copy.ensures ∙ c.digests-d.ensures.1 ∙ ap (master_online (circuit_of x.s.now) x.k.parties (context_of x.salt l.i) x.witness.now) c.master.ensures),
        ),
      ),
    )

pub absorb-requires : goal.absorb-requires
absorb-requires c = (omega arith, (refl, taken-fits _ _ c.start_all_online.ensures))

pub finish-online-requires : goal.finish-online-requires
finish-online-requires c = taken-fits _ _ (taken_more (all_online_input []) _ _ _ c.start_all_online.ensures c.absorb.ensures)

pub finish-requires : goal.finish-requires
finish-requires c = taken-fits _ c.loop-i.all c.loop-i.invariant.1.1.0

pub slice_bounds-transcript-end : goal.slice_bounds-transcript-end
slice_bounds-transcript-end c = sym (ap length c.finish.ensures ∙ length-given _)

pub slice_bounds-transcript-end-2 : goal.slice_bounds-transcript-end-2
slice_bounds-transcript-end-2 c = sym (ap length c.finish-online.ensures ∙ length-given _)

pub returns : goal.returns
unfolding onlines_of
returns c =
    let l = c.loop-i in
    let x = c.args in
    let p = c.requires in
    let e : l.i ≡ x.k.instances = omega (arith, c.loop-i-test.false) in
    let w = onlines-end (circuit_of x.s.now) x.k.parties x.salt x.witness.now (master_in x.nodes.now) x.k.instances l.i l.onlines e (l.invariant.0 ∙ p.1.1.1.1) l.invariant.1.1.1 in record {
      value = first-end (circuit_of x.s.now) x.k.parties x.salt x.witness.now (master_in x.nodes.now) l.i l.all l.invariant.1.1.0 x.k.instances l.onlines _ _ _ _ _ e
          c.finish.ensures w c.start_all_online.ensures c.absorb.ensures c.finish-online.ensures c.transcript.ensures;
      onlines_after = w;
    }

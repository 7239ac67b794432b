-- `rounds::respond` meets its contract. The loop's invariant: the stretches from j on stand in their places, and what lies
-- before them is as it was.
-- Assumes nothing.
use native.Mathlib.Omega.{arith}
use mathlib.Core.Path.{◌≡◌, refl, sym, ap, ap₂, ◌∙◌}
use mathlib.Core.List.{List, ◌++◌}
use Prim.Native.Nat.{ℕ, ◌+◌, ◌-◌, ◌*◌, ◌≤◌}
use borrow.Rule.Slice.PartMut.{same_len_mid, mid_len}
use lib.ListN.{length, take}
use Rattle.hashing.specs.Inputs.{context_of}
use Rattle.circuit.specs.File.{circuit_of}
use Rattle.instance.specs.Instance.{master_online, stretch_of}
use Rattle.proof.specs.Protocol.{response_of}
use Rattle.proof.specs.Steps.{ask_of, asks_in, master_in}
use Rattle.proof.proofs.Leaves.{length-master_in}
use Rattle.rounds.specs.Steps.{onlines_of}
use Rattle.rounds.proofs.Firsts.{lent-kept}
use Rattle.rounds.proofs.Responds.{sent, front_length, sent-size, sent-begin, onlines-inside, sent-inside, online-there, sent-turn, sent-end, party-low, start_fits, start_is}
use Rattle.rounds.proofs.respond.Goals as goal
use Rattle.rounds.proofs.respond.Goals.{After-stretch_bytes}

-- the stretch begins inside
fits : (c : After-stretch_bytes) → c.stretch_bytes.result ≤ c.loop-j.end
fits c =
    let x = c.args in
    let l = c.loop-j in
    start_fits (circuit_of x.s.now) x.k.parties x.salt x.witness.now (master_in x.nodes.now) x.table.now (take x.opened x.part.now) (l.j - 1) l.j c.asked-p.result c.stretch_bytes.result l.end (omega (arith, c.loop-j-test.true)) c.asked-p.ensures c.stretch_bytes.ensures l.invariant.1.1.0

-- there the stretches before it end
begins : (c : After-stretch_bytes) → c.loop-j.end - c.stretch_bytes.result ≡ length (sent (circuit_of c.args.s.now) c.args.k.parties c.args.salt c.args.witness.now (master_in c.args.nodes.now) (asks_in c.args.k.parties c.args.table.now) (take c.args.opened c.args.part.now) (c.loop-j.j - 1))
begins c =
    let x = c.args in
    let l = c.loop-j in
    start_is (circuit_of x.s.now) x.k.parties x.salt x.witness.now (master_in x.nodes.now) x.table.now (take x.opened x.part.now) (l.j - 1) l.j c.asked-p.result c.stretch_bytes.result l.end (omega (arith, c.loop-j-test.true)) c.asked-p.ensures c.stretch_bytes.ensures l.invariant.1.1.0

-- the bytes of all stretches
whole : (c : After-stretch_bytes) → length c.args.part.now ≡ length (sent (circuit_of c.args.s.now) c.args.k.parties c.args.salt c.args.witness.now (master_in c.args.nodes.now) (asks_in c.args.k.parties c.args.table.now) (take c.args.opened c.args.part.now) c.args.k.instances)
whole c =
    let x = c.args in
    sent-size (circuit_of x.s.now) x.k.parties x.salt x.witness.now (master_in x.nodes.now) (asks_in x.k.parties x.table.now) (take x.opened x.part.now) x.k.instances x.part.now (front_length _ _ _ _ _ _ _ _ _ c.requires.1.1) c.requires.1.1.size

-- the stretch ends inside
ends : (c : After-stretch_bytes) → c.loop-j.end ≤ length c.loop-j.part
ends c =
    let x = c.args in
    let l = c.loop-j in
    omega (arith, whole c, l.invariant.0, l.invariant.1.1.0, sent-inside (circuit_of x.s.now) x.k.parties x.salt x.witness.now (master_in x.nodes.now) (asks_in x.k.parties x.table.now) (take x.opened x.part.now) (l.j - 1) l.j x.k.instances (omega (arith, c.loop-j-test.true)) (omega arith))

-- the h'_j lies inside
inside : (c : After-stretch_bytes) → 32 * (c.loop-j.j - 1) + 32 ≤ length c.loop-j.part
inside c =
    let x = c.args in
    let p = c.requires in
    let l = c.loop-j in
    omega (arith, l.invariant.0, c.loop-j-test.true, onlines-inside (circuit_of x.s.now) x.k.parties x.salt x.witness.now (master_in x.nodes.now) (asks_in x.k.parties x.table.now) (take x.opened x.part.now) x.k.instances x.part.now (front_length _ _ _ _ _ _ _ _ _ p.1.1) p.1.1.size)

pub loop-j-init : goal.loop-j-init
loop-j-init c =
    let x = c.args in
    let p = c.requires.1.1.size in
    let f = front_length _ _ _ _ _ _ _ _ _ c.requires.1.1 in
    (refl, (refl, (sent-size (circuit_of x.s.now) x.k.parties x.salt x.witness.now (master_in x.nodes.now) (asks_in x.k.parties x.table.now) (take x.opened x.part.now) x.k.instances x.part.now f p, sent-begin (circuit_of x.s.now) x.k.parties x.salt x.witness.now (master_in x.nodes.now) (asks_in x.k.parties x.table.now) (take x.opened x.part.now) x.k.instances x.part.now f p)))

pub stretch_bytes-requires : goal.stretch_bytes-requires
stretch_bytes-requires c =
    let p = c.requires in
    let x = c.args in
    (p.0.known, (p.0.tree, party-low x.k.parties (c.loop-j.j - 1) c.asked-p.result x.table.now p.1.1.asking c.asked-p.ensures))

pub overflow_sub-start : goal.overflow_sub-start
overflow_sub-start c = fits c

pub overflow_cast-a : goal.overflow_cast-a
overflow_cast-a c = omega (arith, c.requires.1.1.few)

pub overflow_mul-a : goal.overflow_mul-a
overflow_mul-a c = omega (arith, c.requires.1.1.few)

pub overflow_add-e : goal.overflow_add-e
overflow_add-e c = omega (arith, c.requires.1.1.few)

pub slice_bounds-copy-end : goal.slice_bounds-copy-end
slice_bounds-copy-end c = inside (goal.at.slice_bounds-copy-end c).After-stretch_bytes

pub slice_bounds-copy-end-in-loop-j : goal.slice_bounds-copy-end-in-loop-j
slice_bounds-copy-end-in-loop-j c = refl

pub copy-requires : goal.copy-requires
copy-requires c =
    let l = c.loop-j in
    let a = 32 * (l.j - 1) in
    sym (mid_len a (a + 32) l.part (inside (goal.at.copy-requires c).After-stretch_bytes) ∙ omega arith)

pub master-requires : goal.master-requires
master-requires c = omega (arith, c.requires.1.1.few)

pub slice_bounds-stretch-end : goal.slice_bounds-stretch-end
slice_bounds-stretch-end c = sym c.copy.auto.to

pub slice_bounds-stretch-count : goal.slice_bounds-stretch-count
slice_bounds-stretch-count c = omega (arith, fits (goal.at.slice_bounds-stretch-count c).After-stretch_bytes)

pub slice_bounds-stretch-start : goal.slice_bounds-stretch-start
slice_bounds-stretch-start c = omega (arith, fits (goal.at.slice_bounds-stretch-start c).After-stretch_bytes)

pub slice_bounds-stretch-end-in-loop-j : goal.slice_bounds-stretch-end-in-loop-j
slice_bounds-stretch-end-in-loop-j c = ends (goal.at.slice_bounds-stretch-end-in-loop-j c).After-stretch_bytes

pub stretch-requires : goal.stretch-requires
unfolding onlines_of
stretch-requires c =
    let x = c.args in
    let p = c.requires in
    let l = c.loop-j in
    let b = c in
    let start = l.end - b.stretch_bytes.result in (
      lent-kept _ _ _ _ _ _ _ _ _ p.0 l.invariant.1.0,
      (
        p.1.0,
        (
          party-low x.k.parties (l.j - 1) c.asked-p.result x.table.now p.1.1.asking c.asked-p.ensures,
          (
            ap length c.master.ensures ∙ length-master_in x.k.instances x.nodes.now p.1.1.rows (l.j - 1) (omega (arith, c.loop-j-test.true)),
            (
              c.copy.ensures
                  ∙ online-there (circuit_of x.s.now) x.k.parties x.salt x.witness.now (master_in x.nodes.now) (asks_in x.k.parties x.table.now) (take x.opened x.part.now) (l.j - 1) l.j x.k.instances (omega (arith, c.loop-j-test.true)) (omega arith) start l.end x.part.now l.part (whole (goal.at.stretch-requires c).After-stretch_bytes) (begins (goal.at.stretch-requires c).After-stretch_bytes) l.invariant.1.1.0 l.invariant.1.1.1 (32 * (l.j - 1)) l.invariant.0 p.1.1.onlines refl
                  ∙ ap (master_online (circuit_of x.s.now) x.k.parties (context_of x.salt (l.j - 1)) x.witness.now) (sym c.master.ensures),
              mid_len start l.end l.part (ends (goal.at.stretch-requires c).After-stretch_bytes) ∙ omega (arith, fits (goal.at.stretch-requires c).After-stretch_bytes) ∙ b.stretch_bytes.ensures,
            ),
          ),
        ),
      ),
    )

pub loop-j-preserved : goal.loop-j-preserved
loop-j-preserved c =
    let x = c.args in
    let l = c.loop-j in
    let b = c in
    let start = l.end - b.stretch_bytes.result in (
      same_len_mid start (l.end - start) l.part c.stretch.new.part c.stretch.auto.part ∙ l.invariant.0,
      (
        c.stretch.auto.memory ∙ l.invariant.1.0,
        (
          begins (goal.at.loop-j-preserved c).After-stretch_bytes,
          sent-turn (circuit_of x.s.now) x.k.parties x.salt x.witness.now (master_in x.nodes.now) (asks_in x.k.parties x.table.now) (take x.opened x.part.now) (l.j - 1) l.j x.k.instances (omega (arith, c.loop-j-test.true)) (omega arith) start l.end x.part.now l.part (whole (goal.at.loop-j-preserved c).After-stretch_bytes) (begins (goal.at.loop-j-preserved c).After-stretch_bytes) l.invariant.1.1.0 l.invariant.1.1.1 c.stretch.new.part
              (c.stretch.ensures ∙ ap₂ (λ (u : List ℕ) (i : ℕ). stretch_of (circuit_of x.s.now) x.k.parties (context_of x.salt (l.j - 1)) x.witness.now u (ask_of x.k.parties i)) c.master.ensures c.asked-p.ensures),
        ),
      ),
    )

pub shape_of-part : goal.shape_of-part
shape_of-part c = c.loop-j.invariant.0

pub returns : goal.returns
returns c =
    let l = c.loop-j in
    let x = c.args in
    let f = front_length _ _ _ _ _ _ _ _ _ c.requires.1.1 ∙ sym c.requires.1.1.place in
    sent-end (circuit_of x.s.now) x.k.parties x.salt x.witness.now (master_in x.nodes.now) (asks_in x.k.parties x.table.now) (take x.opened x.part.now) l.j x.k.instances l.end x.part.now l.part (omega (arith, c.loop-j-test.false)) l.invariant.1.1.0 l.invariant.1.1.1
    ∙ ap (λ (i : ℕ). take i x.part.now ++ response_of (circuit_of x.s.now) x.k.instances x.k.parties x.salt x.witness.now (master_in x.nodes.now) (asks_in x.k.parties x.table.now)) f

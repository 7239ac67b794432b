-- `proving::prove_lent` meets its contract.
-- Assumes nothing.
use mathlib.Core.Path.{refl}
use mathlib.Core.Logic.{inl, inr}
use Rattle.parties.proofs.Counts.{is_count, no_count}
use Rattle.proving.proofs.Provings.{prove-counts, prove-few, prove-tree, prove-length, prove-unused, prove-witness, prove-tested, prove-root, prove-output, prove-done}
use Rattle.proving.proofs.prove_lent.Goals as goal

pub returns-then-not-counts : goal.returns-then-not-counts
returns-then-not-counts c = prove-counts _ _ _ _ _ c.requires.1.0 _ _ _ _ _ _ _ _ _ _ refl _ c.counts.ensures (inl c.if-not-counts.true)

pub returns-in_default : goal.returns-in_default
returns-in_default c = prove-counts _ _ _ _ _ c.requires.1.0 _ _ _ _ _ _ _ _ _ _ refl _ c.counts.ensures (inr (c.if-not-counts.false, no_count _ _ c.height.ensures c.in_default.is))

pub lengths-requires : goal.lengths-requires
lengths-requires c =
    let k = is_count _ _ _ c.height.ensures c.in-Some.is in
    let x = c.args in
    let p = c.requires.1.0 in
    (p, prove-few _ _ _ _ _ p x.witness.now x.y.now x.message.now x.root.now x.salt.now x.buffer.now _ _ _ _ k.is _ c.counts.ensures c.if-not-counts.false k.more)

pub returns-then-not-lengths : goal.returns-then-not-lengths
returns-then-not-lengths c =
    let k = is_count _ _ _ c.height.ensures c.in-Some.is in
    prove-length _ _ _ _ _ c.requires.1.0 _ _ _ _ _ _ _ _ _ _ k.is _ c.counts.ensures c.if-not-counts.false k.more _ c.lengths.ensures c.if-not-lengths.true-raw

pub returns-then-not-unused_zero : goal.returns-then-not-unused_zero
returns-then-not-unused_zero c =
    let k = is_count _ _ _ c.height.ensures c.in-Some.is in
    prove-unused _ _ _ _ _ c.requires.1.0 _ _ _ _ _ _ _ _ _ _ k.is _ c.counts.ensures c.if-not-counts.false k.more _ c.lengths.ensures c.if-not-lengths.false-raw _ _ c.unused_zero.ensures c.unused_zero-2.ensures c.if-not-unused_zero.true

pub gives-requires : goal.gives-requires
gives-requires c =
    let k = is_count _ _ _ c.height.ensures c.in-Some.is in
    let x = c.args in
    let p = c.requires in
    (p.0, (p.1.0, prove-witness _ _ _ _ _ p.1.0 x.witness.now x.y.now x.message.now x.root.now x.salt.now x.buffer.now _ _ _ _ k.is _ c.counts.ensures c.if-not-counts.false k.more _ c.lengths.ensures c.if-not-lengths.false-raw _ _ c.unused_zero.ensures c.unused_zero-2.ensures c.if-not-unused_zero.false))

pub returns-then-not-gives : goal.returns-then-not-gives
returns-then-not-gives c =
    let k = is_count _ _ _ c.height.ensures c.in-Some.is in
    prove-output _ _ _ _ _ c.requires.1.0 _ _ _ _ _ _ _ _ _ _ k.is _ c.counts.ensures c.if-not-counts.false k.more _ c.lengths.ensures c.if-not-lengths.false-raw _ _ c.unused_zero.ensures c.unused_zero-2.ensures c.if-not-unused_zero.false _ c.gives.ensures c.if-not-gives.true-raw

pub prove_in-requires : goal.prove_in-requires
prove_in-requires c =
    let k = is_count _ _ _ c.height.ensures c.in-Some.is in
    let x = c.args in
    let p = c.requires in (
      record { known = p.1.0; tree = prove-tree _ _ _ _ _ p.1.0 x.witness.now x.y.now x.message.now x.root.now x.salt.now x.buffer.now _ _ _ _ k.is _ c.counts.ensures c.if-not-counts.false k.more; room = p.1.1 },
      (
        prove-tested _ _ _ _ _ p.1.0 x.witness.now x.y.now x.message.now x.root.now x.salt.now x.buffer.now _ _ _ _ k.is _ c.counts.ensures c.if-not-counts.false k.more _ c.lengths.ensures c.if-not-lengths.false-raw _ _ c.unused_zero.ensures c.unused_zero-2.ensures c.if-not-unused_zero.false p.0,
        prove-root _ _ _ _ _ p.1.0 x.witness.now x.y.now x.message.now x.root.now x.salt.now x.buffer.now _ _ _ _ k.is _ c.counts.ensures c.if-not-counts.false k.more _ c.lengths.ensures c.if-not-lengths.false-raw _ _ c.unused_zero.ensures c.unused_zero-2.ensures c.if-not-unused_zero.false,
      ),
    )

pub returns : goal.returns
returns c =
    let k = is_count _ _ _ c.height.ensures c.in-Some.is in
    prove-done _ _ _ _ _ c.requires.1.0 _ _ _ _ _ _ _ _ _ _ k.is _ c.counts.ensures c.if-not-counts.false k.more _ c.lengths.ensures c.if-not-lengths.false-raw _ _ c.unused_zero.ensures c.unused_zero-2.ensures c.if-not-unused_zero.false _ c.gives.ensures c.if-not-gives.false-raw
    _ _ c.prove_in.ensures.value c.prove_in.ensures.buffer_after

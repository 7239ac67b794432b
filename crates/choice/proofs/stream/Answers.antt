-- `choice::stream` meets its contract: tag, h* and bound taken in one after the other are the challenge's input.
-- Assumes nothing.
use Rattle.keccak.specs.Steps.{padded}
use Rattle.hashing.specs.Inputs.{bound_of, challenge_input}
use Rattle.choice.specs.Steps.{ready}
use Rattle.hashing.proofs.Hashes.{empty-room, took-tag, took_more, took-room}
use native.Mathlib.Omega.{arith}
use mathlib.Core.Path.{refl, ap, ◌∙◌}
use Rattle.choice.proofs.stream.Goals as goal

pub absorb_byte-requires : goal.absorb_byte-requires
absorb_byte-requires c = (omega arith, rw c.new.ensures (empty-room 136 (omega arith)))

pub absorb-s-requires : goal.absorb-s-requires
absorb-s-requires c = (omega arith, (refl, took-room 136 (omega arith) (took-tag 136 6 _ _ c.new.ensures c.absorb_byte.ensures)))

pub absorb_bound-requires : goal.absorb_bound-requires
absorb_bound-requires c =
    let a = took-tag 136 6 _ _ c.new.ensures c.absorb_byte.ensures in
    took-room 136 (omega arith) (took_more 136 _ _ a c.absorb-s.ensures)

pub pad-requires : goal.pad-requires
pad-requires c =
    let a = took-tag 136 6 _ _ c.new.ensures c.absorb_byte.ensures in
    let b = took_more 136 _ _ a c.absorb-s.ensures in
    (omega arith, (omega arith, took-room 136 (omega arith) (took_more 136 _ _ b c.absorb_bound.ensures)))

pub returns : goal.returns
unfolding ready challenge_input
returns c =
    let x = c.args in
    let a = took-tag 136 6 _ _ c.new.ensures c.absorb_byte.ensures in
    let b = took_more 136 x.hstar.now _ a c.absorb-s.ensures in
    let d = took_more 136 (bound_of x.salt.now x.m x.tau x.n x.digest.now x.y.now x.message.now) _ b c.absorb_bound.ensures in
    c.pad.ensures ∙ ap (padded 136 0x1f) d.all

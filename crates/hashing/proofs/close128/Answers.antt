-- `hashing::close128` meets its contract: tag, salt, head and body taken in one after the other are their concatenation.
-- Assumes nothing.
use Rattle.keccak.specs.Steps.{closed}
use Rattle.hashing.proofs.Hashes.{empty-room, took-tag, took_more, took-room}
use native.Mathlib.Omega.{arith}
use mathlib.Core.Path.{refl, ap, ◌∙◌}
use Rattle.hashing.proofs.close128.Goals as goal

pub absorb_byte-s-requires : goal.absorb_byte-s-requires
absorb_byte-s-requires c = (omega arith, rw c.new.ensures (empty-room 168 (omega arith)))

pub absorb_in-a-requires : goal.absorb_in-a-requires
absorb_in-a-requires c = (omega arith, (refl, took-room 168 (omega arith) (took-tag 168 _ _ _ c.new.ensures c.absorb_byte-s.ensures)))

pub absorb_in-b-requires : goal.absorb_in-b-requires
absorb_in-b-requires c =
    let t0 = took-tag 168 _ _ _ c.new.ensures c.absorb_byte-s.ensures in
    let t1 = took_more 168 _ _ t0 c.absorb_in-a.ensures in
    (omega arith, (refl, took-room 168 (omega arith) t1))

pub absorb_in-c-requires : goal.absorb_in-c-requires
absorb_in-c-requires c =
    let t0 = took-tag 168 _ _ _ c.new.ensures c.absorb_byte-s.ensures in
    let t1 = took_more 168 _ _ t0 c.absorb_in-a.ensures in
    let t2 = took_more 168 _ _ t1 c.absorb_in-b.ensures in
    (omega arith, (refl, took-room 168 (omega arith) t2))

pub close-requires : goal.close-requires
close-requires c =
    let t0 = took-tag 168 _ _ _ c.new.ensures c.absorb_byte-s.ensures in
    let t1 = took_more 168 _ _ t0 c.absorb_in-a.ensures in
    let t2 = took_more 168 _ _ t1 c.absorb_in-b.ensures in
    let t3 = took_more 168 _ _ t2 c.absorb_in-c.ensures in
    (omega arith, (omega arith, took-room 168 (omega arith) t3))

pub returns : goal.returns
returns c =
    let t0 = took-tag 168 _ _ _ c.new.ensures c.absorb_byte-s.ensures in
    let t1 = took_more 168 _ _ t0 c.absorb_in-a.ensures in
    let t2 = took_more 168 _ _ t1 c.absorb_in-b.ensures in
    let t3 = took_more 168 _ _ t2 c.absorb_in-c.ensures in
    c.close.ensures ∙ ap (closed 168 0x1f) t3.all

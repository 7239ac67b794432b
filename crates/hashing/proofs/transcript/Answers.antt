-- `hashing::transcript` meets its contract: tag, h and h' taken in one after the other are their concatenation.
-- Assumes nothing.
use mathlib.Core.List.{[], ◌∷◌, ◌++◌}
use Rattle.hashing.proofs.Hashes.{empty-room}
use Rattle.hashing.proofs.Digests.{taken-tag, taken_more, room_of, transcript-is}
use native.Mathlib.Omega.{arith}
use mathlib.Core.Path.{refl}
use Rattle.hashing.proofs.transcript.Goals as goal

pub absorb_byte-requires : goal.absorb_byte-requires
absorb_byte-requires c = (omega arith, rw c.new.ensures (empty-room 136 (omega arith)))

pub absorb-requires : goal.absorb-requires
absorb-requires c = (omega arith, (refl, room_of (11 ∷ []) _ (taken-tag 11 _ _ c.new.ensures c.absorb_byte.ensures)))

pub absorb-s-requires : goal.absorb-s-requires
absorb-s-requires c =
    let x = c.args in
    let a = taken-tag 11 _ _ c.new.ensures c.absorb_byte.ensures in
    (omega arith, (refl, room_of ((11 ∷ []) ++ x.h.now) _ (taken_more (11 ∷ []) x.h.now _ _ a c.absorb.ensures)))

pub finish-requires : goal.finish-requires
finish-requires c =
    let x = c.args in
    let a = taken-tag 11 _ _ c.new.ensures c.absorb_byte.ensures in
    let b = taken_more (11 ∷ []) x.h.now _ _ a c.absorb.ensures in
    room_of (((11 ∷ []) ++ x.h.now) ++ x.online.now) _ (taken_more ((11 ∷ []) ++ x.h.now) x.online.now _ _ b c.absorb-s.ensures)

pub returns : goal.returns
returns c =
    let x = c.args in
    let a = taken-tag 11 _ _ c.new.ensures c.absorb_byte.ensures in
    transcript-is x.h.now x.online.now c.finish.result c.absorb_byte.result c.absorb.result c.absorb-s.result
    (λ i. (c.shared_slice_known-1.given i).fits) (λ i. (c.shared_slice_known-2-1.given i).fits)
    a c.absorb.ensures c.absorb-s.ensures c.finish.ensures

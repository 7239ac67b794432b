-- `hashing::start` meets its contract: the tag and j are taken in.
-- Assumes nothing.
use mathlib.Core.List.{[], ◌∷◌}
use Rattle.bits.specs.Bytes.{le_bytes}
use Rattle.hashing.proofs.Hashes.{empty-room}
use Rattle.hashing.proofs.Digests.{taken-tag, taken_more, room_of}
use native.Mathlib.Omega.{arith}
use mathlib.Core.Path.{refl}
use Rattle.hashing.proofs.start.Goals as goal

pub absorb_byte-requires : goal.absorb_byte-requires
absorb_byte-requires c = (omega arith, rw c.new.ensures (empty-room 136 (omega arith)))

pub absorb-requires : goal.absorb-requires
absorb-requires c = (omega arith, (refl, room_of (c.args.tag ∷ []) _ (taken-tag c.args.tag _ _ c.new.ensures c.absorb_byte.ensures)))

pub returns : goal.returns
unfolding le_bytes
returns c =
    let a = taken-tag c.args.tag _ _ c.new.ensures c.absorb_byte.ensures in
    taken_more (c.args.tag ∷ []) (le_bytes 2 c.args.j) _ _ a c.absorb.ensures

-- `hashing::start_all_online` meets its contract: the tag is taken in.
-- Assumes nothing.
use Rattle.hashing.specs.Inputs.{all_online_input}
use Rattle.hashing.proofs.Hashes.{empty-room}
use Rattle.hashing.proofs.Digests.{taken-tag}
use native.Mathlib.Omega.{arith}
use Rattle.hashing.proofs.start_all_online.Goals as goal

pub absorb_byte-requires : goal.absorb_byte-requires
absorb_byte-requires c = (omega arith, rw c.new.ensures (empty-room 136 (omega arith)))

pub returns : goal.returns
unfolding all_online_input
returns c = taken-tag 10 c.new.result c.absorb_byte.result c.new.ensures c.absorb_byte.ensures

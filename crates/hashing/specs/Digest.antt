-- Digests that are taken in by parts, and given out at the end. All are SHA3-256.
-- `proofs/Digests.antt` shows that parts taken in one after the other are their concatenation, and that the end is its digest.
-- Assumes nothing.
use Rattle.std.specs.Prelude.{List, ℕ}
use Rattle.keccak.specs.declared.sponge.Sponge.{Sponge}
use Rattle.keccak.specs.Sponge.{sha3_256}
use Rattle.keccak.specs.Streaming.{empty, absorbs, padded, squeezes}
use Rattle.hashing.specs.Inputs.{transcript_input}

-- the sponge that has taken in M
unfoldable pub taken : List ℕ → Sponge
taken M = absorbs 136 empty M

-- what a sponge gives out at the end
unfoldable pub given : Sponge → List ℕ
given s = squeezes 136 32 (padded 136 0x06 s)

-- "11: h* over (11, h, h')"
unfoldable pub transcript_of : List ℕ → List ℕ → List ℕ
transcript_of h h' = sha3_256 (transcript_input h h')

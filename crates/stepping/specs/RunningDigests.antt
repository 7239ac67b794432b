-- The digests over the instances so far, taken in one instance at a time: "9: h over (9, all h_j). 10: h' over (10, all h'_j). 11: h*
-- over (11, h, h')" (document 01).
-- Assumes nothing.
use Rattle.std.specs.Prelude.{List, [], ℕ}
use Rattle.keccak.specs.Streaming.{absorbs}
use Rattle.hashing.specs.Inputs.{all_commitments_input, all_online_input}
use Rattle.hashing.specs.Digest.{transcript_of, taken, given}
use Rattle.stepping.specs.declared.Running.{Running}

-- no instance is taken in: the tags 9 and 10 alone
unfoldable pub started : Running
started = record { commitments = taken (all_commitments_input []); online = taken (all_online_input []) }

-- h_j and h'_j of one instance more
unfoldable pub more : Running → List ℕ → List ℕ → Running
more d h o = record { commitments = absorbs 136 d.commitments h; online = absorbs 136 d.online o }

-- h* of the two digests
unfoldable pub hstar_in : Running → List ℕ
hstar_in d = transcript_of (given d.commitments) (given d.online)

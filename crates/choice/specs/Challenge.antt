-- The challenge. Document 01: "For t = 0..τ−1 take 8 bytes as a number modulo M − t: that place among the instances not yet
-- chosen, ascending. Then one byte modulo n for each chosen instance, ascending: its hidden party." The bytes are SHAKE256 of its
-- input (`hashing/specs/Inputs`: `challenge_input`).
-- Assumes nothing.
use Rattle.std.specs.Prelude.{Bool, true, false, List, [], ◌∷◌, ◌++◌, ◌≡◌, ℕ, zero, suc, ◌+◌, ◌-◌, ◌*◌, ◌%◌, ◌≤◌, ◌<◌, length, get_or, drop, replicate}
use Rattle.bits.specs.Bytes.{le_at, le_bytes}
use Rattle.keccak.specs.Sponge.{shake256}
use Rattle.hashing.specs.Inputs.{challenge_input}

-- "M is 2..512"
abbrev pub max_instances : ℕ
max_instances = 512

-- a flag for each instance, true where it is chosen: the instance at place x among those not yet chosen, ascending, is chosen
unfoldable pub choose : ℕ → List Bool → List Bool
choose x [] = []
choose x (true ∷ flags) = true ∷ choose x flags
choose zero (false ∷ flags) = true ∷ flags
choose (suc x) (false ∷ flags) = false ∷ choose x flags

-- the flags of M instances after the first t draws from the stream
unfoldable pub drawn : ℕ → List ℕ → ℕ → List Bool
drawn M stream zero = replicate M false
drawn M stream (suc t) = choose (le_at 8 stream (8 * t) % (M - t)) (drawn M stream t)

-- the chosen instances, ascending, where the first flag is instance i's
unfoldable pub chosen_from : ℕ → List Bool → List ℕ
chosen_from i [] = []
chosen_from i (true ∷ flags) = i ∷ chosen_from (i + 1) flags
chosen_from i (false ∷ flags) = chosen_from (i + 1) flags

-- a byte modulo n for each chosen instance
unfoldable pub parties_of : ℕ → List ℕ → List ℕ
parties_of n [] = []
parties_of n (b ∷ bytes) = b % n ∷ parties_of n bytes

-- the stream from h* and what the challenge is bound to: 8 bytes for each draw, and one for each hidden party
unfoldable pub stream_of : ℕ → List ℕ → List ℕ → List ℕ
stream_of tau hstar bound = shake256 (challenge_input hstar bound) (9 * tau)

-- the chosen instances, ascending
unfoldable pub instances : ℕ → ℕ → List ℕ → List ℕ
instances M tau stream = chosen_from 0 (drawn M stream tau)

-- their hidden parties, in that order
unfoldable pub hidden_parties : ℕ → ℕ → List ℕ → List ℕ
hidden_parties tau n stream = parties_of n (drop (8 * tau) stream)

-- each instance as u16, beside its hidden party as u8
unfoldable pub beside : List ℕ → List ℕ → List ℕ
beside [] ps = []
beside (i ∷ is) [] = []
beside (i ∷ is) (p ∷ ps) = le_bytes 2 i ++ (p ∷ beside is ps)

-- "A challenge is the chosen instances, ascending, each with its hidden party."
unfoldable pub challenge_of : ℕ → ℕ → ℕ → List ℕ → List ℕ → List ℕ
challenge_of M tau n hstar bound =
    let stream : List ℕ = stream_of tau hstar bound in
    beside (instances M tau stream) (hidden_parties tau n stream)

-- instances from lo on and below hi, ascending, so that no two are alike
pub data Ascending (hi : ℕ) : ℕ → List ℕ → Type 0 where
  none : {lo : ℕ} → Ascending hi lo []
  more : {lo i : ℕ} {is : List ℕ} → lo ≤ i → i < hi → Ascending hi (i + 1) is → Ascending hi lo (i ∷ is)

-- what holds of every challenge: tau instances below M, ascending, and a party below n for each
pub record Sound (M tau n : ℕ) (is ps : List ℕ) : Type 0 where
  pub count : length is ≡ tau
  pub ascending : Ascending M 0 is
  pub paired : length ps ≡ tau
  pub hidden : (k : ℕ) → get_or ps k 0 < n

-- "A challenge is the chosen instances, ascending, each with its hidden party": tau of M instances and n parties
abbrev pub ChallengeSound : Type 0
ChallengeSound =
    (M tau n : ℕ) (hstar bound : List ℕ) → tau ≤ M → 0 < n
    → Sound M tau n (instances M tau (stream_of tau hstar bound)) (hidden_parties tau n (stream_of tau hstar bound))

-- as bytes it has 3 for each chosen instance
abbrev pub ChallengeLength : Type 0
ChallengeLength = (M tau n : ℕ) (hstar bound : List ℕ) → tau ≤ M → 0 < n → length (challenge_of M tau n hstar bound) ≡ 3 * tau

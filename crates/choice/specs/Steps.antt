-- What only the contracts of steps use: no definition of the paper stands here.
-- The sponge of SHAKE256 that gives out the challenge's stream, and the room for one more among the chosen instances.
-- Assumes nothing.
use Rattle.std.specs.Prelude.{List, ◌∷◌, ◌++◌, ◌≡◌, ℕ, suc, ◌+◌, ◌≤◌, ◌<◌, get_or, take, drop, set}
use Rattle.keccak.specs.declared.sponge.Sponge.{Sponge}
use Rattle.keccak.specs.Steps.{empty, absorbs, padded}

-- the sponge that has taken in M and its padding
unfoldable pub ready : List ℕ → Sponge
ready M = padded 136 0x1f (absorbs 136 empty M)

-- room for the instance at place x among those that are not the first t of cs: the first k stay, those from place k on are above it and
-- have gone up by one
pub record Room (t x : ℕ) (cs : List ℕ) (k : ℕ) (after : List ℕ) : Type 0 where
  pub within : k ≤ t
  pub below : (j : ℕ) → suc j ≡ k → get_or (take t cs) j 0 < x + k
  pub above : k < t → x + k < get_or (take t cs) k 0
  pub free : (v : ℕ) → take (t + 1) (set after k v) ≡ take k (take t cs) ++ v ∷ drop k (take t cs)

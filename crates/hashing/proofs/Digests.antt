-- Digests that are taken in by parts.
-- Assumes nothing.
use native.Mathlib.Omega.{arith}
use mathlib.Core.Path.{◌≡◌, refl, sym, ap, ◌∙◌}
use mathlib.Core.List.{List, [], ◌∷◌, ◌++◌, append-nil}
use Prim.Native.Nat.{ℕ, ◌<◌}
use Rattle.bits.specs.Bytes.{le_bytes}
use Rattle.keccak.specs.declared.sponge.Sponge.{Sponge}
use Rattle.keccak.specs.Steps.{empty, absorb_byte, absorbs}
use Rattle.keccak.specs.Sponge.{sha3_256}
use Rattle.keccak.proofs.Absorbing.{Bytes}
use Rattle.keccak.proofs.Steps.{absorbs-append, absorbs-room}
use Rattle.keccak.proofs.Squeezing.{sha3-256-steps}
use Rattle.hashing.specs.Inputs.{commitments_input, online_input, all_commitments_input, all_online_input, transcript_input}
use Rattle.hashing.specs.Digest.{transcript_of, taken, given}
use Rattle.hashing.proofs.Hashes.{bytes-append, bytes_one, empty-room, took-tag}

-- there is room for the next byte
pub taken-room : (M : List ℕ) → (taken M).fill < 136
unfolding taken
taken-room M = absorbs-room 136 (omega arith) M empty (empty-room 136 (omega arith))

-- parts taken in one after the other are their concatenation
pub taken-append : (M N : List ℕ) → absorbs 136 (taken M) N ≡ taken (M ++ N)
unfolding taken
taken-append M N = sym (absorbs-append 136 M N empty)

-- the tag is the first byte
pub taken-tag : (t : ℕ) (s r : Sponge) → s ≡ empty → r ≡ absorb_byte 136 s t → r ≡ taken (t ∷ [])
unfolding taken
taken-tag t s r e q = (took-tag 136 t s r e q).all

-- what has taken in M has room for the next byte
pub room_of : (M : List ℕ) (s : Sponge) → s ≡ taken M → s.fill < 136
room_of M s e = rw e (taken-room M)

-- one part more
pub taken_more : (M N : List ℕ) (s r : Sponge) → s ≡ taken M → r ≡ absorbs 136 s N → r ≡ taken (M ++ N)
taken_more M N s r e q = q ∙ (ap (λ (t : Sponge). absorbs 136 t N) e ∙ taken-append M N)

-- the end is the digest
pub given-taken : (M : List ℕ) → Bytes M → given (taken M) ≡ sha3_256 M
unfolding given taken
given-taken M h = sha3-256-steps M h

-- each input from its start: what follows the tag, and j, is taken in
pub commitments-more : (j : ℕ) (N : List ℕ) → commitments_input j [] ++ N ≡ commitments_input j N
unfolding commitments_input
commitments-more j N = ap (λ (z : List ℕ). z ++ N) (append-nil (7 ∷ le_bytes 2 j))

pub online-more : (j : ℕ) (M N : List ℕ) → (online_input j [] [] ++ M) ++ N ≡ online_input j M N
unfolding online_input
online-more j M N = ap (λ (z : List ℕ). (z ++ M) ++ N) (append-nil ((8 ∷ le_bytes 2 j) ++ []) ∙ append-nil (8 ∷ le_bytes 2 j))

pub all-commitments-more : (N : List ℕ) → all_commitments_input [] ++ N ≡ all_commitments_input N
unfolding all_commitments_input
all-commitments-more N = refl

pub all-online-more : (N : List ℕ) → all_online_input [] ++ N ≡ all_online_input N
unfolding all_online_input
all-online-more N = refl

-- the transcript's digest from its steps
pub transcript-is : (h g r : List ℕ) (s₁ s₂ s₃ : Sponge) → Bytes h → Bytes g → s₁ ≡ taken (11 ∷ []) → s₂ ≡ absorbs 136 s₁ h → s₃ ≡ absorbs 136 s₂ g
    → r ≡ given s₃ → r ≡ transcript_of h g
unfolding transcript_of transcript_input
transcript-is h g r s₁ s₂ s₃ p q a b c d =
    d ∙ (ap given (taken_more ((11 ∷ []) ++ h) g s₂ s₃ (taken_more (11 ∷ []) h s₁ s₂ a b) c)
    ∙ given-taken (((11 ∷ []) ++ h) ++ g) (bytes-append ((11 ∷ []) ++ h) g (bytes-append (11 ∷ []) h (bytes_one 11 (omega arith)) p) q))

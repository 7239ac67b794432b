-- The hash of an input in parts.
-- Assumes nothing.
use native.Mathlib.Omega.{arith}
use mathlib.Core.Path.{◌≡◌, sym, ap, ◌∙◌}
use mathlib.Core.List.{List, [], ◌∷◌, ◌++◌}
use Prim.Native.Nat.{ℕ, zero, suc, ◌<◌}
use Rattle.keccak.specs.declared.sponge.Sponge.{Sponge}
use Rattle.keccak.specs.Sponge.{shake128}
use Rattle.keccak.specs.Steps.{empty, absorb_byte, absorbs, closed, squeezes}
use Rattle.keccak.proofs.Absorbing.{Bytes}
use Rattle.keccak.proofs.Blocks.{closed-bytes}
use Rattle.keccak.proofs.Squeezing.{shake128-steps}
use Rattle.keccak.proofs.Steps.{absorbs-append, absorbs-room}

-- two strings of bytes make one
pub bytes-append : (a b : List ℕ) → Bytes a → Bytes b → Bytes (a ++ b)
bytes-append [] b p q i = q i
bytes-append (x ∷ a) b p q zero = p 0
bytes-append (x ∷ a) b p q (suc i) = bytes-append a b (λ k. p (suc k)) q i

-- before the first byte there is room
pub empty-room : (r : ℕ) → 0 < r → empty.fill < r
unfolding empty
empty-room r h = h

-- one byte
pub bytes_one : (x : ℕ) → x < 256 → Bytes (x ∷ [])
bytes_one x h zero = h
bytes_one x h (suc i) = omega arith

-- the sponge has taken in M
pub record Took (rate : ℕ) (M : List ℕ) (s : Sponge) : Type 0 where
  pub all : s ≡ absorbs rate empty M

module _ (rate : ℕ) where
  -- the tag is the first byte
  pub took-tag : (t : ℕ) (s r : Sponge) → s ≡ empty → r ≡ absorb_byte rate s t → Took rate (t ∷ []) r
  unfolding absorbs
  took-tag t s r e q = record { all = q ∙ ap (λ (z : Sponge). absorb_byte rate z t) e }

  -- one part more
  pub took_more : {M : List ℕ} {s : Sponge} (N : List ℕ) (r : Sponge) → Took rate M s → r ≡ absorbs rate s N → Took rate (M ++ N) r
  took_more {M} N r k q = record { all = q ∙ (ap (λ (z : Sponge). absorbs rate z N) k.all ∙ sym (absorbs-append rate M N empty)) }

  -- there is room for the next byte
  pub took-room : {M : List ℕ} {s : Sponge} → 0 < rate → Took rate M s → s.fill < rate
  took-room {M} some k = rw k.all (absorbs-room rate some M empty (empty-room rate some))

-- what the closed sponge of a message in three parts behind its tag gives out
pub closed-shake128 : (tag : ℕ) (salt head body : List ℕ) (d : ℕ) → tag < 256 → Bytes salt → Bytes head → Bytes body
    → squeezes 168 d (closed 168 0x1f (absorbs 168 empty (tag ∷ (salt ++ head ++ body)))) ≡ shake128 (tag ∷ (salt ++ head ++ body)) d
closed-shake128 tag salt head body d t a b c =
    let A : List ℕ = (tag ∷ []) ++ salt in
    closed-bytes 168 0x1f d (absorbs 168 empty ((A ++ head) ++ body)) (omega arith)
    ∙ shake128-steps ((A ++ head) ++ body) d (bytes-append (A ++ head) body (bytes-append A head (bytes-append (tag ∷ []) salt (bytes_one tag t) a) b) c)

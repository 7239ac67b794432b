-- What the challenge is bound to, taken in by parts.
-- Assumes nothing.
use native.Mathlib.Omega.{arith}
use mathlib.Core.Path.{◌≡◌, sym, ap, ◌∙◌}
use mathlib.Core.List.{List, [], ◌∷◌, ◌++◌}
use Prim.Native.Nat.{ℕ, ◌/◌, ◌%◌, ◌<◌}
use lib.ListN.{length}
use Rattle.bits.specs.Bytes.{le_bytes}
use Rattle.keccak.specs.declared.sponge.Sponge.{Sponge}
use Rattle.keccak.specs.Steps.{absorbs}
use Rattle.keccak.proofs.Steps.{absorbs-append, absorbs-room}
use Rattle.hashing.specs.Inputs.{bound_of}

module _ (s : Sponge) where
  -- there is room after a part
  pub part_room : (N : List ℕ) (t : Sponge) → s.fill < 136 → t ≡ absorbs 136 s N → t.fill < 136
  part_room N t h e = rw e (absorbs-room 136 (omega arith) N s h)

  -- one part more
  part-more : (N P : List ℕ) (t r : Sponge) → t ≡ absorbs 136 s N → r ≡ absorbs 136 t P → r ≡ absorbs 136 s (N ++ P)
  part-more N P t r e f = f ∙ ap (λ (z : Sponge). absorbs 136 z P) e ∙ sym (absorbs-append 136 N P s)

  -- the salt, M, τ and n, the digest, y, the message's length and the message
  pub bound-taken : (salt : List ℕ) (m tau n : ℕ) (digest y message : List ℕ) (s₀ s₁ s₂ s₃ s₄ s₅ : Sponge) → n < 256
      → s₀ ≡ absorbs 136 s salt → s₁ ≡ absorbs 136 s₀ (m % 256 ∷ m / 256 % 256 ∷ tau % 256 ∷ tau / 256 % 256 ∷ n ∷ []) → s₂ ≡ absorbs 136 s₁ digest
      → s₃ ≡ absorbs 136 s₂ y → s₄ ≡ absorbs 136 s₃ (le_bytes 2 (length message)) → s₅ ≡ absorbs 136 s₄ message
      → s₅ ≡ absorbs 136 s (bound_of salt m tau n digest y message)
  unfolding bound_of le_bytes
  bound-taken salt m tau n digest y message s₀ s₁ s₂ s₃ s₄ s₅ h e₀ e₁ e₂ e₃ e₄ e₅ =
      let one : n ≡ n % 256 = omega arith in
      let counts : List ℕ = le_bytes 2 m ++ le_bytes 2 tau ++ le_bytes 1 n in
      let front : List ℕ = salt ++ counts in
      let f₁ = part-more salt counts s₀ s₁ e₀ (e₁ ∙ ap (λ (b : ℕ). absorbs 136 s₀ (m % 256 ∷ m / 256 % 256 ∷ tau % 256 ∷ tau / 256 % 256 ∷ b ∷ [])) one) in
      let f₂ = part-more front digest s₁ s₂ f₁ e₂ in
      let f₃ = part-more (front ++ digest) y s₂ s₃ f₂ e₃ in
      let f₄ = part-more (front ++ digest ++ y) (le_bytes 2 (length message)) s₃ s₄ f₃ e₄ in
      part-more (front ++ digest ++ y ++ le_bytes 2 (length message)) message s₄ s₅ f₄ e₅

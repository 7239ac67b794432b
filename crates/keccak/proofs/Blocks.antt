-- Blocks given out one after the other: a sponge whose block is full turns it before the next byte.
-- Assumes nothing.
use mathlib.Core.Path.{◌≡◌, refl, sym, ap, ◌∙◌}
use mathlib.Core.List.{List, ◌∷◌}
use Prim.Native.Nat.{ℕ, zero, suc, ◌+◌, ◌≤◌, ◌<◌}
use native.Mathlib.Omega.{arith}
use Rattle.keccak.specs.declared.sponge.Sponge.{Sponge}
use Rattle.keccak.specs.declared.sponge.Squeezed.{Squeezed}
use Rattle.keccak.specs.Steps.{permuted, byte_at, closed, padded, squeeze_byte, squeezes, squeezed}
use Rattle.keccak.proofs.Steps.{turned-full, turned-part}

-- a sponge with a full block
abbrev pub full : ℕ → List ℕ → Sponge
full r l = record { lanes = l; fill = r }

module _ (r : ℕ) (some : 0 < r) where
  -- a full block is turned first
  turn_byte : (l : List ℕ) → squeeze_byte r (full r l) ≡ squeeze_byte r (record { lanes = permuted l; fill = 0 })
  unfolding squeeze_byte
  turn_byte l =
      ap (λ (t : Sponge). record { sponge = record { lanes = t.lanes; fill = t.fill + 1 }; byte = byte_at t.lanes t.fill })
      (turned-full r (full r l) refl ∙ sym (turned-part r (record { lanes = permuted l; fill = 0 }) some))

  -- bytes within a block
  squeezed-within : (n : ℕ) (l : List ℕ) (j : ℕ) → j + n ≤ r → squeezed r n (record { lanes = l; fill = j }) ≡ record { lanes = l; fill = j + n }
  unfolding squeezed squeeze_byte
  squeezed-within zero l j h = let e : j ≡ j + 0 = omega arith in ap (λ (k : ℕ). record { lanes = l; fill = k }) e
  squeezed-within (suc n) l j h =
      let e : j + 1 + n ≡ j + suc n = omega arith in
      ap (λ (t : Sponge). squeezed r n (record { lanes = t.lanes; fill = t.fill + 1 })) (turned-part r (record { lanes = l; fill = j }) (omega arith))
      ∙ squeezed-within n l (j + 1) (omega arith) ∙ ap (λ (k : ℕ). record { lanes = l; fill = k }) e

  -- the bytes after a full block are those of the permuted lanes
  pub next-bytes : (m : ℕ) (l : List ℕ) → squeezes r m (full r l) ≡ squeezes r m (record { lanes = permuted l; fill = 0 })
  unfolding squeezes
  next-bytes zero l = refl
  next-bytes (suc m) l = ap (λ (q : Squeezed). q.byte ∷ squeezes r m q.sponge) (turn_byte l)

  -- after a whole block the next one is full
  block_of : (m : ℕ) (l : List ℕ) → m ≡ r → squeezed r m (full r l) ≡ full r (permuted l)
  unfolding squeezed
  block_of zero l e = absurd (omega arith)
  block_of (suc m) l e =
      ap (λ (q : Squeezed). squeezed r m q.sponge) (turn_byte l) ∙ squeezed-within (suc m) (permuted l) 0 (omega arith)
      ∙ ap (λ (k : ℕ). full k (permuted l)) (let z : 0 + suc m ≡ r = omega arith in z)

  pub next-block : (l : List ℕ) → squeezed r r (full r l) ≡ full r (permuted l)
  next-block l = block_of r l refl

-- a closed message gives out what a padded one does
pub closed-bytes : (r first m : ℕ) (s : Sponge) → 0 < r → squeezes r m (closed r first s) ≡ squeezes r m (padded r first s)
unfolding closed padded
closed-bytes r first m s some = next-bytes r some m _

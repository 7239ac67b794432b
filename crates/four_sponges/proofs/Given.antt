-- Four closed sponges, joined, give out what each gives out alone: the sponge construction of its message.
-- Assumes nothing.
use mathlib.Core.Path.{◌≡◌, ap, ◌∙◌}
use mathlib.Core.List.{List}
use Prim.Native.Nat.{ℕ, ◌<◌}
use lib.ListN.{length}
use Rattle.keccak.specs.Sponge.{sponge}
use Rattle.keccak.specs.Steps.{empty, absorbs, closed, squeezes}
use Rattle.keccak.proofs.Absorbing.{Bytes}
use Rattle.keccak.proofs.Blocks.{closed-bytes}
use Rattle.keccak.proofs.Squeezing.{steps-sponge}
use Rattle.four.specs.Steps.{state_of, joined}
use Rattle.four.proofs.States.{joined-0, joined-1, joined-2, joined-3}
use Rattle.four_sponges.specs.Steps.{full, four_rows}
use Rattle.four_sponges.proofs.Rows.{four-eq}

module _ (rate first d : ℕ) (some : 0 < rate) (below : rate < 200) (small : first < 128) (M : ℕ → List ℕ) (bytes : (k : ℕ) → Bytes (M k)) where
  given : ℕ → List ℕ
  given k = (closed rate first (absorbs rate empty (M k))).lanes

  one-given : (k : ℕ) (l : List ℕ) → l ≡ given k → squeezes rate d (full rate l) ≡ sponge rate first (M k) d
  unfolding given closed
  one-given k l e =
      ap (λ (x : List ℕ). squeezes rate d (full rate x)) e ∙ closed-bytes rate first d (absorbs rate empty (M k)) some
      ∙ steps-sponge rate first (M k) d some below small (bytes k)

  pub four-given : (a b c e : List ℕ) → length a ≡ 25 → length b ≡ 25 → length c ≡ 25 → length e ≡ 25
      → a ≡ (closed rate first (absorbs rate empty (M 0))).lanes → b ≡ (closed rate first (absorbs rate empty (M 1))).lanes
      → c ≡ (closed rate first (absorbs rate empty (M 2))).lanes → e ≡ (closed rate first (absorbs rate empty (M 3))).lanes
      → four_rows (λ k. squeezes rate d (full rate (state_of k (joined a b c e)))) ≡ four_rows (λ k. sponge rate first (M k) d)
  unfolding given
  four-given a b c e la lb lc le ea eb ec ee =
      let out : List ℕ → List ℕ = λ l. squeezes rate d (full rate l) in
      four-eq (λ k. out (state_of k (joined a b c e))) (λ k. sponge rate first (M k) d)
      (ap out (joined-0 a b c e la lb lc le) ∙ one-given 0 a ea)
      (ap out (joined-1 a b c e la lb lc le) ∙ one-given 1 b eb)
      (ap out (joined-2 a b c e la lb lc le) ∙ one-given 2 c ec)
      (ap out (joined-3 a b c e la lb lc le) ∙ one-given 3 e ee)

-- Steps one after the other: the lanes of one step's result go into the next, and the state array between them need not be named.
-- Assumes nothing.
use mathlib.Core.Path.{◌≡◌, ap, ◌∙◌}
use mathlib.Core.List.{List}
use Prim.Native.Nat.{ℕ, ◌+◌}
use native.Mathlib.Numerals.{add-one}
use lib.ListN.{length}
use Rattle.permutation.specs.Permutation.{StateArray, θ, ρ, π, χ, ι, Rnd, rounds, lanes, lane_array}
use Rattle.permutation.proofs.Agree.{Agree, lanes-cong, array-lanes, rho-cong, pi-cong, chi-cong, iota-cong, round-cong}
use Rattle.permutation.proofs.Lanes.{Lanes64, lanes-array}

-- a mapping that keeps agreement, on the lanes of X, gives the lanes of its value at X
pub after : (f : StateArray → StateArray) → ((A B : StateArray) → Agree A B → Agree (f A) (f B)) → (X : StateArray) (t r : List ℕ)
    → t ≡ lanes X → r ≡ lanes (f (lane_array t)) → r ≡ lanes (f X)
after f keeps X t r e h =
    h ∙ ap (λ (l : List ℕ). lanes (f (lane_array l))) e ∙ lanes-cong (f (lane_array (lanes X))) (f X) (keeps (lane_array (lanes X)) X (array-lanes X))

-- the five steps in order are the round
pub round_is : (X : StateArray) (ir : ℕ) (t r p c i : List ℕ) → t ≡ lanes (θ X) → r ≡ lanes (ρ (lane_array t)) → p ≡ lanes (π (lane_array r))
    → c ≡ lanes (χ (lane_array p)) → i ≡ lanes (ι (lane_array c) ir) → i ≡ lanes (Rnd X ir)
unfolding Rnd
round_is X ir t r p c i et er ep ec ei =
    after (λ A. ι A ir) (λ A B e. iota-cong A B e ir) (χ (π (ρ (θ X)))) c i
    (after χ chi-cong (π (ρ (θ X))) p c (after π pi-cong (ρ (θ X)) r p (after ρ rho-cong (θ X) t r et er) ep) ec) ei

-- no round
pub rounds-none : (a : List ℕ) → length a ≡ 25 → Lanes64 a → a ≡ lanes (rounds 0 (lane_array a))
unfolding rounds
rounds-none a len small = lanes-array a small len

-- one round more
pub rounds-more : (X : StateArray) (ir : ℕ) (s r : List ℕ) → s ≡ lanes (rounds ir X) → r ≡ lanes (Rnd (lane_array s) ir) → r ≡ lanes (rounds (ir + 1) X)
unfolding rounds
rounds-more X ir s r e h = rw add-one (after (λ A. Rnd A ir) (λ A B k. round-cong A B ir k) (rounds ir X) s r e h)

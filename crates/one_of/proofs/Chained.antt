-- A chain that is followed by slots of its own, each linked to the next: its walk, and the slots on it.
-- Assumes nothing.
use mathlib.Core.Path.{◌≡◌, refl, ap, ◌∙◌}
use mathlib.Core.Bool.{true}
use mathlib.Core.List.{List, [], ◌∷◌, ◌++◌}
use Prim.Native.Nat.{ℕ, zero, suc, ◌+◌, ◌-◌, ◌≤◌, ◌<◌}
use native.Mathlib.Omega.{arith}
use borrow.Author.Tests.{eq-eqb, ne_eqb, eqb-true, le-leb}
use Rattle.circuit.specs.Fields.{Fields, gates_of, next_of, chain_from}
use Rattle.circuit.specs.FieldSteps.{walks}
use Rattle.circuit.proofs.Slots.{here}
use Rattle.one_of.specs.OneOf.{relinked}

-- n slots from k on
unfoldable pub up_from : ℕ → ℕ → List ℕ
up_from k zero = []
up_from k (suc n) = k ∷ up_from (k + 1) n

module _ (x : Fields) where
  pub relinked-end : (l : ℕ) → l ≡ 0 → relinked x l ≡ gates_of x + 1
  unfolding relinked
  relinked-end l e = rw (eq-eqb l 0 e)

  pub relinked-on : (l : ℕ) → 1 ≤ l → relinked x l ≡ l
  unfolding relinked
  relinked-on l h = rw (ne_eqb l 0 (λ e. omega arith))

-- M slots are added, and the old chain leads to the first of them
pub record Extended (x : Fields) (M : ℕ) (y : Fields) : Type 0 where
  pub some : 1 ≤ M
  pub all : gates_of y ≡ gates_of x + M
  pub old : (k : ℕ) → 1 ≤ k → k ≤ gates_of x → next_of y k ≡ relinked x (next_of x k)
  pub new : (k : ℕ) → gates_of x < k → k < gates_of x + M → next_of y k ≡ k + 1
  pub last : next_of y (gates_of x + M) ≡ 0

module _ (x : Fields) (M : ℕ) (y : Fields) (p : Extended x M y) where
  -- one slot of a walk
  walks-slot : (n k : ℕ) → 1 ≤ k → k ≤ gates_of x + M → walks y n (next_of y k) ≡ true → walks y (suc n) k ≡ true
  unfolding walks
  walks-slot n k a b t = rw (le-leb 1 k a, le-leb k (gates_of y) (omega (arith, p.all)), t)

  walks-end : walks y 0 0 ≡ true
  unfolding walks
  walks-end = refl

  -- the slots that are added are walked to the end
  up-walks : (n k : ℕ) → k + suc n ≡ gates_of x + M + 1 → gates_of x < k → walks y (suc n) k ≡ true
  up-walks zero k e h =
      let q : k ≡ gates_of x + M = omega arith in
      walks-slot 0 k (omega arith) (omega arith) (ap (walks y 0) (ap (next_of y) q ∙ p.last) ∙ walks-end)
  up-walks (suc n) k e h =
      walks-slot (suc n) k (omega arith) (omega arith)
      (ap (walks y (suc n)) (p.new k h (omega arith)) ∙ up-walks n (k + 1) (omega arith) (omega arith))

  up-chain : (n k : ℕ) → k + n ≡ gates_of x + M + 1 → gates_of x < k → chain_from y n k ≡ up_from k n
  unfolding chain_from up_from
  up-chain zero k e h = refl
  up-chain (suc zero) k e h = refl
  up-chain (suc (suc n)) k e h =
      ap (λ (l : List ℕ). k ∷ l) (ap (chain_from y (suc n)) (p.new k h (omega arith)) ∙ up-chain (suc n) (k + 1) (omega arith) (omega arith))

  -- so is the old chain, and they after it
  pub all-walks : (n k : ℕ) → walks x n k ≡ true → walks y (n + M) (relinked x k) ≡ true
  unfolding walks
  all-walks zero k t =
      let q : 0 + M ≡ suc (M - 1) = omega (arith, p.some) in
      rw (relinked-end x k (eqb-true k 0 t), q) (up-walks (M - 1) (gates_of x + 1) (omega (arith, p.some)) (omega arith))
  all-walks (suc n) k t =
      let h = here x (suc n) k (omega arith) t in
      let m : suc n - 1 ≡ n = omega arith in
      let q : suc n + M ≡ suc (n + M) = omega arith in
      rw (relinked-on x k h.first, q)
      (walks-slot (n + M) k h.first (omega (arith, h.low))
      (ap (walks y (n + M)) (p.old k h.first h.low) ∙ all-walks n (next_of x k) (rw m at h.rest)))

  pub all-chain : (n k : ℕ) → walks x n k ≡ true → chain_from y (n + M) (relinked x k) ≡ chain_from x n k ++ up_from (gates_of x + 1) M
  unfolding walks chain_from
  all-chain zero k t =
      let q : 0 + M ≡ M = omega arith in
      rw (relinked-end x k (eqb-true k 0 t), q) (up-chain M (gates_of x + 1) (omega arith) (omega arith))
  all-chain (suc n) k t =
      let h = here x (suc n) k (omega arith) t in
      let m : suc n - 1 ≡ n = omega arith in
      let q : suc n + M ≡ suc (n + M) = omega arith in
      rw (relinked-on x k h.first, q)
      (ap (λ (l : List ℕ). k ∷ l) (ap (chain_from y (n + M)) (p.old k h.first h.low) ∙ all-chain n (next_of x k) (rw m at h.rest)))

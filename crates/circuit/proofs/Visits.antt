-- The test of the chain passes exactly if the chain visits each slot once and ends.
-- Assumes nothing.
use mathlib.Core.Path.{◌≡◌, refl, sym, ap, ◌∙◌}
use mathlib.Core.Bool.{true, ◌&&◌}
use mathlib.Core.List.{List, [], ◌∷◌}
use mathlib.Core.Logic.{◌≢◌, ⊎_elim}
use Prim.Native.Nat.{ℕ, zero, suc, ◌≤◌, ◌<◌}
use native.Mathlib.Omega.{arith}
use lib.Dec.{leb}
use lib.ListN.{length}
use borrow.Author.Tests.{eq-eqb, eqb-true, leb-true, le-leb}
use Rattle.bits.proofs.Numbers.{eq-or-ne}
use Rattle.bits.proofs.Tests.{and-true-left, and-true-right}
use Rattle.bits.specs.Counting.{count}
use Rattle.bits.proofs.Counting.{Within, count-here, count-other, within_first, within-rest, each-once, once-length}
use Rattle.circuit.specs.Fields as fields
use Rattle.circuit.specs.FieldSteps as steps
use Rattle.circuit.specs.File.{fields_of, gates_of, head_of, next_of, good_chain, chain_from}
use Rattle.circuit.specs.Steps.{walks}
use Rattle.circuit.specs.Meaning.{Follows, VisitsAllOnce, ChainTheorem}
use Rattle.circuit.proofs.Walking.{chain-walks}
use Rattle.circuit.proofs.Slots.{length-chain}

module _ (s : List ℕ) where
  -- a way of no links starts at the end
  walks-end : (k : ℕ) → walks s 0 k ≡ true → k ≡ 0
  unfolding steps.walks
  walks-end k t = eqb-true k 0 t

  -- a way of one link more starts at a slot
  walks-slot : (n k : ℕ) → walks s (suc n) k ≡ true → (1 ≤ k) × (k ≤ gates_of s)
  unfolding steps.walks
  walks-slot n k t =
      let u : leb 1 k && leb k (gates_of s) ≡ true = and-true-left _ (walks s n (next_of s k)) t in
      (leb-true 1 k (and-true-left (leb 1 k) (leb k (gates_of s)) u), leb-true k (gates_of s) (and-true-right (leb 1 k) (leb k (gates_of s)) u))

  -- and goes on from the slot's successor
  walks_next : (n k : ℕ) → walks s (suc n) k ≡ true → walks s n (next_of s k) ≡ true
  unfolding steps.walks
  walks_next n k t = and-true-right (leb 1 k && leb k (gates_of s)) (walks s n (next_of s k)) t

  -- from a slot, a way that ends has one length
  one-length : (m n k : ℕ) → walks s m k ≡ true → walks s n k ≡ true → m ≡ n
  one-length zero zero k t u = refl
  one-length zero (suc n) k t u = absurd (omega (arith, walks-end k t, (walks-slot n k u).0))
  one-length (suc m) zero k t u = absurd (omega (arith, walks-end k u, (walks-slot m k t).0))
  one-length (suc m) (suc n) k t u = ap suc (one-length m n (next_of s k) (walks_next m k t) (walks_next n k u))

  -- so a way does not pass a slot from which the end is further away
  not-passed : (n x m k : ℕ) → walks s n x ≡ true → walks s m k ≡ true → n < m → count k (chain_from s n x) ≡ 0
  unfolding fields.chain_from count
  not-passed zero x m k t u l = refl
  not-passed (suc n) x m k t u l =
      count-other k x (chain_from s n (next_of s x)) (λ e. omega (arith, one-length (suc n) m k (rw (sym e) at t) u))
      ∙ not-passed n (next_of s x) m k (walks_next n x t) u (omega arith)

  -- and passes no slot twice
  at-most-once : (n x k : ℕ) → walks s n x ≡ true → count k (chain_from s n x) ≤ 1
  unfolding fields.chain_from count
  at-most-once zero x k t = omega arith
  at-most-once (suc n) x k t =
      let rest : List ℕ = chain_from s n (next_of s x) in
      ⊎_elim
      (λ e. omega (arith, count-here k x rest e, not-passed n (next_of s x) (suc n) k (walks_next n x t) (rw (sym e) at t) (omega arith)))
      (λ e. omega (arith, count-other k x rest e, at-most-once n (next_of s x) k (walks_next n x t)))
      (eq-or-ne k x)

  -- it passes slots only
  pub slots-only : (n x : ℕ) → walks s n x ≡ true → Within (gates_of s) (chain_from s n x)
  unfolding fields.chain_from count
  slots-only zero x t k o = refl
  slots-only (suc n) x t k o =
      let i : (1 ≤ x) × (x ≤ gates_of s) = walks-slot n x t in
      let other : k ≢ x = λ e. ⊎_elim (λ z. omega arith) (λ l. omega arith) o in
      count-other k x (chain_from s n (next_of s x)) other ∙ slots-only n (next_of s x) (walks_next n x t) k o

  -- which follow each other up to the end
  chain-follows : (n x : ℕ) → walks s n x ≡ true → Follows s x (chain_from s n x)
  unfolding fields.chain_from Follows
  chain-follows zero x t = walks-end x t
  chain-follows (suc n) x t = (refl, chain-follows n (next_of s x) (walks_next n x t))

  -- slots that follow each other up to the end are a way of as many links
  follows-walks : (x : ℕ) (slots : List ℕ) → Within (gates_of s) slots → Follows s x slots → walks s (length slots) x ≡ true
  unfolding steps.walks Follows
  follows-walks x [] w f = eq-eqb x 0 f
  follows-walks x (y ∷ ys) w f =
      let i : (1 ≤ y) × (y ≤ gates_of s) = within_first (gates_of s) y ys w in
      rw (f.0, le-leb 1 y i.0, le-leb y (gates_of s) i.1) (follows-walks (next_of s y) ys (within-rest (gates_of s) y ys w) f.1)

  -- a chain that passes the test visits each slot once and ends
  pub chain-sound : good_chain s ≡ true → VisitsAllOnce s (chain_from s (gates_of s) (head_of s))
  chain-sound good =
      let t : walks s (gates_of s) (head_of s) ≡ true = sym (chain-walks s) ∙ good in
      let g : ℕ = gates_of s in
      let h : ℕ = head_of s in
      let only : Within g (chain_from s g h) = slots-only g h t in
      record {
        follows = chain-follows g h t;
        once = each-once g (chain_from s g h) only (λ k. at-most-once g h k t) (length-chain (fields_of s) g h);
        only = only;
      }

  -- a chain that visits each slot once and ends passes the test
  pub chain-complete : (slots : List ℕ) → VisitsAllOnce s slots → good_chain s ≡ true
  chain-complete slots v =
      let e : length slots ≡ gates_of s = once-length (gates_of s) slots v.only v.once in
      chain-walks s ∙ ap (λ (n : ℕ). walks s n (head_of s)) (sym e) ∙ follows-walks (head_of s) slots v.only v.follows

-- Theorem, chain
pub chain-theorem : ChainTheorem
chain-theorem = record { sound = chain-sound; complete = chain-complete }

-- The parts of a built file in their places.
-- Assumes nothing.
use mathlib.Core.Path.{◌≡◌, refl, ap, ap₂}
use Prim.Native.Nat.{ℕ, ◌+◌, ◌-◌, ◌*◌, ◌/◌, ◌%◌, ◌≤◌, ◌<◌}
use native.Mathlib.Omega.{arith}
use borrow.Author.Tests.{lt-ltb, le-ltb}
use Rattle.circuit.specs.Fields.{inputs_of, outputs_of, gates_of, head_of, output_wire, record_at, kind_of, wire_a, wire_b, next_of, field_count}
use Rattle.building.specs.Files.{Parts, among, laid}

module _ (p : Parts) where
  pub laid-inputs : inputs_of (laid p) ≡ p.header.first
  unfolding laid among
  laid-inputs = refl

  pub laid-outputs : outputs_of (laid p) ≡ p.header.second
  unfolding laid among
  laid-outputs = refl

  pub laid-gates : gates_of (laid p) ≡ p.header.third
  unfolding laid among
  laid-gates = refl

  pub laid-head : head_of (laid p) ≡ p.header.fourth
  unfolding laid among
  laid-head = refl

  pub laid-count : field_count (laid p) ≡ 4 + p.header.second + 4 * p.header.third
  laid-count = omega (arith, laid-outputs, laid-gates)

  pub laid-output : (j : ℕ) → j < p.header.second → output_wire (laid p) j ≡ p.output j
  unfolding laid
  laid-output j h =
      let e : 4 + j - 4 ≡ j = omega arith in
      rw (le-ltb (4 + j) 4 (omega arith), lt-ltb (4 + j) (4 + p.header.second) (omega arith)) (ap p.output e)

  -- field r of slot k
  laid-slot : (k r n : ℕ) → 1 ≤ k → k ≤ p.header.third → r < 4 → n ≡ 4 + p.header.second + 4 * (k - 1) + r → laid p n ≡ among (p.slot k) r
  unfolding laid
  laid-slot k r n a b h e =
      let O : ℕ = p.header.second in
      let d : 1 + (n - 4 - O) / 4 ≡ k = omega arith in
      let m : (n - 4 - O) % 4 ≡ r = omega arith in
      rw (le-ltb n 4 (omega arith), le-ltb n (4 + O) (omega arith), lt-ltb n (4 + O + 4 * p.header.third) (omega arith))
      (ap₂ (λ (i j : ℕ). among (p.slot i) j) d m)

  pub laid-beyond : (k : ℕ) → 4 + p.header.second + 4 * p.header.third ≤ k → laid p k ≡ 0
  unfolding laid
  laid-beyond k h =
      rw
      (le-ltb k 4 (omega arith), le-ltb k (4 + p.header.second) (omega arith), le-ltb k (4 + p.header.second + 4 * p.header.third) (omega arith))

  module _ (k : ℕ) (a : 1 ≤ k) (b : k ≤ p.header.third) where
    pub laid-kind : kind_of (laid p) k ≡ (p.slot k).first
    unfolding among
    laid-kind = laid-slot k 0 (record_at (laid p) k) a b (omega arith) (omega (arith, laid-outputs))

    pub laid-a : wire_a (laid p) k ≡ (p.slot k).second
    unfolding among
    laid-a = laid-slot k 1 (record_at (laid p) k + 1) a b (omega arith) (omega (arith, laid-outputs))

    pub laid-b : wire_b (laid p) k ≡ (p.slot k).third
    unfolding among
    laid-b = laid-slot k 2 (record_at (laid p) k + 2) a b (omega arith) (omega (arith, laid-outputs))

    pub laid_next : next_of (laid p) k ≡ (p.slot k).fourth
    unfolding among
    laid_next = laid-slot k 3 (record_at (laid p) k + 3) a b (omega arith) (omega (arith, laid-outputs))

-- The five step mappings on lanes, numbers of 64 bits, as the code computes them: each gives the lanes of the mapped state array.
-- Assumes nothing.
use mathlib.Core.Path.{◌≡◌, refl, sym, ap, ap₂, ◌∙◌}
use mathlib.Core.Bool.{Bool, true, false, cond, not, ◌&&◌, ◌||◌}
use mathlib.Core.List.{List}
use Prim.Native.Nat.{ℕ, zero, suc, ◌+◌, ◌-◌, ◌*◌, ◌/◌, ◌%◌, ◌^◌, ◌<◌}
use native.Mathlib.Omega.{arith}
use native.Mathlib.Nat.{mod-lt, lt_of_le_of_lt}
use lib.Bits.{bit_and, bit_or, bit_xor, and_lt, or_lt, xor_lt}
use lib.Dec.{eqb}
use lib.ListN.{length, get_or, set}
use lib.Pow.{pow_pos, shr_le, ones_sub-lt}
use Rattle.bits.specs.Bits.{tabulate, test_bit}
use Rattle.bits.specs.Xor.{◌⊕◌}
use Rattle.bits.proofs.Numbers.{from_bits-lt, test_bit-from_bits}
use Rattle.bits.proofs.Ops.{test_bit-xor, test_bit-and, test_bit-or, test_bit-not, test_bit-rotl}
use Rattle.bits.proofs.Tabulate.{tabulate-cong, tabulate-get_or}
use Rattle.permutation.specs.Permutation.{column_parity, theta_effect, θ, put_lane, ρ, π, χ, RC, ι, lanes, lane_array}
use Rattle.permutation.specs.Steps.{round_constant}
use Rattle.permutation.proofs.Agree.{grid, grid-lanes}
use Rattle.permutation.proofs.Offsets.{offset, offset-lt, rho-bits}

-- a lane rotated to the left
abbrev pub rotl : ℕ → ℕ → ℕ
rotl x zero = x
rotl x (suc k) = bit_or (x * 2 ^ suc k % 2 ^ 64) (x / 2 ^ (64 - suc k))

-- it has 64 bits
rotl-lt : (x k : ℕ) → x < 2 ^ 64 → rotl x k < 2 ^ 64
rotl-lt x zero h = h
rotl-lt x (suc k) h =
    or_lt 64 (x * 2 ^ suc k % 2 ^ 64) (x / 2 ^ (64 - suc k)) (mod-lt (x * 2 ^ suc k) (pow_pos 64)) (lt_of_le_of_lt (shr_le x (64 - suc k)) h)

-- and the bits moved up, round the end
rotl-bits : (x k z : ℕ) → x < 2 ^ 64 → k < 64 → z < 64 → test_bit (rotl x k) z ≡ test_bit x ((z + (64 - k)) % 64)
rotl-bits x zero z hx hk hz = ap (test_bit x) (omega arith)
rotl-bits x (suc k) z hx hk hz = test_bit-rotl 64 x (suc k) z (omega arith) hk hx hz

-- the lane (x, y) of 25
abbrev pub at : List ℕ → ℕ → ℕ → ℕ
at a x y = get_or a (5 * y + x) 0

-- the lane of parities C[x]
abbrev pub parity_lane : List ℕ → ℕ → ℕ
parity_lane a x = bit_xor (bit_xor (bit_xor (bit_xor (at a x 0) (at a x 1)) (at a x 2)) (at a x 3)) (at a x 4)

-- the lane D[x]
abbrev pub effect_lane : List ℕ → ℕ → ℕ
effect_lane a x = bit_xor (parity_lane a ((x + 4) % 5)) (rotl (parity_lane a ((x + 1) % 5)) 1)

-- lane (x, y) of θ
abbrev pub theta_lane : List ℕ → ℕ → ℕ → ℕ
theta_lane a x y = bit_xor (at a x y) (effect_lane a x)

-- lane (x, y) of ρ
abbrev pub rho_lane : List ℕ → ℕ → ℕ → ℕ
rho_lane a x y = rotl (at a x y) (offset x y)

-- lane (x, y) of π
abbrev pub pi_lane : List ℕ → ℕ → ℕ → ℕ
pi_lane a x y = at a ((x + 3 * y) % 5) x

-- a lane complemented
abbrev pub compl : ℕ → ℕ
compl x = (2 ^ 64 - 1) - x

-- the lane p with the next two, q and r, by OR or by AND
abbrev pub mixed : Bool → ℕ → ℕ → ℕ → ℕ
mixed true p q r = bit_xor (compl p) (bit_or q (compl r))
mixed false p q r = bit_xor p (bit_and (compl q) r)

-- lane (x, y) of χ, by OR for x = 0 and x = 2
abbrev pub chi_lane : List ℕ → ℕ → ℕ → ℕ
chi_lane a x y = mixed (eqb x 0 || eqb x 2) (at a x y) (at a ((x + 1) % 5) y) (at a ((x + 2) % 5) y)

-- lane (x, y) of ι, where c is the round's constant
abbrev pub iota_lane : List ℕ → ℕ → ℕ → ℕ → ℕ
iota_lane a c x y = cond (eqb x 0 && eqb y 0) (bit_xor (at a 0 0) c) (at a x y)

-- χ on bits, by AND
chi-and : (a b c : Bool) → a ⊕ (not b && c) ≡ a ⊕ ((b ⊕ true) && c)
chi-and a true c = refl
chi-and a false c = refl

-- χ on bits, by OR
chi-or : (a b c : Bool) → not a ⊕ (b || not c) ≡ a ⊕ ((b ⊕ true) && c)
chi-or true true c = refl
chi-or true false true = refl
chi-or true false false = refl
chi-or false true c = refl
chi-or false false true = refl
chi-or false false false = refl

-- either way the result has 64 bits
mixed-lt : (b : Bool) (p q r : ℕ) → p < 2 ^ 64 → q < 2 ^ 64 → r < 2 ^ 64 → mixed b p q r < 2 ^ 64
mixed-lt true p q r hp hq hr =
    xor_lt 64 (compl p) (bit_or q (compl r)) (ones_sub-lt 64 p) (or_lt 64 q (compl r) hq (ones_sub-lt 64 r))
mixed-lt false p q r hp hq hr =
    xor_lt 64 p (bit_and (compl q) r) hp (and_lt 64 (compl q) r (ones_sub-lt 64 q) hr)

-- which are χ's
mixed-bits : (b : Bool) (p q r z : ℕ) → p < 2 ^ 64 → q < 2 ^ 64 → r < 2 ^ 64 → z < 64
    → test_bit (mixed b p q r) z ≡ test_bit p z ⊕ ((test_bit q z ⊕ true) && test_bit r z)
mixed-bits true p q r z hp hq hr hz =
    test_bit-xor (compl p) (bit_or q (compl r)) z
    ∙ ap₂ ◌⊕◌ (test_bit-not 64 p z hp hz) (test_bit-or q (compl r) z ∙ ap (λ (b : Bool). test_bit q z || b) (test_bit-not 64 r z hr hz))
    ∙ chi-or (test_bit p z) (test_bit q z) (test_bit r z)
mixed-bits false p q r z hp hq hr hz =
    test_bit-xor p (bit_and (compl q) r) z
    ∙ ap (λ (b : Bool). test_bit p z ⊕ b) (test_bit-and (compl q) r z ∙ ap (λ (b : Bool). b && test_bit r z) (test_bit-not 64 q z hq hz))
    ∙ chi-and (test_bit p z) (test_bit q z) (test_bit r z)

-- each lane has 64 bits
abbrev pub Lanes64 : List ℕ → Type 0
Lanes64 a = (k : ℕ) → get_or a k 0 < 2 ^ 64

-- what the step mappings make of lanes of 64 bits
module _ (a : List ℕ) (small : Lanes64 a) where
  -- each lane by its place
  at_lt : (x y : ℕ) → at a x y < 2 ^ 64
  at_lt x y = small (5 * y + x)

  -- parities have 64 bits
  parity-lt : (x : ℕ) → parity_lane a x < 2 ^ 64
  parity-lt x =
      xor_lt 64 (bit_xor (bit_xor (bit_xor (at a x 0) (at a x 1)) (at a x 2)) (at a x 3)) (at a x 4)
      (xor_lt 64 (bit_xor (bit_xor (at a x 0) (at a x 1)) (at a x 2)) (at a x 3)
      (xor_lt 64 (bit_xor (at a x 0) (at a x 1)) (at a x 2) (xor_lt 64 (at a x 0) (at a x 1) (at_lt x 0) (at_lt x 1)) (at_lt x 2)) (at_lt x 3))
      (at_lt x 4)

  -- and are the columns'
  parity-bits : (x z : ℕ) → test_bit (parity_lane a x) z ≡ column_parity (lane_array a) x z
  unfolding column_parity lane_array
  parity-bits x z = simp test_bit-xor

  -- the lanes of θ have 64 bits
  theta-lt : (x y : ℕ) → theta_lane a x y < 2 ^ 64
  theta-lt x y =
      xor_lt 64 (at a x y) (effect_lane a x) (at_lt x y)
      (xor_lt 64 (parity_lane a ((x + 4) % 5)) (rotl (parity_lane a ((x + 1) % 5)) 1) (parity-lt ((x + 4) % 5))
      (rotl-lt (parity_lane a ((x + 1) % 5)) 1 (parity-lt ((x + 1) % 5))))

  -- which are θ's
  theta-bits : (x y z : ℕ) → x < 5 → y < 5 → z < 64 → test_bit (theta_lane a x y) z ≡ θ (lane_array a) x y z
  unfolding θ theta_effect lane_array
  theta-bits x y z hx hy hz =
      test_bit-xor (at a x y) (effect_lane a x) z
      ∙ ap (λ (b : Bool). test_bit (at a x y) z ⊕ b)
      (test_bit-xor (parity_lane a ((x + 4) % 5)) (rotl (parity_lane a ((x + 1) % 5)) 1) z
      ∙ ap₂ ◌⊕◌ (parity-bits ((x + 4) % 5) z)
      (rotl-bits (parity_lane a ((x + 1) % 5)) 1 z (parity-lt ((x + 1) % 5)) (omega arith) hz ∙ parity-bits ((x + 1) % 5) ((z + 63) % 64)))

  -- θ on lanes
  pub theta-lanes : grid (theta_lane a) ≡ lanes (θ (lane_array a))
  theta-lanes = grid-lanes (theta_lane a) (θ (lane_array a)) theta-lt theta-bits

  -- the bits of ρ's lanes
  rho-lane-bits : (x y z : ℕ) → x < 5 → y < 5 → z < 64 → test_bit (rho_lane a x y) z ≡ ρ (lane_array a) x y z
  unfolding lane_array
  rho-lane-bits x y z hx hy hz = rotl-bits (at a x y) (offset x y) z (at_lt x y) (offset-lt x y) hz ∙ sym (rho-bits (lane_array a) x y z hz)

  -- ρ on lanes
  pub rho-lanes : grid (rho_lane a) ≡ lanes (ρ (lane_array a))
  rho-lanes = grid-lanes (rho_lane a) (ρ (lane_array a)) (λ x y. rotl-lt (at a x y) (offset x y) (at_lt x y)) rho-lane-bits

  -- π on lanes
  pub pi-lanes : grid (pi_lane a) ≡ lanes (π (lane_array a))
  unfolding π lane_array
  pi-lanes = grid-lanes (pi_lane a) (π (lane_array a)) (λ x y. at_lt ((x + 3 * y) % 5) x) (λ x y z hx hy hz. refl)

  -- χ on lanes
  pub chi-lanes : grid (chi_lane a) ≡ lanes (χ (lane_array a))
  unfolding χ lane_array
  chi-lanes =
      grid-lanes (chi_lane a) (χ (lane_array a))
      (λ x y. mixed-lt (eqb x 0 || eqb x 2) (at a x y) (at a ((x + 1) % 5) y) (at a ((x + 2) % 5) y) (at_lt x y) (at_lt ((x + 1) % 5) y) (at_lt ((x + 2) % 5) y))
      (λ x y z hx hy hz. mixed-bits (eqb x 0 || eqb x 2) (at a x y) (at a ((x + 1) % 5) y) (at a ((x + 2) % 5) y) z
      (at_lt x y) (at_lt ((x + 1) % 5) y) (at_lt ((x + 2) % 5) y) hz)

  -- 25 lanes, laid out
  spread : length a ≡ 25 → a ≡ grid (at a)
  spread len =
      sym (tabulate-get_or a 0) ∙ ap (λ (n : ℕ). tabulate n (λ i. get_or a i 0)) len
      ∙ tabulate-cong 25 (λ i. get_or a i 0) (λ k. at a (k % 5) (k / 5)) (λ k h. ap (λ (n : ℕ). get_or a n 0) (omega arith))

  -- 25 lanes of 64 bits are the lanes of their state array
  pub lanes-array : length a ≡ 25 → a ≡ lanes (lane_array a)
  unfolding lane_array
  lanes-array len = spread len ∙ grid-lanes (at a) (lane_array a) at_lt (λ x y z hx hy hz. refl)

  -- ι on lanes, where c is the round's constant
  pub iota-lanes : length a ≡ 25 → (c ir : ℕ) → c ≡ round_constant ir → set a 0 (bit_xor (get_or a 0 0) c) ≡ lanes (ι (lane_array a) ir)
  unfolding ι put_lane lane_array round_constant
  iota-lanes len c ir e =
      ap (λ (l : List ℕ). set l 0 (bit_xor (get_or a 0 0) c)) (spread len)
      ∙ grid-lanes (iota_lane a c) (ι (lane_array a) ir) (λ x y. bound x y (eqb x 0 && eqb y 0)) (λ x y z hx hy hz. bits x y z hz (eqb x 0 && eqb y 0))
    where
      small-c : c < 2 ^ 64
      small-c = rw e (from_bits-lt 64 (λ z. get_or (RC ir) z false))

      bits-c : (z : ℕ) → z < 64 → test_bit c z ≡ get_or (RC ir) z false
      bits-c z hz = ap (λ (n : ℕ). test_bit n z) e ∙ test_bit-from_bits 64 (λ z. get_or (RC ir) z false) z hz

      bound : (x y : ℕ) (b : Bool) → cond b (bit_xor (at a 0 0) c) (at a x y) < 2 ^ 64
      bound x y true = xor_lt 64 (at a 0 0) c (at_lt 0 0) small-c
      bound x y false = at_lt x y

      bits : (x y z : ℕ) → z < 64 → (b : Bool)
          → test_bit (cond b (bit_xor (at a 0 0) c) (at a x y)) z ≡ cond b (test_bit (at a 0 0) z ⊕ get_or (RC ir) z false) (test_bit (at a x y) z)
      bits x y z hz true = test_bit-xor (at a 0 0) c z ∙ ap (λ (b : Bool). test_bit (at a 0 0) z ⊕ b) (bits-c z hz)
      bits x y z hz false = refl

-- State arrays that agree on the standard's range, x, y < 5 and z < 64: every step mapping keeps agreement, and the lanes of a
-- state array depend on that range alone.
-- Assumes nothing.
use mathlib.Core.Path.{◌≡◌, sym, ap, ap₂, ◌∙◌}
use mathlib.Core.Bool.{Bool, true, false, cond, ◌&&◌}
use mathlib.Core.List.{List}
use mathlib.Core.Logic.{⊎_elim}
use Prim.Native.Nat.{ℕ, zero, suc, ◌+◌, ◌-◌, ◌*◌, ◌/◌, ◌%◌, ◌^◌, ◌<◌}
use native.Mathlib.Omega.{arith}
use native.Mathlib.Nat.{mod-lt}
use lib.Dec.{eqb}
use lib.ListN.{length, get_or}
use Rattle.bits.specs.Bits.{tabulate, test_bit}
use Rattle.bits.specs.Xor.{◌⊕◌}
use Rattle.bits.proofs.Numbers.{lt-or-le, test_bit-from_bits, from_bits-lt, from_bits-test_bit, from_bits-cong}
use Rattle.bits.proofs.Tabulate.{length-tabulate, get_d_tabulate, get_or-tabulate-end, tabulate-cong}
use Rattle.permutation.specs.Permutation.{StateArray, column_parity, theta_effect, θ, put_lane, ρ, π, χ, RC, ι, Rnd, rounds, lane, lanes, lane_array}
use Rattle.permutation.proofs.Offsets.{offset, rho-bits}

-- the same bits on the range
abbrev pub Agree : StateArray → StateArray → Type 0
Agree A B = (x y z : ℕ) → x < 5 → y < 5 → z < 64 → A x y z ≡ B x y z

-- the lanes f x y in the order of the planes
abbrev pub grid : (ℕ → ℕ → ℕ) → List ℕ
grid f = tabulate 25 (λ k. f (k % 5) (k / 5))

-- there are 25 lanes
pub length-lanes : (A : StateArray) → length (lanes A) ≡ 25
unfolding lanes
length-lanes A = length-tabulate 25 (λ k. lane A (k % 5) (k / 5))

-- lane (x, y) stands at 5 y + x
pub lanes_at : (A : StateArray) (x y : ℕ) → x < 5 → y < 5 → get_or (lanes A) (5 * y + x) 0 ≡ lane A x y
unfolding lanes
lanes_at A x y hx hy =
    let p : (5 * y + x) % 5 ≡ x = omega arith in
    let q : (5 * y + x) / 5 ≡ y = omega arith in
    get_d_tabulate 25 (λ k. lane A (k % 5) (k / 5)) (5 * y + x) 0 (omega arith) ∙ ap₂ (lane A) p q

-- each lane has 64 bits
pub lanes-lt : (A : StateArray) (k : ℕ) → get_or (lanes A) k 0 < 2 ^ 64
unfolding lanes lane
lanes-lt A k =
    ⊎_elim (λ lt. rw (get_d_tabulate 25 (λ k. lane A (k % 5) (k / 5)) k 0 lt) (from_bits-lt 64 (A (k % 5) (k / 5))))
    (λ ge. rw (get_or-tabulate-end 25 (λ k. lane A (k % 5) (k / 5)) k 0 ge) (omega arith)) (lt-or-le k 25)

-- lanes hold the bits of their state array
pub array-lanes : (A : StateArray) → Agree (lane_array (lanes A)) A
unfolding lane_array lane
array-lanes A x y z hx hy hz = ap (λ (n : ℕ). test_bit n z) (lanes_at A x y hx hy) ∙ test_bit-from_bits 64 (A x y) z hz

-- and nothing else
pub lanes-cong : (A B : StateArray) → Agree A B → lanes A ≡ lanes B
unfolding lanes lane
lanes-cong A B e =
    tabulate-cong 25 (λ k. lane A (k % 5) (k / 5)) (λ k. lane B (k % 5) (k / 5))
    (λ k h. from_bits-cong 64 (A (k % 5) (k / 5)) (B (k % 5) (k / 5)) (λ z hz. e (k % 5) (k / 5) z (mod-lt k (omega arith)) (omega arith) hz))

-- numbers of 64 bits with the bits of A are its lanes
pub grid-lanes : (f : ℕ → ℕ → ℕ) (A : StateArray) → ((x y : ℕ) → f x y < 2 ^ 64)
    → ((x y z : ℕ) → x < 5 → y < 5 → z < 64 → test_bit (f x y) z ≡ A x y z) → grid f ≡ lanes A
unfolding lanes lane
grid-lanes f A small bits =
    tabulate-cong 25 (λ k. f (k % 5) (k / 5)) (λ k. lane A (k % 5) (k / 5))
    (λ k h. sym (from_bits-test_bit 64 (f (k % 5) (k / 5)) (small (k % 5) (k / 5)))
    ∙ from_bits-cong 64 (test_bit (f (k % 5) (k / 5))) (A (k % 5) (k / 5)) (λ z hz. bits (k % 5) (k / 5) z (mod-lt k (omega arith)) (omega arith) hz))

-- an x or y taken modulo 5 is in the range
mod5 : (x : ℕ) → x % 5 < 5
mod5 x = mod-lt x (omega arith)

-- a z taken modulo 64 is in the range
mod64 : (z : ℕ) → z % 64 < 64
mod64 z = mod-lt z (omega arith)

-- each step keeps agreement
module _ (A B : StateArray) (e : Agree A B) where
  -- the columns of the range have the same parities
  parity-cong : (x z : ℕ) → x < 5 → z < 64 → column_parity A x z ≡ column_parity B x z
  unfolding column_parity
  parity-cong x z hx hz =
      ap₂ ◌⊕◌ (ap₂ ◌⊕◌ (ap₂ ◌⊕◌ (ap₂ ◌⊕◌ (e x 0 z hx (omega arith) hz) (e x 1 z hx (omega arith) hz)) (e x 2 z hx (omega arith) hz)) (e x 3 z hx (omega arith) hz))
      (e x 4 z hx (omega arith) hz)

  -- θ keeps agreement
  pub theta-cong : Agree (θ A) (θ B)
  unfolding θ theta_effect
  theta-cong x y z hx hy hz =
      ap₂ ◌⊕◌ (e x y z hx hy hz)
      (ap₂ ◌⊕◌ (parity-cong ((x + 4) % 5) z (mod5 (x + 4)) hz) (parity-cong ((x + 1) % 5) ((z + 63) % 64) (mod5 (x + 1)) (mod64 (z + 63))))

  -- ρ keeps agreement
  pub rho-cong : Agree (ρ A) (ρ B)
  rho-cong x y z hx hy hz =
      rho-bits A x y z hz ∙ e x y ((z + (64 - offset x y)) % 64) hx hy (mod64 (z + (64 - offset x y))) ∙ sym (rho-bits B x y z hz)

  -- π keeps agreement
  pub pi-cong : Agree (π A) (π B)
  unfolding π
  pi-cong x y z hx hy hz = e ((x + 3 * y) % 5) x z (mod5 (x + 3 * y)) hx hz

  -- χ keeps agreement
  pub chi-cong : Agree (χ A) (χ B)
  unfolding χ
  chi-cong x y z hx hy hz =
      ap₂ ◌⊕◌ (e x y z hx hy hz)
      (ap₂ (λ (b c : Bool). (b ⊕ true) && c) (e ((x + 1) % 5) y z (mod5 (x + 1)) hy hz) (e ((x + 2) % 5) y z (mod5 (x + 2)) hy hz))

  -- ι keeps agreement
  pub iota-cong : (ir : ℕ) → Agree (ι A ir) (ι B ir)
  unfolding ι put_lane
  iota-cong ir x y z hx hy hz =
      ap₂ (λ (b c : Bool). cond (eqb x 0 && eqb y 0) (b ⊕ get_or (RC ir) z false) c) (e 0 0 z (omega arith) (omega arith) hz) (e x y z hx hy hz)

-- a round keeps agreement
pub round-cong : (A B : StateArray) (ir : ℕ) → Agree A B → Agree (Rnd A ir) (Rnd B ir)
unfolding Rnd
round-cong A B ir e =
    iota-cong (χ (π (ρ (θ A)))) (χ (π (ρ (θ B))))
    (chi-cong (π (ρ (θ A))) (π (ρ (θ B))) (pi-cong (ρ (θ A)) (ρ (θ B)) (rho-cong (θ A) (θ B) (theta-cong A B e)))) ir

-- any number of rounds keeps agreement
pub rounds-cong : (n : ℕ) (A B : StateArray) → Agree A B → Agree (rounds n A) (rounds n B)
unfolding rounds
rounds-cong zero A B e = e
rounds-cong (suc n) A B e = round-cong (rounds n A) (rounds n B) n (rounds-cong n A B e)

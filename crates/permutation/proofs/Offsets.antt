-- ρ, whose definition walks over the lanes, moves each lane by a fixed offset.
-- Assumes nothing.
use mathlib.Core.Path.{◌≡◌, refl, sym, ap, ap₂}
use mathlib.Core.Bool.{Bool, true, false, cond, ◌&&◌}
use Prim.Native.Nat.{ℕ, zero, suc, ◌+◌, ◌-◌, ◌*◌, ◌/◌, ◌%◌, ◌<◌}
use native.Mathlib.Omega.{arith}
use native.Mathlib.Nat.{mod-lt}
use borrow.Author.Tests.{eqb-true}
use lib.Dec.{eqb}
use Rattle.bits.proofs.Tests.{and-true-left, and-true-right}
use Rattle.permutation.specs.Permutation.{StateArray, put_lane, rho_turns, ρ}

-- the offsets O with v in place of that of lane (px, py)
abbrev pub put_offset : (ℕ → ℕ → ℕ) → ℕ → ℕ → ℕ → ℕ → ℕ → ℕ
put_offset O px py v x y = cond (eqb x px && eqb y py) v (O x y)

-- the last n turns of the walk, from t on at (px, py), with offsets in place of lanes
abbrev pub offset_turns : ℕ → ℕ → ℕ → ℕ → (ℕ → ℕ → ℕ) → ℕ → ℕ → ℕ
offset_turns zero t px py O = O
offset_turns (suc n) t px py O = offset_turns n (t + 1) py ((2 * px + 3 * py) % 5) (put_offset O px py ((t + 1) * (t + 2) / 2 % 64))

-- the offset of lane (x, y)
abbrev pub offset : ℕ → ℕ → ℕ
offset = offset_turns 24 0 1 0 (λ x y. 0)

-- A' is A with each lane moved by its offset in O
abbrev Moved : StateArray → StateArray → (ℕ → ℕ → ℕ) → Type 0
Moved A A' O = (x y z : ℕ) → z < 64 → A' x y z ≡ A x y ((z + (64 - O x y)) % 64)

-- one turn: a lane is moved, and its offset is put down
put-moved : (A A' : StateArray) (O : ℕ → ℕ → ℕ) (px py v : ℕ) → Moved A A' O
    → Moved A (put_lane A' px py (λ z. A px py ((z + (64 - v)) % 64))) (put_offset O px py v)
unfolding put_lane
put-moved A A' O px py v h x y z hz = pick (eqb x px && eqb y py) refl
  where
    pick : (b : Bool) → eqb x px && eqb y py ≡ b
        → cond b (A px py ((z + (64 - v)) % 64)) (A' x y z) ≡ A x y ((z + (64 - cond b v (O x y))) % 64)
    pick true e =
        ap₂ (λ (p q : ℕ). A p q ((z + (64 - v)) % 64)) (sym (eqb-true x px (and-true-left (eqb x px) (eqb y py) e))) (sym (eqb-true y py (and-true-right (eqb x px) (eqb y py) e)))
    pick false e = h x y z hz

-- all turns
turns-moved : (n t px py : ℕ) (A A' : StateArray) (O : ℕ → ℕ → ℕ) → Moved A A' O → Moved A (rho_turns n t px py A A') (offset_turns n t px py O)
unfolding rho_turns
turns-moved zero t px py A A' O h = h
turns-moved (suc n) t px py A A' O h =
    turns-moved n (t + 1) py ((2 * px + 3 * py) % 5) A (put_lane A' px py (λ z. A px py ((z + (64 - (t + 1) * (t + 2) / 2 % 64)) % 64)))
    (put_offset O px py ((t + 1) * (t + 2) / 2 % 64)) (put-moved A A' O px py ((t + 1) * (t + 2) / 2 % 64) h)

-- ρ moves each lane by its offset
pub rho-bits : (A : StateArray) (x y z : ℕ) → z < 64 → ρ A x y z ≡ A x y ((z + (64 - offset x y)) % 64)
unfolding ρ
rho-bits A = turns-moved 24 0 1 0 A A (λ x y. 0) (λ x y z hz. ap (A x y) (omega arith))

-- each turn puts down an offset below 64
turns-lt : (n t px py : ℕ) (O : ℕ → ℕ → ℕ) → ((x y : ℕ) → O x y < 64) → (x y : ℕ) → offset_turns n t px py O x y < 64
turns-lt zero t px py O h = h
turns-lt (suc n) t px py O h =
    turns-lt n (t + 1) py ((2 * px + 3 * py) % 5) (put_offset O px py ((t + 1) * (t + 2) / 2 % 64))
    (λ x y. pick x y (eqb x px && eqb y py))
  where
    pick : (x y : ℕ) (b : Bool) → cond b ((t + 1) * (t + 2) / 2 % 64) (O x y) < 64
    pick x y true = mod-lt ((t + 1) * (t + 2) / 2) (omega arith)
    pick x y false = h x y

-- an offset is less than a lane's width
pub offset-lt : (x y : ℕ) → offset x y < 64
offset-lt = turns-lt 24 0 1 0 (λ x y. 0) (λ x y. omega arith)

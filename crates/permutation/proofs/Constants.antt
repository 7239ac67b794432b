-- The table of round constants: one test, which antt computes, compares each entry's bits with the standard's shift register.
-- Assumes nothing.
use mathlib.Core.Path.{◌≡◌, refl, sym, ap, ap₂, ◌∙◌}
use mathlib.Core.Bool.{Bool, true, false, beq, ◌&&◌, false≢true}
use mathlib.Core.List.{List, [], ◌∷◌}
use Prim.Native.Nat.{ℕ, zero, suc, ◌+◌, ◌^◌, ◌<◌}
use native.Mathlib.Omega.{arith}
use native.Mathlib.Nat.{add-zero, zero-add, add-suc, suc-add, le_of_suc-le-suc, not-suc-le-zero}
use borrow.Author.Tests.{ltb-true}
use lib.Dec.{ltb}
use lib.ListN.{length, get_or}
use Rattle.bits.specs.Bits.{tabulate, odd, test_bit}
use Rattle.bits.proofs.Numbers.{from_bits-cong, from_bits-test_bit}
use Rattle.bits.proofs.Tabulate.{get_d_tabulate}
use Rattle.bits.proofs.Tests.{and-true-left, and-true-right}
use Rattle.permutation.specs.Permutation.{RC, round_bits, rc, shift_register}
use Rattle.permutation.specs.Steps.{round_constant}

-- the table as the code has it
abbrev pub constants : List ℕ
constants =
    0x0000000000000001 ∷
    0x0000000000008082 ∷
    0x800000000000808A ∷
    0x8000000080008000 ∷
    0x000000000000808B ∷
    0x0000000080000001 ∷
    0x8000000080008081 ∷
    0x8000000000008009 ∷
    0x000000000000008A ∷
    0x0000000000000088 ∷
    0x0000000080008009 ∷
    0x000000008000000A ∷
    0x000000008000808B ∷
    0x800000000000008B ∷
    0x8000000000008089 ∷
    0x8000000000008003 ∷
    0x8000000000008002 ∷
    0x8000000000000080 ∷
    0x000000000000800A ∷
    0x800000008000000A ∷
    0x8000000080008081 ∷
    0x8000000000008080 ∷
    0x0000000080000001 ∷
    0x8000000080008008 ∷ []

-- whether two lists of bits are equal
abbrev same_bits : List Bool → List Bool → Bool
same_bits [] [] = true
same_bits [] (b ∷ t) = false
same_bits (a ∷ s) [] = false
same_bits (a ∷ s) (b ∷ t) = beq a b && same_bits s t

-- the test of two bits holds of equal bits alone
beq-eq : (a b : Bool) → beq a b ≡ true → a ≡ b
beq-eq true true e = refl
beq-eq true false e = sym e
beq-eq false true e = e
beq-eq false false e = refl

-- and that of two lists of equal lists alone
same_bits-eq : (s t : List Bool) → same_bits s t ≡ true → s ≡ t
same_bits-eq [] [] e = refl
same_bits-eq [] (b ∷ t) e = absurd (false≢true e)
same_bits-eq (a ∷ s) [] e = absurd (false≢true e)
same_bits-eq (a ∷ s) (b ∷ t) e =
    ap₂ ◌∷◌ (beq-eq a b (and-true-left (beq a b) (same_bits s t) e)) (same_bits-eq s t (and-true-right (beq a b) (same_bits s t) e))

-- the entry c of the round ir has 64 bits, those of RC
abbrev right : ℕ → ℕ → Bool
right ir c = ltb c (2 ^ 64) && same_bits (RC ir) (tabulate 64 (test_bit c))

-- the entries cs, of the rounds from ir on, are right
abbrev every : ℕ → List ℕ → Bool
every ir [] = true
every ir (c ∷ cs) = right ir c && every (suc ir) cs

-- each of them is
from : (cs : List ℕ) (i : ℕ) → every i cs ≡ true → (k : ℕ) → k < length cs → right (i + k) (get_or cs k 0) ≡ true
from [] i e k h = absurd (not-suc-le-zero h)
from (c ∷ cs) i e zero h = ap (λ (m : ℕ). right m c) (add-zero i) ∙ and-true-left (right i c) (every (suc i) cs) e
from (c ∷ cs) i e (suc k) h =
    ap (λ (m : ℕ). right m (get_or cs k 0)) (add-suc i k ∙ sym (suc-add i k))
    ∙ from cs (suc i) (and-true-right (right i c) (every (suc i) cs) e) k (le_of_suc-le-suc h)

-- the test of the whole table, which antt computes
passed : every 0 constants ≡ true
unfolding RC round_bits rc shift_register test_bit odd
passed = refl

-- so each entry is right
entry : (ir : ℕ) → ir < 24 → right ir (get_or constants ir 0) ≡ true
entry ir h = ap (λ (m : ℕ). right m (get_or constants ir 0)) (sym (zero-add ir)) ∙ from constants 0 passed ir h

-- the table's rule: entry ir is RC of the round ir
pub constant-rule : (ir : ℕ) → ir < 24 → get_or constants ir 0 ≡ round_constant ir
unfolding round_constant
constant-rule ir h =
    let c = get_or constants ir 0 in
    let small : c < 2 ^ 64 = ltb-true c (2 ^ 64) (and-true-left (ltb c (2 ^ 64)) (same_bits (RC ir) (tabulate 64 (test_bit c))) (entry ir h)) in
    let same : RC ir ≡ tabulate 64 (test_bit c) =
    same_bits-eq (RC ir) (tabulate 64 (test_bit c)) (and-true-right (ltb c (2 ^ 64)) (same_bits (RC ir) (tabulate 64 (test_bit c))) (entry ir h)) in
    sym (from_bits-test_bit 64 c small)
    ∙ from_bits-cong 64 (test_bit c) (λ z. get_or (RC ir) z false)
    (λ z hz. sym (ap (λ (s : List Bool). get_or s z false) same ∙ get_d_tabulate 64 (test_bit c) z false hz))

-- so the entry k is that of the round k
pub entry-is : (k ir : ℕ) → ir ≡ k → k < 24 → get_or constants k 0 ≡ round_constant ir
entry-is k ir e h = constant-rule k h ∙ ap round_constant (sym e)

-- x is none of the numbers below n
abbrev pub NoneBelow : ℕ → ℕ → Type 0
NoneBelow zero x = Unit {0}
NoneBelow (suc n) x = NoneBelow n x × (x ≡ n → ⊥)

-- so it is not below n
pub none_below : (n x : ℕ) → NoneBelow n x → x < n → ⊥
none_below zero x h lt = not-suc-le-zero lt
none_below (suc n) x h lt = none_below n x h.0 (omega (arith, h.1))

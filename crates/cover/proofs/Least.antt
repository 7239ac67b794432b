-- The least height of a tree with M leaves.
-- Assumes nothing.
use native.Mathlib.Omega.{arith}
use native.Mathlib.Nat.{pow-succ'}
use mathlib.Core.Path.{◌≡◌, sym, ap, ◌∙◌}
use mathlib.Core.Logic.{⊎_elim}
use Prim.Native.Nat.{ℕ, zero, suc, ◌+◌, ◌*◌, ◌/◌, ◌^◌, ◌≤◌, ◌<◌, max}
use borrow.Author.Tests.{le-leb, lt-leb}
use lib.Pow.{pow_mono}
use Rattle.std.specs.Int.{IsPowerOfTwo}
use Rattle.bits.proofs.Numbers.{lt-or-le}
use Rattle.cover.specs.Masters.{least_from, height, LeastHeight}

below-pow : (n : ℕ) → n < 2 ^ n
below-pow zero = omega arith
below-pow (suc n) = omega (arith, below-pow n, pow-succ' 2 n)

least_fits : (d h M : ℕ) → M ≤ 2 ^ (h + d) → M ≤ 2 ^ least_from d h M
unfolding least_from
least_fits zero h M w = let e : h + 0 ≡ h = omega arith in omega (arith, ap (λ (x : ℕ). 2 ^ x) e)
least_fits (suc d) h M w =
    ⊎_elim
    (λ (s : 2 ^ h < M).
    let e : h + suc d ≡ suc h + d = omega arith in
    rw (lt-leb M (2 ^ h) s) (least_fits d (suc h) M (omega (arith, ap (λ (x : ℕ). 2 ^ x) e))))
    (λ (s : M ≤ 2 ^ h). rw (le-leb M (2 ^ h) s) s)
    (lt-or-le (2 ^ h) M)

least-low : (d h M g : ℕ) → h ≤ g → M ≤ 2 ^ g → least_from d h M ≤ g
unfolding least_from
least-low zero h M g l w = l
least-low (suc d) h M g l w =
    ⊎_elim
    (λ (s : 2 ^ h < M).
    let n : h ≡ g → ⊥ = λ e. omega (arith, ap (λ (x : ℕ). 2 ^ x) e) in
    rw (lt-leb M (2 ^ h) s) (least-low d (suc h) M g (omega (arith, n)) w))
    (λ (s : M ≤ 2 ^ h). rw (le-leb M (2 ^ h) s) l)
    (lt-or-le (2 ^ h) M)

pub least-height : LeastHeight
unfolding height
least-height = record {
  fits = λ M. let e : 0 + M ≡ M = omega arith in least_fits M 0 M (omega (arith, below-pow M, ap (λ (x : ℕ). 2 ^ x) e));
  least = λ M h w. least-low M 0 M h (omega arith) w;
}

-- the logarithm of the least power of two from M on is the least height
pub height-log : (M p h : ℕ) → IsPowerOfTwo p → M ≤ p → p / 2 < max 1 M → 2 ^ h ≤ p → p < 2 * 2 ^ h → h ≡ height M
height-log M p h (k, e) a b c d =
    let twice : (i j : ℕ) → i < j → 2 * 2 ^ i ≤ 2 ^ j = λ i j l. omega (arith, pow_mono {i = suc i} {j = j} (omega arith), pow-succ' 2 i) in
    let q : h ≡ k =
    ⊎_elim (λ (l : h < k). absurd (omega (arith, twice h k l)))
    (λ (g : k ≤ h). ⊎_elim (λ (l : k < h). absurd (omega (arith, twice k h l))) (λ (l : h ≤ k). omega arith) (lt-or-le k h))
    (lt-or-le h k) in
    let r : p ≡ 2 ^ h = e ∙ ap (λ (x : ℕ). 2 ^ x) (sym q) in
    ⊎_elim
    (λ (l : height M < h). absurd (omega (arith, twice (height M) h l, least-height.fits M, below-pow (height M))))
    (λ (g : h ≤ height M). omega (arith, least-height.least M h (omega arith)))
    (lt-or-le (height M) h)

pub height-low : (M : ℕ) → M ≤ 512 → height M ≤ 9
height-low M w = least-height.least M 9 w

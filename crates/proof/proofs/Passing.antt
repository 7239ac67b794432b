-- Tests of all instances, and of a party count.
-- Assumes nothing.
use mathlib.Core.Path.{◌≡◌, refl, sym, ◌∙◌}
use mathlib.Core.Bool.{Bool, true, false, ◌&&◌}
use mathlib.Core.Logic.{⊎_elim}
use Prim.Native.Nat.{ℕ, zero, suc, ◌<◌}
use native.Mathlib.Omega.{arith}
use Rattle.bits.proofs.Numbers.{lt-or-le}
use Rattle.bits.proofs.Tests.{and-true-left, and-true-right}
use Rattle.parties.specs.Parties.{height_of, is_party_count}
use Rattle.parties.proofs.Counts.{count_no}
use Rattle.proof.specs.Check.{every}

-- both tests of an AND hold
pub and-true : (a b : Bool) → a ≡ true → b ≡ true → a && b ≡ true
and-true a b p q = rw (p, q)

-- a test passed by all of the first m instances
pub every-at : (m : ℕ) (test : ℕ → Bool) → every m test ≡ true → (j : ℕ) → j < m → test j ≡ true
unfolding every
every-at zero test e j h = absurd (omega arith)
every-at (suc m) test e j h =
    ⊎_elim (λ l. every-at m test (and-true-left (every m test) (test m) e) j l)
    (λ l. let q : j ≡ m = omega arith in rw q (and-true-right (every m test) (test m) e))
    (lt-or-le j m)

-- and the other way round
pub all-every : (m : ℕ) (test : ℕ → Bool) → ((j : ℕ) → j < m → test j ≡ true) → every m test ≡ true
unfolding every
all-every zero test h = refl
all-every (suc m) test h = and-true (every m test) (test m) (all-every m test (λ j l. h j (omega arith))) (h m (omega arith))

-- a party count has a height
pub has-height : (n : ℕ) → is_party_count n ≡ true → height_of n ≡ 0 → ⊥
has-height n h e = let z : ◌≡◌ {A = Bool} true false = sym h ∙ count_no n e in let o : ◌≡◌ {A = ℕ} 0 1 = cc in omega arith

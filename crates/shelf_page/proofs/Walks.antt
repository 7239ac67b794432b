-- Laws of the walk along a chain, of counting its slots, and of the tests over them.
-- Assumes nothing.
use mathlib.Core.Path.{◌≡◌, refl, sym, ap, ap₂, ◌∙◌}
use mathlib.Core.Bool.{Bool, true, false, and-false}
use mathlib.Core.List.{List, [], ◌∷◌}
use mathlib.Core.Logic.{◌≢◌, ⊎_elim}
use Prim.Native.Nat.{ℕ, zero, suc, ◌+◌, ◌-◌, ◌≤◌, ◌<◌}
use native.Mathlib.Omega.{arith}
use borrow.Author.Tests.{eq-eqb, ne_eqb, le-leb, lt-leb}
use lib.Dec.{eqb}
use lib.ListN.{length, get_or, set, take, drop, replicate}
use lib.Seq.{get_or-set_same, get_or-set_other}
use Rattle.bits.specs.Bits.{bit_val}
use Rattle.bits.specs.Bytes.{le_at, same_bytes}
use Rattle.bits.specs.Counting.{count}
use Rattle.bits.proofs.Numbers.{eq-or-ne, lt-or-le}
use Rattle.bits.proofs.Counting.{count-nil, count-cons}
use Rattle.shelf_page.specs.Page.{chain, ended, all_one, slot_at, next_of, root_of, zero_root, blank}
use Rattle.shelf_page.specs.Steps.{Tallied}

module _ (next : ℕ → ℕ) where
  -- at 0 a chain has ended
  pub chain-end : (n : ℕ) → chain next n 0 ≡ []
  unfolding chain
  chain-end zero = refl
  chain-end (suc n) = refl

  -- a chain's first slot, and the chain after it
  pub chain-slot : (n k : ℕ) → k ≢ 0 → 0 < n → chain next n k ≡ k ∷ chain next (n - 1) (next k)
  unfolding chain
  chain-slot zero k h l = absurd (omega arith)
  chain-slot (suc n) k h l =
      let e : suc n - 1 ≡ n = omega arith in
      rw (ne_eqb k 0 h, e)

  -- n slots at most
  pub chain_length : (n k : ℕ) → length (chain next n k) ≤ n
  unfolding chain
  chain_length zero k = omega arith
  chain_length (suc n) k =
      ⊎_elim
      (λ (e : k ≡ 0). rw (eq-eqb k 0 e) (omega arith))
      (λ (h : k ≢ 0). rw (ne_eqb k 0 h) (omega (arith, chain_length n (next k))))
      (eq-or-ne k 0)

  module _ (S : ℕ) where
    -- 0 is an end
    pub ended-end : (n : ℕ) → ended next S n 0 ≡ true
    unfolding ended
    ended-end zero = refl
    ended-end (suc n) = refl

    -- a slot is followed by the chain after it
    pub ended-slot : (n k : ℕ) → k ≢ 0 → k ≤ S → 0 < n → ended next S n k ≡ ended next S (n - 1) (next k)
    unfolding ended
    ended-slot zero k h s l = absurd (omega arith)
    ended-slot (suc n) k h s l =
        let e : suc n - 1 ≡ n = omega arith in
        rw (ne_eqb k 0 h, le-leb k S s, e)

    -- more slots than n
    pub ended-none : (k : ℕ) → k ≢ 0 → ended next S 0 k ≡ false
    unfolding ended
    ended-none k h = ne_eqb k 0 h

    -- a slot above S
    pub ended-above : (n k : ℕ) → k ≢ 0 → S < k → ended next S n k ≡ false
    unfolding ended
    ended-above zero k h l = ne_eqb k 0 h
    ended-above (suc n) k h l = rw (ne_eqb k 0 h, lt-leb k S l)

    -- a chain that ends has a slot left, at most S, wherever it has not ended
    pub ended-room : (n k : ℕ) → k ≢ 0 → ended next S n k ≡ true → (0 < n) × (k ≤ S)
    ended-room zero k h e = absurd (let z : false ≡ true = sym (ended-none k h) ∙ e in let w : ◌≡◌ {A = ℕ} 0 1 = cc in omega arith)
    ended-room (suc n) k h e =
        ⊎_elim
        (λ (l : S < k). absurd (let z : false ≡ true = sym (ended-above (suc n) k h l) ∙ e in let w : ◌≡◌ {A = ℕ} 0 1 = cc in omega arith))
        (λ (l : k ≤ S). (omega arith, l))
        (lt-or-le S k)

-- a slot counted once more
pub tally-one : (seen : List ℕ) (slot k : ℕ) → slot < length seen → get_or (set seen slot (get_or seen slot 0 + 1)) k 0 ≡ get_or seen k 0 + bit_val (eqb k slot)
tally-one seen slot k h =
    ⊎_elim
    (λ (e : k ≡ slot). rw (e, eq-eqb slot slot refl) (get_or-set_same seen slot (get_or seen slot 0 + 1) 0 h))
    (λ (n : k ≢ slot). rw (ne_eqb k slot n) (get_or-set_other seen slot k (get_or seen slot 0 + 1) 0 n ∙ omega arith))
    (eq-or-ne k slot)

-- the counts after one slot, and those of the chain after it, are the counts before it and those of the chain from it
pub tally-turn : (next : ℕ → ℕ) (seen : List ℕ) (slot n k : ℕ) → slot < length seen → slot ≢ 0 → 0 < n
    → get_or (set seen slot (get_or seen slot 0 + 1)) k 0 + count k (chain next (n - 1) (next slot)) ≡ get_or seen k 0 + count k (chain next n slot)
tally-turn next seen slot n k h z l =
    let e : count k (chain next n slot) ≡ bit_val (eqb k slot) + count k (chain next (n - 1) (next slot)) =
    ap (count k) (chain-slot next n slot z l) ∙ count-cons k slot (chain next (n - 1) (next slot)) in
    omega (arith, tally-one seen slot k h)

-- no slot at all
pub all_one-zero : (f : ℕ → ℕ) → all_one f 0 ≡ true
unfolding all_one
all_one-zero f = refl

-- slot n is not 1
pub all_one-not : (f : ℕ → ℕ) (n : ℕ) → 0 < n → f n ≢ 1 → all_one f n ≡ false
unfolding all_one
all_one-not f zero l h = absurd (omega arith)
all_one-not f (suc n) l h = rw (ne_eqb (f (suc n)) 1 h)

-- a slot k of them is not 1
pub all_one-miss : (f : ℕ → ℕ) (k n : ℕ) → 1 ≤ k → k ≤ n → f k ≢ 1 → all_one f n ≡ false
unfolding all_one
all_one-miss f k zero l u h = absurd (omega arith)
all_one-miss f k (suc n) l u h =
    ⊎_elim
    (λ (w : n < k). let e : k ≡ suc n = omega arith in all_one-not f (suc n) (omega arith) (λ q. h (ap f e ∙ q)))
    (λ (w : k ≤ n). rw (all_one-miss f k n l w h) (and-false (eqb (f (suc n)) 1)))
    (lt-or-le n k)

-- slot n is 1, and the slots below it are left
pub all_one-more : (f : ℕ → ℕ) (n : ℕ) → 0 < n → f n ≡ 1 → all_one f n ≡ all_one f (n - 1)
unfolding all_one
all_one-more f zero l h = absurd (omega arith)
all_one-more f (suc n) l h =
    let e : suc n - 1 ≡ n = omega arith in
    rw (eq-eqb (f (suc n)) 1 h, e)

-- equal numbers
pub all_one-cong : (f g : ℕ → ℕ) → ((k : ℕ) → f k ≡ g k) → (n : ℕ) → all_one f n ≡ all_one g n
unfolding all_one
all_one-cong f g h zero = refl
all_one-cong f g h (suc n) = rw (h (suc n), all_one-cong f g h n)

-- false is not true
pub false-true : false ≡ true → ⊥
false-true e = let w : ◌≡◌ {A = ℕ} 0 1 = cc in omega arith

-- the next slot as it is read
pub next-read : (p : List ℕ) (k at r : ℕ) → at ≡ slot_at k → r ≡ le_at 2 p at → r ≡ next_of p k
unfolding next_of
next-read p k at r e f = f ∙ ap (le_at 2 p) e

-- a chain that is not ended
pub tallied-not : (p : List ℕ) (S head : ℕ) (before counts : List ℕ) → ended (next_of p) S S head ≡ false → Tallied p S head before false counts
tallied-not p S head before counts e = record { is_ended = sym e; added = λ f. absurd (false-true f) }

-- a chain at whose end the counts are c
pub tallied-end : (p : List ℕ) (S head n slot : ℕ) (before counts : List ℕ) → slot ≡ 0
    → ended (next_of p) S n slot ≡ ended (next_of p) S S head
    → ((k : ℕ) → get_or counts k 0 + count k (chain (next_of p) n slot) ≡ get_or before k 0 + count k (chain (next_of p) S head))
    → Tallied p S head before true counts
tallied-end p S head n slot before counts z e f =
    record {
      is_ended = sym (ap (ended (next_of p) S n) z ∙ ended-end (next_of p) S n) ∙ e;
      added =
          λ t k.
          let q : count k (chain (next_of p) n slot) ≡ 0 = ap (λ (j : ℕ). count k (chain (next_of p) n j)) z ∙ ap (count k) (chain-end (next_of p) n) ∙ count-nil k in
          omega (arith, f k);
    }

-- a chain that was followed through all its turns, where the counts are c
pub tallied-last : (p : List ℕ) (S head n slot : ℕ) (before counts : List ℕ) → n ≡ 0
    → ended (next_of p) S n slot ≡ ended (next_of p) S S head
    → ((k : ℕ) → get_or counts k 0 + count k (chain (next_of p) n slot) ≡ get_or before k 0 + count k (chain (next_of p) S head))
    → Tallied p S head before (eqb slot 0) counts
tallied-last p S head n slot before counts z e f =
    ⊎_elim
    (λ (q : slot ≡ 0). rw (eq-eqb slot 0 q) (tallied-end p S head n slot before counts q e f))
    (λ (q : slot ≢ 0). rw (ne_eqb slot 0 q) (tallied-not p S head before counts (sym e ∙ ap (λ (m : ℕ). ended (next_of p) S m slot) z ∙ ended-none (next_of p) S slot q)))
    (eq-or-ne slot 0)

-- nothing is counted yet
pub get_or-zeros : (n k : ℕ) → ◌≡◌ {A = ℕ} (get_or (replicate n 0) k 0) 0
get_or-zeros zero k = refl
get_or-zeros (suc n) zero = refl
get_or-zeros (suc n) (suc k) = get_or-zeros n k

-- a blank slot, and the chain after it
pub blank-slot : (p : List ℕ) (n k : ℕ) → k ≢ 0 → 0 < n → same_bytes (root_of p k) zero_root ≡ true
    → blank p (chain (next_of p) n k) ≡ blank p (chain (next_of p) (n - 1) (next_of p k))
unfolding blank
blank-slot p n k z l e = ap (blank p) (chain-slot (next_of p) n k z l) ∙ rw e

-- a slot that is not
pub blank-not : (p : List ℕ) (n k : ℕ) → k ≢ 0 → 0 < n → same_bytes (root_of p k) zero_root ≡ false → blank p (chain (next_of p) n k) ≡ false
unfolding blank
blank-not p n k z l e = ap (blank p) (chain-slot (next_of p) n k z l) ∙ rw e

-- the end
pub blank-end : (p : List ℕ) (n k : ℕ) → k ≡ 0 → blank p (chain (next_of p) n k) ≡ true
unfolding blank
blank-end p n k z = ap (λ (j : ℕ). blank p (chain (next_of p) n j)) z ∙ ap (blank p) (chain-end (next_of p) n)

-- no turn left
pub blank-none : (p : List ℕ) (n k : ℕ) → n ≡ 0 → blank p (chain (next_of p) n k) ≡ true
unfolding blank chain
blank-none p n k z = ap (λ (m : ℕ). blank p (chain (next_of p) m k)) z

-- the test of a slot's root, as it is made on that part of the page
pub root-test : (p : List ℕ) (k at : ℕ) (r b : Bool) → at ≡ slot_at k → r ≡ same_bytes (take (at + 18 - (at + 2)) (drop (at + 2) p)) zero_root → r ≡ b
    → same_bytes (root_of p k) zero_root ≡ b
unfolding root_of
root-test p k at r b e f g =
    let n : 16 ≡ at + 18 - (at + 2) = omega arith in
    let m : slot_at k + 2 ≡ at + 2 = omega arith in
    ap₂ (λ (i j : ℕ). same_bytes (take i (drop j p)) zero_root) n m ∙ sym f ∙ g

-- so each count is small
pub zeros-small : (n k : ℕ) → get_or (replicate n 0) k 0 ≤ 255
zeros-small n k = omega (arith, get_or-zeros n k)

-- The party counts are powers of two between 2 and 64.
-- Assumes nothing.
use native.Mathlib.Omega.{arith}
use mathlib.Core.Path.{◌≡◌, refl, sym, ap, ◌∙◌}
use mathlib.Core.Logic.{⊎_elim}
use mathlib.Core.Bool.{true, false, not, true≢false}
use Prim.Native.Nat.{ℕ, ◌^◌, ◌≤◌}
use borrow.Author.Tests.{eq-eqb, ne_eqb}
use Rattle.std.specs.Prelude.{Bool, cond, eqb, Option, Some, None, is_some}
use Rattle.std.proofs.lemmas.Option.{none-some, same_Some}
use Rattle.bits.proofs.Numbers.{eq-or-ne}
use Rattle.parties.specs.Parties.{height_of, is_party_count, counted}

-- what holds of each party count, and of a number that is none
height-cases : (P : ℕ → ℕ → Type 0) → P 2 1 → P 4 2 → P 8 3 → P 16 4 → P 32 5 → P 64 6 → ((n : ℕ) → P n 0) → (n : ℕ) → P n (height_of n)
unfolding height_of
height-cases P p2 p4 p8 p16 p32 p64 other n =
    ⊎_elim (λ e. rw e p2)
    (λ n2.
    ⊎_elim (λ e. rw e p4)
    (λ n4.
    ⊎_elim (λ e. rw e p8)
    (λ n8.
    ⊎_elim (λ e. rw e p16)
    (λ n16.
    ⊎_elim (λ e. rw e p32)
    (λ n32.
    ⊎_elim (λ e. rw e p64)
    (λ n64. rw (ne_eqb n 2 n2, ne_eqb n 4 n4, ne_eqb n 8 n8, ne_eqb n 16 n16, ne_eqb n 32 n32, ne_eqb n 64 n64) (other n))
    (eq-or-ne n 64))
    (eq-or-ne n 32))
    (eq-or-ne n 16))
    (eq-or-ne n 8))
    (eq-or-ne n 4))
    (eq-or-ne n 2)

-- n leaves at the height of n parties
pub height-pow : (n : ℕ) → (height_of n ≡ 0 → ⊥) → 2 ^ height_of n ≡ n
height-pow = height-cases (λ n h. (h ≡ 0 → ⊥) → 2 ^ h ≡ n) (λ _. refl) (λ _. refl) (λ _. refl) (λ _. refl) (λ _. refl) (λ _. refl) (λ n f. absurd (f refl))

pub height-small : (n : ℕ) → height_of n ≤ 6
height-small = height-cases (λ n h. h ≤ 6) (omega arith) (omega arith) (omega arith) (omega arith) (omega arith) (omega arith) (λ n. omega arith)

pub count_yes : (n : ℕ) → (height_of n ≡ 0 → ⊥) → is_party_count n ≡ true
unfolding is_party_count
count_yes n more = rw (ne_eqb (height_of n) 0 more)

pub count_no : (n : ℕ) → height_of n ≡ 0 → is_party_count n ≡ false
unfolding is_party_count
count_no n e = rw (eq-eqb (height_of n) 0 e)

-- what the height of a number says: it is a party count, or none
pub record Count (n h : ℕ) : Type 0 where
  pub is : h ≡ height_of n
  pub more : h ≡ 0 → ⊥
  pub some : height_of n ≡ 0 → ⊥

pub is_count : (n h : ℕ) (o : Option ℕ) → o ≡ counted n → o ≡ Some h → Count n h
unfolding counted
is_count n h o c i =
    let e : Some h ≡ counted n = sym i ∙ c in
    ⊎_elim
    (λ (q : height_of n ≡ 0). absurd (none-some h (sym (e ∙ ap (λ (b : Bool). cond b None (Some (height_of n))) (eq-eqb (height_of n) 0 q)))))
    (λ (more : height_of n ≡ 0 → ⊥).
    let s : h ≡ height_of n = same_Some h (height_of n) (e ∙ ap (λ (b : Bool). cond b None (Some (height_of n))) (ne_eqb (height_of n) 0 more)) in
    record { is = s; more = λ z. more (sym s ∙ z); some = more })
    (eq-or-ne (height_of n) 0)

pub no_count : (n : ℕ) (o : Option ℕ) → o ≡ counted n → o ≡ None → height_of n ≡ 0
unfolding counted
no_count n o c i =
    let e : None ≡ counted n = sym i ∙ c in
    ⊎_elim
    (λ (q : height_of n ≡ 0). q)
    (λ (more : height_of n ≡ 0 → ⊥). absurd (none-some (height_of n) (e ∙ ap (λ (b : Bool). cond b None (Some (height_of n))) (ne_eqb (height_of n) 0 more))))
    (eq-or-ne (height_of n) 0)

-- and what its test says
told : (n : ℕ) (o : Option ℕ) (r : Bool) → o ≡ counted n → is_some o ≡ not r → is_party_count n ≡ not r
unfolding counted is_party_count
told n o r c e = sym (seen (eqb (height_of n) 0) (height_of n)) ∙ ap is_some (sym c) ∙ e
  where
    seen : (b : Bool) (h : ℕ) → is_some (cond b None (Some h)) ≡ not b
    seen true h = refl
    seen false h = refl

pub some_height : (n : ℕ) (o : Option ℕ) (r : Bool) → o ≡ counted n → is_some o ≡ not r → r ≡ false → height_of n ≡ 0 → ⊥
some_height n o r c e t z = true≢false (sym (told n o r c e ∙ ap not t) ∙ count_no n z)

pub no_height : (n : ℕ) (o : Option ℕ) (r : Bool) → o ≡ counted n → is_some o ≡ not r → r ≡ true → height_of n ≡ 0
no_height n o r c e t =
    ⊎_elim
    (λ (q : height_of n ≡ 0). q)
    (λ (more : height_of n ≡ 0 → ⊥). absurd (true≢false (sym (count_yes n more) ∙ told n o r c e ∙ ap not t)))
    (eq-or-ne (height_of n) 0)

-- the sizes of the tree of a party count
pub record Sizes (n : ℕ) : Type 0 where
  pub leaves : 2 ^ height_of n ≡ n
  pub few : n ≤ 64
  pub some : 2 ≤ n

pub sizes : (n : ℕ) → (height_of n ≡ 0 → ⊥) → Sizes n
sizes n more = record { leaves = height-pow n more; few = count-few n more; some = count-some n more }
  where
    count-few : (n : ℕ) → (height_of n ≡ 0 → ⊥) → n ≤ 64
    count-few = height-cases (λ n h. (h ≡ 0 → ⊥) → n ≤ 64) (λ _. omega arith) (λ _. omega arith) (λ _. omega arith) (λ _. omega arith) (λ _. omega arith) (λ _. omega arith) (λ n f. absurd (f refl))

    count-some : (n : ℕ) → (height_of n ≡ 0 → ⊥) → 2 ≤ n
    count-some = height-cases (λ n h. (h ≡ 0 → ⊥) → 2 ≤ n) (λ _. omega arith) (λ _. omega arith) (λ _. omega arith) (λ _. omega arith) (λ _. omega arith) (λ _. omega arith) (λ n f. absurd (f refl))

-- What a sound page means: the test of a page is the rules of the section, as specs/Meaning.antt states them.
-- Assumes nothing.
use mathlib.Core.Path.{◌≡◌, refl, sym, ap, ◌∙◌}
use mathlib.Core.Bool.{true}
use mathlib.Core.List.{List, [], ◌∷◌, ◌++◌}
use mathlib.Core.Logic.{◌≢◌, ⊎_elim}
use Prim.Native.Nat.{ℕ, zero, suc, ◌+◌, ◌-◌, ◌≤◌, ◌<◌}
use native.Mathlib.Omega.{arith}
use borrow.Author.Tests.{eq-eqb, ne_eqb, eqb-true}
use lib.Dec.{eqb}
use lib.ListN.{length, length-append}
use Rattle.bits.specs.Bytes.{same_bytes}
use Rattle.bits.specs.Counting.{count}
use Rattle.bits.proofs.Numbers.{eq-or-ne, lt-or-le}
use Rattle.bits.proofs.Counting.{count-nil, count-cons, count-here, count_same, count-other, count-append, Within, once-length}
use Rattle.bits.proofs.Equal.{same-eq, eq-same}
use Rattle.bits.proofs.Tests.{and-true-left, and-true-right}
use Rattle.shelf_page.specs.Page.{size_of, ready_head, spare_head, next_of, root_of, zero_root, chain, ended, ready_slots, spare_slots, all_one, blank, sound, chains_from}
use Rattle.shelf_page.specs.Meaning.{Leads, HasChains, SoundTheorem}
use Rattle.shelf_page.proofs.Walks.{chain-end, chain-slot, ended-end, ended-slot, ended-room}
use Rattle.shelf_page.proofs.Soundness.{parts, whole, chains-parts, chains-whole, both}

module _ (next : ℕ → ℕ) where
  -- a chain that is ended leads through its slots to 0
  pub leads-chain : (S n k : ℕ) → ended next S n k ≡ true → Leads next k (chain next n k)
  unfolding chain ended
  leads-chain S zero k e = eqb-true k 0 e
  leads-chain S (suc n) k e =
      ⊎_elim
      (λ (z : k ≡ 0). rw (eq-eqb k 0 z) z)
      (λ (z : k ≢ 0).
      let m : suc n - 1 ≡ n = omega arith in
      let l : k ≤ S = (ended-room next S (suc n) k z e).1 in
      let f : ended next S n (next k) ≡ true =
      ap (λ (i : ℕ). ended next S i (next k)) (sym m) ∙ sym (ended-slot next S (suc n) k z l (omega arith)) ∙ e in
      rw (ne_eqb k 0 z) (refl, (z, leads-chain S n (next k) f)))
      (eq-or-ne k 0)

  -- and visits no slot above S
  pub ended-count : (S n k x : ℕ) → ended next S n k ≡ true → S < x → count x (chain next n k) ≡ 0
  unfolding chain ended
  ended-count S zero k x e l = count-nil x
  ended-count S (suc n) k x e l =
      ⊎_elim
      (λ (z : k ≡ 0). rw (eq-eqb k 0 z) (count-nil x))
      (λ (z : k ≢ 0).
      let m : suc n - 1 ≡ n = omega arith in
      let h : k ≤ S = (ended-room next S (suc n) k z e).1 in
      let f : ended next S n (next k) ≡ true =
      ap (λ (i : ℕ). ended next S i (next k)) (sym m) ∙ sym (ended-slot next S (suc n) k z h (omega arith)) ∙ e in
      rw (ne_eqb k 0 z) (count-other x k (chain next n (next k)) (λ q. absurd (omega arith)) ∙ ended-count S n (next k) x f l))
      (eq-or-ne k 0)

  -- links that lead through a list to 0 are the chain of that list
  pub chain-leads : (l : List ℕ) (n k : ℕ) → Leads next k l → length l ≤ n → chain next n k ≡ l
  chain-leads [] n k e h = rw e (chain-end next n)
  chain-leads (x ∷ l) n k (e, (z, r)) h =
      rw e (chain-slot next n x z (omega arith) ∙ ap (λ (t : List ℕ). x ∷ t) (chain-leads l (n - 1) (next x) r (omega arith)))

  -- which is ended
  pub ended-leads : (S : ℕ) (l : List ℕ) (n k : ℕ) → Leads next k l → length l ≤ n → ((x : ℕ) → S < x → count x l ≡ 0) → ended next S n k ≡ true
  ended-leads S [] n k e h f = rw e (ended-end next S n)
  ended-leads S (x ∷ l) n k (e, (z, r)) h f =
      let i : x ≤ S = ⊎_elim (λ (q : S < x). absurd (omega (arith, f x q, count_same x l))) (λ (q : x ≤ S). q) (lt-or-le S x) in
      rw e (ended-slot next S n x z i (omega arith) ∙ ended-leads S l (n - 1) (next x) r (omega arith) (λ y q. tail y q))
    where
      tail : (y : ℕ) → S < y → count y l ≡ 0
      tail y q = ⊎_elim (λ (w : y ≡ x). absurd (omega (arith, f x (omega arith), count_same x l))) (λ (w : y ≢ x). sym (count-other y x l w) ∙ f y q) (eq-or-ne y x)

  -- no link leads to slot 0
  pub leads-zero : (l : List ℕ) (k : ℕ) → Leads next k l → count 0 l ≡ 0
  leads-zero [] k e = count-nil 0
  leads-zero (x ∷ l) k (e, (z, r)) = count-other 0 x l (λ q. z (sym q)) ∙ leads-zero l (next x) r

-- an element that does not stand in a list is none of it
pub absent : (j x : ℕ) (l : List ℕ) → count j (x ∷ l) ≡ 0 → (x ≢ j) × (count j l ≡ 0)
absent j x l e =
    ⊎_elim
    (λ (q : j ≡ x). absurd (omega (arith, count-here j x l q)))
    (λ (q : j ≢ x). (λ w. q (sym w), sym (count-other j x l q) ∙ e))
    (eq-or-ne j x)

-- links that differ only at slot j, which the list has not
pub leads-frame : (next other : ℕ → ℕ) (j : ℕ) → ((x : ℕ) → x ≢ 0 → x ≢ j → other x ≡ next x) → (l : List ℕ) (k : ℕ) → count j l ≡ 0 → Leads next k l → Leads other k l
leads-frame next other j f [] k c e = e
leads-frame next other j f (x ∷ l) k c (e, (z, r)) =
    let a = absent j x l c in
    (e, (z, rw (f x z a.0) (leads-frame next other j f l (next x) a.1 r)))

-- where f is 1 at each slot
pub all_one-at : (f : ℕ → ℕ) (n k : ℕ) → all_one f n ≡ true → 1 ≤ k → k ≤ n → f k ≡ 1
unfolding all_one
all_one-at f zero k e l h = absurd (omega arith)
all_one-at f (suc n) k e l h =
    ⊎_elim
    (λ (q : k ≡ suc n). rw q (eqb-true (f (suc n)) 1 (and-true-left (eqb (f (suc n)) 1) (all_one f n) e)))
    (λ (q : k ≢ suc n). all_one-at f n k (and-true-right (eqb (f (suc n)) 1) (all_one f n) e) l (omega arith))
    (eq-or-ne k (suc n))

pub at-all_one : (f : ℕ → ℕ) (n : ℕ) → ((k : ℕ) → 1 ≤ k → k ≤ n → f k ≡ 1) → all_one f n ≡ true
unfolding all_one
at-all_one f zero h = refl
at-all_one f (suc n) h = both (eq-eqb (f (suc n)) 1 (h (suc n) (omega arith) (omega arith))) (at-all_one f n (λ k l m. h k l (omega arith)))

-- the slots of a list that the test finds blank hold a zero root
blank-at : (p l : List ℕ) → blank p l ≡ true → (k : ℕ) → 1 ≤ count k l → root_of p k ≡ zero_root
unfolding blank
blank-at p [] e k h = absurd (omega (arith, count-nil k))
blank-at p (x ∷ l) e k h =
    ⊎_elim
    (λ (q : k ≡ x). rw q (same-eq (root_of p x) zero_root (and-true-left (same_bytes (root_of p x) zero_root) (blank p l) e)))
    (λ (q : k ≢ x). blank-at p l (and-true-right (same_bytes (root_of p x) zero_root) (blank p l) e) k (omega (arith, count-other k x l q)))
    (eq-or-ne k x)

at-blank : (p l : List ℕ) → ((k : ℕ) → 1 ≤ count k l → root_of p k ≡ zero_root) → blank p l ≡ true
unfolding blank
at-blank p [] h = refl
at-blank p (x ∷ l) h =
    both (eq-same (root_of p x) zero_root (h x (omega (arith, count_same x l)))) (at-blank p l (λ k a. h k (omega (arith, count-cons k x l))))

-- a sound page's chains
pub sound-chains : (p : List ℕ) → sound p ≡ true → HasChains p (ready_slots p) (spare_slots p)
unfolding ready_slots spare_slots
sound-chains p t =
    let a = parts p t in
    let S = size_of p in
    let b = chains-parts p S (ready_head p) (spare_head p) a.chained in
    let r = chain (next_of p) S (ready_head p) in
    let s = chain (next_of p) S (spare_head p) in
    record {
      long = a.long;
      low = a.low;
      high = a.high;
      zeroed = a.zeroed;
      ready_leads = leads-chain (next_of p) S S (ready_head p) b.ready_ends;
      spare_leads = leads-chain (next_of p) S S (spare_head p) b.spare_ends;
      once = λ k l m. sym (count-append k r s) ∙ all_one-at (λ (j : ℕ). count j (r ++ s)) S k b.once l m;
      no_other = λ k l. omega (arith, ended-count (next_of p) S S (ready_head p) k b.ready_ends l, ended-count (next_of p) S S (spare_head p) k b.spare_ends l);
      blanks = blank-at p s b.blanks;
    }

-- every slot is on one of the chains, so their lengths make S
pub chains-length : (p r s : List ℕ) → HasChains p r s → length r + length s ≡ size_of p
chains-length p r s c =
    let S = size_of p in
    let l = r ++ s in
    let z : count 0 l ≡ 0 = omega (arith, count-append 0 r s, leads-zero (next_of p) r (ready_head p) c.ready_leads, leads-zero (next_of p) s (spare_head p) c.spare_leads) in
    let w : Within S l = λ k o. ⊎_elim (λ (e : k ≡ 0). rw e z) (λ (q : S < k). count-append k r s ∙ c.no_other k q) o in
    omega (arith, length-append r s, once-length S l w (λ k a b. count-append k r s ∙ c.once k a b))

-- a page with two such chains is sound, and those are its chains
pub chains-sound : (p r s : List ℕ) → HasChains p r s → (sound p ≡ true) × ((ready_slots p ≡ r) × (spare_slots p ≡ s))
unfolding ready_slots spare_slots
chains-sound p r s c =
    let S = size_of p in
    let n = chains-length p r s c in
    let er : chain (next_of p) S (ready_head p) ≡ r = chain-leads (next_of p) r S (ready_head p) c.ready_leads (omega arith) in
    let es : chain (next_of p) S (spare_head p) ≡ s = chain-leads (next_of p) s S (spare_head p) c.spare_leads (omega arith) in
    let o : all_one (λ k. count k (chain (next_of p) S (ready_head p) ++ chain (next_of p) S (spare_head p))) S ≡ true =
    rw (er, es) (at-all_one (λ (k : ℕ). count k (r ++ s)) S (λ k a b. count-append k r s ∙ c.once k a b)) in
    let b : blank p (chain (next_of p) S (spare_head p)) ≡ true = rw es (at-blank p s c.blanks) in
    let ch : chains_from p S (ready_head p) (spare_head p) ≡ true =
    chains-whole p S (ready_head p) (spare_head p)
    (record {
      ready_ends = ended-leads (next_of p) S r S (ready_head p) c.ready_leads (omega arith) (λ x q. omega (arith, c.no_other x q));
      spare_ends = ended-leads (next_of p) S s S (spare_head p) c.spare_leads (omega arith) (λ x q. omega (arith, c.no_other x q));
      once = o;
      blanks = b;
    }) in
    (whole p (record { long = c.long; low = c.low; high = c.high; zeroed = c.zeroed; chained = ch }), (er, es))

-- the test of a page is the rules of the section
pub sound-theorem : SoundTheorem
sound-theorem = record { means = sound-chains; passes = λ p r s c. (chains-sound p r s c).0; walked = λ p r s c. (chains-sound p r s c).1 }

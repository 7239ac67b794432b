-- The tests of a sound page, one by one, and what checking a page gives.
-- Assumes nothing.
use mathlib.Core.Path.{◌≡◌, refl, sym, ap, ap₂, ◌∙◌}
use mathlib.Core.Bool.{Bool, true, false, not, ◌&&◌}
use mathlib.Core.List.{List, ◌++◌}
use mathlib.Core.Logic.{◌≢◌, ◌⊎◌, inl, inr, ⊎_elim}
use Prim.Native.Nat.{ℕ, ◌+◌, ◌*◌, ◌≤◌, ◌<◌}
use native.Mathlib.Omega.{arith}
use borrow.Author.Tests.{eq-eqb, eqb-true, le-leb, leb-true}
use lib.Dec.{eqb, leb}
use lib.ListN.{length, get_or}
use Rattle.bits.specs.Bytes.{le_at}
use Rattle.bits.proofs.Numbers.{eq-or-ne}
use Rattle.bits.proofs.Tests.{and-true-left, and-true-right}
use Rattle.bits.specs.Counting.{count}
use Rattle.bits.proofs.Counting.{count-append, count-le}
use Rattle.shelf_page.specs.declared.Shelf.{Shelf}
use Rattle.std.specs.Prelude.{Some, None}
use Rattle.shelf_page.specs.Page.{size_of, ready_head, spare_head, zero_field, draws_of, slot_at, next_of, chain, ended, all_one, blank, header_sound, chains_from, sound}
use Rattle.shelf_page.specs.Steps.{Tallied, checked}
use Rattle.shelf_page.proofs.Walks.{false-true, ended-room, all_one-cong, chain_length}

-- a test holds or fails
pub true-or-false : (b : Bool) → (b ≡ true) ⊎ (b ≡ false)
true-or-false true = inl refl
true-or-false false = inr refl

-- a test that cannot hold fails
pub not_so : (b : Bool) → (b ≡ true → ⊥) → b ≡ false
not_so true h = absurd (h refl)
not_so false h = refl

-- two tests that hold
pub both : {a b : Bool} → a ≡ true → b ≡ true → a && b ≡ true
both {a} {b} p q = rw p q

-- the parts of the test of the chains
pub record ChainsParts (p : List ℕ) (S ready spare : ℕ) : Type 0 where
  pub ready_ends : ended (next_of p) S S ready ≡ true
  pub spare_ends : ended (next_of p) S S spare ≡ true
  pub once : all_one (λ k. count k (chain (next_of p) S ready ++ chain (next_of p) S spare)) S ≡ true
  pub blanks : blank p (chain (next_of p) S spare) ≡ true

pub chains-parts : (p : List ℕ) (S ready spare : ℕ) → chains_from p S ready spare ≡ true → ChainsParts p S ready spare
unfolding chains_from
chains-parts p S ready spare e =
    let a = ended (next_of p) S S ready in
    let b = ended (next_of p) S S spare in
    let o = all_one (λ (k : ℕ). count k (chain (next_of p) S ready ++ chain (next_of p) S spare)) S in
    let z = blank p (chain (next_of p) S spare) in
    let e1 = and-true-right a (b && (o && z)) e in
    let e2 = and-true-right b (o && z) e1 in
    record { ready_ends = and-true-left a (b && (o && z)) e; spare_ends = and-true-left b (o && z) e1; once = and-true-left o z e2; blanks = and-true-right o z e2 }

pub chains-whole : (p : List ℕ) (S ready spare : ℕ) → ChainsParts p S ready spare → chains_from p S ready spare ≡ true
unfolding chains_from
chains-whole p S ready spare c = both c.ready_ends (both c.spare_ends (both c.once c.blanks))

-- the parts of the test of a page
pub record Parts (p : List ℕ) : Type 0 where
  pub long : length p ≡ 12 + 18 * size_of p
  pub low : 1 ≤ size_of p
  pub high : size_of p ≤ 255
  pub zeroed : zero_field p ≡ 0
  pub chained : chains_from p (size_of p) (ready_head p) (spare_head p) ≡ true

pub parts : (p : List ℕ) → sound p ≡ true → Parts p
unfolding sound header_sound
parts p e =
    let a = eqb (length p) (12 + 18 * size_of p) in
    let b = leb 1 (size_of p) in
    let d = leb (size_of p) 255 in
    let f = eqb (zero_field p) 0 in
    let g = chains_from p (size_of p) (ready_head p) (spare_head p) in
    let h = and-true-left (a && (b && (d && f))) g e in
    let h1 = and-true-right a (b && (d && f)) h in
    let h2 = and-true-right b (d && f) h1 in
    record {
      long = eqb-true (length p) (12 + 18 * size_of p) (and-true-left a (b && (d && f)) h);
      low = leb-true 1 (size_of p) (and-true-left b (d && f) h1);
      high = leb-true (size_of p) 255 (and-true-left d f h2);
      zeroed = eqb-true (zero_field p) 0 (and-true-right d f h2);
      chained = and-true-right (a && (b && (d && f))) g e;
    }

pub whole : (p : List ℕ) → Parts p → sound p ≡ true
unfolding sound header_sound
whole p c =
    both
    (both (eq-eqb (length p) (12 + 18 * size_of p) c.long)
    (both (le-leb 1 (size_of p) c.low) (both (le-leb (size_of p) 255 c.high) (eq-eqb (zero_field p) 0 c.zeroed))))
    c.chained

-- the numbers of a page
abbrev pub shelf_of : List ℕ → Shelf
shelf_of p = record { size = size_of p; ready = ready_head p; spare = spare_head p; draws = draws_of p }

module _ (p : List ℕ) where
  pub checked-true : sound p ≡ true → checked p ≡ Some (shelf_of p)
  unfolding checked
  checked-true e = rw e

  pub checked-false : sound p ≡ false → checked p ≡ None
  unfolding checked
  checked-false e = rw e

  -- a page that is checked as sound is, and its numbers are the page's
  pub opened : (s : Shelf) → Some s ≡ checked p → (sound p ≡ true) × (s ≡ shelf_of p)
  opened s e =
      ⊎_elim
      (λ t. (t, let q : Some s ≡ Some (shelf_of p) = e ∙ checked-true t in cc))
      (λ f. absurd (let q : Some s ≡ None = e ∙ checked-false f in let z : ◌≡◌ {A = ℕ} 0 1 = cc in omega arith))
      (true-or-false (sound p))

  -- a page that is checked as broken is not sound
  pub broken : None ≡ checked p → sound p ≡ false
  broken e =
      ⊎_elim
      (λ t. absurd (let q : None ≡ Some (shelf_of p) = e ∙ checked-true t in let z : ◌≡◌ {A = ℕ} 0 1 = cc in omega arith))
      (λ f. f)
      (true-or-false (sound p))

  -- each test that fails breaks the page
  unsound : (Parts p → ⊥) → None ≡ checked p
  unsound h = sym (checked-false (not_so (sound p) (λ t. h (parts p t))))

  pub check-short : length p < 12 → None ≡ checked p
  check-short h = unsound (λ c. let l = c.long in omega arith)

  pub check-length : (s : ℕ) → s ≡ le_at 2 p 0 → length p ≢ 12 + 18 * s → None ≡ checked p
  unfolding size_of
  check-length s e h = unsound (λ c. h (c.long ∙ ap (λ (n : ℕ). 12 + 18 * n) (sym e)))

  pub check-low : (s : ℕ) → s ≡ le_at 2 p 0 → s < 1 → None ≡ checked p
  unfolding size_of
  check-low s e h = unsound (λ c. let l : 1 ≤ le_at 2 p 0 = c.low in omega arith)

  pub check-high : (s : ℕ) → s ≡ le_at 2 p 0 → 255 < s → None ≡ checked p
  unfolding size_of
  check-high s e h = unsound (λ c. let l : le_at 2 p 0 ≤ 255 = c.high in omega arith)

  pub check-zero : (z : ℕ) → z ≡ le_at 2 p 6 → z ≢ 0 → None ≡ checked p
  unfolding zero_field
  check-zero z e h = unsound (λ c. h (e ∙ c.zeroed))

  module _ (s r q : ℕ) (es : s ≡ le_at 2 p 0) (er : r ≡ le_at 2 p 2) (eq : q ≡ le_at 2 p 4) where
    same-chains : chains_from p s r q ≡ chains_from p (size_of p) (ready_head p) (spare_head p)
    unfolding size_of ready_head spare_head
    same-chains = ap₂ (λ (a b : ℕ). chains_from p a b q) es er ∙ ap (chains_from p (le_at 2 p 0) (le_at 2 p 2)) eq

    pub check-chains : chains_from p s r q ≡ false → None ≡ checked p
    check-chains e = unsound (λ c. false-true (sym e ∙ same-chains ∙ c.chained))

    pub check_sound : (z d : ℕ) → length p ≡ 12 + 18 * s → 1 ≤ s → s ≤ 255 → z ≡ le_at 2 p 6 → z ≡ 0 → d ≡ le_at 4 p 8 → chains_from p s r q ≡ true
        → Some (record { size = s; ready = r; spare = q; draws = d }) ≡ checked p
    unfolding size_of ready_head spare_head zero_field draws_of
    check_sound z d l lo hi ez z0 ed ch =
        let e : sound p ≡ true =
        whole p
        (record {
          long = l ∙ ap (λ (n : ℕ). 12 + 18 * n) es;
          low = omega arith;
          high = omega arith;
          zeroed = sym ez ∙ z0;
          chained = sym same-chains ∙ ch;
        }) in
        let f : ◌≡◌ {A = Shelf} (record { size = s; ready = r; spare = q; draws = d }) (shelf_of p) = cc in
        ap Some f ∙ sym (checked-true e)

  -- a chain's first slot is one of the page's
  pub slot-room : (k : ℕ) → Parts p → ended (next_of p) (size_of p) (size_of p) k ≡ true → k ≢ 0 → (k ≤ 255) × (slot_at k + 18 ≤ length p)
  slot-room k c e z = let m = (ended-room (next_of p) (size_of p) (size_of p) k z e).1 in let h = c.high in let l = c.long in (omega arith, omega arith)

  pub spare-room : sound p ≡ true → spare_head p ≢ 0 → (spare_head p ≤ 255) × (slot_at (spare_head p) + 18 ≤ length p)
  spare-room t z = slot-room (spare_head p) (parts p t) (chains-parts p (size_of p) (ready_head p) (spare_head p) (parts p t).chained).spare_ends z

  pub ready-room : sound p ≡ true → ready_head p ≢ 0 → (ready_head p ≤ 255) × (slot_at (ready_head p) + 18 ≤ length p)
  ready-room t z = slot-room (ready_head p) (parts p t) (chains-parts p (size_of p) (ready_head p) (spare_head p) (parts p t).chained).ready_ends z

-- the tests of the chains, where one fails, and all but the last
module _ (p : List ℕ) (S r q : ℕ) where
  pub no-ready-end : ended (next_of p) S S r ≡ false → chains_from p S r q ≡ false
  no-ready-end e = not_so (chains_from p S r q) (λ t. false-true (sym e ∙ (chains-parts p S r q t).ready_ends))

  pub no-spare-end : ended (next_of p) S S q ≡ false → chains_from p S r q ≡ false
  no-spare-end e = not_so (chains_from p S r q) (λ t. false-true (sym e ∙ (chains-parts p S r q t).spare_ends))

  -- what both tallies count
  both-counts : (zeros a b : List ℕ) → ((k : ℕ) → get_or zeros k 0 ≡ 0) → Tallied p S r zeros true a → Tallied p S q a true b
      → (k : ℕ) → get_or b k 0 ≡ count k (chain (next_of p) S r ++ chain (next_of p) S q)
  both-counts zeros a b z s t k =
      omega (arith, s.added refl k, t.added refl k, z k, count-append k (chain (next_of p) S r) (chain (next_of p) S q))

  module _ (zeros a b : List ℕ) (z : (k : ℕ) → get_or zeros k 0 ≡ 0) (s : Tallied p S r zeros true a) (t : Tallied p S q a true b) where
    once-counts : all_one (λ k. get_or b k 0) S ≡ all_one (λ k. count k (chain (next_of p) S r ++ chain (next_of p) S q)) S
    once-counts = all_one-cong (λ (k : ℕ). get_or b k 0) (λ (k : ℕ). count k (chain (next_of p) S r ++ chain (next_of p) S q)) (both-counts zeros a b z s t) S

    pub no-once : all_one (λ k. get_or b k 0) S ≡ false → chains_from p S r q ≡ false
    no-once e = not_so (chains_from p S r q) (λ u. false-true (sym e ∙ once-counts ∙ (chains-parts p S r q u).once))

    pub all-but-blank : all_one (λ k. get_or b k 0) S ≡ true → blank p (chain (next_of p) S q) ≡ chains_from p S r q
    unfolding chains_from
    all-but-blank e = sym (rw (sym s.is_ended, sym t.is_ended, sym once-counts ∙ e))

-- a tally that was not refused
pub as-true : (p : List ℕ) (S h : ℕ) (z a : List ℕ) (b : Bool) → Tallied p S h z b a → not b ≡ false → Tallied p S h z true a
as-true p S h z a true t e = t
as-true p S h z a false t e = absurd (false-true (sym e))

-- one that was
pub as-false : (p : List ℕ) (S h : ℕ) (z a : List ℕ) (b : Bool) → Tallied p S h z b a → not b ≡ true → ended (next_of p) S S h ≡ false
as-false p S h z a true t e = absurd (false-true e)
as-false p S h z a false t e = sym t.is_ended

-- counts of one chain are small
pub tally-small : (p : List ℕ) (S h : ℕ) (z a : List ℕ) → S ≤ 255 → ((k : ℕ) → get_or z k 0 ≡ 0) → Tallied p S h z true a → (k : ℕ) → get_or a k 0 ≤ 255
tally-small p S h z a l e t k =
    omega (arith, t.added refl k, e k, count-le k (chain (next_of p) S h), chain_length (next_of p) S h)

-- the same of the numbers that checking gave
pub spare-slot : (p : List ℕ) (s : Shelf) → (sound p ≡ true) × (s ≡ shelf_of p) → s.spare ≢ 0 → (s.spare ≤ 255) × (slot_at s.spare + 18 ≤ length p)
spare-slot p s o z =
    let e : s.spare ≡ spare_head p = ap (λ (t : Shelf). t.spare) o.1 in
    let m = spare-room p o.0 (λ q. z (e ∙ q)) in
    (omega arith, omega arith)

pub ready-slot : (p : List ℕ) (s : Shelf) → (sound p ≡ true) × (s ≡ shelf_of p) → s.ready ≢ 0 → (s.ready ≤ 255) × (slot_at s.ready + 18 ≤ length p)
ready-slot p s o z =
    let e : s.ready ≡ ready_head p = ap (λ (t : Shelf). t.ready) o.1 in
    let m = ready-room p o.0 (λ q. z (e ∙ q)) in
    (omega arith, omega arith)

-- the first spare slot, if there is one, ends inside the page
pub spare-end : (p : List ℕ) (s : Shelf) → (sound p ≡ true) × (s ≡ shelf_of p) → 12 + 18 * s.spare ≤ length p
spare-end p s o = ⊎_elim (λ e. omega (arith, (parts p o.0).long)) (λ z. let m = spare-slot p s o z in omega (arith, z)) (eq-or-ne s.spare 0)

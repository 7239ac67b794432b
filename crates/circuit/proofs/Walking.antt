-- The walk along a chain: one link at a time, what its answers mean, and that a walk which ends well is one of G links and the end.
-- Assumes nothing.
use mathlib.Core.Path.{◌≡◌, refl, sym, ap, ap₂, ◌∙◌}
use mathlib.Core.Bool.{true}
use mathlib.Core.List.{List, [], ◌∷◌}
use mathlib.Core.Logic.{◌⊎◌, inl, inr, ⊎_elim, ◌≢◌}
use Prim.Native.Nat.{ℕ, zero, suc, ◌+◌, ◌-◌, ◌≤◌, ◌<◌}
use native.Mathlib.Omega.{arith}
use borrow.Author.Tests.{eq-eqb, ne_eqb, lt-ltb, le-ltb, lt-leb, le-leb}
use lib.ListN.{length}
use Rattle.bits.proofs.Numbers.{lt-or-le, eq-or-ne}
use Rattle.circuit.specs.Chain.{Walk, ends, fault, walk_from, walk, ends_well}
use Rattle.circuit.specs.Fields.{Fields, gates_of, head_of, next_of, link_of, chain_walk, good_chain}
use Rattle.circuit.specs.FieldSteps.{walks}
use Rattle.circuit.specs.File as file
use Rattle.circuit.specs.Steps as form
use Rattle.circuit.specs.Meaning.{Passes, Meets, BeyondGates, EndsEarly, GoesOn, FirstFaultTheorem}

-- the parts of a fault
same-fault : (a b c d : ℕ) → fault a b ≡ fault c d → (a ≡ c) × (b ≡ d)
same-fault a b c d e = (cc, cc)

not-fault : {A : Type 0} (k x : ℕ) → ends ≡ fault k x → A
not-fault k x e = absurd (let z : ◌≡◌ {A = ℕ} 0 1 = cc in omega arith)

-- a number other than 0 is at least 1
one-le : (j : ℕ) → j ≢ 0 → 1 ≤ j
one-le j z = ⊎_elim (λ l. absurd (z (omega arith))) (λ l. l) (lt-or-le j 1)

module _ (G : ℕ) (link : ℕ → ℕ) where
  -- a link beyond G, whatever is left
  pub at-beyond : (n x : ℕ) → G < link x → walk_from G link n x ≡ fault 19 x
  unfolding walk_from
  at-beyond zero x h = rw (lt-ltb G (link x) h)
  at-beyond (suc n) x h = rw (lt-ltb G (link x) h)

  -- an end with visits left
  pub at-early : (n x : ℕ) → 0 < n → link x ≡ 0 → walk_from G link n x ≡ fault 20 x
  unfolding walk_from
  at-early zero x h e = absurd (omega arith)
  at-early (suc n) x h e = rw (le-ltb G (link x) (omega arith), eq-eqb (link x) 0 e)

  -- a link to a slot, with visits left
  pub at_next : (n x : ℕ) → 0 < n → 1 ≤ link x → link x ≤ G → walk_from G link n x ≡ walk_from G link (n - 1) (link x)
  unfolding walk_from
  at_next zero x h a b = absurd (omega arith)
  at_next (suc n) x h a b =
      let q : suc n - 1 ≡ n = omega arith in
      rw (le-ltb G (link x) b, ne_eqb (link x) 0 (λ e. omega arith), q)

  -- no visit left: one link is to be seen
  pub at_last : (n x : ℕ) → n ≤ 0 → walk_from G link n x ≡ walk_from G (λ _. link x) 0 x
  unfolding walk_from
  at_last zero x h = refl
  at_last (suc n) x h = absurd (omega arith)

  last-ends : (x : ℕ) → link x ≡ 0 → walk_from G link 0 x ≡ ends
  unfolding walk_from
  last-ends x e = rw (le-ltb G (link x) (omega arith), eq-eqb (link x) 0 e)

  last-onward : (x : ℕ) → 1 ≤ link x → link x ≤ G → walk_from G link 0 x ≡ fault 21 x
  unfolding walk_from
  last-onward x a b = rw (le-ltb G (link x) b, ne_eqb (link x) 0 (λ e. omega arith))

  -- visited slots lie behind: the walk goes on from the last of them
  passed-walk : (slots : List ℕ) (n x y : ℕ) → Passes G link x slots y → walk_from G link (length slots + n) x ≡ walk_from G link n y
  unfolding Passes
  passed-walk [] n x y p =
      let e : length {A = ℕ} [] + n ≡ n = omega arith in
      ap₂ (walk_from G link) e p
  passed-walk (k ∷ ks) n x y p =
      let e : length (k ∷ ks) + n - 1 ≡ length ks + n = omega arith in
      at_next (length (k ∷ ks) + n) x (omega arith) (omega (arith, p.0, p.1.0)) (omega (arith, p.0, p.1.1.0))
      ∙ ap₂ (walk_from G link) e p.0
      ∙ passed-walk ks n k y p.1.1.1

  -- so does the walk from head
  walk-passed : (slots : List ℕ) (x : ℕ) → Passes G link 0 slots x → length slots ≤ G → walk G link ≡ walk_from G link (G - length slots) x
  walk-passed slots x p l =
      let e : G ≡ length slots + (G - length slots) = omega arith in
      ap (λ (m : ℕ). walk_from G link m 0) e ∙ passed-walk slots (G - length slots) 0 x p

  gives-beyond : (x : ℕ) → Meets G link (BeyondGates G) x → walk G link ≡ fault 19 x
  gives-beyond x m = walk-passed m.slots x m.passes m.fault.0 ∙ at-beyond (G - length m.slots) x m.fault.1

  gives-early : (x : ℕ) → Meets G link (EndsEarly G) x → walk G link ≡ fault 20 x
  gives-early x m =
      let l : length m.slots < G = m.fault.0 in
      walk-passed m.slots x m.passes (omega arith) ∙ at-early (G - length m.slots) x (omega arith) m.fault.1

  gives-onward : (x : ℕ) → Meets G link (GoesOn G) x → walk G link ≡ fault 21 x
  gives-onward x m =
      let e : length m.slots ≡ G = m.fault.0 in
      let z : G - length m.slots ≡ 0 = omega arith in
      walk-passed m.slots x m.passes (omega arith) ∙ ap (λ (n : ℕ). walk_from G link n x) z ∙ last-onward x m.fault.1.0 m.fault.1.1

  -- what a fault's number says, with so many visits left, of the link
  abbrev Says : ℕ → ℕ → ℕ → Type 0
  Says k left l = ((k ≡ 19) × (G < l)) ⊎ (((k ≡ 20) × ((0 < left) × (l ≡ 0))) ⊎ ((k ≡ 21) × ((left ≡ 0) × ((1 ≤ l) × (l ≤ G)))))

  -- fault k at slot y is met on the walk from slot x with n visits left
  record Met (n x k y : ℕ) : Type 0 where
    slots : List ℕ
    passes : Passes G link x slots y
    left : ℕ
    count : length slots + left ≡ n
    says : Says k left (link y)

  -- a fault of the link in hand
  met-here : (n x k y : ℕ) → x ≡ y → Says k n (link x) → Met n x k y
  unfolding Passes
  met-here n x k y e o = record { slots = []; passes = e; left = n; count = omega arith; says = rw e at o }

  -- a fault further on
  met-on : (n x k y : ℕ) → 1 ≤ link x → link x ≤ G → Met n (link x) k y → Met (suc n) x k y
  unfolding Passes
  met-on n x k y a b m = record { slots = link x ∷ m.slots; passes = (refl, (a, (b, m.passes))); left = m.left; count = omega (arith, m.count); says = m.says }

  -- a walk that gives a fault meets it
  met : (n x k y : ℕ) → walk_from G link n x ≡ fault k y → Met n x k y
  met zero x k y e =
      ⊎_elim
      (λ (b : G < link x). let q = same-fault 19 x k y (sym (at-beyond 0 x b) ∙ e) in met-here 0 x k y q.1 (inl (sym q.0, b)))
      (λ (b : link x ≤ G). ⊎_elim
      (λ (z : link x ≡ 0). not-fault k y (sym (last-ends x z) ∙ e))
      (λ (z : link x ≢ 0). let a : 1 ≤ link x = one-le (link x) z in
      let q = same-fault 21 x k y (sym (last-onward x a b) ∙ e) in met-here 0 x k y q.1 (inr (inr (sym q.0, (refl, (a, b))))))
      (eq-or-ne (link x) 0))
      (lt-or-le G (link x))
  met (suc n) x k y e =
      let q : suc n - 1 ≡ n = omega arith in
      ⊎_elim
      (λ (b : G < link x). let q = same-fault 19 x k y (sym (at-beyond (suc n) x b) ∙ e) in met-here (suc n) x k y q.1 (inl (sym q.0, b)))
      (λ (b : link x ≤ G). ⊎_elim
      (λ (z : link x ≡ 0). let q = same-fault 20 x k y (sym (at-early (suc n) x (omega arith) z) ∙ e) in
      met-here (suc n) x k y q.1 (inr (inl (sym q.0, (omega arith, z)))))
      (λ (z : link x ≢ 0). let a : 1 ≤ link x = one-le (link x) z in
      met-on n x k y a b (met n (link x) k y (sym (at_next (suc n) x (omega arith) a b ∙ ap (λ (m : ℕ). walk_from G link m (link x)) q) ∙ e)))
      (eq-or-ne (link x) 0))
      (lt-or-le G (link x))

  means-beyond : (x : ℕ) → walk G link ≡ fault 19 x → Meets G link (BeyondGates G) x
  means-beyond x e =
      let m = met G 0 19 x e in
      let t = m.count in
      record {
        slots = m.slots;
        passes = m.passes;
        fault = (omega arith, ⊎_elim (λ o. o.1) (λ o. ⊎_elim (λ p. absurd (omega (arith, p.0))) (λ p. absurd (omega (arith, p.0))) o) m.says);
      }

  means-early : (x : ℕ) → walk G link ≡ fault 20 x → Meets G link (EndsEarly G) x
  means-early x e =
      let m = met G 0 20 x e in
      let t = m.count in
      ⊎_elim
      (λ o. absurd (omega (arith, o.0)))
      (λ o. ⊎_elim
      (λ p. record { slots = m.slots; passes = m.passes; fault = (omega (arith, p.1.0), p.1.1) })
      (λ p. absurd (omega (arith, p.0)))
      o)
      m.says

  means-onward : (x : ℕ) → walk G link ≡ fault 21 x → Meets G link (GoesOn G) x
  means-onward x e =
      let m = met G 0 21 x e in
      let t = m.count in
      ⊎_elim
      (λ o. absurd (omega (arith, o.0)))
      (λ o. ⊎_elim
      (λ p. absurd (omega (arith, p.0)))
      (λ p. record { slots = m.slots; passes = m.passes; fault = (omega (arith, p.1.0), p.1.1) })
      o)
      m.says

  -- the numbers of a walk's faults
  pub fault-number : (k x : ℕ) → walk G link ≡ fault k x → 19 ≤ k
  fault-number k x e =
      let m = met G 0 k x e in
      ⊎_elim (λ o. omega (arith, o.0)) (λ o. ⊎_elim (λ p. omega (arith, p.0)) (λ p. omega (arith, p.0)) o) m.says

  -- visited slots are at most G
  passes-low : (slots : List ℕ) (x y : ℕ) → x ≤ G → Passes G link x slots y → y ≤ G
  unfolding Passes
  passes-low [] x y l p = omega (arith, p)
  passes-low (k ∷ ks) x y l p = passes-low ks k y p.1.1.0 p.1.1.1

  -- so is the slot of a fault
  pub fault-low : (k x : ℕ) → walk G link ≡ fault k x → x ≤ G
  fault-low k x e =
      let m = met G 0 k x e in
      passes-low m.slots 0 x (omega arith) m.passes

-- Theorem, first-fault
pub first-fault : FirstFaultTheorem
first-fault =
    record {
      beyond = λ G link x. (means-beyond G link x, gives-beyond G link x);
      early = λ G link x. (means-early G link x, gives-early G link x);
      onward = λ G link x. (means-onward G link x, gives-onward G link x);
    }

-- a walk that ends well has no fault
pub well-ends : (w : Walk) → ends_well w ≡ true → w ≡ ends
unfolding ends_well
well-ends ends t = refl
well-ends (fault k x) t = absurd (let z : ◌≡◌ {A = ℕ} 0 1 = cc in omega arith)

module _ (s : Fields) where
  -- the links of a file
  pub link-head : link_of s 0 ≡ head_of s
  unfolding link_of
  link-head = refl

  pub link-slot : (k : ℕ) → 1 ≤ k → link_of s k ≡ next_of s k
  unfolding link_of
  link-slot k h = rw (ne_eqb k 0 (λ e. omega arith))

  -- the walk ends well exactly if n links each lead to a slot, and then comes the end
  walks_same : (n x : ℕ) → ends_well (walk_from (gates_of s) (link_of s) n x) ≡ walks s n (link_of s x)
  unfolding walk_from walks ends_well
  walks_same zero x =
      ⊎_elim
      (λ b. rw (lt-ltb (gates_of s) (link_of s x) b, ne_eqb (link_of s x) 0 (λ e. omega arith)))
      (λ b. ⊎_elim
      (λ z. rw (le-ltb (gates_of s) (link_of s x) b, eq-eqb (link_of s x) 0 z))
      (λ z. rw (le-ltb (gates_of s) (link_of s x) b, ne_eqb (link_of s x) 0 z))
      (eq-or-ne (link_of s x) 0))
      (lt-or-le (gates_of s) (link_of s x))
  walks_same (suc n) x =
      ⊎_elim
      (λ b. rw (lt-ltb (gates_of s) (link_of s x) b, le-leb 1 (link_of s x) (omega arith), lt-leb (link_of s x) (gates_of s) b))
      (λ b. ⊎_elim
      (λ z. rw (le-ltb (gates_of s) (link_of s x) b, eq-eqb (link_of s x) 0 z, lt-leb 1 (link_of s x) (omega arith)))
      (λ z. let a : 1 ≤ link_of s x = one-le (link_of s x) z in
      rw (le-ltb (gates_of s) (link_of s x) b, ne_eqb (link_of s x) 0 z, le-leb 1 (link_of s x) a, le-leb (link_of s x) (gates_of s) b)
      (walks_same n (link_of s x) ∙ ap (walks s n) (link-slot (link_of s x) a)))
      (eq-or-ne (link_of s x) 0))
      (lt-or-le (gates_of s) (link_of s x))

  -- the test of the chain in these terms
  pub walked-chain : good_chain s ≡ walks s (gates_of s) (head_of s)
  unfolding good_chain chain_walk
  walked-chain = walks_same (gates_of s) 0 ∙ ap (walks s (gates_of s)) link-head

-- in the form in use
pub chain-walks : (s : List ℕ) → file.good_chain s ≡ form.walks s (file.gates_of s) (file.head_of s)
chain-walks s = walked-chain (file.fields_of s)

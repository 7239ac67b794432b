-- The records that a gate can have, as the tests of reading see them and as members of the nested choices.
-- Assumes nothing.
use mathlib.Core.Path.{◌≡◌, refl, sym, ap, subst, ◌∙◌}
use mathlib.Core.Bool.{Bool, true, false, cond, ◌&&◌, ◌||◌}
use mathlib.Core.List.{List, [], ◌∷◌}
use mathlib.Core.Logic.{◌⊎◌, inl, inr, ⊎_elim}
use Prim.Native.Nat.{ℕ, ◌+◌, ◌≤◌, ◌<◌}
use native.Mathlib.Omega.{arith}
use borrow.Author.Tests.{ltb-true, lt-ltb, le-ltb, eqb-true, eq-eqb}
use lib.Dec.{eqb, ltb}
use Rattle.bits.specs.Bits.{tabulate}
use Rattle.bits.proofs.Numbers.{lt-or-le}
use Rattle.bits.proofs.Tests.{and-true-left, and-true-right}
use Rattle.circuit.specs.Circuit.{Gate, xor, and, inv, put}
use Rattle.circuit.specs.Fields.{reads_written}
use Rattle.small.specs.Small.{choose}
use Rattle.small.specs.Steps.{wire_of, wires, second_of, records_on}
use Rattle.small.proofs.Members.{In, in-here, in-later, in-cons, in_one, in-choose, choose-in, in-tabulate, tabulate-in}

-- a record whose wires R allows: XOR or AND of two wires, or INV of one with b = 0
abbrev pub Fits : (ℕ → Type 0) → ℕ → ℕ → ℕ → Type 0
Fits R k a b = (((k ≡ 1) ⊎ (k ≡ 2)) × (R a × R b)) ⊎ ((k ≡ 3) × (R a × (b ≡ 0)))

pub fits-map : (R Q : ℕ → Type 0) → ((w : ℕ) → R w → Q w) → (k a b : ℕ) → Fits R k a b → Fits Q k a b
fits-map R Q f k a b h = ⊎_elim (λ p. inl (p.0, (f a p.1.0, f b p.1.1))) (λ p. inr (p.0, (f a p.1.0, p.1.1))) h

-- the tests of a record and of its gate
abbrev pub is_good : ℕ → ℕ → Bool
is_good k b = eqb k 1 || eqb k 2 || (eqb k 3 && eqb b 0)

abbrev pub gate_on : ℕ → ℕ → ℕ → ℕ → Gate
gate_on k a b c = cond (eqb k 1) (xor a b c) (cond (eqb k 2) (and a b c) (inv a c))

module _ (W : ℕ → Bool) (a b c : ℕ) (gs : List Gate) where
  abbrev Onward : Type 0
  Onward = reads_written (put W c true) gs ≡ true

  two-reads : (t : Bool) → W a && W b && t ≡ true → (W a ≡ true) × ((W b ≡ true) × (t ≡ true))
  two-reads t e =
      let p = and-true-left (W a && W b) t e in
      (and-true-left (W a) (W b) p, (and-true-right (W a) (W b) p, and-true-right (W a && W b) t e))

  pub gate-out : (k : ℕ) → is_good k b ≡ true → reads_written W (gate_on k a b c ∷ gs) ≡ true → Fits (λ w. W w ≡ true) k a b × Onward
  unfolding reads_written
  gate-out k g r = pick (eqb k 1) (eqb k 2) (eqb k 3) (eqb b 0) refl refl refl refl g r
    where
      pick : (p q u t : Bool) → eqb k 1 ≡ p → eqb k 2 ≡ q → eqb k 3 ≡ u → eqb b 0 ≡ t → p || q || (u && t) ≡ true
          → reads_written W (cond p (xor a b c) (cond q (and a b c) (inv a c)) ∷ gs) ≡ true → Fits (λ w. W w ≡ true) k a b × Onward
      pick true q u t e₁ e₂ e₃ e₄ g r = let z = two-reads _ r in (inl (inl (eqb-true k 1 e₁), (z.0, z.1.0)), z.1.1)
      pick false true u t e₁ e₂ e₃ e₄ g r = let z = two-reads _ r in (inl (inr (eqb-true k 2 e₂), (z.0, z.1.0)), z.1.1)
      pick false false true true e₁ e₂ e₃ e₄ g r =
          (inr (eqb-true k 3 e₃, (and-true-left (W a) _ r, eqb-true b 0 e₄)), and-true-right (W a) _ r)
      pick false false true false e₁ e₂ e₃ e₄ g r = absurd (let z : ◌≡◌ {A = ℕ} 0 1 = cc in omega arith)
      pick false false false t e₁ e₂ e₃ e₄ g r = absurd (let z : ◌≡◌ {A = ℕ} 0 1 = cc in omega arith)

  pub gate-in : (k : ℕ) → Fits (λ w. W w ≡ true) k a b → Onward → (is_good k b ≡ true) × (reads_written W (gate_on k a b c ∷ gs) ≡ true)
  unfolding reads_written
  gate-in k f o =
      ⊎_elim
      (λ p.
      let pa : W a ≡ true = p.1.0 in
      let pb : W b ≡ true = p.1.1 in
      ⊎_elim
      (λ e. subst (λ (i : ℕ). (is_good i b ≡ true) × (reads_written W (gate_on i a b c ∷ gs) ≡ true)) (sym e) (refl, rw (pa, pb) o))
      (λ e. subst (λ (i : ℕ). (is_good i b ≡ true) × (reads_written W (gate_on i a b c ∷ gs) ≡ true)) (sym e) (refl, rw (pa, pb) o))
      p.0)
      (λ p.
      let pa : W a ≡ true = p.1.0 in
      let pb : b ≡ 0 = p.1.1 in
      subst (λ (i : ℕ). (is_good i b ≡ true) × (reads_written W (gate_on i a b c ∷ gs) ≡ true)) (sym p.0) (rw pb refl, rw pa o))
      f

-- such a record as a member
module _ (ws : List ℕ) (next : ℕ) (rest : List (List ℕ)) where
  pub in-records : (k a b : ℕ) (t : List ℕ) → Fits (λ w. In w ws) k a b → In t rest → In (k ∷ a ∷ b ∷ next ∷ t) (records_on ws next rest)
  unfolding records_on second_of
  in-records k a b t f h =
      ⊎_elim
      (λ p.
      ⊎_elim
      (λ e. built 1 e (in-here 1 1 _ refl) p.1.0 p.1.1)
      (λ e. built 2 e (in-later 2 1 _ (in-here 2 2 _ refl)) p.1.0 p.1.1)
      p.0)
      (λ p. built 3 p.0 (in-later 3 1 _ (in-later 3 2 _ (in-here 3 3 _ refl))) p.1.0 (in-here b 0 [] p.1.1))
      f
    where
      built : (i : ℕ) → k ≡ i → In i (1 ∷ 2 ∷ 3 ∷ []) → In a ws → In b (second_of i ws)
          → In (k ∷ a ∷ b ∷ next ∷ t) (choose (1 ∷ 2 ∷ 3 ∷ []) (λ kind. choose ws (λ a. choose (second_of kind ws) (λ b. choose (next ∷ []) (λ _. rest)))))
      built i e m n o =
          subst (λ (j : ℕ). In (j ∷ a ∷ b ∷ next ∷ t) (choose (1 ∷ 2 ∷ 3 ∷ []) (λ kind. choose ws (λ a. choose (second_of kind ws) (λ b. choose (next ∷ []) (λ _. rest))))))
          (sym e)
          (in-choose i _ _ _ m (in-choose a _ _ _ n (in-choose b _ _ _ o (in-choose next t _ _ (in-here next next [] refl) h))))

-- what a member is
pub record Recorded (s : List ℕ) (ws : List ℕ) (next : ℕ) (rest : List (List ℕ)) : Type 0 where
  pub kind : ℕ
  pub a : ℕ
  pub b : ℕ
  pub after : List ℕ
  pub same : s ≡ kind ∷ a ∷ b ∷ next ∷ after
  pub fits : Fits (λ w. In w ws) kind a b
  pub after-in : In after rest

module _ (ws : List ℕ) (next : ℕ) (rest : List (List ℕ)) where
  kinds : (k a b : ℕ) → In k (1 ∷ 2 ∷ 3 ∷ []) → In a ws → In b (second_of k ws) → Fits (λ w. In w ws) k a b
  unfolding second_of
  kinds k a b h i j =
      ⊎_elim
      (λ e. inl (inl e, (i, subst (λ (x : ℕ). In b (cond (eqb x 3) (0 ∷ []) ws)) e j)))
      (λ h.
      ⊎_elim
      (λ e. inl (inr e, (i, subst (λ (x : ℕ). In b (cond (eqb x 3) (0 ∷ []) ws)) e j)))
      (λ h. let e = in_one k 3 h in inr (e, (i, in_one b 0 (subst (λ (x : ℕ). In b (cond (eqb x 3) (0 ∷ []) ws)) e j))))
      (in-cons k 2 (3 ∷ []) h))
      (in-cons k 1 (2 ∷ 3 ∷ []) h)

  pub records-in : (s : List ℕ) → In s (records_on ws next rest) → Recorded s ws next rest
  unfolding records_on
  records-in s h =
      let p = choose-in s _ _ h in
      let q = choose-in p.rest _ _ p.rest_in in
      let r = choose-in q.rest _ _ q.rest_in in
      let u = choose-in r.rest _ _ r.rest_in in
      let e : u.value ≡ next = in_one u.value next u.value_in in
      let same : s ≡ p.value ∷ q.value ∷ r.value ∷ next ∷ u.rest =
      p.same
      ∙ ap (λ (l : List ℕ). p.value ∷ l) (q.same ∙ ap (λ (l : List ℕ). q.value ∷ l) (r.same ∙ ap (λ (l : List ℕ). r.value ∷ l) (u.same ∙ ap (λ (x : ℕ). x ∷ u.rest) e))) in
      record {
        kind = p.value;
        a = q.value;
        b = r.value;
        after = u.rest;
        same = same;
        fits = kinds p.value q.value r.value p.value_in q.value_in r.value_in;
        after-in = u.rest_in;
      }

-- the wires of the first gate are the inputs; those of the second have wire e too
module _ (I e : ℕ) where
  pub in-wires : (i w v : ℕ) → i < w → wire_of I e i ≡ v → In v (wires I e w)
  unfolding wires
  in-wires i w v h p = subst (λ (x : ℕ). In x (tabulate w (wire_of I e))) p (in-tabulate w (wire_of I e) i h)

  pub wires-in : (w v : ℕ) → In v (wires I e w) → (i : ℕ) × ((i < w) × (v ≡ wire_of I e i))
  unfolding wires
  wires-in w v h = tabulate-in v w (wire_of I e) h

  pub wire-input : (i : ℕ) → i < I → wire_of I e i ≡ i
  unfolding wire_of
  wire-input i h = rw (lt-ltb i I h)

  pub wire-other : (i : ℕ) → I ≤ i → wire_of I e i ≡ e
  unfolding wire_of
  wire-other i h = rw (le-ltb i I h)

  pub inputs_in : (v : ℕ) → ltb v I ≡ true → In v (wires I e I)
  inputs_in v h = let l = ltb-true v I h in in-wires v I v l (wire-input v l)

  pub in-inputs : (v : ℕ) → In v (wires I e I) → ltb v I ≡ true
  in-inputs v h = let p = wires-in I v h in let q = p.1.1 ∙ wire-input p.0 p.1.0 in lt-ltb v I (omega (arith, q, p.1.0))

  module _ (c : ℕ) (p : c ≡ e) where
    pub written_in : (v : ℕ) → put (λ w. ltb w I) c true v ≡ true → In v (wires I e (I + 1))
    unfolding put
    written_in v h = pick (eqb v c) refl h
      where
        pick : (b : Bool) → eqb v c ≡ b → cond b true (ltb v I) ≡ true → In v (wires I e (I + 1))
        pick true q h = in-wires I (I + 1) v (omega arith) (wire-other I (omega arith) ∙ sym p ∙ sym (eqb-true v c q))
        pick false q h = let l = ltb-true v I h in in-wires v (I + 1) v (omega arith) (wire-input v l)

    pub in-written : (v : ℕ) → In v (wires I e (I + 1)) → put (λ w. ltb w I) c true v ≡ true
    unfolding put
    in-written v h =
        let q = wires-in (I + 1) v h in
        ⊎_elim
        (λ l. let r = q.1.1 ∙ wire-input q.0 l in either (eqb v c) (lt-ltb v I (omega arith)))
        (λ l. let r = q.1.1 ∙ wire-other q.0 l in rw (eq-eqb v c (r ∙ sym p)))
        (lt-or-le q.0 I)
      where
        either : (b : Bool) → ltb v I ≡ true → cond b true (ltb v I) ≡ true
        either true h = refl
        either false h = h

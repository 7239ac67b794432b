-- What fields pass the tests of reading, for no gate, one and two: exactly those of the nested choices.
-- Assumes nothing.
use mathlib.Core.Path.{◌≡◌, refl, sym, ap, ap₂, subst, ◌∙◌}
use mathlib.Core.Bool.{Bool, true, false, cond, ◌&&◌}
use mathlib.Core.List.{List, [], ◌∷◌}
use mathlib.Core.Logic.{◌⊎◌, inl, inr, ⊎_elim}
use Prim.Native.Nat.{ℕ, ◌+◌, ◌-◌, ◌≤◌, ◌<◌}
use native.Mathlib.Omega.{arith}
use borrow.Author.Tests.{ltb-true, lt-ltb, ltb-false, eqb-true, eqb-false}
use lib.Dec.{eqb, ltb}
use lib.ListN.{get_or}
use Rattle.bits.proofs.Numbers.{lt-or-le}
use Rattle.bits.proofs.Tests.{and-true-left, and-true-right}
use Rattle.circuit.specs.Chain.{Walk, ends, fault, walk_from, walk, ends_well}
use Rattle.circuit.specs.Circuit.{put}
use Rattle.circuit.specs.Fields.{Fields, good_record, good_records, link_of, chain_walk, good_chain, chain_from, gate_at, gates_in_order, reads_written, good_outputs, good_wires}
use Rattle.circuit.proofs.Readings.{Sound}
use Rattle.small.specs.Steps.{wires, two_records, heads, records_of, direct}
use Rattle.small.proofs.Members.{In, in-here, in-later, in_one, in-choose, choose-in, in-tabulate, tabulate-in}
use Rattle.small.proofs.Gates.{Fits, fits-map, is_good, gate_on, gate-out, gate-in, in-records, inputs_in, in-inputs, written_in, in-written}

-- the fields of a list
abbrev pub fields_in : List ℕ → Fields
fields_in xs k = get_or xs k 0

-- a link on the way, and the last one
step-on : (G l x : ℕ) (w : Walk) → ends_well (cond (ltb G l) (fault 19 x) (cond (eqb l 0) (fault 20 x) w)) ≡ true
    → (1 ≤ l) × ((l ≤ G) × (ends_well w ≡ true))
unfolding ends_well
step-on G l x w h = pick (ltb G l) (eqb l 0) refl refl h
  where
    pick : (p q : Bool) → ltb G l ≡ p → eqb l 0 ≡ q → ends_well (cond p (fault 19 x) (cond q (fault 20 x) w)) ≡ true
        → (1 ≤ l) × ((l ≤ G) × (ends_well w ≡ true))
    pick true q e f h = absurd (let z : ◌≡◌ {A = ℕ} 0 1 = cc in omega arith)
    pick false true e f h = absurd (let z : ◌≡◌ {A = ℕ} 0 1 = cc in omega arith)
    pick false false e f h = let n = eqb-false l 0 f in let m = ltb-false G l e in (omega arith, (omega arith, h))

step_end : (G l x : ℕ) → ends_well (cond (ltb G l) (fault 19 x) (cond (eqb l 0) ends (fault 21 x))) ≡ true → l ≡ 0
unfolding ends_well
step_end G l x h = pick (ltb G l) (eqb l 0) refl h
  where
    pick : (p q : Bool) → eqb l 0 ≡ q → ends_well (cond p (fault 19 x) (cond q ends (fault 21 x))) ≡ true → l ≡ 0
    pick true q f h = absurd (let z : ◌≡◌ {A = ℕ} 0 1 = cc in omega arith)
    pick false true f h = eqb-true l 0 f
    pick false false f h = absurd (let z : ◌≡◌ {A = ℕ} 0 1 = cc in omega arith)

-- the chains of one slot and of two
chain-one : (link : ℕ → ℕ) → ends_well (walk 1 link) ≡ true → (link 0 ≡ 1) × (link 1 ≡ 0)
unfolding walk_from
chain-one link h =
    let p = step-on 1 (link 0) 0 _ h in
    let e : link 0 ≡ 1 = omega (arith, p.0, p.1.0) in
    let q = step_end 1 (link (link 0)) (link 0) p.1.1 in
    (e, ap link (sym e) ∙ q)

chain-two : (link : ℕ → ℕ) → ends_well (walk 2 link) ≡ true
    → ((link 0 ≡ 1) × ((link 1 ≡ 2) × (link 2 ≡ 0))) ⊎ ((link 0 ≡ 2) × ((link 2 ≡ 1) × (link 1 ≡ 0)))
unfolding walk_from
chain-two link h =
    let p = step-on 2 (link 0) 0 _ h in
    let q = step-on 2 (link (link 0)) (link 0) _ p.1.1 in
    let r = step_end 2 (link (link (link 0))) (link (link 0)) q.1.1 in
    ⊎_elim
    (λ l.
    let e : link 0 ≡ 1 = omega (arith, p.0, p.1.0) in
    let f : link (link 0) ≡ link 1 = ap link e in
    let g : link (link (link 0)) ≡ link (link 1) = ap link f in
    ⊎_elim
    (λ m. let i : link 1 ≡ 1 = omega (arith, q.0) in let j : link (link 1) ≡ link 1 = ap link i in absurd (omega arith))
    (λ m. let i : link 1 ≡ 2 = omega (arith, q.1.0) in let j : link (link 1) ≡ link 2 = ap link i in inl (e, (i, omega arith)))
    (lt-or-le (link 1) 2))
    (λ l.
    let e : link 0 ≡ 2 = omega (arith, p.0, p.1.0) in
    let f : link (link 0) ≡ link 2 = ap link e in
    let g : link (link (link 0)) ≡ link (link 2) = ap link f in
    ⊎_elim
    (λ m. let i : link 2 ≡ 1 = omega (arith, q.0) in let j : link (link 2) ≡ link 1 = ap link i in inr (e, (i, omega arith)))
    (λ m. let i : link 2 ≡ 2 = omega (arith, q.1.0) in let j : link (link 2) ≡ link 2 = ap link i in absurd (omega arith))
    (lt-or-le (link 2) 2))
    (lt-or-le (link 0) 2)

-- the members of the whole list, by header and records
pub in-direct : (I G h o : ℕ) (t : List ℕ) → In h (heads G) → o < I + G → In t (records_of I G h) → In (I ∷ 1 ∷ G ∷ h ∷ o ∷ t) (direct I G)
unfolding direct
in-direct I G h o t a b i =
    in-choose I _ _ _ (in-here I I [] refl)
    (in-choose 1 _ _ _ (in-here 1 1 [] refl)
    (in-choose G _ _ _ (in-here G G [] refl)
    (in-choose h _ _ _ a (in-choose o t _ _ (in-tabulate (I + G) (λ i. i) o b) i))))

pub record Direct (I G : ℕ) (s : List ℕ) : Type 0 where
  pub head : ℕ
  pub output : ℕ
  pub records : List ℕ
  pub same : s ≡ I ∷ 1 ∷ G ∷ head ∷ output ∷ records
  pub head_in : In head (heads G)
  pub output-low : output < I + G
  pub records-in : In records (records_of I G head)

pub direct-in : (I G : ℕ) (s : List ℕ) → In s (direct I G) → Direct I G s
unfolding direct
direct-in I G s h =
    let p = choose-in s _ _ h in
    let q = choose-in p.rest _ _ p.rest_in in
    let r = choose-in q.rest _ _ q.rest_in in
    let u = choose-in r.rest _ _ r.rest_in in
    let v = choose-in u.rest _ _ u.rest_in in
    let low = tabulate-in v.value (I + G) (λ i. i) v.value_in in
    record {
      head = u.value;
      output = v.value;
      records = v.rest;
      same =
          p.same
          ∙ ap₂ ◌∷◌ (in_one p.value I p.value_in)
          (q.same ∙ ap₂ ◌∷◌ (in_one q.value 1 q.value_in) (r.same ∙ ap₂ ◌∷◌ (in_one r.value G r.value_in) (u.same ∙ ap (λ (l : List ℕ). u.value ∷ l) v.same)));
      head_in = u.value_in;
      output-low = omega (arith, low.1.0, low.1.1);
      records-in = v.rest_in;
    }

-- no gate
module _ (I h o : ℕ) where
  pub none_out : Sound (fields_in (I ∷ 1 ∷ 0 ∷ h ∷ o ∷ [])) → In (I ∷ 1 ∷ 0 ∷ h ∷ o ∷ []) (direct I 0)
  unfolding good_chain chain_walk walk_from link_of good_wires gates_in_order chain_from reads_written good_outputs heads records_of
  none_out s =
      in-direct I 0 h o [] (in-here h 0 [] (step_end 0 h 0 s.chain)) (ltb-true o (I + 0) s.wires) (in-here [] [] [] refl)

pub none_in : (I o : ℕ) → o < I + 0 → Sound (fields_in (I ∷ 1 ∷ 0 ∷ 0 ∷ o ∷ []))
unfolding good_records good_chain chain_walk walk_from link_of ends_well good_wires gates_in_order chain_from reads_written good_outputs
none_in I o l = record { records = refl; chain = refl; wires = lt-ltb o (I + 0) l }

-- the test of the wires is that of the reads and that of the one output
reads-and-output : (r q : Bool) → r && q ≡ true → (r ≡ true) × (q ≡ true)
reads-and-output r q h = (and-true-left r q h, and-true-right r q h)

-- one gate: it is the head, it is the last, and it reads inputs
module _ (I o k a b : ℕ) where
  abbrev one : List ℕ
  one = I ∷ 1 ∷ 1 ∷ 1 ∷ o ∷ k ∷ a ∷ b ∷ 0 ∷ []

  one_known : Sound (fields_in one) → In one (direct I 1)
  unfolding good_records good_record good_wires gates_in_order chain_from gate_at good_outputs heads records_of
  one_known s =
      let p = reads-and-output _ (ltb o (I + 1)) s.wires in
      let g = gate-out (λ w. ltb w I) a b (I + 1 - 1) [] k s.records p.0 in
      in-direct I 1 1 o (k ∷ a ∷ b ∷ 0 ∷ []) (in-here 1 1 [] refl) (ltb-true o (I + 1) p.1)
      (in-records (wires I 0 I) 0 ([] ∷ []) k a b [] (fits-map _ _ (inputs_in I 0) k a b g.0) (in-here [] [] [] refl))

  pub one_in : o < I + 1 → Fits (λ w. In w (wires I 0 I)) k a b → Sound (fields_in one)
  unfolding good_records good_record good_chain chain_walk walk_from link_of ends_well good_wires gates_in_order chain_from gate_at reads_written good_outputs
  one_in l f =
      let g = gate-in (λ w. ltb w I) a b (I + 1 - 1) [] k (fits-map _ _ (in-inputs I 0) k a b f) refl in
      record { records = g.0; chain = refl; wires = ap₂ ◌&&◌ g.1 (lt-ltb o (I + 1) l) }

pub one_out : (I h o k a b n : ℕ) → Sound (fields_in (I ∷ 1 ∷ 1 ∷ h ∷ o ∷ k ∷ a ∷ b ∷ n ∷ [])) → In (I ∷ 1 ∷ 1 ∷ h ∷ o ∷ k ∷ a ∷ b ∷ n ∷ []) (direct I 1)
unfolding good_chain chain_walk link_of
one_out I h o k a b n s =
    let p = chain-one (link_of (fields_in (I ∷ 1 ∷ 1 ∷ h ∷ o ∷ k ∷ a ∷ b ∷ n ∷ []))) s.chain in
    let e : ◌≡◌ {A = List ℕ} (I ∷ 1 ∷ 1 ∷ h ∷ o ∷ k ∷ a ∷ b ∷ n ∷ []) (one I o k a b) =
    ap₂ (λ (i j : ℕ). I ∷ 1 ∷ 1 ∷ i ∷ o ∷ k ∷ a ∷ b ∷ j ∷ []) p.0 p.1 in
    subst (λ (l : List ℕ). In l (direct I 1)) (sym e) (one_known I o k a b (subst (λ (l : List ℕ). Sound (fields_in l)) e s))

-- two gates: the first one on the chain reads inputs, the other its output too
module _ (I o k a b l d e : ℕ) where
  -- slot 1 is the head
  abbrev up : List ℕ
  up = I ∷ 1 ∷ 2 ∷ 1 ∷ o ∷ k ∷ a ∷ b ∷ 2 ∷ l ∷ d ∷ e ∷ 0 ∷ []

  -- slot 2 is the head
  abbrev down : List ℕ
  down = I ∷ 1 ∷ 2 ∷ 2 ∷ o ∷ k ∷ a ∷ b ∷ 0 ∷ l ∷ d ∷ e ∷ 1 ∷ []

  abbrev W : ℕ → Bool
  W w = ltb w I

  up-known : Sound (fields_in up) → In up (direct I 2)
  unfolding good_records good_record good_wires gates_in_order chain_from gate_at good_outputs heads records_of two_records
  up-known s =
      let p = reads-and-output _ (ltb o (I + 2)) s.wires in
      let r = reads-and-output (is_good k b) (is_good l e) s.records in
      let g = gate-out W a b (I + 1 - 1) (gate_on l d e (I + 2 - 1) ∷ []) k r.0 p.0 in
      let f = gate-out (put W (I + 1 - 1) true) d e (I + 2 - 1) [] l r.1 g.1 in
      in-direct I 2 1 o _ (in-here 1 1 _ refl) (ltb-true o (I + 2) p.1)
      (in-records (wires I 0 I) 2 _ k a b _ (fits-map _ _ (inputs_in I 0) k a b g.0)
      (in-records (wires I I (I + 1)) 0 _ l d e [] (fits-map _ _ (written_in I I (I + 1 - 1) (omega arith)) l d e f.0) (in-here [] [] [] refl)))

  down-known : Sound (fields_in down) → In down (direct I 2)
  unfolding good_records good_record good_wires gates_in_order chain_from gate_at good_outputs heads records_of two_records
  down-known s =
      let p = reads-and-output _ (ltb o (I + 2)) s.wires in
      let r = reads-and-output (is_good k b) (is_good l e) s.records in
      let g = gate-out W d e (I + 2 - 1) (gate_on k a b (I + 1 - 1) ∷ []) l r.1 p.0 in
      let f = gate-out (put W (I + 2 - 1) true) a b (I + 1 - 1) [] k r.0 g.1 in
      in-direct I 2 2 o _ (in-later 2 1 _ (in-here 2 2 [] refl)) (ltb-true o (I + 2) p.1)
      (in-records (wires I (I + 1) (I + 1)) 0 _ k a b _ (fits-map _ _ (written_in I (I + 1) (I + 2 - 1) (omega arith)) k a b f.0)
      (in-records (wires I 0 I) 1 _ l d e [] (fits-map _ _ (inputs_in I 0) l d e g.0) (in-here [] [] [] refl)))

  pub up_in : o < I + 2 → Fits (λ w. In w (wires I 0 I)) k a b → Fits (λ w. In w (wires I I (I + 1))) l d e → Sound (fields_in up)
  unfolding good_records good_record good_chain chain_walk walk_from link_of ends_well good_wires gates_in_order chain_from gate_at reads_written good_outputs
  up_in q f h =
      let g = gate-in (put W (I + 1 - 1) true) d e (I + 2 - 1) [] l (fits-map _ _ (in-written I I (I + 1 - 1) (omega arith)) l d e h) refl in
      let r = gate-in W a b (I + 1 - 1) (gate_on l d e (I + 2 - 1) ∷ []) k (fits-map _ _ (in-inputs I 0) k a b f) g.1 in
      record { records = ap₂ ◌&&◌ r.0 g.0; chain = refl; wires = ap₂ ◌&&◌ r.1 (lt-ltb o (I + 2) q) }

  pub down-in : o < I + 2 → Fits (λ w. In w (wires I (I + 1) (I + 1))) k a b → Fits (λ w. In w (wires I 0 I)) l d e → Sound (fields_in down)
  unfolding good_records good_record good_chain chain_walk walk_from link_of ends_well good_wires gates_in_order chain_from gate_at reads_written good_outputs
  down-in q f h =
      let g = gate-in (put W (I + 2 - 1) true) a b (I + 1 - 1) [] k (fits-map _ _ (in-written I (I + 1) (I + 2 - 1) (omega arith)) k a b f) refl in
      let r = gate-in W d e (I + 2 - 1) (gate_on k a b (I + 1 - 1) ∷ []) l (fits-map _ _ (in-inputs I 0) l d e h) g.1 in
      record { records = ap₂ ◌&&◌ g.0 r.0; chain = refl; wires = ap₂ ◌&&◌ r.1 (lt-ltb o (I + 2) q) }

  pub two_out : (h n m : ℕ) → Sound (fields_in (I ∷ 1 ∷ 2 ∷ h ∷ o ∷ k ∷ a ∷ b ∷ n ∷ l ∷ d ∷ e ∷ m ∷ []))
      → In (I ∷ 1 ∷ 2 ∷ h ∷ o ∷ k ∷ a ∷ b ∷ n ∷ l ∷ d ∷ e ∷ m ∷ []) (direct I 2)
  unfolding good_chain chain_walk link_of
  two_out h n m s =
      ⊎_elim
      (λ p.
      let q = parts 1 2 0 p.0 p.1.0 p.1.1 in
      subst (λ (l : List ℕ). In l (direct I 2)) (sym q) (up-known (subst (λ (l : List ℕ). Sound (fields_in l)) q s)))
      (λ p.
      let q = parts 2 0 1 p.0 p.1.1 p.1.0 in
      subst (λ (l : List ℕ). In l (direct I 2)) (sym q) (down-known (subst (λ (l : List ℕ). Sound (fields_in l)) q s)))
      (chain-two (link_of (fields_in (I ∷ 1 ∷ 2 ∷ h ∷ o ∷ k ∷ a ∷ b ∷ n ∷ l ∷ d ∷ e ∷ m ∷ []))) s.chain)
    where
      parts : (x y z : ℕ) → h ≡ x → n ≡ y → m ≡ z
          → ◌≡◌ {A = List ℕ} (I ∷ 1 ∷ 2 ∷ h ∷ o ∷ k ∷ a ∷ b ∷ n ∷ l ∷ d ∷ e ∷ m ∷ []) (I ∷ 1 ∷ 2 ∷ x ∷ o ∷ k ∷ a ∷ b ∷ y ∷ l ∷ d ∷ e ∷ z ∷ [])
      parts x y z u v w = rw (u, v, w)

-- The slots of the new file: the old ones with the same gates, and those that are added, each of which has the value of its gate.
-- Assumes nothing.
use mathlib.Core.Path.{◌≡◌, refl, sym, ap, ◌∙◌}
use mathlib.Core.Bool.{Bool, true, false, not, cond, ◌&&◌}
use mathlib.Core.List.{List}
use mathlib.Core.Logic.{⊎_elim}
use Prim.Native.Nat.{ℕ, zero, suc, ◌+◌, ◌-◌, ◌*◌, ◌/◌, ◌%◌, ◌≤◌, ◌<◌}
use native.Mathlib.Omega.{arith}
use native.Mathlib.Nat.{mod-lt, div-add-mod', div-lt_iff_lt-mul, mul-le-mul_right, suc-mul}
use borrow.Author.Tests.{ne_eqb, lt-ltb, le-ltb, le-leb, lt-leb}
use lib.Dec.{eqb, ltb}
use lib.ListN.{get_or}
use Rattle.bits.specs.Bits.{bit_at}
use Rattle.bits.specs.Xor.{◌⊕◌}
use Rattle.bits.proofs.Numbers.{lt-or-le, eq-or-ne}
use Rattle.circuit.specs.Circuit.{Gate, xor, and, inv}
use Rattle.circuit.specs.Fields.{Fields, inputs_of, outputs_of, gates_of, head_of, output_wire, kind_of, wire_a, wire_b, next_of, gate_at}
use Rattle.building.specs.Files.{Four, laid}
use Rattle.building.proofs.Places.{laid-inputs, laid-outputs, laid-gates, laid-head, laid-output, laid-kind, laid-a, laid-b, laid_next}
use Rattle.one_of.specs.OneOf.{entries, entry, repeated, four, added, start, zero_wire, sum_wire, literal, prefix, entry_gate, new_gate, relinked, old_gate, total, slot_of, parts_of, unused_entries}
use Rattle.one_of.proofs.Chained.{Extended}
use Rattle.one_of.proofs.Entries.{apart, already}
use Rattle.one_of.proofs.Follows.{Fits}
use Rattle.one_of.proofs.Values.{block-div, block-mod, val, val-old, val-inv, val-zero, and-gate, join-gate, copy-gate}

-- the gate of a record, which writes wire c
unfoldable pub gate_four : Four → ℕ → Gate
gate_four q c = cond (eqb q.first 1) (xor q.second q.third c) (cond (eqb q.first 2) (and q.second q.third c) (inv q.second c))

module _ (x : Fields) (list : List ℕ) where
  abbrev pub O : ℕ
  O = outputs_of x

  abbrev pub G : ℕ
  G = gates_of x

  abbrev pub N : ℕ
  N = entries O list

  -- the fields of the new file
  abbrev pub new : Fields
  new = laid (parts_of x list)

  pub new-inputs : inputs_of new ≡ inputs_of x
  unfolding parts_of
  new-inputs = laid-inputs (parts_of x list)

  pub new-outputs : outputs_of new ≡ 1
  unfolding parts_of
  new-outputs = laid-outputs (parts_of x list)

  pub new-gates : gates_of new ≡ total x list
  unfolding parts_of
  new-gates = laid-gates (parts_of x list)

  pub new-head : head_of new ≡ relinked x (head_of x)
  unfolding parts_of
  new-head = laid-head (parts_of x list)

  pub new-output : output_wire new 0 ≡ sum_wire x N
  unfolding parts_of
  new-output = laid-output (parts_of x list) 0 (omega arith)

  module _ (k : ℕ) (a : 1 ≤ k) (b : k ≤ total x list) where
    pub new-kind : kind_of new k ≡ (slot_of x list k).first
    unfolding parts_of
    new-kind = laid-kind (parts_of x list) k a b

    pub new-a : wire_a new k ≡ (slot_of x list k).second
    unfolding parts_of
    new-a = laid-a (parts_of x list) k a b

    pub new-b : wire_b new k ≡ (slot_of x list k).third
    unfolding parts_of
    new-b = laid-b (parts_of x list) k a b

    pub new-next : next_of new k ≡ (slot_of x list k).fourth
    unfolding parts_of
    new-next = laid_next (parts_of x list) k a b

    -- the gate of a slot is that of its record
    pub gate-slot : gate_at new k ≡ gate_four (slot_of x list k) (inputs_of x + k - 1)
    unfolding gate_at gate_four
    gate-slot = rw (new-kind, new-a, new-b, new-inputs)

    -- so is what the test of the records sees
    pub kind-slot : (q : Four) → slot_of x list k ≡ q → (kind_of new k ≡ q.first) × (wire_b new k ≡ q.third)
    kind-slot q e = (new-kind ∙ ap (λ (r : Four). r.first) e, new-b ∙ ap (λ (r : Four). r.third) e)

    link-slot : (q : Four) → slot_of x list k ≡ q → next_of new k ≡ q.fourth
    link-slot q e = new-next ∙ ap (λ (r : Four). r.fourth) e

  pub slot-old : (k : ℕ) → k ≤ G → slot_of x list k ≡ old_gate x k
  unfolding slot_of
  slot-old k h = rw (le-leb k G h)

  -- the link of a slot that is added
  abbrev pub onward : ℕ → ℕ
  onward k = cond (ltb k (total x list)) (k + 1) 0

  pub slot-new : (k i : ℕ) → k ≡ G + 1 + i → slot_of x list k ≡ new_gate x list i (onward k)
  unfolding slot_of
  slot-new k i e =
      let q : k - G - 1 ≡ i = omega arith in
      rw (lt-leb k G (omega arith), q)

  pub old-gate : (k : ℕ) → 1 ≤ k → k ≤ G → gate_at new k ≡ gate_at x k
  unfolding gate_at gate_four
  old-gate k a b = gate-slot k a (omega arith) ∙ rw (slot-old k b)

  -- the gates that are added, by their kind
  module _ (n : ℕ) where
    pub new-inv : (i : ℕ) → i < O → new_gate x list i n ≡ four 3 (output_wire x i) 0 n
    unfolding new_gate
    new-inv i h = rw (lt-ltb i O h)

    pub new-zero : new_gate x list O n ≡ four 1 0 0 n
    unfolding new_gate
    new-zero = rw (le-ltb O O (omega arith))

    pub new-entry : (i e j : ℕ) → e < N → j < O → i ≡ O + 1 + (e * O + j) → new_gate x list i n ≡ entry_gate x list e j n
    unfolding new_gate
    new-entry i e j a h q =
        let t : i - O - 1 ≡ e * O + j = omega arith in
        let m : suc e * O ≤ N * O = mul-le-mul_right O a in
        rw (le-ltb i O (omega arith), lt-ltb O i (omega arith), lt-ltb i (added O N) (omega (arith, suc-mul e O, m)), t, block-div O e j h, block-mod O e j h)

    pub new-beyond : (i : ℕ) → added O N ≤ i → new_gate x list i n ≡ four 1 0 0 n
    unfolding new_gate
    new-beyond i h = rw (le-ltb i O (omega arith), lt-ltb O i (omega arith), le-ltb i (added O N) h)

  -- each of them is one of these
  pub by_place : (P : ℕ → Type 0) → 1 ≤ O → ((i : ℕ) → i < O → P i) → P O → ((e j : ℕ) → e < N → j < O → P (O + 1 + (e * O + j)))
      → (i : ℕ) → i < added O N → P i
  by_place P some a b c i h =
      ⊎_elim (λ l. a i l)
      (λ l. ⊎_elim
      (λ (z : i ≡ O). rw z b)
      (λ z.
      let t : ℕ = i - O - 1 in
      let q : i ≡ O + 1 + (t / O * O + t % O) = omega (arith, z, div-add-mod' t O) in
      rw q (c (t / O) (t % O) ((div-lt_iff_lt-mul {k = O} {x = t} {y = N} some).1 (omega (arith, z))) (mod-lt t some)))
      (eq-or-ne i O))
      (lt-or-le i O)

  -- the link of a gate is the one that it is given
  entry-link : (e j n : ℕ) → (entry_gate x list e j n).fourth ≡ n
  unfolding entry_gate
  entry-link e j n = pick (repeated O list e) (ltb (j + 1) O)
    where
      pick : (a b : Bool)
          → (cond a (four 1 (sum_wire x e) (zero_wire x) n) (cond b (four 2 (prefix x list e j) (literal x list e (j + 1)) n) (four 1 (sum_wire x e) (prefix x list e j) n))).fourth ≡ n
      pick true b = refl
      pick false true = refl
      pick false false = refl

  gate-link : (i n : ℕ) → (new_gate x list i n).fourth ≡ n
  unfolding new_gate
  gate-link i n = pick (ltb i O) (ltb O i && ltb i (added O N))
    where
      pick : (a b : Bool) → (cond a (four 3 (output_wire x i) 0 n) (cond b (entry_gate x list ((i - O - 1) / O) ((i - O - 1) % O) n) (four 1 0 0 n))).fourth ≡ n
      pick true b = refl
      pick false true = entry-link ((i - O - 1) / O) ((i - O - 1) % O) n
      pick false false = refl

  new-link : (k : ℕ) → G < k → k ≤ total x list → next_of new k ≡ onward k
  new-link k a b = link-slot k (omega arith) b _ (slot-new k (k - G - 1) (omega arith)) ∙ gate-link (k - G - 1) (onward k)

  -- the new slots go on from the old chain
  pub extended : Extended x (added O N) new
  extended =
      record {
        some = omega arith;
        all = new-gates;
        old = λ k a b. link-slot k a (omega arith) _ (slot-old k b);
        new = λ k a b. new-link k a (omega arith) ∙ rw (lt-ltb k (total x list) b);
        last = new-link (total x list) (omega arith) (omega arith) ∙ rw (le-ltb (total x list) (total x list) (omega arith));
      }

  -- the wires that the gates of an entry read are lower than the one that they write
  module _ (low : (j : ℕ) → j < O → output_wire x j < start x) where
    pub literal-low : (e j : ℕ) → j < O → literal x list e j < zero_wire x
    unfolding literal
    literal-low e j h = pick (bit_at (entry O list e) j)
      where
        pick : (b : Bool) → cond b (output_wire x j) (start x + j) < zero_wire x
        pick true = omega (arith, low j h)
        pick false = omega arith

    pub prefix-low : (e j : ℕ) → j < O → prefix x list e j < sum_wire x e + 1 + j
    unfolding prefix
    prefix-low e zero h = omega (arith, literal-low e 0 h)
    prefix-low e (suc j) h = rw (ne_eqb (suc j) 0 (λ z. omega arith)) (omega arith)

    module _ (v : ℕ → Bool) (bytes : (i : ℕ) → get_or list i 0 < 256) (unused : unused_entries O list N ≡ true) where
      -- each gate of an entry
      entry-fits : (e j c n : ℕ) → e < N → j < O → c ≡ sum_wire x e + 1 + j → Fits (val x list v) c (gate_four (entry_gate x list e j n) c)
      unfolding Fits gate_four entry_gate
      entry-fits e j c n a h q = pick (repeated O list e) refl
        where
          some : 1 ≤ O
          some = omega arith

          pick : (r : Bool) → repeated O list e ≡ r → Fits (val x list v) c (gate_four (entry_gate x list e j n) c)
          pick true r =
              rw r
              (refl, (omega arith, (omega arith, ap (val x list v) q ∙ copy-gate x list v low e j r h (already x list v some bytes unused e a r))))
          pick false r =
              ⊎_elim
              (λ l.
              rw (r, lt-ltb (j + 1) O l) (
                refl,
                (
                  omega (arith, prefix-low e j h),
                  (omega (arith, literal-low e (j + 1) l), ap (val x list v) q ∙ and-gate x list v low e j r l),
                ),
              ))
              (λ l.
              rw (r, le-ltb (j + 1) O l) (
                refl,
                (
                  omega arith,
                  (omega (arith, prefix-low e j h), ap (val x list v) q ∙ join-gate x list v low e j r (omega arith) (apart x list v some bytes unused e a r)),
                ),
              ))
              (lt-or-le (j + 1) O)

      abbrev At : ℕ → Type 0
      At i = Fits (val x list v) (start x + i) (gate_four (new_gate x list i (onward (G + 1 + i))) (start x + i))

      inverted : (i : ℕ) → i < O → At i
      unfolding Fits gate_four
      inverted i l =
          rw (new-inv (onward (G + 1 + i)) i l)
          (refl, (omega (arith, low i l), val-inv x list v i l ∙ ap not (sym (val-old x list v (output_wire x i) (low i l)))))

      zeroed : 1 ≤ inputs_of x → At O
      unfolding Fits gate_four
      zeroed first = rw (new-zero (onward (G + 1 + O))) (refl, (omega arith, (omega arith, val-zero x list v ∙ xor_self (val x list v 0))))
        where
          xor_self : (b : Bool) → false ≡ b ⊕ b
          xor_self true = refl
          xor_self false = refl

      listed : (e j : ℕ) → e < N → j < O → At (O + 1 + (e * O + j))
      listed e j a l =
          rw (new-entry (onward (G + 1 + (O + 1 + (e * O + j)))) (O + 1 + (e * O + j)) e j a l refl)
          (entry-fits e j (start x + (O + 1 + (e * O + j))) (onward (G + 1 + (O + 1 + (e * O + j)))) a l (omega arith))

      -- each gate that is added
      pub new-fits : 1 ≤ O → 1 ≤ inputs_of x → (i : ℕ) → i < added O N → Fits (val x list v) (start x + i) (gate_at new (G + 1 + i))
      new-fits some first i h =
          let wire : inputs_of x + (G + 1 + i) - 1 ≡ start x + i = omega arith in
          rw (gate-slot (G + 1 + i) (omega arith) (omega arith), slot-new (G + 1 + i) i refl, wire)
          (by_place At some inverted (zeroed first) listed i h)

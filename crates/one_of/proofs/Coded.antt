-- What the steps of the code give: the tests of the entries, and the wires and records of the new circuit.
-- Assumes nothing.
use mathlib.Core.Path.{◌≡◌, refl, sym, ap, ap₂, ◌∙◌}
use mathlib.Core.Bool.{Bool, true, false, cond, ◌&&◌, ◌||◌}
use mathlib.Core.List.{List}
use mathlib.Core.Logic.{⊎_elim}
use Prim.Native.Nat.{ℕ, zero, suc, ◌+◌, ◌-◌, ◌*◌, ◌/◌, ◌%◌, ◌≤◌, ◌<◌}
use native.Mathlib.Omega.{arith}
use native.Mathlib.Nat.{mul-le-mul_right, suc-mul, mod-lt, div-lt_iff_lt-mul}
use native.Mathlib.Numerals.{add-one}
use borrow.Author.Tests.{eq-eqb, ne_eqb, lt-ltb, le-ltb}
use lib.Dec.{ltb}
use lib.ListN.{length}
use Rattle.bits.specs.Bits.{oct, bit_val, bit_at, unused_zero}
use Rattle.bits.specs.Bytes.{same_bytes, row_of}
use Rattle.bits.proofs.Numbers.{lt-or-le}
use Rattle.bits.proofs.Rows.{inside, row-length}
use Rattle.circuit.specs.Fields.{Fields, outputs_of, gates_of, output_wire}
use Rattle.circuit.specs.File as file
use Rattle.circuit.specs.File.{fields_of}
use Rattle.circuit.specs.declared.Sizes.{Sizes}
use Rattle.building.specs.Files.{Four}
use Rattle.one_of.specs.OneOf.{entries, entry, among, repeated, four, added, start, zero_wire, sum_wire, literal, prefix, relinked, old_gate, entry_gate, new_gate, total, slot_of, unused_entries}
use Rattle.one_of.proofs.Slots.{new-inv, new-zero, slot-old, slot-new}
use Rattle.one_of.specs.Steps.{as_four, Given}
use Rattle.one_of.specs.declared.Record.{Record}

-- one entry more is not entry e
pub among_none : (O : ℕ) (list : List ℕ) (e : ℕ) → false ≡ among O list e 0
unfolding among
among_none O list e = refl

pub among-turn : (O : ℕ) (list : List ℕ) (e i len : ℕ) (hit : Bool) (a b : List ℕ) → len ≡ oct O → a ≡ row_of list len i → b ≡ row_of list len e
    → hit ≡ same_bytes a b → hit ≡ false → false ≡ among O list e i → false ≡ among O list e (i + 1)
unfolding among
among-turn O list e i len hit a b l p q h n f = rw add-one (ap₂ ◌||◌ f (sym n ∙ h ∙ rw (p, q, l)))

-- an entry that is entry e is among any n that hold it
among-later : (O : ℕ) (list : List ℕ) (e i n : ℕ) → i < n → same_bytes (entry O list i) (entry O list e) ≡ true → true ≡ among O list e n
unfolding among
among-later O list e i zero k s = absurd (omega arith)
among-later O list e i (suc n) k s =
    ⊎_elim
    (λ (h : i < n). rw (← among-later O list e i n h s) refl)
    (λ (h : n ≤ i). let q : i ≡ n = omega arith in
    let t : same_bytes (entry O list n) (entry O list e) ≡ true = rw q at s in rw t (either (among O list e n)))
    (lt-or-le i n)
  where
    either : (b : Bool) → true ≡ b || true
    either true = refl
    either false = refl

pub among-hit : (O : ℕ) (list : List ℕ) (e i n len : ℕ) (hit : Bool) (a b : List ℕ) → len ≡ oct O → a ≡ row_of list len i → b ≡ row_of list len e
    → hit ≡ same_bytes a b → hit ≡ true → i < n → true ≡ among O list e n
among-hit O list e i n len hit a b l p q h y k =
    among-later O list e i n k (sym (sym y ∙ h ∙ rw (p, q, l)))

-- the unused bits of one entry more are zero
pub unused-none : (O : ℕ) (list : List ℕ) → true ≡ unused_entries O list 0
unfolding unused_entries
unused-none O list = refl

pub unused-turn : (O : ℕ) (list : List ℕ) (e len : ℕ) (clear : Bool) (a : List ℕ) → len ≡ oct O → a ≡ row_of list len e
    → clear ≡ unused_zero O a → clear ≡ true → true ≡ unused_entries O list e → true ≡ unused_entries O list (e + 1)
unfolding unused_entries
unused-turn O list e len clear a l p h y f = rw add-one (ap₂ ◌&&◌ f (sym y ∙ h ∙ rw (p, l)))

-- a bit that is set in an entry is found among any n that hold it
unused-later : (O : ℕ) (list : List ℕ) (e n : ℕ) → e < n → unused_zero O (entry O list e) ≡ false → false ≡ unused_entries O list n
unfolding unused_entries
unused-later O list e zero k s = absurd (omega arith)
unused-later O list e (suc n) k s =
    ⊎_elim
    (λ (h : e < n). rw (← unused-later O list e n h s) refl)
    (λ (h : n ≤ e). let q : e ≡ n = omega arith in
    let t : unused_zero O (entry O list n) ≡ false = rw q at s in rw t (both (unused_entries O list n)))
    (lt-or-le e n)
  where
    both : (b : Bool) → false ≡ b && false
    both true = refl
    both false = refl

pub unused-hit : (O : ℕ) (list : List ℕ) (e n len : ℕ) (clear : Bool) (a : List ℕ) → len ≡ oct O → a ≡ row_of list len e
    → clear ≡ unused_zero O a → clear ≡ false → e < n → false ≡ unused_entries O list n
unused-hit O list e n len clear a l p h y k = unused-later O list e n k (sym (sym y ∙ h ∙ rw (p, l)))

-- bit j of an entry is inside it
pub bit-inside : (O : ℕ) (list : List ℕ) (e j len : ℕ) (a : List ℕ) → len ≡ oct O → a ≡ row_of list len e → e < entries O list → j < O → j < 8 * length a
bit-inside O list e j len a l p h k =
    let q : length a ≡ oct O = ap length p ∙ ap (λ (m : ℕ). length (row_of list m e)) l ∙ row-length list (oct O) e (inside (length list) (oct O) e (omega arith) h) in
    omega (arith, q)

module _ (x : Fields) where
  pub relinked-last : (l w : ℕ) → l ≡ 0 → w ≡ gates_of x + 1 → w ≡ relinked x l
  unfolding relinked
  relinked-last l w z h = rw (eq-eqb l 0 z) h

  pub relinked-same : (l : ℕ) → (l ≡ 0 → ⊥) → l ≡ relinked x l
  unfolding relinked
  relinked-same l z = rw (ne_eqb l 0 z)

module _ (x : Fields) (list : List ℕ) where
  -- the wire of a literal, by the bit of the entry
  pub literal-one : (e j len b w : ℕ) (a : List ℕ) → len ≡ oct (outputs_of x) → a ≡ row_of list len e → b ≡ bit_val (bit_at a j) → b ≡ 1 → w ≡ output_wire x j
      → w ≡ literal x list e j
  unfolding literal
  literal-one e j len b w a l p q o h =
      let t : bit_at (entry (outputs_of x) list e) j ≡ true = ap (λ (s : List ℕ). bit_at s j) (sym (p ∙ ap (λ (m : ℕ). row_of list m e) l)) ∙ one (bit_at a j) (sym q ∙ o) in
      rw t h
    where
      one : (b : Bool) → bit_val b ≡ 1 → b ≡ true
      one true e = refl
      one false e = absurd (omega arith)

  pub literal-zero : (e j len b w : ℕ) (a : List ℕ) → len ≡ oct (outputs_of x) → a ≡ row_of list len e → b ≡ bit_val (bit_at a j) → (b ≡ 1 → ⊥) → w ≡ start x + j
      → w ≡ literal x list e j
  unfolding literal
  literal-zero e j len b w a l p q o h =
      let t : bit_at (entry (outputs_of x) list e) j ≡ false = ap (λ (s : List ℕ). bit_at s j) (sym (p ∙ ap (λ (m : ℕ). row_of list m e) l)) ∙ none (bit_at a j) (λ z. o (q ∙ z)) in
      rw t h
    where
      none : (b : Bool) → (bit_val b ≡ 1 → ⊥) → b ≡ false
      none true n = absurd (n refl)
      none false n = refl

  pub prefix-first : (e j w : ℕ) → j ≡ 0 → w ≡ literal x list e 0 → w ≡ prefix x list e j
  unfolding prefix
  prefix-first e j w z h = rw (eq-eqb j 0 z) h

  pub prefix-later : (e j w : ℕ) → (j ≡ 0 → ⊥) → w ≡ sum_wire x e + j → w ≡ prefix x list e j
  unfolding prefix
  prefix-later e j w z h = rw (ne_eqb j 0 z) h

-- an entry's gates are among those that are added
pub entry-few : (O N e : ℕ) → e < N → added O e + O ≤ added O N
entry-few O N e h = omega (arith, suc-mul e O, mul-le-mul_right O h)

-- the wires of entry e are no more than those of the new circuit
pub top : (s list : List ℕ) (z : Sizes) (e j : ℕ) → Given s list z → e < entries z.outputs list → j < z.outputs
    → z.inputs + z.gates + z.outputs + e * z.outputs + j < 100512
top s list z e j g a h = omega (arith, g.laid.few_inputs, g.few, entry-few z.outputs (entries z.outputs list) e a)

-- the wire of the sum, by the numbers of the file
pub sum_same : (s list : List ℕ) (z : Sizes) (e : ℕ) → Given s list z → z.inputs + z.gates + z.outputs + e * z.outputs ≡ sum_wire (fields_of s) e
sum_same s list z e g = rw (g.laid.inputs, g.laid.outputs, g.laid.gates)

-- the record of an old slot, field by field
pub old-same : (s : List ℕ) (o k l : ℕ) (r : Record) → o ≡ file.outputs_of s → let at : ℕ = 4 + o + 4 * (k - 1) in
    r.kind ≡ fields_of s at → r.a ≡ fields_of s (at + 1) → r.b ≡ fields_of s (at + 2) → l ≡ fields_of s (at + 3) → r.next ≡ relinked (fields_of s) l
    → as_four r ≡ old_gate (fields_of s) k
old-same s o k l r e p q t u v = rw (p, q, t, v, u, e)

-- the records of the code, whose numbers are those of the file
module _ (x : Fields) (list : List ℕ) (o : ℕ) (same : o ≡ outputs_of x) where
  pub entry-copy : (e j n a b : ℕ) (r : Bool) → r ≡ repeated o list e → r ≡ true → a ≡ sum_wire x e → b ≡ zero_wire x → four 1 a b n ≡ entry_gate x list e j n
  unfolding entry_gate
  entry-copy e j n a b r p q u v =
      let t : repeated (outputs_of x) list e ≡ true = ap (λ (k : ℕ). repeated k list e) (sym same) ∙ sym p ∙ q in
      rw (t, u, v)

  pub entry-and : (e j n a b : ℕ) (r : Bool) → r ≡ repeated o list e → r ≡ false → j + 1 < o → a ≡ prefix x list e j → b ≡ literal x list e (j + 1)
      → four 2 a b n ≡ entry_gate x list e j n
  unfolding entry_gate
  entry-and e j n a b r p q h u v =
      let t : repeated (outputs_of x) list e ≡ false = ap (λ (k : ℕ). repeated k list e) (sym same) ∙ sym p ∙ q in
      rw (t, lt-ltb (j + 1) (outputs_of x) (omega arith), u, v)

  pub entry-join : (e j n a b : ℕ) (r : Bool) → r ≡ repeated o list e → r ≡ false → o ≤ j + 1 → a ≡ sum_wire x e → b ≡ prefix x list e j
      → four 1 a b n ≡ entry_gate x list e j n
  unfolding entry_gate
  entry-join e j n a b r p q h u v =
      let t : repeated (outputs_of x) list e ≡ false = ap (λ (k : ℕ). repeated k list e) (sym same) ∙ sym p ∙ q in
      rw (t, le-ltb (j + 1) (outputs_of x) (omega arith), u, v)

  pub gate-inv : (i n w : ℕ) → i < o → w ≡ output_wire x i → four 3 w 0 n ≡ new_gate x list i n
  gate-inv i n w h u = rw u (sym (new-inv x list n i (omega arith)))

  pub gate-zero : (i n : ℕ) → i ≡ o → four 1 0 0 n ≡ new_gate x list i n
  gate-zero i n h = let q : i ≡ outputs_of x = h ∙ same in rw q (sym (new-zero x list n))

  pub gate-entry : (i n : ℕ) (q : Four) → o < i → i < added o (entries o list) → q ≡ entry_gate x list ((i - o - 1) / o) ((i - o - 1) % o) n → q ≡ new_gate x list i n
  unfolding new_gate
  gate-entry i n q a b e =
      let c : i < added (outputs_of x) (entries (outputs_of x) list) = rw same at b in
      rw (le-ltb i (outputs_of x) (omega arith), lt-ltb (outputs_of x) i (omega arith), lt-ltb i (added (outputs_of x) (entries (outputs_of x) list)) c)
      (rw same at e)

-- place t of the gates of n entries, O each
pub entry_place : (O n i : ℕ) → 1 ≤ O → O < i → i < added O n → ((i - O - 1) / O < n) × ((i - O - 1) % O < O)
entry_place O n i some a b = ((div-lt_iff_lt-mul {k = O} {x = i - O - 1} {y = n} some).1 (omega arith), mod-lt (i - O - 1) some)

-- the record of a slot: an old one, or one that is added
module _ (x : Fields) (list : List ℕ) where
  pub slot-first : (k g : ℕ) (q : Four) → g ≡ gates_of x → k ≤ g → q ≡ old_gate x k → q ≡ slot_of x list k
  slot-first k g q e h u = u ∙ sym (slot-old x list k (omega arith))

  pub slot_added : (k g all n : ℕ) (q : Four) → g ≡ gates_of x → g < k → all ≡ total x list → n ≡ cond (ltb k all) (k + 1) 0
      → q ≡ new_gate x list (k - g - 1) n → q ≡ slot_of x list k
  slot_added k g all n q e h a b u =
      let m : n ≡ cond (ltb k (total x list)) (k + 1) 0 = b ∙ ap (λ (t : ℕ). cond (ltb k t) (k + 1) 0) a in
      u ∙ ap₂ (λ (i l : ℕ). new_gate x list (k - i - 1) l) e m ∙ sym (slot-new x list k (k - gates_of x - 1) (omega arith))

-- the sum of the file's numbers
pub all_same : (s list : List ℕ) (z : Sizes) (all : ℕ) → Given s list z → all ≡ z.gates + added z.outputs (entries z.outputs list) → all ≡ total (fields_of s) list
all_same s list z all g e = e ∙ rw (g.laid.outputs, g.laid.gates)

pub zero_same : (s list : List ℕ) (z : Sizes) → Given s list z → z.inputs + z.gates + z.outputs ≡ zero_wire (fields_of s)
zero_same s list z g = rw (g.laid.inputs, g.laid.outputs, g.laid.gates)

-- The values of the wires that are added, where those of the old circuit have the values v: which entries the output is.
-- Assumes nothing.
use mathlib.Core.Path.{◌≡◌, refl, sym, ap, ap₂, ◌∙◌}
use mathlib.Core.Bool.{Bool, true, false, not, cond, ◌&&◌, ◌||◌}
use mathlib.Core.List.{List}
use Prim.Native.Nat.{ℕ, zero, suc, ◌+◌, ◌-◌, ◌*◌, ◌/◌, ◌%◌, ◌≤◌, ◌<◌}
use native.Mathlib.Omega.{arith}
use native.Mathlib.Nat.{mul-add-div_right, div-eq_of_lt, mul-add-mod_self_right, mod-eq_of_lt, suc-mul, zero-mul}
use borrow.Author.Tests.{eq-eqb, ne_eqb, lt-ltb, le-ltb}
use lib.Dec.{eqb, ltb}
use Rattle.bits.specs.Bits.{bit_at}
use Rattle.bits.specs.Xor.{◌⊕◌}
use Rattle.circuit.specs.Fields.{Fields, outputs_of, output_wire}
use Rattle.one_of.specs.OneOf.{entry, repeated, start, zero_wire, sum_wire, literal, prefix}

-- place e * O + j in blocks of O
pub block-div : (O e j : ℕ) → j < O → (e * O + j) / O ≡ e
block-div O e j h = mul-add-div_right (omega arith) e j ∙ ap (λ (k : ℕ). e + k) (div-eq_of_lt h) ∙ omega arith

pub block-mod : (O e j : ℕ) → j < O → (e * O + j) % O ≡ j
block-mod O e j h = mul-add-mod_self_right e O j ∙ mod-eq_of_lt h

module _ (x : Fields) (list : List ℕ) (v : ℕ → Bool) where
  abbrev pub O : ℕ
  O = outputs_of x

  -- output bit j is that of entry e
  unfoldable pub same : ℕ → ℕ → Bool
  same e j = cond (bit_at (entry O list e) j) (v (output_wire x j)) (not (v (output_wire x j)))

  -- the first n output bits are those of entry e
  unfoldable pub agrees : ℕ → ℕ → Bool
  agrees e zero = true
  agrees e (suc n) = agrees e n && same e n

  -- the output is one of the first e entries
  unfoldable pub found : ℕ → Bool
  found zero = false
  found (suc e) = found e || agrees e O

  -- the value of gate j of entry e
  unfoldable pub block_val : ℕ → ℕ → Bool
  block_val e j = cond (ltb (j + 1) O) (cond (repeated O list e) (found e) (agrees e (j + 2))) (found (suc e))

  -- of gate i of those that are added
  unfoldable pub new_val : ℕ → Bool
  new_val i =
      let t : ℕ = i - O - 1 in
      cond (ltb i O) (not (v (output_wire x i))) (cond (eqb i O) false (block_val (t / O) (t % O)))

  -- of every wire
  unfoldable pub val : ℕ → Bool
  val w = cond (ltb w (start x)) (v w) (new_val (w - start x))

  pub val-old : (w : ℕ) → w < start x → val w ≡ v w
  unfolding val
  val-old w h = rw (lt-ltb w (start x) h)

  val-new : (w i : ℕ) → w ≡ start x + i → val w ≡ new_val i
  unfolding val
  val-new w i e =
      let q : w - start x ≡ i = omega arith in
      rw (le-ltb w (start x) (omega arith), q)

  pub val-inv : (j : ℕ) → j < O → val (start x + j) ≡ not (v (output_wire x j))
  unfolding new_val
  val-inv j h = val-new (start x + j) j refl ∙ rw (lt-ltb j O h)

  pub val-zero : val (zero_wire x) ≡ false
  unfolding new_val
  val-zero = val-new (zero_wire x) O refl ∙ rw (le-ltb O O (omega arith), eq-eqb O O refl)

  pub val-gate : (e j : ℕ) → j < O → val (sum_wire x e + 1 + j) ≡ block_val e j
  unfolding new_val
  val-gate e j h =
      let i : ℕ = O + 1 + (e * O + j) in
      let t : i - O - 1 ≡ e * O + j = omega arith in
      val-new (sum_wire x e + 1 + j) i (omega arith)
      ∙ rw (le-ltb i O (omega arith), ne_eqb i O (λ z. omega arith), t, block-div O e j h, block-mod O e j h)

  -- the wire of the sum has what was found
  pub val-sum : 1 ≤ O → (e : ℕ) → val (sum_wire x e) ≡ found e
  unfolding found block_val
  val-sum h zero = ap val (omega (arith, zero-mul O)) ∙ val-zero
  val-sum h (suc e) =
      let q : sum_wire x (suc e) ≡ sum_wire x e + 1 + (O - 1) = omega (arith, suc-mul e O) in
      ap val q ∙ val-gate e (O - 1) (omega arith) ∙ rw (le-ltb (O - 1 + 1) O (omega arith))

  module _ (low : (j : ℕ) → j < O → output_wire x j < start x) where
    pub val-literal : (e j : ℕ) → j < O → val (literal x list e j) ≡ same e j
    unfolding literal same
    val-literal e j h = pick (bit_at (entry O list e) j)
      where
        pick : (b : Bool) → val (cond b (output_wire x j) (start x + j)) ≡ cond b (v (output_wire x j)) (not (v (output_wire x j)))
        pick true = val-old (output_wire x j) (low j h)
        pick false = val-inv j h

    -- the wire of the first j + 1 bits, where the entry was not listed before
    pub val-prefix : (e j : ℕ) → repeated O list e ≡ false → j < O → val (prefix x list e j) ≡ agrees e (suc j)
    unfolding prefix agrees block_val
    val-prefix e zero r h = val-literal e 0 h
    val-prefix e (suc j) r h =
        let q : sum_wire x e + suc j ≡ sum_wire x e + 1 + j = omega arith in
        let d : j + 2 ≡ suc (suc j) = omega arith in
        ap val (rw (ne_eqb (suc j) 0 (λ z. omega arith)) q) ∙ val-gate e j (omega arith) ∙ rw (lt-ltb (j + 1) O (omega arith), r, d)

    -- the gates of an entry have the values of their gates
    pub and-gate : (e j : ℕ) → repeated O list e ≡ false → j + 1 < O
        → val (sum_wire x e + 1 + j) ≡ val (prefix x list e j) && val (literal x list e (j + 1))
    unfolding block_val agrees
    and-gate e j r h =
        let d : j + 2 ≡ suc (suc j) = omega arith in
        let a : suc j ≡ j + 1 = omega arith in
        val-gate e j (omega arith) ∙ rw (lt-ltb (j + 1) O h, r, d)
        (ap (λ (k : ℕ). agrees e (suc j) && same e k) a
        ∙ sym (ap₂ ◌&&◌ (val-prefix e j r (omega arith)) (val-literal e (j + 1) h)))

    pub join-gate : (e j : ℕ) → repeated O list e ≡ false → j + 1 ≡ O → (found e ≡ true → agrees e O ≡ true → ⊥)
        → val (sum_wire x e + 1 + j) ≡ val (sum_wire x e) ⊕ val (prefix x list e j)
    unfolding block_val found
    join-gate e j r h apart =
        let q : suc j ≡ O = omega arith in
        val-gate e j (omega arith) ∙ rw (le-ltb (j + 1) O (omega arith))
        (or-xor (found e) (agrees e O) apart
        ∙ sym (ap₂ ◌⊕◌ (val-sum (omega arith) e) (val-prefix e j r (omega arith) ∙ ap (agrees e) q)))
      where
        or-xor : (a b : Bool) → (a ≡ true → b ≡ true → ⊥) → a || b ≡ a ⊕ b
        or-xor true true n = absurd (n refl refl)
        or-xor true false n = refl
        or-xor false true n = refl
        or-xor false false n = refl

    -- and so have those of an entry that was listed before
    pub copy-gate : (e j : ℕ) → repeated O list e ≡ true → j < O → (agrees e O ≡ true → found e ≡ true)
        → val (sum_wire x e + 1 + j) ≡ val (sum_wire x e) ⊕ val (zero_wire x)
    unfolding block_val found
    copy-gate e j r h already =
        val-gate e j h ∙ rw r (pick (ltb (j + 1) O) (found e) (agrees e O) already)
        ∙ sym (ap₂ ◌⊕◌ (val-sum (omega arith) e) val-zero)
      where
        pick : (l a b : Bool) → (b ≡ true → a ≡ true) → cond l a (a || b) ≡ a ⊕ false
        pick true true b n = refl
        pick true false b n = refl
        pick false true b n = refl
        pick false false true n = sym (n refl)
        pick false false false n = refl

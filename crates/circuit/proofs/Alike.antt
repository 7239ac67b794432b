-- Files with the same fields are read alike, and the kind is a byte with a zero byte after it.
-- Assumes nothing.
use mathlib.Core.Path.{◌≡◌, refl, sym, ap, ◌∙◌, fun_ext}
use mathlib.Core.Bool.{Bool, true, false, ◌&&◌}
use mathlib.Core.List.{List}
use mathlib.Core.Logic.{◌≢◌, ⊎_elim}
use Prim.Native.Nat.{ℕ, zero, suc, ◌+◌, ◌*◌, ◌≤◌}
use native.Mathlib.Omega.{arith}
use native.Mathlib.Nat.{mul-le-mul_left}
use borrow.Author.Tests.{eqb-true, leb-true, le-leb, le-ltb}
use lib.Dec.{leb}
use lib.ListN.{length, get_or, get_or-eq_default}
use Rattle.bits.specs.Bytes.{le_at}
use Rattle.bits.proofs.Little.{le_at-zero, le_at-suc, le_at-one}
use Rattle.bits.proofs.Numbers.{lt-or-le}
use Rattle.bits.proofs.Tests.{and-true-left, and-true-right}
use Rattle.circuit.specs.Fields.{Fields, field, inputs_of, outputs_of, gates_of, record_at, field_count, max_inputs, max_outputs, within_limits, right_length, refused, read_fields, read_with}
use Rattle.circuit.specs.Meaning.{SameFields, FieldsTheorem, KindTheorem}
use Rattle.circuit.proofs.Readings.{read-rest}

-- beyond the end, every number is 0
pub beyond : (n : ℕ) (s : List ℕ) (k : ℕ) → length s ≤ k → le_at n s k ≡ 0
beyond zero s k h = le_at-zero s k
beyond (suc n) s k h = omega (arith, le_at-suc n s k, get_or-eq_default s 0 {n = k} h, beyond n s (k + 1) (omega arith))

-- a file of the right length has as many fields
whole : (w : ℕ) (s : List ℕ) → right_length w s ≡ true → length s ≡ w * field_count (field w s)
unfolding right_length
whole w s e = eqb-true (length s) (w * field_count (field w s)) e

-- so its fields from there on are 0
after : (w n : ℕ) (s : List ℕ) (k : ℕ) → length s ≡ w * n → n ≤ k → field w s k ≡ 0
unfolding field
after w n s k e h = beyond w s (w * k) (omega (arith, e, mul-le-mul_left w h))

-- and it has a header
header : (w : ℕ) (s : List ℕ) → right_length w s ≡ true → w * 4 ≤ length s
header w s e =
    let h : 4 ≤ field_count (field w s) = omega arith in
    omega (arith, whole w s e, mul-le-mul_left w h)

-- a limit on G may be raised
raised : (m n : ℕ) (x : Fields) → m ≤ n → within_limits m x ≡ true → within_limits n x ≡ true
unfolding within_limits
raised m n x h e =
    let f : Bool = leb 1 (inputs_of x) && leb (inputs_of x) max_inputs && leb 1 (outputs_of x) && leb (outputs_of x) max_outputs in
    let g : gates_of x ≤ m = leb-true (gates_of x) m (and-true-right f (leb (gates_of x) m) e) in
    rw (and-true-left f (leb (gates_of x) m) e, le-leb (gates_of x) n (omega arith))

-- a file that is not refused with 2 is within limits
limited : (w m : ℕ) (s : List ℕ) → w * 4 ≤ length s → read_with w m s ≢ refused 2 0 → within_limits m (field w s) ≡ true
unfolding read_with
limited w m s h ok = take (within_limits m (field w s)) refl
  where
    take : (b : Bool) → within_limits m (field w s) ≡ b → within_limits m (field w s) ≡ true
    take true e = e
    take false e = absurd (ok (rw (le-ltb (length s) (w * 4) h, e)))

module _ (w v : ℕ) (s t : List ℕ) (f : SameFields w v s t) where
  -- the fields of the two files are the same, those beyond the end too
  fields-same : field w s ≡ field v t
  fields-same =
      let n : ℕ = field_count (field w s) in
      let o : field w s 1 ≡ field v t 1 = f.same 1 (omega arith) in
      let g : field w s 2 ≡ field v t 2 = f.same 2 (omega arith) in
      let c : field_count (field v t) ≡ n = omega arith in
      fun_ext (λ k.
      ⊎_elim
      (λ l. f.same k l)
      (λ l. after w n s k (whole w s f.right) l ∙ sym (after v n t k (whole v t f.right_too ∙ ap (λ (j : ℕ). v * j) c) l))
      (lt-or-le k n))

  read_alike : (m n : ℕ) → m ≤ n → read_with w m s ≢ refused 2 0 → read_with v n t ≡ read_with w m s
  read_alike m n h ok =
      let a : w * 4 ≤ length s = header w s f.right in
      let l : within_limits m (field w s) ≡ true = limited w m s a ok in
      let r : within_limits n (field v t) ≡ true = ap (within_limits n) (sym fields-same) ∙ raised m n (field w s) h l in
      read-rest v n t (header v t f.right_too) r f.right_too
      ∙ ap read_fields (sym fields-same)
      ∙ sym (read-rest w m s a l f.right)

-- Theorem, fields
pub fields-theorem : FieldsTheorem
fields-theorem = record { alike = λ w v m n s t f. read_alike w v s t f m n }

-- a field of two bytes
two_bytes : (s : List ℕ) (k : ℕ) → field 2 s k ≡ get_or s (2 * k) 0 + 256 * get_or s (2 * k + 1) 0
unfolding field
two_bytes s k = le_at-suc 1 s (2 * k) ∙ ap (λ (j : ℕ). get_or s (2 * k) 0 + 256 * j) (le_at-one s (2 * k + 1))

-- Theorem, kind
pub kind-theorem : KindTheorem
kind-theorem =
    record {
      bytes = λ s byte x k h.
          let j : ℕ = record_at (field 2 s) x in
          let e = two_bytes s j in
          let b = byte (2 * j) in (
            λ p. (omega (arith, e, b, p), omega (arith, e, b, p)),
            λ p. omega (arith, e, p.0, p.1),
          );
    }

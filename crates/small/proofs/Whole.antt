-- The strings that read as legal with the sizes are the files of the nested choices.
-- Assumes nothing.
use mathlib.Core.Path.{◌≡◌, refl, sym, ap, subst, ◌∙◌}
use mathlib.Core.Bool.{true}
use mathlib.Core.List.{List, [], ◌∷◌, map}
use mathlib.Core.Logic.{⊎_elim}
use Prim.Native.Nat.{ℕ, zero, suc, ◌+◌, ◌*◌, ◌≤◌, ◌<◌}
use native.Mathlib.Omega.{arith}
use borrow.Author.Tests.{eqb-true, eq-eqb, le-leb}
use lib.ListN.{length, get_or}
use Rattle.bits.specs.Bits.{tabulate}
use Rattle.bits.proofs.Little.{le_at-lt}
use Rattle.bits.proofs.Numbers.{lt-or-le}
use Rattle.bits.proofs.Tabulate.{length-tabulate, get_d_tabulate, get_or-tabulate-end}
use Rattle.circuit.specs.Circuit.{Circuit}
use Rattle.circuit.specs.Fields.{Fields, field, field_count, outputs_of, output_wire, within_limits, right_length, circuit_of, read_fields}
use Rattle.circuit.specs.File.{width, max_gates}
use Rattle.circuit.proofs.Answered.{Passed, passed, read_same}
use Rattle.circuit.proofs.Readings.{Sound, read-rest, read-sound, count-gates}
use Rattle.small.specs.Small.{in_bytes}
use Rattle.small.specs.Steps.{wires, heads, records_of, two_records, direct}
use Rattle.small.specs.Theorem.{IsSmall}
use Rattle.small.proofs.Members.{In, in_one, in-cons, in_map}
use Rattle.small.proofs.Bytes.{bytes-length, bytes-byte, bytes-fields, bytes_whole}
use Rattle.small.proofs.Gates.{records-in}
use Rattle.small.proofs.Shapes.{fields_in, none_out, none_in, one_out, one_in, two_out, up_in, down-in}

-- the circuit of a file that reads as legal has the sizes of its header
module _ (I G : ℕ) (s : List ℕ) (p : IsSmall I G s) where
  abbrev x : Fields
  x = field width s

  same : circuit_of x ≡ p.circuit
  same = read_same s p.circuit p.reads

  passes : Passed s
  passes = passed s p.circuit p.reads

  first : x 0 ≡ I
  unfolding circuit_of
  first = ap (λ (c : Circuit). c.inputs) same ∙ p.inputs

  second : x 1 ≡ 1
  unfolding circuit_of
  second = sym (length-tabulate (outputs_of x) (output_wire x)) ∙ ap (λ (c : Circuit). length c.outputs) same ∙ p.outputs

  third : x 2 ≡ G
  unfolding circuit_of
  third = sym (count-gates x) ∙ ap (λ (c : Circuit). length c.gates) same ∙ p.gates

  pub fields-count : length s ≡ width * (5 + 4 * G)
  unfolding right_length
  fields-count =
      let e = eqb-true (length s) (width * field_count x) passes.front.sized in
      omega (arith, second, third)

  -- so the file is its fields
  module _ (n : ℕ) (h : n ≡ 5 + 4 * G) where
    abbrev xs : List ℕ
    xs = tabulate n x

    whole : s ≡ in_bytes xs
    whole = bytes_whole s p.byte n (fields-count ∙ ap (λ (k : ℕ). width * k) (sym h))

    low : (i : ℕ) → get_or xs i 0 < 4294967296
    unfolding field
    low i =
        ⊎_elim
        (λ l. subst (λ (y : ℕ). y < 4294967296) (sym (get_d_tabulate n x i 0 l)) (le_at-lt width s (width * i) p.byte))
        (λ l. subst (λ (y : ℕ). y < 4294967296) (sym (get_or-tabulate-end n x i 0 l)) (omega arith))
        (lt-or-le i n)

    -- and they pass the tests
    pub sound : Sound (fields_in xs)
    sound =
        subst (λ (y : Fields). Sound y) (ap (field width) whole ∙ bytes-fields xs low)
        (record { records = passes.records; chain = passes.chain; wires = passes.wires })

    pub member : (l : List ℕ) → xs ≡ l → (Sound (fields_in l) → In l (direct I G)) → In s (map in_bytes (direct I G))
    member l e f =
        subst (λ (t : List ℕ). In t (map in_bytes (direct I G))) (sym (whole ∙ ap in_bytes e))
        (in_map in_bytes l (direct I G) (f (subst (λ (t : List ℕ). Sound (fields_in t)) e sound)))

-- every string that reads as legal with these sizes is the file of a member
pub complete : (I G : ℕ) → G ≤ 2 → (s : List ℕ) → IsSmall I G s → In s (map in_bytes (direct I G))
complete I zero h s p =
    let y : Fields = field width s in
    let e : tabulate 5 y ≡ I ∷ 1 ∷ 0 ∷ y 3 ∷ y 4 ∷ [] = rw (first I 0 s p, second I 0 s p, third I 0 s p) in
    member I 0 s p 5 refl _ e (none_out I (y 3) (y 4))
complete I (suc zero) h s p =
    let y : Fields = field width s in
    let e : tabulate 9 y ≡ I ∷ 1 ∷ 1 ∷ y 3 ∷ y 4 ∷ y 5 ∷ y 6 ∷ y 7 ∷ y 8 ∷ [] = rw (first I 1 s p, second I 1 s p, third I 1 s p) in
    member I 1 s p 9 refl _ e (one_out I (y 3) (y 4) (y 5) (y 6) (y 7) (y 8))
complete I (suc (suc zero)) h s p =
    let y : Fields = field width s in
    let e : tabulate 13 y ≡ I ∷ 1 ∷ 2 ∷ y 3 ∷ y 4 ∷ y 5 ∷ y 6 ∷ y 7 ∷ y 8 ∷ y 9 ∷ y 10 ∷ y 11 ∷ y 12 ∷ [] = rw (first I 2 s p, second I 2 s p, third I 2 s p) in
    member I 2 s p 13 refl _ e (two_out I (y 4) (y 5) (y 6) (y 7) (y 9) (y 10) (y 11) (y 3) (y 8) (y 12))
complete I (suc (suc (suc n))) h s p = absurd (omega arith)

-- a list of fields that pass the tests, with these sizes
pub record Whole (I G : ℕ) (xs : List ℕ) : Type 0 where
  pub sound-fields : Sound (fields_in xs)
  pub inputs : get_or xs 0 0 ≡ I
  pub outputs : get_or xs 1 0 ≡ 1
  pub gates : get_or xs 2 0 ≡ G
  pub size : length xs ≡ 5 + 4 * G

module _ (I G : ℕ) (xs : List ℕ) (some : 1 ≤ I) (few : I ≤ 2) (most : G ≤ 2) (low-xs : (i : ℕ) → get_or xs i 0 < 256) (w : Whole I G xs) where
  file-fields : field width (in_bytes xs) ≡ fields_in xs
  file-fields = bytes-fields xs (λ i. omega (arith, low-xs i))

  limited : within_limits max_gates (fields_in xs) ≡ true
  unfolding within_limits
  limited = rw (w.inputs, w.outputs, w.gates) (rw (le-leb 1 I some, le-leb I 512 (omega arith), le-leb G 100000 (omega arith)))

  right : right_length width (in_bytes xs) ≡ true
  unfolding right_length
  right =
      let c : field_count (field width (in_bytes xs)) ≡ field_count (fields_in xs) = ap field_count file-fields in
      eq-eqb (length (in_bytes xs)) (width * field_count (field width (in_bytes xs)))
      (omega (arith, bytes-length xs, w.size, w.outputs, w.gates))

  -- its file reads as legal with these sizes
  pub file-small : IsSmall I G (in_bytes xs)
  unfolding circuit_of
  file-small =
      record {
        byte = bytes-byte xs;
        circuit = circuit_of (fields_in xs);
        reads =
            read-rest width max_gates (in_bytes xs) (omega (arith, bytes-length xs, w.size)) (ap (within_limits max_gates) file-fields ∙ limited) right
            ∙ ap read_fields file-fields
            ∙ read-sound (fields_in xs) w.sound-fields;
        inputs = w.inputs;
        outputs = length-tabulate (outputs_of (fields_in xs)) (output_wire (fields_in xs)) ∙ w.outputs;
        gates = count-gates (fields_in xs) ∙ w.gates;
      }

-- a member of the nested choices is such a list
two-whole : (I o h : ℕ) (t : List ℕ) → In h (heads 2) → o < I + 2 → In t (two_records I h) → Whole I 2 (I ∷ 1 ∷ 2 ∷ h ∷ o ∷ t)
unfolding heads two_records
two-whole I o h t i l j = ⊎_elim (λ e. up e) (λ i. down (in_one h 2 i)) (in-cons h 1 (2 ∷ []) i)
  where
    up : h ≡ 1 → Whole I 2 (I ∷ 1 ∷ 2 ∷ h ∷ o ∷ t)
    up e =
        let p = records-in (wires I 0 I) 2 _ t (subst (λ (x : ℕ). In t (two_records I x)) e j) in
        let q = records-in (wires I I (I + 1)) 0 _ p.after p.after-in in
        let z : t ≡ p.kind ∷ p.a ∷ p.b ∷ 2 ∷ q.kind ∷ q.a ∷ q.b ∷ 0 ∷ [] =
        p.same ∙ ap (λ (y : List ℕ). p.kind ∷ p.a ∷ p.b ∷ 2 ∷ y) (q.same ∙ ap (λ (y : List ℕ). q.kind ∷ q.a ∷ q.b ∷ 0 ∷ y) (in_one q.after [] q.after-in)) in
        rw (e, z)
        (record {
          sound-fields = up_in I o p.kind p.a p.b q.kind q.a q.b l p.fits q.fits;
          inputs = refl;
          outputs = refl;
          gates = refl;
          size = refl;
        })

    down : h ≡ 2 → Whole I 2 (I ∷ 1 ∷ 2 ∷ h ∷ o ∷ t)
    down e =
        let p = records-in (wires I (I + 1) (I + 1)) 0 _ t (subst (λ (x : ℕ). In t (two_records I x)) e j) in
        let q = records-in (wires I 0 I) 1 _ p.after p.after-in in
        let z : t ≡ p.kind ∷ p.a ∷ p.b ∷ 0 ∷ q.kind ∷ q.a ∷ q.b ∷ 1 ∷ [] =
        p.same ∙ ap (λ (y : List ℕ). p.kind ∷ p.a ∷ p.b ∷ 0 ∷ y) (q.same ∙ ap (λ (y : List ℕ). q.kind ∷ q.a ∷ q.b ∷ 1 ∷ y) (in_one q.after [] q.after-in)) in
        rw (e, z)
        (record {
          sound-fields = down-in I o p.kind p.a p.b q.kind q.a q.b l p.fits q.fits;
          inputs = refl;
          outputs = refl;
          gates = refl;
          size = refl;
        })

one-whole : (I o h : ℕ) (t : List ℕ) → In h (heads 1) → o < I + 1 → In t (records_of I 1 h) → Whole I 1 (I ∷ 1 ∷ 1 ∷ h ∷ o ∷ t)
unfolding heads records_of
one-whole I o h t i l j =
    let p = records-in (wires I 0 I) 0 _ t j in
    let e = in_one h 1 i in
    let z : t ≡ p.kind ∷ p.a ∷ p.b ∷ 0 ∷ [] = p.same ∙ ap (λ (y : List ℕ). p.kind ∷ p.a ∷ p.b ∷ 0 ∷ y) (in_one p.after [] p.after-in) in
    rw (e, z)
    (record { sound-fields = one_in I o p.kind p.a p.b l p.fits; inputs = refl; outputs = refl; gates = refl; size = refl })

pub direct-whole : (I G o h : ℕ) (t : List ℕ) → G ≤ 2 → In h (heads G) → o < I + G → In t (records_of I G h) → Whole I G (I ∷ 1 ∷ G ∷ h ∷ o ∷ t)
unfolding heads records_of
direct-whole I zero o h t m i l j =
    let e = in_one h 0 i in
    let z = in_one t [] j in
    rw (e, z) (record { sound-fields = none_in I o l; inputs = refl; outputs = refl; gates = refl; size = refl })
direct-whole I (suc zero) o h t m i l j = one-whole I o h t i l j
direct-whole I (suc (suc zero)) o h t m i l j = two-whole I o h t i l j
direct-whole I (suc (suc (suc n))) o h t m i l j = absurd (omega arith)

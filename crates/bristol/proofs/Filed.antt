-- The file of an accepted text: its parts one after the other, its fields, and the record of each gate line.
-- Assumes nothing.
use mathlib.Core.Path.{◌≡◌, refl, sym, ap, ap₂, ◌∙◌}
use mathlib.Core.Bool.{Bool, true, false, ◌||◌}
use mathlib.Core.List.{List, [], ◌∷◌, ◌++◌, flatten, append_assoc}
use Prim.Native.Nat.{ℕ, suc, ◌+◌, ◌-◌, ◌*◌, ◌≤◌, ◌<◌}
use native.Mathlib.Omega.{arith}
use lib.Dec.{eqb}
use lib.ListN.{length}
use borrow.Author.Tests.{eq-eqb}
use Rattle.bits.specs.Bits.{tabulate}
use Rattle.bits.specs.Bytes.{le_bytes}
use Rattle.bits.proofs.Little.{length-le_bytes}
use Rattle.bits.proofs.Tabulate.{tabulate-cong}
use Rattle.circuit.specs.Fields as form
use Rattle.circuit.specs.Fields.{Fields, field, field_count}
use Rattle.circuit.specs.File.{width, fields_of, inputs_of, outputs_of, gates_of, head_of, output_wire, next_of}
use Rattle.circuit.specs.Steps.{record_size, record_place, record_at, kind_of, wire_a, wire_b}
use Rattle.building.specs.Files.{Four, laid, bytes_of, file_of, SmallFour}
use Rattle.building.specs.Steps.{four_bytes}
use Rattle.building.proofs.Bytes.{bytes-field}
use Rattle.building.proofs.Built as building
use Rattle.building.proofs.Places.{laid-inputs, laid-outputs, laid-gates, laid-head, laid-count, laid-output, laid-kind, laid-a, laid-b, laid_next}
use Rattle.bristol_lines.specs.Rules.{GateLine, Text, writes, written, last_wire}
use Rattle.bristol_lines.specs.Conversion.{first_slot, record_of, record_for, parts_of, text_file}
use Rattle.bristol_lines.specs.Steps.{four_of}
use Rattle.bristol_lines.proofs.Accepted.{Accepted}
use Rattle.bristol.proofs.Parts.{four_at, four-more, bytes-each, bytes-fours}
use Rattle.bristol.proofs.Stores.{parts-length}

pub four-length : (q : Four) → length (four_of q) ≡ record_size
unfolding four_bytes le_bytes
four-length q = refl

or_left : (a b : Bool) → a || b ≡ false → a ≡ false
or_left true b e = e
or_left false b e = refl

or_right : (a b : Bool) → a || b ≡ false → b ≡ false
or_right true b e = cc
or_right false b e = e

-- the record for the wire of a gate line is the record of that line
pub for-line : (I : ℕ) (before : List GateLine) (g : GateLine) (after : List GateLine) → written before (writes g) ≡ false
    → record_for I (writes g) (before ++ (g ∷ after)) ≡ record_of g (first_slot I after)
unfolding record_for written
for-line I [] g after e = rw (eq-eqb (writes g) (writes g) refl)
for-line I (h ∷ before) g after e =
    rw (or_left (eqb (writes g) (writes h)) (written before (writes g)) e)
    (for-line I before g after (or_right (eqb (writes g) (writes h)) (written before (writes g)) e))

-- the parts of the file: header, output wires, records
unfoldable pub header_part : Text → List ℕ
header_part t = four_bytes t.inputs t.outputs (length t.gates) (first_slot t.inputs t.gates)

unfoldable pub output_part : Text → List ℕ
output_part t = flatten (tabulate t.outputs (λ j. le_bytes width (last_wire t j)))

unfoldable pub record_part : Text → List ℕ
record_part t = flatten (tabulate (length t.gates) (λ j. four_of (record_for t.inputs (t.inputs + j) t.gates)))

four_same : {a b c d a' b' c' d' : ℕ} → a ≡ a' → b ≡ b' → c ≡ c' → d ≡ d' → four_bytes a b c d ≡ four_bytes a' b' c' d'
four_same p q r s = cc

module _ (t : Text) where
  abbrev I : ℕ
  I = t.inputs

  abbrev O : ℕ
  O = t.outputs

  abbrev G : ℕ
  G = length t.gates

  abbrev x : Fields
  x = laid (parts_of t)

  pub header-length : length (header_part t) ≡ record_size
  unfolding header_part four_bytes le_bytes
  header-length = refl

  pub output-length : length (output_part t) ≡ O * width
  unfolding output_part
  output-length = parts-length width O (λ j. le_bytes width (last_wire t j)) (λ j h. length-le_bytes width (last_wire t j))

  count : field_count x ≡ 4 + O + 4 * G
  unfolding parts_of
  count = laid-count (parts_of t)

  pub file-length : length (text_file t) ≡ record_place O G
  unfolding text_file parts_of
  file-length = omega (arith, building.file-length (parts_of t))

  -- the four fields of slot j + 1
  slot-bytes : (j : ℕ) → j < G → four_at x (4 + O + 4 * j) ≡ four_of (record_for I (I + j) t.gates)
  unfolding parts_of
  slot-bytes j h =
      let p = parts_of t in
      let w : I + (1 + j) - 1 ≡ I + j = omega arith in
      let k : ℕ = 4 + O + 4 * j in
      let at : form.record_at x (1 + j) ≡ k = omega (arith, laid-outputs p) in
      let e₁ : suc k ≡ form.record_at x (1 + j) + 1 = omega arith in
      let e₂ : suc (suc k) ≡ form.record_at x (1 + j) + 2 = omega arith in
      let e₃ : suc (suc (suc k)) ≡ form.record_at x (1 + j) + 3 = omega arith in
      four_same
      (ap x (sym at) ∙ laid-kind p (1 + j) (omega arith) (omega arith))
      (ap x e₁ ∙ laid-a p (1 + j) (omega arith) (omega arith))
      (ap x e₂ ∙ laid-b p (1 + j) (omega arith) (omega arith))
      (ap x e₃ ∙ laid_next p (1 + j) (omega arith) (omega arith))
      ∙ ap (λ (i : ℕ). four_of (record_for I i t.gates)) w

  front_bytes : bytes_of x 4 ≡ header_part t
  unfolding bytes_of header_part parts_of
  front_bytes =
      let p = parts_of t in
      four-more x 0 ∙ four_same (laid-inputs p) (laid-outputs p) (laid-gates p) (laid-head p)

  output-bytes : (j : ℕ) → j < O → le_bytes width (x (4 + j)) ≡ le_bytes width (last_wire t j)
  unfolding parts_of
  output-bytes j h = ap (le_bytes width) (laid-output (parts_of t) j h)

  pub file-parts : text_file t ≡ header_part t ++ (output_part t ++ record_part t)
  unfolding text_file file_of output_part record_part
  file-parts =
      ap (bytes_of x) count
      ∙ bytes-fours x (4 + O) G
      ∙ ap₂ (λ (a b : List ℕ). a ++ b)
      (bytes-each x 4 O ∙ ap₂ (λ (a b : List ℕ). a ++ b) front_bytes (ap flatten (tabulate-cong O (λ j. le_bytes width (x (4 + j))) (λ j. le_bytes width (last_wire t j)) output-bytes)))
      (ap flatten (tabulate-cong G (λ j. four_at x (4 + O + 4 * j)) (λ j. four_of (record_for I (I + j) t.gates)) slot-bytes))
      ∙ append_assoc (header_part t) (output_part t) (record_part t)

  -- a field, where it is small
  pub field_is : (i v : ℕ) → x i ≡ v → v < 4294967296 → i < 4 + O + 4 * G → field width (text_file t) i ≡ v
  unfolding text_file file_of
  field_is i v e s h = bytes-field x (field_count x) i (omega (arith, count)) (omega arith) ∙ e

module _ (t : Text) (k : Accepted t) where
  pub file-inputs : inputs_of (text_file t) ≡ t.inputs
  unfolding parts_of
  file-inputs = field_is t 0 t.inputs (laid-inputs (parts_of t)) (omega (arith, k.few_inputs)) (omega arith)

  pub file-outputs : outputs_of (text_file t) ≡ t.outputs
  unfolding parts_of
  file-outputs = field_is t 1 t.outputs (laid-outputs (parts_of t)) (omega (arith, k.few_outputs)) (omega arith)

  pub file-gates : gates_of (text_file t) ≡ length t.gates
  unfolding parts_of
  file-gates = field_is t 2 (length t.gates) (laid-gates (parts_of t)) (omega (arith, k.few_gates)) (omega arith)

  pub file-head : first_slot t.inputs t.gates < 4294967296 → head_of (text_file t) ≡ first_slot t.inputs t.gates
  unfolding parts_of
  file-head h = field_is t 3 (first_slot t.inputs t.gates) (laid-head (parts_of t)) h (omega arith)

  pub last-small : (j : ℕ) → j < t.outputs → last_wire t j < t.inputs + length t.gates
  unfolding last_wire
  last-small j h = omega (arith, k.enough)

  -- output wire j
  pub file-output : (j : ℕ) → j < t.outputs → output_wire (text_file t) j ≡ last_wire t j
  unfolding parts_of
  file-output j h =
      field_is t (4 + j) (last_wire t j) (laid-output (parts_of t) j h) (omega (arith, last-small j h, k.few_inputs, k.few_gates)) (omega arith)

  -- the record of slot j, where its fields are small
  module _ (j : ℕ) (a : 1 ≤ j) (b : j ≤ length t.gates) (s : SmallFour ((parts_of t).slot j)) where
    b-third : j ≤ (parts_of t).header.third
    unfolding parts_of
    b-third = b

    in-slot : (r v : ℕ) → laid (parts_of t) (form.record_at (laid (parts_of t)) j + r) ≡ v → v < 4294967296 → r < 4 → fields_of (text_file t) (record_at (text_file t) j + r) ≡ v
    unfolding parts_of
    in-slot r v e l h =
        let same : record_at (text_file t) j + r ≡ form.record_at (laid (parts_of t)) j + r = omega (arith, file-outputs, laid-outputs (parts_of t)) in
        ap (fields_of (text_file t)) same ∙ field_is t (form.record_at (laid (parts_of t)) j + r) v e l (omega (arith, laid-outputs (parts_of t)))

    pub slot-kind : kind_of (text_file t) j ≡ ((parts_of t).slot j).first
    slot-kind =
        let p = parts_of t in
        let z : (i : ℕ) → i + 0 ≡ i = λ i. omega arith in
        ap (fields_of (text_file t)) (sym (z (record_at (text_file t) j)))
        ∙ in-slot 0 (p.slot j).first (ap (laid p) (z (form.record_at (laid p) j)) ∙ laid-kind p j a b-third) s.first (omega arith)

    pub slot-a : wire_a (text_file t) j ≡ ((parts_of t).slot j).second
    slot-a = in-slot 1 ((parts_of t).slot j).second (laid-a (parts_of t) j a b-third) s.second (omega arith)

    pub slot-b : wire_b (text_file t) j ≡ ((parts_of t).slot j).third
    slot-b = in-slot 2 ((parts_of t).slot j).third (laid-b (parts_of t) j a b-third) s.third (omega arith)

    pub slot_next : next_of (text_file t) j ≡ ((parts_of t).slot j).fourth
    slot_next = in-slot 3 ((parts_of t).slot j).fourth (laid_next (parts_of t) j a b-third) s.fourth (omega arith)

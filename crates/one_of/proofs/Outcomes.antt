-- What building answers, test by test.
-- Assumes nothing.
use mathlib.Core.Path.{◌≡◌, sym, ap, ap₂, ◌∙◌}
use mathlib.Core.Bool.{Bool, true, false, not}
use mathlib.Core.List.{List, [], ◌∷◌}
use Prim.Native.Nat.{ℕ, ◌+◌, ◌*◌, ◌/◌, ◌%◌, ◌≤◌, ◌<◌}
use native.Mathlib.Omega.{arith}
use native.Mathlib.Nat.{mul-le-mul, div-le_of_le-mul}
use borrow.Author.Tests.{le-leb, lt-leb, eq-eqb, ne_eqb, not-true, not-false}
use lib.Dec.{eqb}
use lib.ListN.{length}
use lib.Seq.{sets}
use Rattle.bits.specs.Bits.{oct}
use Rattle.bits.proofs.Tabulate.{length-tabulate}
use Rattle.refusal.specs.Outcome.{refusal_at, success, Outcome, unless}
use Rattle.refusal.specs.Refusal.{number_of}
use Rattle.std.specs.Prelude.{Result, Ok, Err}
use Rattle.refusal.specs.declared.Refusal.TheVariants.{Limits, BufferLength, UnusedBits, ListLength}
use Rattle.circuit.specs.Answers.{read_paper}
use Rattle.circuit.specs.Building.{builds}
use Rattle.circuit.specs.Fields as fields
use Rattle.circuit.specs.File.{width, max_gates, fields_of, outputs_of, output_wire, circuit_of}
use Rattle.circuit.specs.Operations.{read_op}
use Rattle.circuit.specs.Steps.{Laid, Legal}
use Rattle.circuit.specs.declared.Fault.{Fault}
use Rattle.circuit.specs.declared.Sizes.{Sizes}
use Rattle.circuit.proofs.Answered.{read-legal, refusal-refused}
use Rattle.circuit.proofs.Outcomes.{legal-passed, legal-sizes}
use Rattle.circuit.proofs.Readings.{count-gates}
use Rattle.building.proofs.Bytes.{at_front}
use Rattle.building.proofs.Built.{built, not-built, file-length}
use Rattle.one_of.specs.Answers.{outcome}
use Rattle.one_of.specs.OneOf.{entries, added, total, parts_of, one_of_file, room_for, right_size, max_entries, unused_entries, one_of_legal, one_of_op}
use Rattle.one_of.specs.Steps.{Given}
use Rattle.one_of.proofs.Coded.{all_same}
use Rattle.one_of.proofs.Legal.{some-entries}
use Rattle.one_of.proofs.Small.{few-added, limits_of}

-- the length of the new file
new-length : (s list : List ℕ) → length (one_of_file s list) ≡ width * (5 + 4 * total (fields_of s) list)
unfolding one_of_file parts_of
new-length s list = omega (arith, file-length (parts_of (fields_of s) list))

-- the products of few numbers are small
pub products : (n o : ℕ) → n ≤ max_entries → o ≤ 256 → (n * o ≤ 4096) × (n * (o + 1) ≤ 4112)
products n o a b = (omega (arith, mul-le-mul a b), omega (arith, mul-le-mul a c))
  where
    c : o + 1 ≤ 257
    c = omega arith

-- the number of entries of a list that passes the tests of its length
pub sizes : (list : List ℕ) (o len : ℕ) → len ≡ oct o → 1 ≤ o → 1 ≤ length list → length list ≤ max_entries * len → length list % len ≡ 0
    → (1 ≤ length list / len) × ((length list / len ≤ max_entries) × (length list / len ≡ entries o list))
sizes list o len e some a b c = (
  rw e (some-entries o (length list) a (rw e at c) some),
  (div-le_of_le-mul len (omega (arith, b)), ap (λ (k : ℕ). length list / k) e),
)

-- building from n good entries
module _ (s list : List ℕ) (z : Sizes) (n : ℕ) (laid : Laid s z.inputs z.outputs z.gates) (some : 1 ≤ z.outputs) (all : n ≡ entries z.outputs list) where
  abbrev Rest : List ℕ → Outcome
  Rest out = unless (room_for z.gates z.outputs n) 2 (out ∷ []) (builds (one_of_file s list) out)

  pub too_many : (out : List ℕ) → max_gates < z.gates + z.outputs + n * (z.outputs + 1) → outcome (Err Limits) out ≡ Rest out
  too_many out h = sym (rw (lt-leb (z.gates + z.outputs + n * (z.outputs + 1)) max_gates h))

  module _ (many : 1 ≤ n) (room : z.gates + z.outputs + n * (z.outputs + 1) ≤ max_gates) (t : ℕ) (e : t ≡ z.gates + z.outputs + 1 + n * z.outputs) where
    pub given : Given s list z
    given =
        record {
          laid = laid;
          some_outputs = some;
          few = rw (← all) (omega (arith, few-added z.outputs n many));
        }

    pub all-gates : t ≡ z.gates + added z.outputs (entries z.outputs list)
    all-gates = rw (← all) (omega arith)

    same_length : width * (5 + 4 * t) ≡ length (one_of_file s list)
    same_length = omega (arith, new-length s list, all_same s list z t given all-gates)

    there : (out : List ℕ) → Rest out ≡ builds (one_of_file s list) out
    there out = rw (le-leb (z.gates + z.outputs + n * (z.outputs + 1)) max_gates room)

    pub too_short : (out : List ℕ) → length out < width * (5 + 4 * t) → outcome (Err BufferLength) out ≡ Rest out
    too_short out h = sym (there out ∙ not-built (one_of_file s list) out (omega (arith, same_length)))

    pub done : (out new : List ℕ) → width * (5 + 4 * t) ≤ length out → new ≡ sets out 0 (one_of_file s list) → outcome (Ok (width * (5 + 4 * t))) new ≡ Rest out
    done out new h p =
        let l : length (one_of_file s list) ≤ length out = omega (arith, same_length) in
        ap₂ (λ (k : ℕ) (x : List ℕ). record { answer = success (k ∷ []); left = x ∷ [] }) same_length (p ∙ at_front (one_of_file s list) out l)
        ∙ sym (there out ∙ built (one_of_file s list) out l)

-- the tests of the list
module _ (s list out : List ℕ) (z : Sizes) (l : Legal s z.inputs z.outputs z.gates) where
  abbrev rest : ℕ → Outcome
  rest n = unless (room_for z.gates z.outputs n) 2 (out ∷ []) (builds (one_of_file s list) out)

  -- the operation in the numbers that the code carries
  legal-form : one_of_legal s list out (circuit_of s)
      ≡ unless (right_size z.outputs list) 30 (out ∷ []) (unless (eqb (length list % oct z.outputs) 0) 6 (out ∷ [])
      (unless (unused_entries z.outputs list (entries z.outputs list)) 7 (out ∷ []) (rest (entries z.outputs list))))
  unfolding one_of_legal fields.circuit_of
  legal-form = rw (l.laid.outputs, l.laid.gates, length-tabulate (outputs_of s) (output_wire s), count-gates (fields_of s))

  module _ (len : ℕ) (e : len ≡ oct z.outputs) where
    pub empty : length list < 1 → outcome (Err ListLength) out ≡ one_of_legal s list out (circuit_of s)
    empty h = sym (legal-form ∙ rw (lt-leb 1 (length list) h))

    pub long : 1 ≤ length list → max_entries * len < length list → outcome (Err ListLength) out ≡ one_of_legal s list out (circuit_of s)
    long a h = sym (legal-form ∙ rw (le-leb 1 (length list) a, lt-leb (length list) (max_entries * oct z.outputs) (omega arith)))

    module _ (a : 1 ≤ length list) (b : length list ≤ max_entries * len) where
      sized : right_size z.outputs list ≡ true
      sized = rw (le-leb 1 (length list) a, le-leb (length list) (max_entries * oct z.outputs) (omega arith))

      pub uneven : (length list % len ≡ 0 → ⊥) → outcome (Err BufferLength) out ≡ one_of_legal s list out (circuit_of s)
      uneven h = sym (legal-form ∙ rw (sized, ne_eqb (length list % oct z.outputs) 0 (λ q. h (ap (λ (k : ℕ). length list % k) e ∙ q))))

      module _ (c : length list % len ≡ 0) (r : Bool) (f : r ≡ unused_entries z.outputs list (length list / len)) where
        whole : eqb (length list % oct z.outputs) 0 ≡ true
        whole = eq-eqb (length list % oct z.outputs) 0 (ap (λ (k : ℕ). length list % k) (sym e) ∙ c)

        test : r ≡ unused_entries z.outputs list (entries z.outputs list)
        test = f ∙ ap (λ (k : ℕ). unused_entries z.outputs list (length list / k)) e

        pub unclean : not r ≡ true → outcome (Err UnusedBits) out ≡ one_of_legal s list out (circuit_of s)
        unclean h = sym (legal-form ∙ rw (sized, whole, sym test ∙ not-true r h))

        pub clean : not r ≡ false → rest (length list / len) ≡ one_of_legal s list out (circuit_of s)
        clean h = ap (λ (k : ℕ). rest (length list / k)) e ∙ sym (legal-form ∙ rw (sized, whole, sym test ∙ not-false r h))

-- the circuit is read first
pub refused-first : (s list out : List ℕ) (f : Fault) (r : Result Sizes Fault) → r ≡ Err f → read_paper r ≡ read_op s
    → outcome (Err f.refusal) out ≡ one_of_op s list out
unfolding one_of_op
refused-first s list out f r p e =
    let q : refusal_at (number_of f.refusal) f.slot ≡ read_op s = sym (ap read_paper p) ∙ e in
    rw (refusal-refused s (number_of f.refusal) f.slot q)

module _ (s list out : List ℕ) (z : Sizes) (r : Result Sizes Fault) (p : r ≡ Ok z) (e : read_paper r ≡ read_op s) where
  pub read_first : one_of_op s list out ≡ one_of_legal s list out (circuit_of s)
  unfolding one_of_op
  read_first = rw (read-legal s (legal-passed s z r p e))

  pub lent-legal : Legal s z.inputs z.outputs z.gates × (1 ≤ z.outputs)
  lent-legal =
      let l = legal-sizes s z r p e in
      (l, omega (arith, l.laid.outputs, (limits_of (fields_of s) (legal-passed s z r p e).front.limited).some_outputs))

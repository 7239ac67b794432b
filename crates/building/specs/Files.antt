-- A circuit file that is built from its parts (document 02, order 7: "All circuit file fields become u32 (header 16 bytes, record 16 bytes:
-- kind, a, b, next ..)"), and the statement that it reads as these parts do.
-- Assumes nothing.
use Rattle.std.specs.Prelude.{◌≡◌, true, cond, List, [], ◌++◌, ℕ, zero, suc, ◌+◌, ◌-◌, ◌*◌, ◌/◌, ◌%◌, ◌≤◌, ◌<◌, eqb, ltb, length}
use Rattle.bits.specs.Bytes.{le_bytes}
use Rattle.circuit.specs.Fields.{Fields, field, field_count, kind_of, wire_a, wire_b, next_of, output_wire, within_limits, right_length, read_fields}
use Rattle.circuit.specs.File.{width, max_gates, read_circuit}

-- four fields: the header "I, O, G, head", or a record "kind, a, b, next"
pub record Four : Type 0 where
  pub first : ℕ
  pub second : ℕ
  pub third : ℕ
  pub fourth : ℕ

-- the parts of a file: its header, its output wires, from 0, and the records of its slots, from 1
pub record Parts : Type 0 where
  pub header : Four
  pub output : ℕ → ℕ
  pub slot : ℕ → Four

-- field r of four
unfoldable pub among : Four → ℕ → ℕ
among q r = cond (eqb r 0) q.first (cond (eqb r 1) q.second (cond (eqb r 2) q.third q.fourth))

-- "Header: I, O, G, head; then O output wire numbers; then G records in slots 1..G", and nothing after them
unfoldable pub laid : Parts → Fields
laid p k =
    let O : ℕ = p.header.second in
    let j : ℕ = k - 4 - O in
    cond (ltb k 4) (among p.header k)
    (cond (ltb k (4 + O)) (p.output (k - 4))
    (cond (ltb k (4 + O + 4 * p.header.third)) (among (p.slot (1 + j / 4)) (j % 4)) 0))

-- the first n fields as bytes, in the form in use
unfoldable pub bytes_of : Fields → ℕ → List ℕ
bytes_of x zero = []
bytes_of x (suc n) = bytes_of x n ++ le_bytes width (x n)

-- the file of some fields: header, output wires, records
unfoldable pub file_of : Fields → List ℕ
file_of x = bytes_of x (field_count x)

-- numbers that a field holds
pub record SmallFour (q : Four) : Type 0 where
  pub first : q.first < 4294967296
  pub second : q.second < 4294967296
  pub third : q.third < 4294967296
  pub fourth : q.fourth < 4294967296

pub record Small (p : Parts) : Type 0 where
  pub header : SmallFour p.header
  pub output : (j : ℕ) → p.output j < 4294967296
  pub slot : (k : ℕ) → SmallFour (p.slot k)

-- Theorem, built: the file of small parts has as many bytes as its header says, has the parts in their places, and, where I, O and G are
-- within the limits, reads as they do
pub record BuiltTheorem : Type 0 where
  pub size : (p : Parts) → length (file_of (laid p)) ≡ 16 + 4 * p.header.second + 16 * p.header.third
  pub same : (p : Parts) → Small p → field width (file_of (laid p)) ≡ laid p
  pub reads : (p : Parts) → Small p → within_limits max_gates (laid p) ≡ true → read_circuit (file_of (laid p)) ≡ read_fields (laid p)

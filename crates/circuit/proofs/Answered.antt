-- What reading a file in the form in use answers.
-- Assumes nothing.
use mathlib.Core.Path.{◌≡◌, refl, sym, ap, ◌∙◌}
use mathlib.Core.Bool.{Bool, true, false, not, cond}
use mathlib.Core.List.{List, [], ◌∷◌}
use Prim.Native.Nat.{ℕ, ◌*◌, ◌≤◌}
use native.Mathlib.Omega.{arith}
use borrow.Author.Tests.{ltb-false, not-false}
use lib.Dec.{ltb}
use lib.ListN.{length}
use Rattle.refusal.specs.Outcome.{refusal_at, success}
use Rattle.circuit.specs.Chain.{Walk, ends, fault, ends_well}
use Rattle.circuit.specs.Circuit.{Circuit, ands}
use Rattle.circuit.specs.Fields as fields
use Rattle.circuit.specs.File.{width, max_gates, fields_of, inputs_of, outputs_of, gates_of, within_limits, right_length, good_records, good_chain, good_wires, chain_walk, gates_in_order, circuit_of, Reading, refused, legal, on_walk, read_circuit}
use Rattle.circuit.specs.Operations.{read_answer, read_op}
use Rattle.circuit.proofs.Readings.{Sound, read-rest, read-sound, count-gates, sound-success}
pub use Rattle.circuit.proofs.Readings.{fell, held}

-- a file of 4 fields or more, with its limits and its length good
pub record Front (s : List ℕ) : Type 0 where
  pub enough : width * 4 ≤ length s
  pub limited : within_limits s ≡ true
  pub sized : right_length s ≡ true

-- a file that passes every test
pub record Passed (s : List ℕ) : Type 0 where
  pub front : Front s
  pub records : good_records s (gates_of s) ≡ true
  pub chain : good_chain s ≡ true
  pub wires : good_wires s ≡ true

module _ (s : List ℕ) (p : Passed s) where
  sound : Sound (fields_of s)
  sound = record { records = p.records; chain = p.chain; wires = p.wires }

  -- its fields alone are read
  fields_read : read_circuit s ≡ fields.read_fields (fields_of s)
  fields_read = read-rest width max_gates s p.front.enough p.front.limited p.front.sized

  -- a file that passes every test is the circuit it holds
  pub read-legal : read_circuit s ≡ legal (circuit_of s)
  read-legal = fields_read ∙ read-sound (fields_of s) sound

  -- "Success gives I, O, G, A"
  pub read-success : read_op s ≡ success (inputs_of s ∷ outputs_of s ∷ gates_of s ∷ ands (gates_in_order s) ∷ [])
  unfolding read_op
  read-success = ap read_answer fields_read ∙ sound-success (fields_of s) sound

-- the circuit has G gates
pub gates-count : (s : List ℕ) → length (gates_in_order s) ≡ gates_of s
gates-count s = count-gates (fields_of s)

-- a test that stands before a legal reading has not refused
pub not-refused : (a : Bool) (k : ℕ) (x : Reading) (c : Circuit) → cond a (refused k 0) x ≡ legal c → (a ≡ false) × (x ≡ legal c)
not-refused true k x c e = absurd (let z : ◌≡◌ {A = ℕ} 0 1 = cc in omega arith)
not-refused false k x c e = (refl, e)

-- nor has the walk met a fault
not-faulty : (w : Walk) (x : Reading) (c : Circuit) → on_walk w x ≡ legal c → (ends_well w ≡ true) × (x ≡ legal c)
unfolding fields.on_walk ends_well
not-faulty ends x c e = (refl, e)
not-faulty (fault k y) x c e = absurd (let z : ◌≡◌ {A = ℕ} 0 1 = cc in omega arith)

-- a legal file has passed every test
pub passed : (s : List ℕ) (c : Circuit) → read_circuit s ≡ legal c → Passed s
unfolding fields.read_with fields.read_fields fields.good_chain
passed s c e =
    let a = not-refused (ltb (length s) (width * 4)) _ _ c e in
    let b = not-refused (not (within_limits s)) _ _ c a.1 in
    let d = not-refused (not (right_length s)) _ _ c b.1 in
    let f = not-refused (not (good_records s (gates_of s))) _ _ c d.1 in
    let g = not-faulty (chain_walk s) _ c f.1 in
    let h = not-refused (not (good_wires s)) _ _ c g.1 in
    record {
      front = record { enough = ltb-false (length s) (width * 4) a.0; limited = not-false _ b.0; sized = not-false _ d.0 };
      records = not-false _ f.0;
      chain = g.0;
      wires = not-false _ h.0;
    }

-- and its circuit is the one that it holds
pub read_same : (s : List ℕ) (c : Circuit) → read_circuit s ≡ legal c → circuit_of s ≡ c
read_same s c e = same-legal (circuit_of s) c (sym (read-legal s (passed s c e)) ∙ e)
  where
    same-legal : (c d : Circuit) → legal c ≡ legal d → c ≡ d
    same-legal c d e = cc

-- an answer that is a success is that of a legal file
pub success-passed : (s : List ℕ) (l : List ℕ) → success l ≡ read_op s → Passed s
unfolding read_op read_answer
success-passed s l e = take (read_circuit s) refl e
  where
    take : (x : Reading) → read_circuit s ≡ x → success l ≡ read_answer x → Passed s
    take (refused k x) p q = absurd (let z : ◌≡◌ {A = ℕ} 0 1 = cc in omega arith)
    take (legal c) p q = passed s c p

-- an answer that is a refusal is that of a refused file
pub refusal-refused : (s : List ℕ) (k x : ℕ) → refusal_at k x ≡ read_op s → read_circuit s ≡ refused k x
unfolding read_op read_answer
refusal-refused s k x e = take (read_circuit s) refl e
  where
    take : (r : Reading) → read_circuit s ≡ r → refusal_at k x ≡ read_answer r → read_circuit s ≡ refused k x
    take (refused j y) p q = cc
    take (legal c) p q = absurd (let z : ◌≡◌ {A = ℕ} 0 1 = cc in omega arith)

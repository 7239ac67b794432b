-- The operation join (document 02, order 8): "From two circuits with the same I make one: the first's outputs then the second's, the
-- second's slots after the first's, its chain appended."
-- Assumes nothing.
use Rattle.std.specs.Prelude.{Bool, cond, ◌&&◌, List, [], ◌∷◌, ℕ, ◌+◌, ◌-◌, eqb, leb, ltb, length}
use Rattle.refusal.specs.Outcome.{Outcome, unless}
use Rattle.circuit.specs.Building.{builds}
use Rattle.circuit.specs.Circuit.{Circuit}
use Rattle.circuit.specs.Fields.{Fields, inputs_of, outputs_of, gates_of, head_of, output_wire, kind_of, wire_a, wire_b, next_of}
use Rattle.circuit.specs.File.{max_outputs, max_gates, fields_of, read_circuit}
use Rattle.circuit.specs.Operations.{on_legal}
use Rattle.building.specs.Files.{Four, Parts, laid, file_of}

-- a wire of the second circuit: an input stays, and the wire of a slot goes up with its slot, by the number of the first's gates. So an
-- INV keeps b = 0
unfoldable pub moved_wire : ℕ → ℕ → ℕ → ℕ
moved_wire I up w = cond (ltb w I) w (w + up)

-- a link of the second circuit: a slot goes up, and 0 still ends the chain
unfoldable pub moved_link : ℕ → ℕ → ℕ
moved_link up k = cond (eqb k 0) 0 (k + up)

-- a link of the first circuit: the one that ends its chain leads on to the second's head
unfoldable pub led_on : ℕ → ℕ → ℕ
led_on to k = cond (eqb k 0) to k

-- slot k of the first circuit, where its chain leads on to `to`
unfoldable pub first_slot : ℕ → Fields → ℕ → Four
first_slot to x k = record { first = kind_of x k; second = wire_a x k; third = wire_b x k; fourth = led_on to (next_of x k) }

-- slot k of the second circuit, which has I inputs, moved up
unfoldable pub second_slot : ℕ → ℕ → Fields → ℕ → Four
second_slot I up x k =
    record {
      first = kind_of x k;
      second = moved_wire I up (wire_a x k);
      third = moved_wire I up (wire_b x k);
      fourth = moved_link up (next_of x k);
    }

-- the fields of two circuits joined: "the first's outputs then the second's, the second's slots after the first's, its chain appended"
unfoldable pub joined_parts : Fields → Fields → Parts
joined_parts x y =
    let I : ℕ = inputs_of x in
    let O : ℕ = outputs_of x in
    let G : ℕ = gates_of x in
    let to : ℕ = moved_link G (head_of y) in
    record {
      header = record { first = I; second = O + outputs_of y; third = G + gates_of y; fourth = led_on to (head_of x) };
      output = λ j. cond (ltb j O) (output_wire x j) (moved_wire I G (output_wire y (j - O)));
      slot = λ k. cond (leb k G) (first_slot to x k) (second_slot I G y (k - G));
    }

-- the file of two circuits joined
unfoldable pub joined : List ℕ → List ℕ → List ℕ
joined s t = file_of (laid (joined_parts (fields_of s) (fields_of t)))

-- "sums beyond the limits"
unfoldable pub sums_within : Circuit → Circuit → Bool
sums_within c d = leb (length c.outputs + length d.outputs) max_outputs && leb (length c.gates + length d.gates) max_gates

-- "25 the input counts differ, after both circuits are read; sums beyond the limits give 2, after 25"; 6 comes last
unfoldable pub join_legal : List ℕ → List ℕ → Circuit → Circuit → Outcome
join_legal file out c d =
    unless (eqb c.inputs d.inputs) 25 (out ∷ [])
    (unless (sums_within c d) 2 (out ∷ [])
    (builds file out))

-- joining two circuits into a lent output: the first is read, then the second
unfoldable pub join_op : List ℕ → List ℕ → List ℕ → Outcome
join_op s t out =
    on_legal (read_circuit s) (out ∷ []) (λ c.
    on_legal (read_circuit t) (out ∷ []) (λ d.
    join_legal (joined s t) out c d))

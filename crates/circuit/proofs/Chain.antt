-- One step along the chain of a file in the form in use: the laws of Slots.antt, under the same names.
-- Assumes nothing.
use mathlib.Core.Path.{◌≡◌}
use mathlib.Core.Bool.{true}
use mathlib.Core.List.{List, [], ◌∷◌}
use Prim.Native.Nat.{ℕ, ◌+◌, ◌-◌, ◌≤◌, ◌<◌}
use Rattle.circuit.specs.File.{width, fields_of, inputs_of, next_of}
use Rattle.circuit.specs.Steps.{gate_of, record_of, placed, Inside, Laid, gates_from, walks}
use Rattle.circuit.specs.declared.Record.{Record}
use Rattle.circuit.proofs.Slots as slots
pub use Rattle.circuit.proofs.Slots.{ands-on, ands-none, and_one-le, ands-turn, reads_on, put_same, put_other, zeros-at}

pub inside : (s : List ℕ) (i o g k : ℕ) → Laid s i o g → 1 ≤ k → k ≤ g → Inside s o k
inside s = slots.inside width s

abbrev pub Here : List ℕ → ℕ → ℕ → Type 0
Here s = slots.Here (fields_of s)

pub here : (s : List ℕ) (n k : ℕ) → 0 < n → walks s n k ≡ true → Here s n k
here s = slots.here (fields_of s)

pub gates-on : (s : List ℕ) (n k : ℕ) → 0 < n → gates_from s n k ≡ placed (gate_of s k) (inputs_of s + k - 1) ∷ gates_from s (n - 1) (next_of s k)
gates-on s = slots.gates-on (fields_of s)

pub gates-end : (s : List ℕ) (n k : ℕ) → n ≤ 0 → gates_from s n k ≡ []
gates-end s = slots.gates-end (fields_of s)

pub next-read : (s : List ℕ) (k : ℕ) (q : Record) → q ≡ record_of s k → q.next ≡ next_of s k
next-read s = slots.next-read (fields_of s)

pub gate-read : (s : List ℕ) (k : ℕ) (q : Record) → q ≡ record_of s k → q.gate ≡ gate_of s k
gate-read s = slots.gate-read (fields_of s)

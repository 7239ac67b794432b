-- One turn of the walk along the gates: what it asks, and what it leaves of the memory.
-- Assumes nothing.
use mathlib.Core.Path.{◌≡◌, refl, sym, ap, ◌∙◌}
use mathlib.Core.List.{List}
use Prim.Native.Nat.{ℕ, zero, suc, ◌+◌, ◌-◌, ◌*◌, ◌≤◌, ◌<◌}
use native.Mathlib.Omega.{arith}
use lib.ListN.{length}
use Rattle.bits.specs.Bits.{oct}
use Rattle.circuit.specs.Circuit.{ands}
use Rattle.circuit.specs.File.{inputs_of, next_of}
use Rattle.circuit.specs.Steps.{gate_of, record_of, and_one, gates_from, wired}
use Rattle.circuit.specs.declared.Gate.{Gate}
use Rattle.circuit.specs.declared.Record.{Record}
use Rattle.circuit.specs.declared.Sizes.{Sizes}
use Rattle.circuit.proofs.Chain.{ands-on, gate-read, gates-on, next-read}
use Rattle.circuit.proofs.Run.{wired-on}
use Rattle.masks.specs.Steps.{wire_count, masks_from, products_from, passed, byte_after, Asks, Ready}
use Rattle.masks.proofs.Begun.{Begun, within-le, begun-on}

-- the AND gates from a slot on
pub ands-here : (s : List ℕ) (n k : ℕ) → 0 < n → ands (gates_from s n k) ≡ and_one (gate_of s k) + ands (gates_from s (n - 1) (next_of s k))
ands-here s n k h = ap ands (gates-on s n k h) ∙ ands-on (gate_of s k) (inputs_of s + k - 1) (gates_from s (n - 1) (next_of s k))

-- what a turn asks: the wires that the gate reads and writes, the bits of the memory, and the byte that its correction comes into
pub turn-asks : (s : List ℕ) (z : Sizes) (h at count out byte : ℕ) (m₀ m : List ℕ) (left slot t : ℕ) (q : Record) → Ready s z h at m₀ → length m ≡ length m₀
    → masks_from z + (t + ands (gates_from s left slot)) ≡ products_from z → 0 < left → wired s (wire_count z) left slot → q ≡ record_of s slot
    → out < wire_count z → t ≤ 4194304 → count ≡ oct z.ands → Begun at count t byte m
    → Asks q.gate out (masks_from z + t) (products_from z + t) at t byte m
turn-asks s z h at size out byte m₀ m left slot t q r lm count l w e ho few d b =
    let g = gate_of s slot in
    let a = ands-here s left slot l in
    let k = (wired-on s (wire_count z) left slot l w).0 in
    let row = r.row in
    let room = r.room in
    let low : t + and_one g ≤ z.ands = omega (arith, a, count) in
    let wires : wire_count z ≤ length m = omega (arith, row, room, lm) in
    rw (gate-read s slot q e)
    (record {
      wires = within-le (wire_count z) (length m) g wires k;
      written = omega (arith, ho, wires);
      mask = omega (arith, low, row, room, lm);
      product = omega (arith, low, row, room, lm);
      place = omega (arith, low, room, lm);
      held = λ one. b.held (omega (arith, one, low, d));
      low = b.low;
      few = few;
    })

-- the walk in one memory
module _ (s : List ℕ) (masks products at : ℕ) where
  -- one gate
  abbrev turned : ℕ → ℕ → List ℕ → List ℕ
  turned slot t m = passed (gate_of s slot) (inputs_of s + slot - 1) (masks + t) (products + t) (8 * at + t) m

  -- k gates
  unfoldable pub joint : ℕ → ℕ → ℕ → List ℕ → List ℕ
  joint zero slot t m = m
  joint (suc k) slot t m = joint k (next_of s slot) (t + and_one (gate_of s slot)) (turned slot t m)

  joint-on : (k slot t : ℕ) (m : List ℕ) → 0 < k → joint k slot t m ≡ joint (k - 1) (next_of s slot) (t + and_one (gate_of s slot)) (turned slot t m)
  unfolding joint
  joint-on zero slot t m h = absurd (omega arith)
  joint-on (suc k) slot t m h = let e : suc k - 1 ≡ k = omega arith in rw e

  pub joint-end : (k slot t : ℕ) (m : List ℕ) → k ≤ 0 → joint k slot t m ≡ m
  unfolding joint
  joint-end zero slot t m h = refl
  joint-end (suc k) slot t m h = absurd (omega arith)

  -- the turn of the code: q is the record read, m1 the memory that the gate leaves, r the AND gates up to it
  module _ (out k slot t r : ℕ) (m m1 : List ℕ) (q : Record) (e : q ≡ record_of s slot) (h : 0 < k) (c : out ≡ inputs_of s + slot - 1)
      (f : m1 ≡ passed q.gate out (masks + t) (products + t) (8 * at + t) m) (u : r ≡ t + and_one q.gate) where
    v : r ≡ t + and_one (gate_of s slot)
    v = u ∙ ap (λ (g : Gate). t + and_one g) (gate-read s slot q e)

    pub joint-turn : (w : List ℕ) → joint k slot t m ≡ w → joint (k - 1) q.next r m1 ≡ w
    joint-turn w p = rw (next-read s slot q e, v, f, c, gate-read s slot q e) (sym (joint-on k slot t m h) ∙ p)

    pub count_turn : masks + (t + ands (gates_from s k slot)) ≡ products → masks + (r + ands (gates_from s (k - 1) q.next)) ≡ products
    count_turn p = rw (next-read s slot q e) (omega (arith, p, v, ands-here s k slot h))

    pub begun-turn : (count byte b : ℕ) → b ≡ byte_after (products + t) q.gate t m byte → Begun at count t byte m → out < at
        → t + and_one q.gate ≤ 8 * count → at + count ≤ length m → Begun at count r b m1
    begun-turn count byte b d g l more room = rw (d, u, f) (begun-on q.gate at count t byte out (masks + t) (products + t) m g l more room)

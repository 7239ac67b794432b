-- `instance::seeding::next_tapes` meets its contract.
-- Assumes nothing.
use native.Mathlib.Omega.{arith}
use mathlib.Core.Path.{◌≡◌, refl, sym, ap, ap₂, ◌∙◌}
use mathlib.Core.Bool.{cond}
use mathlib.Core.List.{List}
use Prim.Native.Nat.{ℕ, suc, ◌+◌, ◌*◌, ◌≤◌, ◌<◌}
use lib.Dec.{eqb}
use lib.ListN.{length, get_or, take, drop}
use lib.Seq.{sets}
use Rattle.bits.proofs.Tabulate.{get_d_tabulate}
use Rattle.circuit.specs.File.{circuit_of}
use Rattle.four_sponges.proofs.Rows.{four-eq, part-size, put-part}
use Rattle.mpc.proofs.Opened.{ands-low, circuit-row}
use Rattle.party.specs.Derive.{tape_row}
use Rattle.instance.specs.Steps.{tape_but}
use Rattle.derivation.proofs.Together.{row-alone, rows_four, four-there, none_is}
use Rattle.instance.proofs.Together.{row_in, four-in}
use Rattle.instance.proofs.Seeded.{tape-zero, tape-derived, seed-here, used-is}
use Rattle.instance.proofs.seeding.next_tapes.Goals as goal

pub overflow_mul-ands : goal.overflow_mul-ands
overflow_mul-ands c = omega (arith, ands-low _ _ _ _ _ c.requires.0, c.requires.0.legal.laid.few_gates)

pub overflow_add-inputs : goal.overflow_add-inputs
overflow_add-inputs c = omega (arith, ands-low _ _ _ _ _ c.requires.0, c.requires.0.legal.laid.few_gates, c.requires.0.legal.laid.few_inputs)

pub overflow_mul-a : goal.overflow_mul-a
overflow_mul-a c = omega (arith, row_in c.args.inst.parties c.oct-len.result c.args.to (length c.args.memory.now) (rw c.oct-len.ensures c.requires.1.1.1.1) c.args.i c.requires.1.1.0)

pub overflow_add-a : goal.overflow_add-a
overflow_add-a c = omega (arith, row_in c.args.inst.parties c.oct-len.result c.args.to (length c.args.memory.now) (rw c.oct-len.ensures c.requires.1.1.1.1) c.args.i c.requires.1.1.0)

pub overflow_add-end : goal.overflow_add-end
overflow_add-end c = omega (arith, row_in c.args.inst.parties c.oct-len.result c.args.to (length c.args.memory.now) (rw c.oct-len.ensures c.requires.1.1.1.1) c.args.i c.requires.1.1.0)

pub slice_bounds-clear-end : goal.slice_bounds-clear-end
slice_bounds-clear-end c = omega (arith, row_in c.args.inst.parties c.oct-len.result c.args.to (length c.args.memory.now) (rw c.oct-len.ensures c.requires.1.1.1.1) c.args.i c.requires.1.1.0)

pub returns-then-i-p : goal.returns-then-i-p
returns-then-i-p c =
    let o = c in
    let x = o.args in
    let m = x.memory.now in
    let n = x.inst.parties in
    let j = x.inst.context in
    let C = circuit_of x.s.now in
    let S = take (32 * n) (drop x.seeds m) in
    let f = tape_but C n x.p j S in
    let len = c.oct-len.result in
    let bytes = c.oct-len.ensures ∙ sym (circuit-row _ _ _ _ _ o.requires.0) in
    let seeds : x.seeds + 32 * n ≤ length m = omega (arith, o.requires.1.1.1.0, o.requires.1.1.1.1) in
    let place = ap (λ (k : ℕ). x.to + x.i * k) c.oct-len.ensures in
    let a = x.to + x.i * len in
    let z = c.clear.new.s in
    let fit = row_in c.args.inst.parties c.oct-len.result c.args.to (length c.args.memory.now) (rw c.oct-len.ensures c.requires.1.1.1.1) c.args.i c.requires.1.1.0 in
    let part = part-size a len m fit in (
      omega arith,
      (
        omega (arith, o.requires.1.1.0),
        put-part a len m z fit (c.clear.auto.s ∙ part)
            ∙ ap₂ (sets m) place (tape-zero C n x.p j S x.i _ z c.if-i-p.true (part ∙ bytes) c.clear.ensures ∙ row-alone f x.i),
      ),
    )

pub four_used-used-requires : goal.four_used-used-requires
four_used-used-requires c =
    let p = c.requires in
    (omega (arith, p.0.legal.laid.few_inputs), (omega (arith, ands-low _ _ _ _ _ p.0, p.0.legal.laid.few_gates), omega (arith, p.1.0, p.1.1.0)))

pub four_tapes_at-requires : goal.four_tapes_at-requires
four_tapes_at-requires c =
    let o = c in
    let x = o.args in
    let there = four-there x.i x.inst.parties x.p (sym c.four_without.ensures ∙ c.if-four_without.true) in
    let fit = four-in x.inst.parties c.oct-len.result x.to (length x.memory.now) (rw c.oct-len.ensures c.requires.1.1.1.1) x.i there in
    (omega (arith, there, o.requires.1.0), (omega (arith, there, o.requires.1.1.1.0, fit), omega (arith, fit)))

pub returns-then-four_without : goal.returns-then-four_without
returns-then-four_without c =
    let o = c in
    let x = o.args in
    let m = x.memory.now in
    let n = x.inst.parties in
    let j = x.inst.context in
    let C = circuit_of x.s.now in
    let S = take (32 * n) (drop x.seeds m) in
    let f = tape_but C n x.p j S in
    let len = c.oct-len.result in
    let bytes = c.oct-len.ensures ∙ sym (circuit-row _ _ _ _ _ o.requires.0) in
    let seeds : x.seeds + 32 * n ≤ length m = omega (arith, o.requires.1.1.1.0, o.requires.1.1.1.1) in
    let place = ap (λ (k : ℕ). x.to + x.i * k) c.oct-len.ensures in
    let four = sym c.four_without.ensures ∙ c.if-four_without.true in
    let there = four-there x.i n x.p four in
    let used = c.four_used-used.result in
    let own : ℕ → ℕ = λ k. cond (eqb (suc (x.i + k)) n) (x.z.inputs + x.z.ands) (x.z.inputs + 2 * x.z.ands) in
    let g : ℕ → List ℕ = λ k. tape_row j (x.i + k) (take 16 (drop (x.seeds + 32 * x.i + k * 32) m)) (get_or used k 0) len in
    let row : (k : ℕ) → k < 4 → g k ≡ f (x.i + k) = λ k h.
    tape-derived C n x.p j S (x.i + k) (get_or used k 0) len (take 16 (drop (x.seeds + 32 * x.i + k * 32) m)) (g k) (none_is x.i n x.p four k h)
    (seed-here n (x.i + k) x.seeds (x.seeds + 32 * x.i + k * 32) m (omega (arith, there)) seeds (omega arith))
    (used-is _ _ _ _ _ o.requires.0 n (x.i + k) (get_or used k 0) (ap (λ (l : List ℕ). get_or l k 0) c.four_used-used.ensures ∙ get_d_tabulate 4 own k 0 h)) bytes refl in (
      omega arith,
      (
        there,
        c.four_tapes_at.ensures
            ∙ ap₂ (sets m) place
            (four-eq g (λ k. f (x.i + k)) (row 0 (omega arith)) (row 1 (omega arith)) (row 2 (omega arith)) (row 3 (omega arith)) ∙ rows_four (λ k. f (x.i + k))),
      ),
    )

pub used_bits-used-requires : goal.used_bits-used-requires
used_bits-used-requires c =
    let p = c.requires in
    (omega (arith, p.0.legal.laid.few_inputs), (omega (arith, ands-low _ _ _ _ _ p.0, p.0.legal.laid.few_gates), omega (arith, p.1.0, p.1.1.0)))

pub tape_at-requires : goal.tape_at-requires
tape_at-requires c =
    let o = c in
    let fit = row_in c.args.inst.parties c.oct-len.result c.args.to (length c.args.memory.now) (rw c.oct-len.ensures c.requires.1.1.1.1) c.args.i c.requires.1.1.0 in
    (omega (arith, o.requires.1.1.0, o.requires.1.1.1.0, fit), omega (arith, fit))

pub returns : goal.returns
returns c =
    let o = c in
    let x = o.args in
    let m = x.memory.now in
    let n = x.inst.parties in
    let j = x.inst.context in
    let C = circuit_of x.s.now in
    let S = take (32 * n) (drop x.seeds m) in
    let f = tape_but C n x.p j S in
    let len = c.oct-len.result in
    let bytes = c.oct-len.ensures ∙ sym (circuit-row _ _ _ _ _ o.requires.0) in
    let seeds : x.seeds + 32 * n ≤ length m = omega (arith, o.requires.1.1.1.0, o.requires.1.1.1.1) in
    let place = ap (λ (k : ℕ). x.to + x.i * k) c.oct-len.ensures in (
      omega arith,
      (
        omega (arith, o.requires.1.1.0),
        c.tape_at.ensures
            ∙ ap₂ (sets m) place
            (tape-derived C n x.p j S x.i c.used_bits-used.result len (take 16 (drop (x.seeds + 32 * x.i) m)) _ c.if-i-p.false
            (seed-here n x.i x.seeds (x.seeds + 32 * x.i) m o.requires.1.1.0 seeds refl)
            (used-is _ _ _ _ _ o.requires.0 n x.i c.used_bits-used.result c.used_bits-used.ensures) bytes refl
            ∙ row-alone f x.i),
      ),
    )

-- `instance::seeding::next_seeds` meets its contract.
-- Assumes nothing.
use native.Mathlib.Omega.{arith}
use mathlib.Core.Path.{◌≡◌, refl, sym, ap₂, ◌∙◌}
use Prim.Native.Nat.{ℕ, ◌+◌, ◌*◌, ◌≤◌, ◌<◌}
use lib.ListN.{length, take, drop}
use lib.Seq.{sets}
use Rattle.four_sponges.proofs.Rows.{four-eq, part-size, put-part}
use Rattle.party.specs.Derive.{seed_row}
use Rattle.instance.specs.Steps.{seed_but}
use Rattle.derivation.proofs.Together.{row-alone, rows_four, four-there, none_is}
use Rattle.instance.proofs.Seeded.{seed-zero, seed-derived, leaf-here}
use Rattle.instance.proofs.seeding.next_seeds.Goals as goal

pub returns-then-i-p : goal.returns-then-i-p
returns-then-i-p c =
    let o = c in
    let x = o.args in
    let m = x.memory.now in
    let n = x.inst.parties in
    let L = take (16 * n) (drop x.leaves m) in
    let f = seed_but x.p x.inst.context L in
    let a = x.to + 32 * x.i in
    let z = c.clear.new.s in
    let fit : a + 32 ≤ length m = omega (arith, o.requires.1.0, o.requires.1.1.0, o.requires.1.1.1) in
    let part = part-size a 32 m fit in
    let e : a ≡ x.to + x.i * 32 = omega arith in (
      omega arith,
      (
        omega (arith, o.requires.1.0),
        put-part a 32 m z fit (c.clear.auto.s ∙ part)
            ∙ ap₂ (sets m) e (seed-zero x.p x.inst.context L x.i _ z c.if-i-p.true part c.clear.ensures ∙ row-alone f x.i),
      ),
    )

pub four_seeds_at-requires : goal.four_seeds_at-requires
four_seeds_at-requires c =
    let o = c in
    let there = four-there o.args.i o.args.inst.parties o.args.p (sym c.four_without.ensures ∙ c.if-four_without.true) in
    (omega (arith, there, o.requires.0), (omega (arith, there, o.requires.1.1.1), omega (arith, there, o.requires.1.1.0, o.requires.1.1.1)))

pub returns-then-four_without : goal.returns-then-four_without
returns-then-four_without c =
    let o = c in
    let x = o.args in
    let m = x.memory.now in
    let n = x.inst.parties in
    let L = take (16 * n) (drop x.leaves m) in
    let f = seed_but x.p x.inst.context L in
    let e : x.to + 32 * x.i ≡ x.to + x.i * 32 = omega arith in
    let four = sym c.four_without.ensures ∙ c.if-four_without.true in
    let there = four-there x.i n x.p four in
    let row : (k : ℕ) → k < 4 → seed_row x.inst.context (x.i + k) (take 16 (drop (x.leaves + 16 * x.i + k * 16) m)) ≡ f (x.i + k) = λ k h.
    seed-derived x.p x.inst.context L (x.i + k) _ _ (none_is x.i n x.p four k h)
    (leaf-here n (x.i + k) x.leaves (x.leaves + 16 * x.i + k * 16) m (omega (arith, there)) o.requires.1.1.1 (omega arith)) refl in (
      omega arith,
      (
        there,
        c.four_seeds_at.ensures
            ∙ ap₂ (sets m) e
            (four-eq (λ k. seed_row x.inst.context (x.i + k) (take 16 (drop (x.leaves + 16 * x.i + k * 16) m))) (λ k. f (x.i + k)) (row 0 (omega arith)) (row 1 (omega arith)) (row 2 (omega arith)) (row 3 (omega arith))
            ∙ rows_four (λ k. f (x.i + k))),
      ),
    )

pub returns : goal.returns
returns c =
    let o = c in
    let x = o.args in
    let m = x.memory.now in
    let n = x.inst.parties in
    let L = take (16 * n) (drop x.leaves m) in
    let f = seed_but x.p x.inst.context L in
    let e : x.to + 32 * x.i ≡ x.to + x.i * 32 = omega arith in (
      omega arith,
      (
        omega (arith, o.requires.1.0),
        c.seed_at.ensures
            ∙ ap₂ (sets m) e
            (seed-derived x.p x.inst.context L x.i _ _ c.if-i-p.false (leaf-here n x.i x.leaves _ m o.requires.1.0 o.requires.1.1.1 refl) refl
            ∙ row-alone f x.i),
      ),
    )

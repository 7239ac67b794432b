-- `party::four_commitments` meets its contract: the four sponges, joined, give out the hashes, and the inputs of parties before n − 1 end with their rows.
-- Assumes nothing.
use borrow.Author.Rules.{rules}
use native.Mathlib.Omega.{arith}
use mathlib.Core.Path.{◌≡◌, sym, ap, ◌∙◌}
use mathlib.Core.List.{List}
use Prim.Native.Nat.{ℕ, ◌+◌, ◌*◌, ◌<◌}
use mir.Syntax.{w8}
use mir.Val.{Fits}
use lib.ListN.{length, get_or, take, drop}
use lib.Seq.{length-take-le}
use Rattle.keccak.specs.Sponge.{sponge}
use Rattle.keccak.specs.Steps.{squeezes}
use Rattle.keccak.proofs.Absorbing.{Bytes}
use Rattle.four.specs.Steps.{state_of}
use Rattle.four_sponges.specs.Steps.{full, four_rows}
use Rattle.four_sponges.proofs.Rows.{four-eq}
use Rattle.short.specs.Steps.{key_input}
use Rattle.party.specs.Derive.{commitment_to}
use Rattle.party.proofs.Commitments.{commitment-first}
use Rattle.party.proofs.Derived.{four-keys}
use Rattle.party.proofs.four_commitments.Goals as goal

pub slice_bounds-close_commitment-end : goal.slice_bounds-close_commitment-end
slice_bounds-close_commitment-end c = sym (length-take-le 32 c.args.rows.now (omega arith))

pub close_commitment-a-requires : goal.close_commitment-a-requires
close_commitment-a-requires c = length-take-le 32 c.args.rows.now (omega arith)

pub returns : goal.returns
returns c n corr h =
    let o = c in
    let x = o.args in
    let rows = x.rows.now in
    let salt : Bytes x.j.salt = λ i. let f : Fits w8 (get_or x.j.salt i 0) = search (rules, o.well_formed) in f.fits in
    let la : length c.close_commitment-a.result ≡ 25 = search (rules, c.close_commitment-a.type_inv) in
    let lb : length c.close_commitment-b.result ≡ 25 = search (rules, c.close_commitment-b.type_inv) in
    let lc : length c.close_commitment-c.result ≡ 25 = search (rules, c.close_commitment-c.type_inv) in
    let ld : length c.close_commitment-d.result ≡ 25 = search (rules, c.close_commitment-d.type_inv) in
    let one : (k : ℕ) → k < 4 → sponge 136 0x06 (key_input 1 x.j (x.i + k) (take 32 (drop (32 * k) rows))) 32 ≡ commitment_to x.j n (x.i + k) (take 32 (drop (32 * k) rows)) corr = λ k l.
    commitment-first x.j n (x.i + k) (take 32 (drop (32 * k) rows)) corr (λ e. omega (arith, e, h, l)) in
    c.squeeze4.ensures
    ∙ ap (λ (s : List ℕ). four_rows (λ k. squeezes 136 32 (full 136 (state_of k s)))) c.join.ensures
    ∙ four-keys 136 0x06 32 (omega arith) (omega arith) (omega arith) 1 x.j x.i 32 rows (omega arith) salt (λ i. (c.shared_slice_known-1.given i).fits) _ _ _ _ la lb lc ld
    c.close_commitment-a.ensures c.close_commitment-b.ensures c.close_commitment-c.ensures c.close_commitment-d.ensures
    ∙ four-eq (λ k. sponge 136 0x06 (key_input 1 x.j (x.i + k) (take 32 (drop (32 * k) rows))) 32) (λ k. commitment_to x.j n (x.i + k) (take 32 (drop (32 * k) rows)) corr)
    (one 0 (omega arith)) (one 1 (omega arith)) (one 2 (omega arith)) (one 3 (omega arith))

-- `party::four_rows` meets its contract: the four sponges, joined, give out the four rows.
-- Assumes nothing.
use borrow.Author.Rules.{rules}
use native.Mathlib.Omega.{arith}
use mathlib.Core.Path.{◌≡◌, ap, ◌∙◌}
use mathlib.Core.List.{List}
use Prim.Native.Nat.{ℕ, ◌/◌}
use mir.Syntax.{w8}
use mir.Val.{Fits}
use lib.ListN.{length, get_or}
use Rattle.keccak.specs.Sponge.{shake128}
use Rattle.keccak.specs.Steps.{squeezes}
use Rattle.keccak.proofs.Absorbing.{Bytes}
use Rattle.four.specs.Steps.{state_of}
use Rattle.four_sponges.specs.Steps.{full, four_rows}
use Rattle.party.proofs.Derived.{four-keys}
use Rattle.party.proofs.four_rows.Goals as goal

pub returns : goal.returns
unfolding shake128
returns c =
    let o = c in
    let x = o.args in
    let d = length x.rows.now / 4 in
    let salt : Bytes x.j.salt = λ i. let h : Fits w8 (get_or x.j.salt i 0) = search (rules, o.well_formed) in h.fits in
    let la : length c.close_key-a.result ≡ 25 = search (rules, c.close_key-a.type_inv) in
    let lb : length c.close_key-b.result ≡ 25 = search (rules, c.close_key-b.type_inv) in
    let lc : length c.close_key-c.result ≡ 25 = search (rules, c.close_key-c.type_inv) in
    let ld : length c.close_key-d.result ≡ 25 = search (rules, c.close_key-d.type_inv) in
    c.squeeze4.ensures
    ∙ ap (λ (s : List ℕ). four_rows (λ k. squeezes 168 d (full 168 (state_of k s)))) c.join.ensures
    ∙ four-keys 168 0x1f d (omega arith) (omega arith) (omega arith) x.tag x.j x.i 16 x.keys.now o.ranges.tag.fits salt (λ i. (c.shared_slice_known-1.given i).fits) _ _ _ _ la lb lc ld
    c.close_key-a.ensures c.close_key-b.ensures c.close_key-c.ensures c.close_key-d.ensures

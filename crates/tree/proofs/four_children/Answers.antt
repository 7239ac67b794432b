-- `tree::four_children` meets its contract: the four sponges, joined, give out the children.
-- Assumes nothing.
use borrow.Author.Rules.{rules}
use native.Mathlib.Omega.{arith}
use mathlib.Core.Path.{◌≡◌, sym, ap₂, ◌∙◌}
use mathlib.Core.List.{List}
use Prim.Native.Nat.{ℕ, ◌/◌}
use mir.Syntax.{w8}
use mir.Val.{Fits}
use lib.ListN.{length, get_or}
use lib.Seq.{length-take-le}
use Rattle.keccak.specs.Steps.{squeezes}
use Rattle.keccak.proofs.Absorbing.{Bytes}
use Rattle.four.specs.Steps.{state_of}
use Rattle.four_sponges.specs.Steps.{full, four_rows}
use Rattle.tree.proofs.Four.{four-nodes}
use Rattle.tree.proofs.four_children.Goals as goal

pub slice_bounds-close_node-end : goal.slice_bounds-close_node-end
slice_bounds-close_node-end c = sym (length-take-le 16 c.args.values.now (omega arith))

pub close_node-a-requires : goal.close_node-a-requires
close_node-a-requires c = length-take-le 16 c.args.values.now (omega arith)

pub returns : goal.returns
returns c =
    let o = c in
    let x = o.args in
    let v = x.values.now in
    let salt : Bytes x.j.salt = λ i. let h : Fits w8 (get_or x.j.salt i 0) = search (rules, o.well_formed) in h.fits in
    let la : length c.close_node-a.result ≡ 25 = search (rules, c.close_node-a.type_inv) in
    let lb : length c.close_node-b.result ≡ 25 = search (rules, c.close_node-b.type_inv) in
    let lc : length c.close_node-c.result ≡ 25 = search (rules, c.close_node-c.type_inv) in
    let ld : length c.close_node-d.result ≡ 25 = search (rules, c.close_node-d.type_inv) in
    let e : length x.out.now / 4 ≡ 32 = omega (arith, o.requires.1.1) in
    c.squeeze4.ensures
    ∙ ap₂ (λ (n : ℕ) (s : List ℕ). four_rows (λ i. squeezes 168 n (full 168 (state_of i s)))) e c.join.ensures
    ∙ four-nodes x.j x.k v salt (λ i. (c.shared_slice_known-1.given i).fits) _ _ _ _ la lb lc ld
    c.close_node-a.ensures c.close_node-b.ensures c.close_node-c.ensures c.close_node-d.ensures

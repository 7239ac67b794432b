-- `short::close_key` meets its contract: the lanes are those of the message and its padding.
-- Assumes nothing.
use borrow.Author.Rules.{rules}
use native.Mathlib.Omega.{arith}
use mathlib.Core.Path.{◌≡◌}
use lib.ListN.{length, get_or}
use mir.Syntax.{w8}
use mir.Val.{Fits}
use Rattle.keccak.proofs.Absorbing.{Bytes}
use Rattle.short.proofs.Parts.{key-block}
use Rattle.short.proofs.close_key.Goals as goal

pub read_u64-requires : goal.read_u64-requires
read_u64-requires c = let l : length c.args.j.salt ≡ 32 = search (rules, c.well_formed) in omega (arith, l)

pub read_u64-requires-2 : goal.read_u64-requires-2
read_u64-requires-2 c = let l : length c.args.j.salt ≡ 32 = search (rules, c.well_formed) in omega (arith, l)

pub read_u64-requires-3 : goal.read_u64-requires-3
read_u64-requires-3 c = let l : length c.args.j.salt ≡ 32 = search (rules, c.well_formed) in omega (arith, l)

pub read_u64-requires-4 : goal.read_u64-requires-4
read_u64-requires-4 c = let l : length c.args.j.salt ≡ 32 = search (rules, c.well_formed) in omega (arith, l)

pub overflow_add-result-4 : goal.overflow_add-result-4
overflow_add-result-4 c = let h : Fits w8 (get_or c.args.j.salt 31 0) = search (rules, c.well_formed) in record { fits = omega (arith, h.fits) }

pub returns : goal.returns
returns c =
    let o = c in
    let x = o.args in
    let l : length x.j.salt ≡ 32 = search (rules, o.well_formed) in
    let salt : Bytes x.j.salt = λ i. let h : Fits w8 (get_or x.j.salt i 0) = search (rules, o.well_formed) in h.fits in
    key-block x.tag x.j.number x.i x.j.salt x.key.now o.ranges.tag.fits l o.requires salt (λ i. (c.shared_slice_known-1.given i).fits) _ _ _ _ _ _ _
    c.read_u64.ensures c.read_u64-2.ensures c.read_u64-3.ensures c.read_u64-4.ensures
    c.read_u64-5.ensures c.read_u64-6.ensures c.read_u64-7.ensures

-- `proving::writing::head` meets its contract: six bytes, then h*, then the salt.
-- Assumes nothing.
use native.Mathlib.Omega.{arith}
use mathlib.Core.Path.{sym, ◌∙◌}
use Rattle.proving.proofs.Headers.{length-n, length-begun, rest-begun, length-mid, rest-mid, header_made}
use Rattle.proving.proofs.writing.head.Goals as goal

pub bounds-out-5 : goal.bounds-out-5
bounds-out-5 c = omega (arith, length-n c.args.m c.args.tau c.args.n _ _ _ c.requires.1.1.1.1.1 c.write_u16.ensures c.write_u16-2.ensures)

pub slice_bounds-copy_from_slice-end : goal.slice_bounds-copy_from_slice-end
slice_bounds-copy_from_slice-end c = omega (arith, length-begun c.args.m c.args.tau c.args.n _ _ _ c.requires.1.1.1.1.1 c.write_u16.ensures c.write_u16-2.ensures)

pub copy_from_slice-requires : goal.copy_from_slice-requires
copy_from_slice-requires c = rest-begun c.args.m c.args.tau c.args.n _ _ _ c.requires.1.1.1.1.1 c.write_u16.ensures c.write_u16-2.ensures ∙ sym c.requires.1.1.1.0

pub slice_bounds-copy_from_slice-count-2 : goal.slice_bounds-copy_from_slice-count-2
slice_bounds-copy_from_slice-count-2 c = omega (arith, length-mid c.args.m c.args.tau c.args.n _ _ _ c.requires.1.1.1.1.1 c.write_u16.ensures c.write_u16-2.ensures c.args.hstar.now _ c.copy_from_slice.ensures.after c.requires.1.1.1.0)

pub slice_bounds-copy_from_slice-start-2 : goal.slice_bounds-copy_from_slice-start-2
slice_bounds-copy_from_slice-start-2 c = omega (arith, length-mid c.args.m c.args.tau c.args.n _ _ _ c.requires.1.1.1.1.1 c.write_u16.ensures c.write_u16-2.ensures c.args.hstar.now _ c.copy_from_slice.ensures.after c.requires.1.1.1.0)

pub copy_from_slice-requires-2 : goal.copy_from_slice-requires-2
copy_from_slice-requires-2 c = rest-mid c.args.m c.args.tau c.args.n _ _ _ c.requires.1.1.1.1.1 c.write_u16.ensures c.write_u16-2.ensures c.args.hstar.now _ c.copy_from_slice.ensures.after c.requires.1.1.1.0 ∙ sym c.requires.1.1.1.1.0

pub returns : goal.returns
returns c = header_made c.args.m c.args.tau c.args.n _ _ _ c.requires.1.1.1.1.1 c.write_u16.ensures c.write_u16-2.ensures c.args.hstar.now _ c.copy_from_slice.ensures.after c.requires.1.1.1.0 _ _ c.copy_from_slice-2.ensures.after

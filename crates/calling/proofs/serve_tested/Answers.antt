-- `calling::serve_tested` meets its contract.
-- Assumes nothing.
use mathlib.Core.Path.{sym}
use Rattle.calling.proofs.Keeping.{kept-refused, kept-ready}
use Rattle.calling.proofs.serve_tested.Goals as goal

pub returns-in-Err : goal.returns-in-Err
returns-in-Err c = kept-refused c.args.tested c.args.buffer.now c.args.job c.requires.0 _ c.in-Err.is

pub slice_bounds-serve_ready-end : goal.slice_bounds-serve_ready-end
slice_bounds-serve_ready-end c = sym (c.requires.0.passes _ c.in-Ok.is).entries

pub slice_bounds-serve_ready-end-in-Ok : goal.slice_bounds-serve_ready-end-in-Ok
slice_bounds-serve_ready-end-in-Ok c = sym (c.requires.0.passes _ c.in-Ok.is).nodes

pub serve_ready-requires : goal.serve_ready-requires
serve_ready-requires c = (c.requires.0.passes _ c.in-Ok.is, c.requires.1)

pub returns-in-Ok : goal.returns-in-Ok
returns-in-Ok c = kept-ready c.args.tested c.args.buffer.now c.args.job c.requires.0 _ c.in-Ok.is _ c.serve_ready.ensures

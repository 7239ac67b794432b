-- `showing::run_honest` meets its contract.
-- Assumes nothing.
use mathlib.Core.Path.{sym, ◌∙◌}
use Rattle.mpc.proofs.Places.{output-room, output-size, memory-held}
use Rattle.showing.proofs.run_honest.Goals as goal

pub slice_bounds-y-end : goal.slice_bounds-y-end
slice_bounds-y-end c = output-room c.args.s.now c.args.z c.requires.0 _ c.oct-size.ensures

pub slice_bounds-run_held-end : goal.slice_bounds-run_held-end
slice_bounds-run_held-end c = sym (output-size c.args.s.now c.args.z c.requires.0 _ c.oct-size.ensures)

pub run_held-requires : goal.run_held-requires
run_held-requires c =
    let p = c.requires in
    (memory-held c.args.s.now _ _ p.0 _ p.1.0, (p.1.1.0, (p.1.1.1, output-size c.args.s.now c.args.z p.0 _ c.oct-size.ensures ∙ c.oct-size.ensures)))

pub returns : goal.returns
returns c = record {
  masked_after = c.run_held.ensures.masked_after;
  memory_after = c.run_held.ensures.memory_after;
}

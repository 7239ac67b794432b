-- `serving::serve_ready` meets its contract.
-- Assumes nothing.
use mathlib.Core.Path.{sym}
use native.Mathlib.Omega.{arith}
use lib.Seq.{length-take-le}
use Rattle.shared.proofs.Entries.{fits-circuit, fits-y, fits-proof}
use Rattle.shared.proofs.Services.{ready-tested, ready-room, ready-header, ready-instance}
use Rattle.serving.proofs.serve_ready.Goals as goal

pub part-s-requires : goal.part-s-requires
part-s-requires c = fits-circuit c.args.buffer.now c.args.job.places c.requires.0.inside

pub part-y-requires : goal.part-y-requires
part-y-requires c = fits-y c.args.buffer.now c.args.job.places c.requires.0.inside

pub part-proof-requires : goal.part-proof-requires
part-proof-requires c = fits-proof c.args.buffer.now c.args.job.places c.requires.0.inside

pub overflow_cast-c : goal.overflow_cast-c
overflow_cast-c c = omega (arith, c.requires.0.ready.tested.sized.few)

pub row_count-r-requires : goal.row_count-r-requires
row_count-r-requires c = c.requires.0.ready.tested.sized.few

pub slice_bounds-serve_tested-end : goal.slice_bounds-serve_tested-end
slice_bounds-serve_tested-end c = omega (arith, c.requires.0.ready.tested.sized.few, c.requires.0.entries)

pub slice_bounds-serve_tested-end-2 : goal.slice_bounds-serve_tested-end-2
slice_bounds-serve_tested-end-2 c = sym (length-take-le c.row_count-r.result c.args.marks.now (omega (arith, c.row_count-r.ensures.1, c.requires.0.nodes)))

pub serve_tested-requires : goal.serve_tested-requires
serve_tested-requires c =
    let x = c.args in
    let t = c.requires.0 in (
      ready-tested x.f x.buffer.now x.job x.table.now x.marks.now t _ _ _ c.part-s.ensures c.part-y.ensures c.part-proof.ensures c.row_count-r.result c.row_count-r.ensures.0,
      (
        ready-room x.f x.buffer.now x.job x.table.now x.marks.now t _ _ _ c.part-s.ensures c.part-y.ensures c.part-proof.ensures _ c.requires.1,
        ready-header x.f x.buffer.now x.job x.table.now x.marks.now t _ _ _ c.part-s.ensures c.part-y.ensures c.part-proof.ensures,
      ),
    )

pub returns : goal.returns
returns c =
    let x = c.args in
    ready-instance x.f x.buffer.now x.job x.table.now x.marks.now c.requires.0 _ _ _ c.part-s.ensures c.part-y.ensures c.part-proof.ensures _ c.serve_tested.ensures

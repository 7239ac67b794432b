-- `one_of::records::old_record` meets its contract.
-- Assumes nothing.
use Rattle.one_of.proofs.Coded.{old-same}
use Rattle.one_of.proofs.records.old_record.Goals as goal

pub returns : goal.returns
returns c =
    let x = c in
    old-same x.args.s.now x.args.z.outputs x.args.k _ _ x.requires.0.outputs c.field-kind.ensures c.field-a.ensures c.field-b.ensures c.field.ensures c.relinked-next.ensures

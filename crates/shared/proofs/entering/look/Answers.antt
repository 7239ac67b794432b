-- `shared::entering::look` meets its contract.
-- Assumes nothing.
use mathlib.Core.Path.{refl}
use Rattle.std.proofs.lemmas.Result.{err_from_is_err_and}
use Rattle.mpc.proofs.Opened.{opened, opened-legal, opened-refused}
use Rattle.shared.proofs.Entries.{fits-circuit, fits-y, fits-message, fits-proof, number_small, look-read, look-told}
use Rattle.shared.proofs.entering.look.Goals as goal

pub part-s-requires : goal.part-s-requires
part-s-requires c = fits-circuit c.args.buffer.now c.args.p c.requires.0

pub part-y-requires : goal.part-y-requires
part-y-requires c = fits-y c.args.buffer.now c.args.p c.requires.0

pub part-message-requires : goal.part-message-requires
part-message-requires c = fits-message c.args.buffer.now c.args.p c.requires.0

pub part-proof-requires : goal.part-proof-requires
part-proof-requires c = fits-proof c.args.buffer.now c.args.p c.requires.0

pub test_lent-requires : goal.test_lent-requires
test_lent-requires c =
    (opened-legal _ _ _ c.in_ok-z.was c.read.ensures, (opened _ _ _ c.in_ok-z.was c.read.ensures, (c.requires.1.0, c.requires.1.1)))

pub returns-in_err-z : goal.returns-in_err-z
returns-in_err-z c =
    let x = c.args in
    let p = err_from_is_err_and c.from_residual.result c.from_residual.ensures.1 in record {
      result_value = rw (p.1, p.2) (look-read x.buffer.now x.p c.requires.0 _ _ _ _ c.part-s.ensures c.part-y.ensures c.part-message.ensures c.part-proof.ensures _ _ _ refl (opened-refused _ _ _ c.in_err-z.was c.read.ensures));
      looking = rw (p.1, p.2) (number_small _ _ refl);
    }

pub returns : goal.returns
returns c =
    let x = c.args in
    let l = opened-legal _ _ _ c.in_ok-z.was c.read.ensures in
    let t = c.test_lent in
    let o = look-told x.buffer.now x.p c.requires.0 _ _ _ _ c.part-s.ensures c.part-y.ensures c.part-message.ensures c.part-proof.ensures l t.result t.ensures.result_value _ _ _ t.ensures.took in
    record { result_value = o.0; looking = o.1 }

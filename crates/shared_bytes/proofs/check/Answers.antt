-- `shared_bytes::check` meets its contract.
-- Assumes nothing.
use Rattle.std.proofs.lemmas.Result.{err_from_is_err_and}
use Rattle.shared_bytes.proofs.Operations.{call-refused, call-done}
use Rattle.shared_bytes.proofs.check.Goals as goal

pub returns-in_err-r : goal.returns-in_err-r
returns-in_err-r c =
    let p = err_from_is_err_and c.from_residual.result c.from_residual.ensures.1 in
    rw (p.1, p.2) (call-refused _ _ _ _ _ c.decode-s.result c.decode-s.ensures _ _ c.call.ensures _ c.in_err-r.was)

pub returns : goal.returns
returns c =
    call-done _ _ _ _ _ c.decode-s.result c.decode-s.ensures _ _ c.call.ensures _ _ c.in_ok-r.was c.encode.ensures

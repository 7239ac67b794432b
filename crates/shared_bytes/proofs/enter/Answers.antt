-- `shared_bytes::enter` meets its contract.
-- Assumes nothing.
use Rattle.std.proofs.lemmas.Result.{err_from_is_err_and}
use Rattle.shared_bytes.proofs.Operations.{enter-refused, enter-done}
use Rattle.shared_bytes.proofs.enter.Goals as goal

pub returns-in_err-after : goal.returns-in_err-after
returns-in_err-after c =
    let p = err_from_is_err_and c.from_residual.result c.from_residual.ensures.1 in
    rw (p.1, p.2) (enter-refused _ _ _ _ _ c.decode-s.result c.places_of-p.result c.decode-s.ensures c.places_of-p.ensures _ _ c.enter.ensures _ c.in_err-after.was)

pub returns : goal.returns
returns c =
    enter-done _ _ _ _ _ c.decode-s.result c.places_of-p.result c.decode-s.ensures c.places_of-p.ensures _ _ c.enter.ensures _ _ c.in_ok-after.was c.encode.ensures

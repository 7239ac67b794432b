-- `upgrade::upgrade` meets its contract: by what the old reading answers.
-- Assumes nothing.
use mathlib.Core.Path.{refl, sym, ◌∙◌}
use mathlib.Core.Logic.{inl}
use native.Mathlib.Omega.{arith}
use Rattle.std.proofs.lemmas.Result.{err_from_is_err_and}
use Rattle.upgrade.proofs.Same.{answered-legal, answered-damaged}
use Rattle.upgrade.proofs.upgrade.Goals as goal

pub read_with-requires : goal.read_with-requires
read_with-requires c = (inl refl, omega arith)

pub upgrade_legal-requires : goal.upgrade_legal-requires
upgrade_legal-requires c =
    let x = c.args in
    (answered-legal x.old.now x.out.now _ c.read_with.ensures _ c.in_ok-read_with.was).0

pub returns-in_err-read_with : goal.returns-in_err-read_with
returns-in_err-read_with c =
    let x = c.args in
    let p = err_from_is_err_and c.from_residual.result c.from_residual.ensures.1 in
    rw (p.1, p.2) (answered-damaged x.old.now x.out.now _ c.read_with.ensures _ c.in_err-read_with.was)

pub returns : goal.returns
returns c =
    let x = c.args in
    c.upgrade_legal.ensures
    ∙ sym (answered-legal x.old.now x.out.now _ c.read_with.ensures _ c.in_ok-read_with.was).1

-- `shelf_page::check` meets its contract: the tests of a page, one after the other.
-- Assumes nothing.
use mathlib.Core.Path.{sym, ◌∙◌}
use native.Mathlib.Omega.{arith}
use Rattle.shelf_page.proofs.Soundness.{check-short, check-length, check-low, check-high, check-zero, check-chains, check_sound}
use Rattle.shelf_page.proofs.check.Goals as goal

pub returns-then-page-lt12 : goal.returns-then-page-lt12
returns-then-page-lt12 c = check-short c.args.page.now c.if-page-lt12.true

pub returns-then-page-n : goal.returns-then-page-n
returns-then-page-n c = check-length c.args.page.now _ c.read_u16-size.ensures c.if-page-n.true

pub returns-then-n-lt1 : goal.returns-then-n-lt1
returns-then-n-lt1 c = check-low c.args.page.now _ c.read_u16-size.ensures c.if-n-lt1.true

pub returns-then-n-gt255 : goal.returns-then-n-gt255
returns-then-n-gt255 c = check-high c.args.page.now _ c.read_u16-size.ensures c.if-n-gt255.true

pub returns-then-zero-ne0 : goal.returns-then-zero-ne0
returns-then-zero-ne0 c = check-zero c.args.page.now _ c.read_u16-zero.ensures c.if-zero-ne0.true

pub returns-then-not-chains : goal.returns-then-not-chains
returns-then-not-chains c =
    check-chains c.args.page.now _ _ _ c.read_u16-size.ensures c.read_u16-ready.ensures c.read_u16-spare.ensures
    (sym c.chains.ensures ∙ c.if-not-chains.true)

pub returns : goal.returns
returns c =
    check_sound c.args.page.now _ _ _ c.read_u16-size.ensures c.read_u16-ready.ensures c.read_u16-spare.ensures _ _
    c.if-page-n.false (omega arith) (omega arith) c.read_u16-zero.ensures c.if-zero-ne0.false c.read_u32-draws.ensures
    (sym c.chains.ensures ∙ c.if-not-chains.false)

-- `seeds::statement_fits` meets its contract: one case for each test.
-- Assumes nothing.
use borrow.Author.Tests.{le-leb, lt-leb, eq-eqb, ne_eqb}
use lib.ListN.{length}
use Rattle.seeds.specs.Operations.{statement_fits}
use Rattle.seeds.proofs.statement_fits.Goals as goal

pub returns-then-y-le-MAX_OUTPUT_BYTES : goal.returns-then-y-le-MAX_OUTPUT_BYTES
unfolding statement_fits
returns-then-y-le-MAX_OUTPUT_BYTES c = let x = c.args in rw (eq-eqb (length x.hstar.now) 32 c.if-hstar-eq32.true, eq-eqb (length x.salt.now) 32 c.if-salt-eq32.true, eq-eqb (length x.digest.now) 32 c.if-digest-eq32.true, le-leb 1 (length x.y.now) c.if-y-ge1.true, le-leb (length x.y.now) 32 c.if-y-le-MAX_OUTPUT_BYTES.true)

pub returns-else-y-le-MAX_OUTPUT_BYTES : goal.returns-else-y-le-MAX_OUTPUT_BYTES
unfolding statement_fits
returns-else-y-le-MAX_OUTPUT_BYTES c = let x = c.args in rw (eq-eqb (length x.hstar.now) 32 c.if-hstar-eq32.true, eq-eqb (length x.salt.now) 32 c.if-salt-eq32.true, eq-eqb (length x.digest.now) 32 c.if-digest-eq32.true, le-leb 1 (length x.y.now) c.if-y-ge1.true, lt-leb (length x.y.now) 32 c.if-y-le-MAX_OUTPUT_BYTES.false)

pub returns-else-y-ge1 : goal.returns-else-y-ge1
unfolding statement_fits
returns-else-y-ge1 c = let x = c.args in rw (eq-eqb (length x.hstar.now) 32 c.if-hstar-eq32.true, eq-eqb (length x.salt.now) 32 c.if-salt-eq32.true, eq-eqb (length x.digest.now) 32 c.if-digest-eq32.true, lt-leb 1 (length x.y.now) c.if-y-ge1.false)

pub returns-else-digest-eq32 : goal.returns-else-digest-eq32
unfolding statement_fits
returns-else-digest-eq32 c = let x = c.args in rw (eq-eqb (length x.hstar.now) 32 c.if-hstar-eq32.true, eq-eqb (length x.salt.now) 32 c.if-salt-eq32.true, ne_eqb (length x.digest.now) 32 c.if-digest-eq32.false)

pub returns-else-salt-eq32 : goal.returns-else-salt-eq32
unfolding statement_fits
returns-else-salt-eq32 c = let x = c.args in rw (eq-eqb (length x.hstar.now) 32 c.if-hstar-eq32.true, ne_eqb (length x.salt.now) 32 c.if-salt-eq32.false)

pub returns-else-hstar-eq32 : goal.returns-else-hstar-eq32
unfolding statement_fits
returns-else-hstar-eq32 c = let x = c.args in rw (ne_eqb (length x.hstar.now) 32 c.if-hstar-eq32.false)

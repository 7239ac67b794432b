-- `evaluation::evaluate_lent` meets its contract.
-- Assumes nothing.
use mathlib.Core.Path.{sym, ◌∙◌}
use Rattle.circuit.proofs.Outcomes.{refuse-witness, refuse-output, refuse-unused, done}
use Rattle.evaluation.proofs.evaluate_lent.Goals as goal

pub returns-then-witness-oct : goal.returns-then-witness-oct
returns-then-witness-oct c = refuse-witness _ _ _ _ c.requires _ _ _ c.oct.ensures c.if-witness-oct.true

pub returns-then-y-oct : goal.returns-then-y-oct
returns-then-y-oct c = refuse-output _ _ _ _ c.requires _ _ _ _ c.oct.ensures c.if-witness-oct.false c.oct-2.ensures c.if-y-oct.true

pub returns-then-not-unused_zero : goal.returns-then-not-unused_zero
returns-then-not-unused_zero c =
    refuse-unused _ _ _ _ c.requires _ _ _ _ _ c.oct.ensures c.if-witness-oct.false c.oct-2.ensures c.if-y-oct.false
    c.unused_zero.ensures c.if-not-unused_zero.true-raw

pub evaluate_legal-requires : goal.evaluate_legal-requires
evaluate_legal-requires c = (
  c.requires,
  record {
    witness = c.if-witness-oct.false ∙ c.oct.ensures;
    unused = sym c.unused_zero.ensures ∙ c.if-not-unused_zero.false;
    output = c.if-y-oct.false ∙ c.oct-2.ensures;
  },
)

pub returns : goal.returns
returns c =
    done _ _ _ _ c.requires _ _ _ _ _ _ c.oct.ensures c.if-witness-oct.false c.oct-2.ensures c.if-y-oct.false
    c.unused_zero.ensures c.if-not-unused_zero.false-raw c.evaluate_legal.ensures

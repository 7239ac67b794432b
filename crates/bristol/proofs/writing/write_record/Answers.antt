-- `bristol::writing::write_record` meets its contract: in each arm the gate is that arm's.
-- Assumes nothing.
use mathlib.Core.Path.{refl, ◌∙◌}
use Rattle.bristol_lines.specs.Conversion.{record_of}
use Rattle.bristol.proofs.writing.write_record.Goals as goal

pub returns-in-Xor : goal.returns-in-Xor
unfolding record_of
returns-in-Xor c =
    c.write_fields.ensures
    ∙ rw (c.output_wire.ensures, c.in-Xor.is) refl

pub returns-in-And : goal.returns-in-And
unfolding record_of
returns-in-And c =
    c.write_fields-in-And.ensures
    ∙ rw (c.output_wire.ensures, c.in-And.is) refl

pub returns-in-Inv : goal.returns-in-Inv
unfolding record_of
returns-in-Inv c =
    c.write_fields-in-Inv.ensures
    ∙ rw (c.output_wire.ensures, c.in-Inv.is) refl

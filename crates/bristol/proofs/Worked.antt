-- The worked cases: antt computes them.
-- Assumes nothing.
use mathlib.Core.Path.{refl}
use Rattle.bits.specs.Bytes.{le_at, le_bytes, same_bytes}
use Rattle.circuit.specs.Circuit as paper
use Rattle.circuit.specs.Chain.{walk_from}
use Rattle.circuit.specs.Fields as file
use Rattle.building.specs.Files.{among, laid, bytes_of, file_of}
use Rattle.bristol_lines.specs.Conversion.{as_gate, as_circuit, slot_of, first_slot, record_of, record_for, parts_of, text_file}
use Rattle.bristol_text.specs.Text.{on_first, pieces, all_but_last, the_last, as_lines, not_empty, lines, tokens, is_digit, all_digits, is_number, value_after, value_of, all_numbers, sum}
use Rattle.bristol_lines.specs.Rules.{wire_to, values_after, last_wire, output_wires, meaning, is_header, numbers_on, is_counts, is_groups, group_sum, kind_named, kind_on, is_known, begins, gate_named, gate_on, writes, written, readable, writable, fits_below, gate_else22, gate_lines, output_line, input_line, count_line, read_text}
use Rattle.bristol.specs.Cases.{Cases}

pub cases : Cases
unfolding le_at le_bytes among laid bytes_of file_of as_gate as_circuit slot_of first_slot record_of record_for parts_of text_file file.within_limits file.right_length file.good_record file.good_records walk_from file.link_of file.chain_walk file.on_walk file.chain_from file.gate_at file.gates_in_order file.reads_written file.good_outputs file.good_wires file.circuit_of file.read_with file.read_fields file.field paper.put same_bytes on_first pieces all_but_last the_last as_lines not_empty lines tokens is_digit all_digits is_number value_after value_of all_numbers sum wire_to values_after last_wire output_wires meaning is_header numbers_on is_counts is_groups group_sum kind_named kind_on is_known begins gate_named gate_on writes written readable writable fits_below gate_else22 gate_lines output_line input_line count_line read_text
cases = record {
  one_gate = refl;
  gives_one = refl;
  gives_zero = refl;
  converted = refl;
  leading_zero = refl;
  two_spaces = refl;
  no_end = refl;
  early = refl;
  too_many = refl;
  empty = refl;
  reads_itself = refl;
  wires_first = refl;
  kind_first = refl;
  gates_above = refl;
}

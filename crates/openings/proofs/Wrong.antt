-- The case of wrong corrections: antt computes it.
-- Assumes nothing.
use mathlib.Core.Path.{refl}
use mathlib.Core.List.{flatten}
use Rattle.bits.specs.Bits.{odd, test_bit, from_bits, bit_at, pack, none, unused_zero}
use Rattle.bits.specs.Bytes.{le_at, same_bytes, row_of}
use Rattle.bits.specs.Xor.{xors}
use Rattle.parties.specs.Parties.{height_of, is_party_count}
use Rattle.circuit.specs.Circuit.{put, ands, eval_gates, evaluate}
use Rattle.circuit.specs.Chain.{walk_from}
use Rattle.circuit.specs.Fields as fields
use Rattle.circuit.specs.File.{on_walk, reads_written}
use Rattle.circuit.specs.Operations.{evaluate_legal, evaluate_op}
use Rattle.plain.specs.Run.{corrections, corrected, broadcast, outputs, run}
use Rattle.plain.specs.Tapes.{input_masks, output_masks, product_shares, used_bits, unused_rows, with_row}
use Rattle.plain.specs.Showing.{correction_bits, run_with, row_bits, rows_of, replay_of}
use Rattle.mpc.specs.Operations.{prepare_legal, prepare_op, holds_showing, unused_showing, replay_legal, replay_op}
use Rattle.openings.specs.Openings.{opening, unmasked, WrongCorrections}

pub wrong-corrections : WrongCorrections
unfolding flatten odd test_bit from_bits bit_at pack none unused_zero le_at fields.field same_bytes row_of xors height_of is_party_count put ands eval_gates evaluate fields.within_limits fields.right_length fields.good_record fields.good_records walk_from fields.link_of fields.chain_walk on_walk fields.chain_from fields.gate_at fields.gates_in_order reads_written fields.good_outputs fields.good_wires fields.circuit_of fields.read_with fields.read_fields evaluate_legal evaluate_op corrections corrected broadcast outputs run input_masks output_masks product_shares used_bits unused_rows with_row correction_bits run_with row_bits rows_of replay_of prepare_legal prepare_op holds_showing unused_showing replay_legal replay_op opening unmasked
wrong-corrections = record { reads = refl; right = refl; first = refl; second = refl; bytes = refl; gives = refl }

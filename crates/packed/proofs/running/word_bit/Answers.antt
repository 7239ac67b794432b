-- `packed::running::word_bit` meets its contract.
-- Assumes nothing.
use Rattle.bits.proofs.Numbers.{bit-at}
use Rattle.packed.proofs.running.word_bit.Goals as goal

pub returns : goal.returns
returns c = bit-at _ _

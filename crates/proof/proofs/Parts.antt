-- The parts of a stretch, read back from it.
-- Assumes nothing.
use mathlib.Core.Path.{◌≡◌, refl, ap, ◌∙◌}
use mathlib.Core.Bool.{Bool, true, false, cond}
use mathlib.Core.List.{List, [], ◌++◌, append_assoc}
use Prim.Native.Nat.{ℕ, suc, ◌+◌, ◌*◌}
use native.Mathlib.Omega.{arith}
use lib.Dec.{eqb}
use lib.ListN.{length, length-append}
use lib.Seq.{take_at, drop_at}
use Rattle.hashing.specs.declared.Context.{Context}
use Rattle.bits.specs.Bits.{oct, pack}
use Rattle.bits.proofs.Packing.{length-pack}
use Rattle.bits.proofs.Tabulate.{length-tabulate}
use Rattle.keccak.proofs.Lengths.{length-sha3-256}
use Rattle.parties.specs.Parties.{height_of}
use Rattle.circuit.specs.Circuit.{Circuit}
use Rattle.plain.specs.Tapes.{ands_of}
use Rattle.plain.specs.Showing.{correction_bits, masked_inputs, row_bits}
use Rattle.plain.proofs.Lengths.{length-corrections, length-honest}
use Rattle.tree.specs.Tree.{siblings_below}
use Rattle.party.specs.Derive.{commitment_of}
use Rattle.tree.proofs.Lengths.{length-siblings}
use Rattle.instance.specs.Instance.{Asked, opened, hiding, online_digest, master_seeds, master_tapes, master_corrections, master_run, master_masked, master_online, sent_corrections, stretch_of}
use Rattle.instance.specs.Stretch.{correction_bytes, stretch_bytes, siblings_part, corrections_part, commitment_part, masked_part, row_part}
use Rattle.proof.proofs.Places.{middle}

-- five strings one after the other, of the lengths of a chosen instance's parts
module _ (c : Circuit) (n p : ℕ) (siblings corrections committed masked row : List ℕ) (size-1 : length siblings ≡ 16 * height_of n)
    (size-2 : length corrections ≡ correction_bytes c n p) (size-3 : length committed ≡ 32) (size-4 : length masked ≡ oct c.inputs) where
  abbrev five : List ℕ
  five = siblings ++ corrections ++ committed ++ masked ++ row

  -- in order
  five-parts : five ≡ siblings ++ (corrections ++ (committed ++ (masked ++ row)))
  five-parts = simp append_assoc

  -- where the third, the fourth and the last begin
  length_two : length (siblings ++ corrections) ≡ 16 * height_of n + correction_bytes c n p
  length_two = length-append siblings corrections ∙ omega (arith, size-1, size-2)

  length_three : length ((siblings ++ corrections) ++ committed) ≡ 16 * height_of n + correction_bytes c n p + 32
  length_three = length-append (siblings ++ corrections) committed ∙ omega (arith, length_two, size-3)

  length-four : length (((siblings ++ corrections) ++ committed) ++ masked) ≡ 16 * height_of n + correction_bytes c n p + 32 + oct c.inputs
  length-four = length-append ((siblings ++ corrections) ++ committed) masked ∙ omega (arith, length_three, size-4)

  -- where the last one ends
  pub length-five : length row ≡ oct (ands_of c + length c.outputs) → length five ≡ stretch_bytes c n (hiding p)
  unfolding stretch_bytes
  length-five size-5 = length-append (((siblings ++ corrections) ++ committed) ++ masked) row ∙ omega (arith, length-four, size-5)

  -- each of them is read back
  pub first_back : siblings_part n five ≡ siblings
  unfolding siblings_part
  first_back = rw five-parts (take_at siblings _ (16 * height_of n) size-1)

  pub second_back : corrections_part c n p five ≡ corrections
  unfolding corrections_part
  second_back = rw five-parts (middle siblings corrections _ (16 * height_of n) (correction_bytes c n p) size-1 size-2)

  pub third_back : commitment_part c n p five ≡ committed
  unfolding commitment_part
  third_back =
      rw (five-parts, ← append_assoc siblings corrections)
      (middle (siblings ++ corrections) committed _ (16 * height_of n + correction_bytes c n p) 32 length_two size-3)

  pub fourth-back : masked_part c n p five ≡ masked
  unfolding masked_part
  fourth-back =
      rw (five-parts, ← append_assoc siblings corrections, ← append_assoc (siblings ++ corrections) committed)
      (middle ((siblings ++ corrections) ++ committed) masked _ (16 * height_of n + correction_bytes c n p + 32) (oct c.inputs) length_three size-4)

  pub last-back : row_part c n p five ≡ row
  unfolding row_part
  last-back = drop_at (((siblings ++ corrections) ++ committed) ++ masked) row (16 * height_of n + correction_bytes c n p + 32 + oct c.inputs) length-four

-- instance j of the protocol by n parties, from a master
module _ (c : Circuit) (n : ℕ) (j : Context) (witness master : List ℕ) where
  -- a digest has 32 bytes
  pub length-online : length (master_online c n j witness master) ≡ 32
  unfolding master_online online_digest
  length-online = length-sha3-256 _

  -- so has a commitment
  length-commitment : (p : ℕ) → length (commitment_of j n p (master_seeds n j master) (master_corrections c n j master)) ≡ 32
  unfolding commitment_of
  length-commitment p = length-sha3-256 _

  -- a correction for each AND gate
  pub length-bits : length (correction_bits c n (master_tapes c n j master)) ≡ ands_of c
  unfolding correction_bits
  length-bits = length-corrections n c.gates _ _ _

  -- the corrections that are sent
  length-sent : (p : ℕ) → length (sent_corrections n p (master_corrections c n j master)) ≡ correction_bytes c n p
  unfolding sent_corrections correction_bytes master_corrections
  length-sent p = go (eqb (suc p) n)
    where
      go : (b : Bool) → length (cond b [] (pack (correction_bits c n (master_tapes c n j master)))) ≡ cond b 0 (oct (ands_of c))
      go true = refl
      go false = length-pack _ ∙ ap oct length-bits

  -- a bit for each input
  length-masked : length (master_masked c n j witness master) ≡ oct c.inputs
  unfolding master_masked masked_inputs
  length-masked = length-pack _ ∙ ap oct (length-tabulate c.inputs _)

  -- a bit for each AND gate and each output
  pub length-row_bits : (p : ℕ) → length (row_bits (master_run c n j witness master) p) ≡ ands_of c + length c.outputs
  unfolding master_run
  length-row_bits p = length-honest c n p witness (master_tapes c n j master)

  -- an instance that is not chosen: h'_j
  length-shut : length (stretch_of c n j witness master opened) ≡ 32
  unfolding stretch_of
  length-shut = length-online

  -- a chosen one, with p hidden
  module _ (p : ℕ) where
    -- its five parts
    abbrev siblings : List ℕ
    siblings = siblings_below j (height_of n) 1 p master

    abbrev sent : List ℕ
    sent = sent_corrections n p (master_corrections c n j master)

    abbrev committed : List ℕ
    committed = commitment_of j n p (master_seeds n j master) (master_corrections c n j master)

    abbrev masked : List ℕ
    masked = master_masked c n j witness master

    abbrev row : List ℕ
    row = pack (row_bits (master_run c n j witness master) p)

    abbrev part : List ℕ
    part = stretch_of c n j witness master (hiding p)

    -- the lengths of the first four
    length-siblings-sent : length siblings ≡ 16 * height_of n
    length-siblings-sent = length-siblings j (height_of n) 1 p master

    -- where the last one ends
    length-chosen : length part ≡ stretch_bytes c n (hiding p)
    unfolding stretch_of
    length-chosen =
        length-five c n p siblings sent committed masked row length-siblings-sent (length-sent p) (length-commitment p) length-masked
        (length-pack (row_bits (master_run c n j witness master) p) ∙ ap oct (length-row_bits p))

    -- each of them is read back
    pub siblings-back : siblings_part n part ≡ siblings
    unfolding stretch_of
    siblings-back = first_back c n p siblings sent committed masked row length-siblings-sent (length-sent p) (length-commitment p) length-masked

    pub corrections-back : corrections_part c n p part ≡ sent
    unfolding stretch_of
    corrections-back = second_back c n p siblings sent committed masked row length-siblings-sent (length-sent p) (length-commitment p) length-masked

    pub commitment-back : commitment_part c n p part ≡ committed
    unfolding stretch_of
    commitment-back = third_back c n p siblings sent committed masked row length-siblings-sent (length-sent p) (length-commitment p) length-masked

    pub masked-back : masked_part c n p part ≡ masked
    unfolding stretch_of
    masked-back = fourth-back c n p siblings sent committed masked row length-siblings-sent (length-sent p) (length-commitment p) length-masked

    pub row_back : row_part c n p part ≡ row
    unfolding stretch_of
    row_back = last-back c n p siblings sent committed masked row length-siblings-sent (length-sent p) (length-commitment p) length-masked

  -- the stretch has the bytes that are asked
  pub length-stretch : (a : Asked) → length (stretch_of c n j witness master a) ≡ stretch_bytes c n a
  unfolding stretch_bytes
  length-stretch opened = length-shut
  length-stretch (hiding p) = length-chosen p

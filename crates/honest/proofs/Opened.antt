-- A chosen instance, opened: what check derives from its stretch is what the prover had, party p apart.
-- Assumes nothing.
use mathlib.Core.Path.{◌≡◌, refl, sym, ap, ap₂, ◌∙◌}
use mathlib.Core.Bool.{Bool, true, false, cond}
use mathlib.Core.List.{List, [], flatten}
use mathlib.Core.Logic.{◌≢◌, ⊎_elim}
use Prim.Native.Nat.{ℕ, suc, ◌+◌, ◌*◌, ◌^◌, ◌<◌}
use native.Mathlib.Omega.{arith}
use borrow.Author.Tests.{eq-eqb, ne_eqb, eqb-true, eqb-false}
use lib.Dec.{eqb}
use lib.ListN.{length, take, replicate, length-replicate}
use Rattle.hashing.specs.declared.Context.{Context}
use Rattle.bits.specs.Bits.{tabulate, oct, pack, bit_at, unused_zero}
use Rattle.bits.specs.Bytes.{row_of}
use Rattle.bits.proofs.Numbers.{eq-or-ne}
use Rattle.bits.proofs.Packing.{all-unused, unused-pack}
use Rattle.bits.proofs.Tabulate.{tabulate-cong, length-tabulate}
use Rattle.parties.specs.Parties.{height_of}
use Rattle.parties.proofs.Counts.{height-pow}
use Rattle.circuit.specs.Circuit.{Circuit, evaluate}
use Rattle.plain.specs.Tapes.{ands_of, row_bytes, tape_row, used_bits}
use Rattle.plain.specs.Showing.{correction_bits, masked_input, masked_inputs, row_bits, rows_of, hidden, Showing, showing, replay_of}
use Rattle.hiding.specs.Hiding.{Tapes, Witness}
use Rattle.hiding.proofs.Rows.{length-with_row, row_here, row_other}
use Rattle.hiding.proofs.Shown.{row-all}
use Rattle.hiding.proofs.RunLaws.{run-evaluates}
use Rattle.hiding.proofs.Replay.{replay-runs}
use Rattle.hashing.specs.Inputs.{own_corrections, commitment_input}
use Rattle.tree.specs.Tree.{leaves_below}
use Rattle.party.specs.Derive.{seed_row, commitment_of}
use Rattle.party.specs.Derive as derive
use Rattle.tree.proofs.Opening.{opening-rows}
use Rattle.instance.specs.Instance.{hiding, leaves_of, tapes_of, commitments_digest, online_digest, commitments_of, master_seeds, master_tapes, master_corrections, master_commitments, master_run, master_masked, master_online, sent_corrections, stretch_of}
use Rattle.instance.specs.Stretch.{corrections_part, commitment_part, masked_part, row_part}
use Rattle.instance.specs.Opened.{opened_seeds, opened_commitments, opened_showing, opened_run, stretch_unused}
use Rattle.proof.proofs.Passing.{and-true}
use Rattle.proof.proofs.Places.{ext-rows}
use Rattle.proof.proofs.Parts.{length-bits, length-row_bits, siblings-back, corrections-back, commitment-back, masked-back, row_back}
use Rattle.honest.proofs.Derived.{seeds-row, but-row, length-tapes, tapes-row, tapes-made}

-- the tapes with row p all zero do not depend on row p
pub hidden-same : (c : Circuit) (n p : ℕ) → p < n → (a b : List ℕ) → length a ≡ n * row_bytes c → length b ≡ n * row_bytes c
    → ((i : ℕ) → i < n → i ≢ p → tape_row c a i ≡ tape_row c b i) → hidden c p a ≡ hidden c p b
hidden-same c n p l a b la lb h =
    let z : List ℕ = replicate (row_bytes c) 0 in
    let lz : length z ≡ row_bytes c = length-replicate (row_bytes c) 0 in
    ext-rows n (row_bytes c) (hidden c p a) (hidden c p b) (length-with_row c n p l a la z lz ∙ la) (length-with_row c n p l b lb z lz ∙ lb)
    (λ i m.
    ⊎_elim
    (λ e. rw e (row_here c n p l a la z lz ∙ sym (row_here c n p l b lb z lz)))
    (λ e. row_other c n p l a la z lz i e ∙ (h i m e ∙ sym (row_other c n p l b lb z lz i e)))
    (eq-or-ne i p))

-- a commitment depends on the party's row of seeds, and on its own corrections
pub commitment-same : (j : Context) (n i : ℕ) (rows rows' cs cs' : List ℕ) → row_of rows 32 i ≡ row_of rows' 32 i → own_corrections n i cs ≡ own_corrections n i cs'
    → commitment_of j n i rows cs ≡ commitment_of j n i rows' cs'
unfolding commitment_of commitment_input
commitment-same j n i rows rows' cs cs' e f = rw (e, f)

-- instance j of n parties with p hidden
module _ (c : Circuit) (n : ℕ) (j : Context) (p : ℕ) (count : height_of n ≡ 0 → ⊥) (l : p < n) (witness master : List ℕ) (size : length master ≡ 16) where
  -- its stretch
  abbrev part : List ℕ
  part = stretch_of c n j witness master (hiding p)

  -- the parties' tapes
  made : Tapes c n (master_tapes c n j master)
  unfolding master_tapes
  made = tapes-made c n j (master_seeds n j master)

  -- the other parties' seeds
  seeds-back : (i : ℕ) → i < n → i ≢ p → row_of (opened_seeds n j p part) 32 i ≡ row_of (master_seeds n j master) 32 i
  unfolding opened_seeds master_seeds leaves_of
  seeds-back i h m =
      let e : 2 ^ height_of n ≡ n = height-pow n count in
      rw (siblings-back c n j witness master p)
      (but-row n p j _ i h m
      ∙ (ap (seed_row j i) (opening-rows j (height_of n) 1 p i master size (omega arith) (omega arith) m)
      ∙ sym (seeds-row n j (leaves_below j (height_of n) 1 master) i h)))

  -- and their tapes
  tapes-back : hidden c p (tapes_of c n j (opened_seeds n j p part)) ≡ hidden c p (master_tapes c n j master)
  unfolding master_tapes
  tapes-back =
      hidden-same c n p l _ _ (length-tapes c n j _) (length-tapes c n j _)
      (λ i h m.
      tapes-row c n j (opened_seeds n j p part) i h
      ∙ (ap (λ (r : List ℕ). derive.tape_row j i (take 16 r) (used_bits c n i) (row_bytes c)) (seeds-back i h m)
      ∙ sym (tapes-row c n j (master_seeds n j master) i h)))

  -- the corrections, unless p is the last party
  corrections-sent : suc p ≢ n → corrections_part c n p part ≡ master_corrections c n j master
  unfolding sent_corrections
  corrections-sent m = corrections-back c n j witness master p ∙ rw (ne_eqb (suc p) n m)

  -- another party that commits to corrections commits to those
  own_back : (i : ℕ) → i ≢ p → own_corrections n i (corrections_part c n p part) ≡ own_corrections n i (master_corrections c n j master)
  unfolding own_corrections
  own_back i m = go (eqb (i + 1) n) refl
    where
      go : (b : Bool) → eqb (i + 1) n ≡ b → cond b (corrections_part c n p part) [] ≡ cond b (master_corrections c n j master) []
      go true e = corrections-sent (λ q. m (omega (arith, eqb-true (i + 1) n e)))
      go false e = refl

  -- all commitments
  commitments-back : opened_commitments c n j p part ≡ commitments_of n j (master_seeds n j master) (master_corrections c n j master)
  unfolding opened_commitments commitments_of
  commitments-back =
      let seeds : List ℕ = opened_seeds n j p part in
      let sent : List ℕ = corrections_part c n p part in
      ap flatten
      (tabulate-cong n (λ i. cond (eqb i p) (commitment_part c n p part) (commitment_of j n i seeds sent))
      (λ i. commitment_of j n i (master_seeds n j master) (master_corrections c n j master))
      (λ i h.
      ⊎_elim
      (λ e. rw (eq-eqb i p e, e) (commitment-back c n j witness master p))
      (λ m. rw (ne_eqb i p m) (commitment-same j n i _ _ _ _ (seeds-back i h m) (own_back i m)))
      (eq-or-ne i p)))

  -- the corrections shown
  corrections-shown : cond (eqb (suc p) n) (replicate (oct (ands_of c)) 0) (corrections_part c n p part)
      ≡ cond (eqb (suc p) n) (replicate (oct (ands_of c)) 0) (pack (correction_bits c n (master_tapes c n j master)))
  unfolding master_corrections
  corrections-shown = go (eqb (suc p) n) refl
    where
      go : (b : Bool) → eqb (suc p) n ≡ b
          → cond b (replicate (oct (ands_of c)) 0) (corrections_part c n p part)
          ≡ cond b (replicate (oct (ands_of c)) 0) (pack (correction_bits c n (master_tapes c n j master)))
      go true e = refl
      go false e = corrections-sent (eqb-false (suc p) n e)

  -- the masked inputs shown
  masked-shown : masked_part c n p part ≡ masked_inputs c n witness (master_tapes c n j master)
  unfolding master_masked
  masked-shown = masked-back c n j witness master p

  -- the row shown
  row-shown : row_part c n p part ≡ (showing c n p (length c.gates) witness (master_tapes c n j master)).row
  unfolding master_run showing
  row-shown = row_back c n j witness master p ∙ ap pack (sym (row-all c n p witness (master_tapes c n j master)))

  -- what is shown is the whole showing
  pub showing-back : opened_showing c n j p part ≡ showing c n p (length c.gates) witness (master_tapes c n j master)
  unfolding opened_showing showing
  showing-back = λ k. record { tapes = tapes-back k; corrections = corrections-shown k; masked_inputs = masked-shown k; row = row-shown k }

  -- unused bits of the corrections sent
  corrections-unused : unused_zero (ands_of c) (corrections_part c n p part) ≡ true
  unfolding sent_corrections master_corrections
  corrections-unused = rw (corrections-back c n j witness master p) (go (eqb (suc p) n))
    where
      go : (b : Bool) → unused_zero (ands_of c) (cond b [] (pack (correction_bits c n (master_tapes c n j master)))) ≡ true
      go true = all-unused (ands_of c) [] (λ i h m. absurd (omega arith))
      go false = rw (← length-bits c n j witness master) (unused-pack (correction_bits c n (master_tapes c n j master)))

  -- and of the masked inputs
  masked-unused : unused_zero c.inputs (masked_part c n p part) ≡ true
  unfolding masked_inputs
  masked-unused =
      let f : ℕ → Bool = masked_input c n witness (master_tapes c n j master) in
      rw masked-shown (ap (λ (k : ℕ). unused_zero k (pack (tabulate c.inputs f))) (sym (length-tabulate c.inputs f)) ∙ unused-pack (tabulate c.inputs f))

  -- its unused bits are zero
  pub unused-back : stretch_unused c n part (hiding p) ≡ true
  unfolding stretch_unused
  unused-back =
      and-true _ _ corrections-unused
      (and-true _ _
      masked-unused
      (rw (row_back c n j witness master p, ← length-row_bits c n j witness master p) (unused-pack (row_bits (master_run c n j witness master) p))))

  -- h_j
  pub opened-commitments : commitments_digest j.number (opened_commitments c n j p part) ≡ master_commitments c n j master
  unfolding master_commitments
  opened-commitments = ap (commitments_digest j.number) commitments-back

  -- a witness
  module _ (hw : Witness c witness) where
    -- h'_j
    pub opened-online : online_digest j.number (masked_part c n p part) (rows_of n (opened_run c n j p part)) ≡ master_online c n j witness master
    unfolding master_online opened_run master_masked master_run
    opened-online =
        ap₂ (online_digest j.number) masked-shown
        (ap (λ (x : Showing). rows_of n (replay_of c n p x)) showing-back ∙ replay-runs.rows c n p l (master_tapes c n j master) witness made hw)

    -- the output
    pub opened-output : (opened_run c n j p part).output ≡ evaluate c (bit_at witness)
    unfolding opened_run
    opened-output =
        ap (λ (x : Showing). (replay_of c n p x).output) showing-back
        ∙ (replay-runs.output c n p l (master_tapes c n j master) witness made hw
        ∙ run-evaluates c n (omega arith) (master_tapes c n j master) witness)

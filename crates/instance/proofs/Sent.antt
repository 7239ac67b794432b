-- What an instance's digests and stretch are made of: seeds, tapes and corrections in the work memory, and the run on them.
-- Assumes nothing.
use mathlib.Core.Path.{◌≡◌, sym, ap, ap₂, ◌∙◌}
use mathlib.Core.Bool.{true, cond, ◌&&◌}
use mathlib.Core.List.{List, ◌++◌, flatten}
use Prim.Native.Nat.{ℕ, ◌+◌, ◌-◌, ◌*◌, ◌≤◌}
use native.Mathlib.Omega.{arith}
use lib.Dec.{eqb, ltb}
use lib.ListN.{length, take, drop, replicate, length-replicate}
use lib.Seq.{sets, length-take-le, take_at, length_front}
use Rattle.hashing.specs.declared.Context.{Context}
use Rattle.bits.specs.Bits.{tabulate, oct, pack}
use Rattle.bits.specs.Bytes.{row_of}
use Rattle.bits.proofs.Copies.{prefix-length}
use Rattle.circuit.specs.File.{circuit_of}
use Rattle.circuit.specs.declared.Sizes.{Sizes}
use Rattle.masks.specs.Steps.{rows_from, worked, corrections_of}
use Rattle.masks.proofs.Kept.{left-corrections}
use Rattle.packing.proofs.Prepared.{corrections-prepared}
use Rattle.planes.specs.Steps.{corrections_at, rows_at, seeds_at, seeds_end}
use Rattle.planes.specs.declared.Layout.{Layout}
use Rattle.walk.specs.Steps.{layout_of}
use Rattle.plain.specs.Showing as shown
use Rattle.plain.specs.Run.{Transcript}
use Rattle.plain.specs.Tapes.{unused_rows}
use Rattle.plain.specs.Showing.{correction_bits, honest_run, row_bits, rows_of}
use Rattle.packed.specs.Steps.{tapes_held, corrections_held, broadcast_bytes, sent_bit, rows_sent}
use Rattle.correcting.specs.Steps.{ran_memory}
use Rattle.correcting.proofs.Ran.{rows-ran, row-ran}
use Rattle.mpc.specs.Steps.{Known}
use Rattle.keccak.specs.declared.sponge.Sponge.{Sponge}
use Rattle.keccak.specs.Steps.{absorbs}
use Rattle.hashing.specs.Digest.{given}
use Rattle.party.specs.Derive.{commitment_to, commitment_of}
use Rattle.instance.specs.Instance.{tapes_of, commitments_digest, online_digest, commitments_of, master_seeds, master_tapes, master_corrections, master_commitments, master_run, master_masked, master_online}
use Rattle.instance.specs.Steps.{Lent, seeds_held, FirstTaken, row_sent, Ran}
use Rattle.instance.proofs.Trees.{tree-parties}
use Rattle.instance.proofs.Tapes.{tapes-unused}
use Rattle.instance.proofs.Rooms.{lent-masks, lent-held}
use Rattle.instance.proofs.Committed.{commitments-joined}

-- the corrections are made in a memory m that holds an instance's seeds and tapes, in the places that the code has
module _ (s : List ℕ) (z : Sizes) (n h : ℕ) (m : List ℕ) (lent : Lent s z n h m) (l : Layout) (e : l ≡ layout_of z) (rows at : ℕ) (er : rows ≡ rows_at l)
    (ea : at ≡ corrections_at l) (w : List ℕ)
    (q : w ≡ sets (worked s z n (rows_from z n rows m) m) at (corrections_of s z n (rows_from z n rows m))) where
  here : rows ≡ rows_at (layout_of z)
  here = er ∙ ap rows_at e

  there : at ≡ corrections_at (layout_of z)
  there = ea ∙ ap corrections_at e

  -- the corrections follow from the tapes
  pub corrections-made : (j : Context) (master : List ℕ) → tapes_held z n m ≡ master_tapes (circuit_of s) n j master
      → corrections_held z w ≡ master_corrections (circuit_of s) n j master
  unfolding master_tapes master_corrections
  corrections-made j master d =
      let t : List ℕ = tapes_of (circuit_of s) n j (master_seeds n j master) in
      let f : rows_from z n rows m ≡ t = ap (λ (k : ℕ). rows_from z n k m) here ∙ d in
      ap₂ (λ (k : ℕ) (x : List ℕ). take (oct z.ands) (drop k x)) (sym there) q
      ∙ left-corrections s z n rows at m (lent-masks s z n h m lent l e rows at er ea) ∙ ap (corrections_of s z n) f
      ∙ corrections-prepared s z lent.known.legal lent.known.ands n t (tree-parties n h lent.tree).some
      (tapes-unused (circuit_of s) n j (master_seeds n j master) n (omega arith))

-- the commitments of n parties, with another for party p
abbrev pub committed : (n : ℕ) (j : Context) (p : ℕ) → List ℕ → List ℕ → List ℕ → List ℕ
committed n j p theirs seeds corr = flatten (tabulate n (λ i. cond (eqb i p) theirs (commitment_of j n i seeds corr)))

-- the parts of the memory, in the places that the code has
module _ (z : Sizes) (n : ℕ) (l : Layout) (e : l ≡ layout_of z) (m : List ℕ) where
  pub seeds-part : (a b : ℕ) → a ≡ seeds_at l → b ≡ seeds_end l n → take (b - a) (drop a m) ≡ seeds_held z n m
  seeds-part a b ea eb =
      let d : b - a ≡ 32 * n = omega (arith, ea, eb) in
      ap₂ (λ (x y : ℕ). take x (drop y m)) d (ea ∙ ap seeds_at e)

  pub corrections-part : (a b : ℕ) → a ≡ corrections_at l → b ≡ rows_at l → take (b - a) (drop a m) ≡ corrections_held z m
  corrections-part a b ea eb =
      let d : b - a ≡ oct z.ands = omega (arith, ea, eb, ap (λ (k : Layout). oct k.ands) e) in
      ap₂ (λ (x y : ℕ). take x (drop y m)) d (ea ∙ ap corrections_at e)

-- h_j from a master: the seeds stand in the memory m at first, the corrections in v at last
pub commitments-made : (s : List ℕ) (z : Sizes) (n : ℕ) (j : Context) (master m v last r : List ℕ) (first : Sponge) → 1 ≤ n → seeds_held z n m ≡ master_seeds n j master
    → corrections_held z v ≡ master_corrections (circuit_of s) n j master → FirstTaken n j (seeds_held z n m) first
    → last ≡ row_of (seeds_held z n m) 32 (n - 1) → r ≡ given (absorbs 136 first (commitment_to j n (n - 1) last (corrections_held z v)))
    → r ≡ master_commitments (circuit_of s) n j master
unfolding master_commitments master_corrections
commitments-made s z n j master m v last r first some es ec taken_in own q =
    commitments-joined j n (seeds_held z n m) last (corrections_held z v) r first some taken_in own q
    ∙ ap (commitments_digest j.number) (ap₂ (commitments_of n j) es ec)

-- the run in a memory that holds the tapes that a master gives
module _ (s : List ℕ) (z : Sizes) (n h : ℕ) (j : Context) (master m : List ℕ) (lent : Lent s z n h m) (w : List ℕ)
    (et : tapes_held z n m ≡ master_tapes (circuit_of s) n j master) where
  -- their unused bits are zero
  pub clean : unused_rows (circuit_of s) n (tapes_held z n m) n ≡ true
  unfolding master_tapes
  clean = ap (λ (t : List ℕ). unused_rows (circuit_of s) n t n) et ∙ tapes-unused (circuit_of s) n j (master_seeds n j master) n (omega arith)

  -- its masked inputs
  pub masked-made : (x : List ℕ) → x ≡ shown.masked_inputs (circuit_of s) n w (tapes_held z n m) → x ≡ master_masked (circuit_of s) n j w master
  unfolding master_masked
  masked-made x q = q ∙ ap (shown.masked_inputs (circuit_of s) n w) et

  -- the memory that it leaves
  pub ran-made : (v : List ℕ) → v ≡ ran_memory s z n w m
      → corrections_held z v ≡ pack (correction_bits (circuit_of s) n (tapes_held z n m)) → Ran (circuit_of s) z n j w master v
  unfolding master_run master_corrections row_sent
  ran-made v ev ec =
      let held = lent-held s z n h m lent in
      let run : List ℕ → Transcript = honest_run (circuit_of s) n w in
      record {
        corrections = ec ∙ ap (λ (t : List ℕ). pack (correction_bits (circuit_of s) n t)) et;
        rows = ap (rows_sent (layout_of z) n (broadcast_bytes z)) ev ∙ rows-ran s z n m held clean w ∙ ap (λ (t : List ℕ). rows_of n (run t)) et;
        row = λ p few.
            ap (λ (x : List ℕ). pack (tabulate (8 * broadcast_bytes z) (λ t. ltb t (z.ands + z.outputs) && sent_bit (layout_of z) x p t))) ev
            ∙ row-ran s z n m held clean w p few ∙ ap (λ (t : List ℕ). pack (row_bits (run t) p)) et;
      }

-- h'_j
pub online-made : (s : List ℕ) (z : Sizes) (n : ℕ) (j : Context) (w master x v r : List ℕ) → x ≡ master_masked (circuit_of s) n j w master
    → Ran (circuit_of s) z n j w master v → r ≡ online_digest j.number x (rows_sent (layout_of z) n (broadcast_bytes z) v) → r ≡ master_online (circuit_of s) n j w master
unfolding master_online
online-made s z n j w master x v r ex ran q = q ∙ ap₂ (online_digest j.number) ex ran.rows

-- the sizes of an instance's arrays
pub few-masked : (s : List ℕ) (z : Sizes) (r : ℕ) → Known s z → r ≡ oct z.inputs → r ≤ 64
few-masked s z r k e = omega (arith, e, k.legal.laid.few_inputs)

pub few-output : (s : List ℕ) (z : Sizes) (r : ℕ) → Known s z → r ≡ oct z.outputs → r ≤ 32
few-output s z r k e = omega (arith, e, k.legal.laid.few_outputs)

-- z in its place
module _ (N k : ℕ) (z : List ℕ) (l : k ≤ N) (e : length z ≡ length (take k (replicate {A = ℕ} N 0))) where
  pub front-inside : k ≤ length (z ++ drop k (replicate {A = ℕ} N 0))
  front-inside = omega (arith, length_front (replicate {A = ℕ} N 0) z k e, length-replicate {A = ℕ} N 0)

  pub front-back : take k (z ++ drop k (replicate {A = ℕ} N 0)) ≡ z
  front-back = take_at z (drop k (replicate {A = ℕ} N 0)) k (e ∙ prefix-length k N l)

  pub front-taken : k ≡ length (take k (z ++ drop k (replicate {A = ℕ} N 0)))
  front-taken = sym (length-take-le k (z ++ drop k (replicate {A = ℕ} N 0)) front-inside)

-- A replay in the work memory: its output, and its two digests.
-- Assumes nothing.
use mathlib.Core.Path.{◌≡◌, sym, ap, ap₂, ◌∙◌}
use mathlib.Core.Bool.{Bool, true, false, cond}
use mathlib.Core.List.{List}
use Prim.Native.Nat.{ℕ, suc, ◌+◌, ◌-◌, ◌*◌, ◌<◌}
use native.Mathlib.Omega.{arith}
use lib.Dec.{eqb}
use lib.ListN.{length, take, drop, replicate}
use Rattle.hashing.specs.declared.Context.{Context}
use Rattle.bits.specs.Bits.{oct, pack}
use Rattle.bits.specs.Bytes.{same_bytes}
use Rattle.parties.specs.Parties.{height_of}
use Rattle.circuit.specs.File.{circuit_of}
use Rattle.circuit.specs.declared.Sizes.{Sizes}
use Rattle.planes.specs.Steps.{corrections_at, seeds_at, seeds_end}
use Rattle.planes.specs.declared.Layout.{Layout}
use Rattle.walk.specs.Steps.{layout_of}
use Rattle.plain.specs.Tapes.{ands_of}
use Rattle.plain.specs.Showing.{Showing, rows_of, replay_of}
use Rattle.packed.specs.Steps.{tapes_held, corrections_held, broadcast_bytes, showing_of, rows_sent, replayed_memory}
use Rattle.packed.proofs.Runs.{rows-replayed}
use Rattle.instance.specs.Instance.{hiding, commitments_digest, online_digest}
use Rattle.instance.specs.Stretch.{stretch_bytes, corrections_part, commitment_part}
use Rattle.instance.specs.Opened.{opened_seeds, opened_commitments, opened_showing, opened_run, stretch_online, stretch_output}
use Rattle.instance.specs.Steps.{Lent, seeds_held}
use Rattle.instance.proofs.Rooms.{lent-held}
use Rattle.instance.proofs.Sent.{committed, seeds-part}
use Rattle.instance.proofs.Checks.{sent-bytes, commitment-is, masked-are, row_is}

-- a memory m that holds what a chosen instance's stretch shows
module _ (s : List ℕ) (z : Sizes) (n h : ℕ) (j : Context) (p : ℕ) (m : List ℕ) (lent : Lent s z n h m) (few : p < n) (part : List ℕ)
    (size : length part ≡ stretch_bytes (circuit_of s) n (hiding p)) (x : ℕ) (sent : x ≡ cond (eqb (suc p) n) 0 (oct z.ands))
    (es : seeds_held z n m ≡ opened_seeds n j p part) (et : tapes_held z n m ≡ (opened_showing (circuit_of s) n j p part).tapes)
    (ec : corrections_held z m ≡ (opened_showing (circuit_of s) n j p part).corrections) where
  -- the corrections that are sent
  sent-held : take x (drop (corrections_at (layout_of z)) m) ≡ corrections_part (circuit_of s) n p part
  unfolding opened_showing corrections_part
  sent-held = go (eqb (suc p) n) sent ec
    where
      go : (b : Bool) → x ≡ cond b 0 (oct z.ands)
          → corrections_held z m ≡ cond b (replicate (oct (ands_of (circuit_of s))) 0) (corrections_part (circuit_of s) n p part)
          → take x (drop (corrections_at (layout_of z)) m) ≡ corrections_part (circuit_of s) n p part
      go true e f =
          ap (λ (k : ℕ). take k (drop (corrections_at (layout_of z)) m)) e
          ∙ sym
          (ap (λ (k : ℕ). take k (drop (16 * height_of n) part))
          (sent-bytes s z.inputs z.outputs z.gates z.ands lent.known n h p lent.tree part size x sent ∙ e))
      go false e f = ap (λ (k : ℕ). take k (drop (corrections_at (layout_of z)) m)) e ∙ f

  -- h_j, in the places that the code has
  pub commitments-opened : (l : Layout) (a b at : ℕ) (r : List ℕ) → l ≡ layout_of z → a ≡ seeds_at l → b ≡ seeds_end l n → at ≡ corrections_at l
      → r ≡ commitments_digest j.number
      (committed n j p (take (16 * h + x + 32 - (16 * h + x)) (drop (16 * h + x) part)) (take (b - a) (drop a m)) (take (at + x - at) (drop at m)))
      → r ≡ commitments_digest j.number (opened_commitments (circuit_of s) n j p part)
  unfolding opened_commitments
  commitments-opened l a b at r e ea eb et q =
      let d : at + x - at ≡ x = omega arith in
      q ∙ ap (commitments_digest j.number)
      (ap (λ (t : List ℕ). committed n j p t (take (b - a) (drop a m)) (take (at + x - at) (drop at m)))
      (commitment-is s z.inputs z.outputs z.gates z.ands lent.known n h p lent.tree part size x sent)
      ∙ ap₂ (committed n j p (commitment_part (circuit_of s) n p part)) (seeds-part z n l e m a b ea eb ∙ es)
      (ap₂ (λ (u v : ℕ). take u (drop v m)) d (et ∙ ap corrections_at e) ∙ sent-held))

  -- with the bytes of the masked inputs
  module _ (y : ℕ) (ins : y ≡ oct z.inputs) where
    -- the parts that are lent for the replay
    abbrev maskedLent : List ℕ
    maskedLent = take (16 * h + x + 32 + y - (16 * h + x + 32)) (drop (16 * h + x + 32) part)

    abbrev rowLent : List ℕ
    rowLent = take (length part - (16 * h + x + 32 + y)) (drop (16 * h + x + 32 + y) part)

    -- what is replayed is what the stretch shows
    lent-shown : showing_of (tapes_held z n m) (corrections_held z m) maskedLent rowLent ≡ opened_showing (circuit_of s) n j p part
    unfolding opened_showing
    lent-shown =
        let u = masked-are s z.inputs z.outputs z.gates z.ands lent.known n h p lent.tree part size x sent y ins in
        let v = row_is s z.inputs z.outputs z.gates z.ands lent.known n h p lent.tree part size x sent y ins in
        λ b. record { tapes = et b; corrections = ec b; masked_inputs = u b; row = v b }

    -- the output
    pub output-made : (r : Bool) (v w out : List ℕ) → v ≡ w
        → w ≡ pack (replay_of (circuit_of s) n p (showing_of (tapes_held z n m) (corrections_held z m) maskedLent rowLent)).output
        → r ≡ same_bytes v out → r ≡ stretch_output (circuit_of s) n j out part (hiding p)
    unfolding stretch_output opened_run
    output-made r v w out e f q =
        q ∙ ap (λ (t : List ℕ). same_bytes t out) (e ∙ f ∙ ap (λ (d : Showing). pack (replay_of (circuit_of s) n p d).output) lent-shown)

    -- h'_j
    pub rows_made : (v r : List ℕ) → v ≡ replayed_memory s z n p maskedLent rowLent m
        → r ≡ online_digest j.number maskedLent (rows_sent (layout_of z) n (broadcast_bytes z) v) → r ≡ stretch_online (circuit_of s) n j part (hiding p)
    unfolding stretch_online opened_run
    rows_made v r e q =
        q ∙ ap₂ (online_digest j.number)
        (masked-are s z.inputs z.outputs z.gates z.ands lent.known n h p lent.tree part size x sent y ins)
        (ap (rows_sent (layout_of z) n (broadcast_bytes z)) e ∙ rows-replayed s z n m (lent-held s z n h m lent) p maskedLent rowLent few
        ∙ ap (λ (d : Showing). rows_of n (replay_of (circuit_of s) n p d)) lent-shown)

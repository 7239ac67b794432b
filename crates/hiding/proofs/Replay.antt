-- The replay of a whole showing is the run that was shown.
-- Assumes nothing.
use mathlib.Core.Path.{◌≡◌, refl, sym, ap, ◌∙◌, fun_ext}
use mathlib.Core.Bool.{Bool, true, false, cond, ◌&&◌}
use mathlib.Core.List.{List, [], ◌∷◌}
use mathlib.Core.Logic.{◌≢◌, ⊎_elim}
use Prim.Native.Nat.{ℕ, suc, ◌*◌, ◌<◌}
use native.Mathlib.Omega.{arith}
use borrow.Author.Tests.{eq-eqb, ne_eqb, eqb-true}
use lib.Dec.{eqb}
use lib.ListN.{length, replicate, length-replicate}
use Rattle.bits.specs.Bits.{tabulate, oct, pack, bit_at}
use Rattle.bits.specs.Xor.{◌⊕◌, xors}
use Rattle.bits.proofs.Numbers.{lt-or-le}
use Rattle.bits.proofs.Packing.{bit_at-pack}
use Rattle.bits.proofs.Tabulate.{get_d_tabulate, get_or-tabulate-end}
use Rattle.bits.proofs.Xor.{xors-false}
use Rattle.circuit.specs.Circuit.{Gate, xor, and, inv, Circuit, put}
use Rattle.plain.specs.Run.{Column, next, plus, corrected, broadcast, as_sent, as_shown, Transcript, outputs, run}
use Rattle.plain.specs.Tapes.{ands_of, row_bytes, tape_row, input_masks, output_masks, product_shares}
use Rattle.plain.specs.Showing.{correction_bits, masked_input, masked_inputs, run_with, run_on, honest_run, row_bits, rows_of, hidden, Showing, showing, replay_of}
use Rattle.hiding.specs.Hiding.{Tapes, Witness}
use Rattle.hiding.specs.Laws.{ReplayRuns, RowUnseen}
use Rattle.hiding.proofs.Columns.{Others, all-agree}
use Rattle.hiding.proofs.Masked.{bit}
use Rattle.hiding.proofs.Rows.{inputs_end, row_other, row-again}
use Rattle.hiding.proofs.Shown.{row-all}
use Rattle.hiding.proofs.Partner.{witness-end}

-- a column of all but p as sent, and of p as shown
delivered : (p : ℕ) (x y : Column) (b : Bool) → Others p x y → b ≡ y p → put x p b ≡ y
unfolding put
delivered p x y b h e = all-agree p (put x p b) y (λ i m. rw (ne_eqb i p m) (h i m)) (rw (eq-eqb p p refl) e)

-- one wire written
pub others_put : (p : ℕ) (s t : ℕ → Column) (c : ℕ) (x y : Column) → ((k : ℕ) → Others p (s k) (t k)) → Others p x y
    → (k : ℕ) → Others p (put s c x k) (put t c y k)
unfolding put
others_put p s t c x y h e k i m = go (eqb k c)
  where
    go : (b : Bool) → cond b x (s k) i ≡ cond b y (t k) i
    go true = e i m
    go false = h k i m

-- the others' broadcasts of the same
pub others-broadcast : (p : ℕ) (ma mb : Bool) (sa sb z o sa' sb' z' o' : Column) → Others p sa sa' → Others p sb sb' → Others p z z' → Others p o o'
    → Others p (broadcast ma mb sa sb z o) (broadcast ma mb sa' sb' z' o')
unfolding broadcast
others-broadcast p ma mb sa sb z o sa' sb' z' o' ha hb hz ho i q = rw (ha i q, hb i q, hz i q, ho i q)

-- the outputs' broadcasts as delivered
outputs-delivered : (n p : ℕ) (ws : List ℕ) (s t : ℕ → Column) (m row : ℕ → Bool) → ((k : ℕ) → Others p (s k) (t k))
    → ((k : ℕ) → row k ≡ bit (row_bits (outputs n ws as_sent t m) p) k) → outputs n ws (as_shown p row) s m ≡ outputs n ws as_sent t m
unfolding outputs row_bits
outputs-delivered n p [] s t m row h e = refl
outputs-delivered n p (w ∷ ws) s t m row h e =
    let x : put (s w) p (row 0) ≡ t w = delivered p (s w) (t w) (row 0) (h w) (e 0) in
    let r : outputs n ws (as_shown p (next row)) s m ≡ outputs n ws as_sent t m = outputs-delivered n p ws s t m (next row) h (λ k. e (suc k)) in
    λ j. record { broadcasts = x j ∷ (r j).broadcasts; output = (m w ⊕ xors n (x j)) ∷ (r j).output }

-- where the others hold the same, and of p its row is delivered, all is broadcast as in the run
run-delivered : (n p : ℕ) (outs : List ℕ) (gs : List Gate) (o o' z z' s s' : ℕ → Column) (m row : ℕ → Bool)
    → ((k : ℕ) → Others p (o k) (o' k)) → ((k : ℕ) → Others p (z k) (z' k)) → ((k : ℕ) → Others p (s k) (s' k))
    → ((k : ℕ) → row k ≡ bit (row_bits (run n outs gs o' z' as_sent s' m) p) k)
    → run n outs gs o z (as_shown p row) s m ≡ run n outs gs o' z' as_sent s' m
unfolding run row_bits
run-delivered n p outs [] o o' z z' s s' m row ho hz hs e = outputs-delivered n p outs s s' m row hs e
run-delivered n p outs (xor a b c ∷ gs) o o' z z' s s' m row ho hz hs e =
    run-delivered n p outs gs o o' z z' _ _ _ row ho hz
    (others_put p s s' c (plus (s a) (s b)) (plus (s' a) (s' b)) hs (λ i q. rw (hs a i q, hs b i q))) e
run-delivered n p outs (and a b c ∷ gs) o o' z z' s s' m row ho hz hs e =
    let y : Column = broadcast (m a) (m b) (s' a) (s' b) (z' 0) (o' 0) in
    let x : put (broadcast (m a) (m b) (s a) (s b) (z 0) (o 0)) p (row 0) ≡ y =
    delivered p (broadcast (m a) (m b) (s a) (s b) (z 0) (o 0)) y (row 0) (others-broadcast p (m a) (m b) _ _ _ _ _ _ _ _ (hs a) (hs b) (hz 0) (ho 0)) (e 0) in
    let r : run n outs gs (next o) (next z) (as_shown p (next row)) (put s c (o 0)) (put m c ((m a && m b) ⊕ xors n y))
    ≡ run n outs gs (next o') (next z') as_sent (put s' c (o' 0)) (put m c ((m a && m b) ⊕ xors n y)) =
    run-delivered n p outs gs (next o) (next o') (next z) (next z') (put s c (o 0)) (put s' c (o' 0)) (put m c ((m a && m b) ⊕ xors n y)) (next row)
    (λ k. ho (suc k)) (λ k. hz (suc k)) (others_put p s s' c (o 0) (o' 0) hs (ho 0)) (λ k. e (suc k)) in
    (λ j. record { broadcasts = x j ∷ (rest (x j)).broadcasts; output = (rest (x j)).output }) ∙ (λ j. record { broadcasts = y ∷ (r j).broadcasts; output = (r j).output })
  where
    rest : Column → Transcript
    rest x = run n outs gs (next o) (next z) (as_shown p (next row)) (put s c (o 0)) (put m c ((m a && m b) ⊕ xors n x))
run-delivered n p outs (inv a c ∷ gs) o o' z z' s s' m row ho hz hs e =
    run-delivered n p outs gs o o' z z' _ _ _ row ho hz (others_put p s s' c (s a) (s' a) hs (hs a)) e

-- the masked inputs shown are the run's
inputs_read : (c : Circuit) (n : ℕ) (w tapes : List ℕ) → Witness c w → bit_at (masked_inputs c n w tapes) ≡ masked_input c n w tapes
unfolding masked_inputs masked_input
inputs_read c n w tapes hw = fun_ext (λ k. bit_at-pack (tabulate c.inputs (masked_input c n w tapes)) k ∙ ⊎_elim
    (λ h. get_d_tabulate c.inputs (masked_input c n w tapes) k false h)
    (λ h. get_or-tabulate-end c.inputs (masked_input c n w tapes) k false h ∙ sym (rw (witness-end c w hw k h, inputs_end c tapes k h) (xors-false n)))
    (lt-or-le k c.inputs))

-- the tapes of n parties with p's row hidden
module _ (c : Circuit) (n p : ℕ) (l : p < n) (tapes : List ℕ) (size : length tapes ≡ n * row_bytes c) where
  -- the other parties' rows shown are theirs
  others-shown : (i : ℕ) → i ≢ p → tape_row c (hidden c p tapes) i ≡ tape_row c tapes i
  others-shown = row_other c n p l tapes size (replicate (row_bytes c) 0) (length-replicate (row_bytes c) 0)

  -- so are their input masks
  pub inputs-shown : (k : ℕ) → Others p (input_masks c (hidden c p tapes) k) (input_masks c tapes k)
  unfolding input_masks
  inputs-shown k i m = rw (others-shown i m)

  -- their output masks
  pub masks-shown : (k : ℕ) → Others p (output_masks c (hidden c p tapes) k) (output_masks c tapes k)
  unfolding output_masks
  masks-shown k i m = rw (others-shown i m)

  -- and their product shares with the corrections shown
  pub products-shown : (k : ℕ)
      → Others p (corrected n (bit_at (cond (eqb (suc p) n) (replicate (oct (ands_of c)) 0) (pack (correction_bits c n tapes)))) (product_shares c (hidden c p tapes)) k)
      (corrected n (bit (correction_bits c n tapes)) (product_shares c tapes) k)
  unfolding corrected product_shares
  products-shown k i m = go (eqb (suc i) n) refl
    where
      go : (b : Bool) → eqb (suc i) n ≡ b
          → cond b (bit_at (cond (eqb (suc p) n) (replicate (oct (ands_of c)) 0) (pack (correction_bits c n tapes))) k) (product_shares c (hidden c p tapes) k i)
          ≡ cond b (bit (correction_bits c n tapes) k) (product_shares c tapes k i)
      go true e = rw (ne_eqb (suc p) n (λ q. m (omega (arith, eqb-true (suc i) n e)))) (bit_at-pack (correction_bits c n tapes) k)
      go false e = rw (others-shown i m)

-- p of n parties hidden in an honest run
module _ (c : Circuit) (n p : ℕ) (l : p < n) (tapes w : List ℕ) (ht : Tapes c n tapes) (hw : Witness c w) where
  -- the replay is the run
  replay-same : replay_of c n p (showing c n p (length c.gates) w tapes) ≡ honest_run c n w tapes
  unfolding replay_of showing honest_run run_on run_with
  replay-same =
      (λ j. run_with c n (hidden c p tapes) (bit_at (showing c n p (length c.gates) w tapes).corrections) (inputs_read c n w tapes hw j)
      (as_shown p (bit_at (showing c n p (length c.gates) w tapes).row)))
      ∙ run-delivered n p c.outputs c.gates (output_masks c (hidden c p tapes)) (output_masks c tapes) _ _ (input_masks c (hidden c p tapes)) (input_masks c tapes)
      (masked_input c n w tapes) _ (masks-shown c n p l tapes ht.bytes.size) (products-shown c n p l tapes ht.bytes.size) (inputs-shown c n p l tapes ht.bytes.size)
      (λ k. ap (λ (x : List ℕ). bit_at x k) (ap pack (row-all c n p w tapes)) ∙ bit_at-pack (row_bits (honest_run c n w tapes) p) k)

-- a replay of the whole showing gives the run's output and its rows
pub replay-runs : ReplayRuns
replay-runs = record {
  output = λ c n p l tapes w ht hw. ap (λ (r : Transcript). r.output) (replay-same c n p l tapes w ht hw);
  rows = λ c n p l tapes w ht hw. ap (rows_of n) (replay-same c n p l tapes w ht hw);
}

-- party p's row does not show, but through what is shown
pub row-unseen : RowUnseen
unfolding showing
row-unseen = record {
  tapes = λ c n p g l tapes w r ht hr. row-again c n p l tapes ht.bytes.size r hr.bytes.size (replicate (row_bytes c) 0);
  rows = λ c n p l tapes tapes' w w' ht ht' hw hw' e.
      sym (replay-runs.rows c n p l tapes w ht hw) ∙ ap (λ (x : Showing). rows_of n (replay_of c n p x)) e ∙ replay-runs.rows c n p l tapes' w' ht' hw';
}

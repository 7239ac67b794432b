-- Laws of the run, for any number of parties: the statements.
-- Assumes nothing.
use Rattle.std.specs.Prelude.{◌≡◌, Bool, false, not, ◌&&◌, List, [], ◌∷◌, ℕ, ◌≤◌, ◌<◌, length, get_or, take}
use Rattle.bits.specs.Bits.{bit_at}
use Rattle.bits.specs.Xor.{◌⊕◌, xors}
use Rattle.circuit.specs.Circuit.{Gate, xor, and, inv, Circuit, put, eval_gates, evaluate}
use Rattle.plain.specs.Run.{Column, next, plus, broadcast, as_sent, outputs, corrected}
use Rattle.plain.specs.Tapes.{input_masks, output_masks, product_shares, with_row}
use Rattle.plain.specs.Showing.{correction_bits, masked_input, honest_run, rows_of, hidden, showing, replay_of}
use Rattle.hiding.specs.Hiding.{Tapes, Row, Witness}

-- the wires in the middle of a run: the shares of their masks, and their masked values
pub record Wires : Type 0 where
  pub share : ℕ → Column
  pub masked : ℕ → Bool

-- the wires after the gates, where each broadcast arrives as sent
unfoldable pub after : ℕ → List Gate → (ℕ → Column) → (ℕ → Column) → (ℕ → Column) → (ℕ → Bool) → Wires
after n [] o z s m = record { share = s; masked = m }
after n (xor a b c ∷ gs) o z s m = after n gs o z (put s c (plus (s a) (s b))) (put m c (m a ⊕ m b))
after n (and a b c ∷ gs) o z s m =
    after n gs (next o) (next z) (put s c (o 0)) (put m c ((m a && m b) ⊕ xors n (broadcast (m a) (m b) (s a) (s b) (z 0) (o 0))))
after n (inv a c ∷ gs) o z s m = after n gs o z (put s c (s a)) (put m c (not (m a)))

-- the wires of an honest run after its first g gates
unfoldable pub wires_after : Circuit → ℕ → List ℕ → List ℕ → ℕ → Wires
wires_after c n witness tapes g =
    after n (take g c.gates) (output_masks c tapes) (corrected n (λ t. get_or (correction_bits c n tapes) t false) (product_shares c tapes))
    (input_masks c tapes) (masked_input c n witness tapes)

-- those wires are the run's: its output is that of its outputs on the wires after all gates
abbrev pub RunEnds : Type 0
RunEnds =
    (c : Circuit) (n : ℕ) (tapes w : List ℕ)
    → (honest_run c n w tapes).output
    ≡ (outputs n c.outputs as_sent (wires_after c n w tapes (length c.gates)).share (wires_after c n w tapes (length c.gates)).masked).output

-- "A wire's masked value is its value XOR its mask", of every wire and after any number of gates
abbrev pub MaskedValues : Type 0
MaskedValues =
    (c : Circuit) (n : ℕ) → 1 ≤ n → (tapes w : List ℕ) (g k : ℕ)
    → (wires_after c n w tapes g).masked k ≡ eval_gates (take g c.gates) (bit_at w) k ⊕ xors n ((wires_after c n w tapes g).share k)

-- with right corrections the run gives the circuit's output
abbrev pub RunEvaluates : Type 0
RunEvaluates = (c : Circuit) (n : ℕ) → 1 ≤ n → (tapes w : List ℕ) → (honest_run c n w tapes).output ≡ evaluate c (bit_at w)

-- a replay of the whole showing gives the run's output and its rows
pub record ReplayRuns : Type 0 where
  pub output : (c : Circuit) (n p : ℕ) → p < n → (tapes w : List ℕ) → Tapes c n tapes → Witness c w
      → (replay_of c n p (showing c n p (length c.gates) w tapes)).output ≡ (honest_run c n w tapes).output
  pub rows : (c : Circuit) (n p : ℕ) → p < n → (tapes w : List ℕ) → Tapes c n tapes → Witness c w
      → rows_of n (replay_of c n p (showing c n p (length c.gates) w tapes)) ≡ rows_of n (honest_run c n w tapes)

-- party p's row does not show, but through what is shown: the tapes shown are the same for every row of p, and the whole showing
-- fixes all parties' broadcasts and the output
pub record RowUnseen : Type 0 where
  pub tapes : (c : Circuit) (n p g : ℕ) → p < n → (tapes w r : List ℕ) → Tapes c n tapes → Row c n p r
      → (showing c n p g w (with_row c p r tapes)).tapes ≡ hidden c p tapes
  pub rows : (c : Circuit) (n p : ℕ) → p < n → (tapes tapes' w w' : List ℕ) → Tapes c n tapes → Tapes c n tapes' → Witness c w → Witness c w'
      → showing c n p (length c.gates) w tapes ≡ showing c n p (length c.gates) w' tapes'
      → rows_of n (honest_run c n w tapes) ≡ rows_of n (honest_run c n w' tapes')

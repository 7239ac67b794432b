-- The run on words agrees with the run on columns, for every number of parties: the corrections, the broadcasts, and the output.
-- Assumes nothing.
use mathlib.Core.Path.{◌≡◌, refl, sym, ap, ap₂, ◌∙◌, fun_ext}
use mathlib.Core.Bool.{Bool, true, cond, not, ◌&&◌}
use mathlib.Core.List.{List, [], ◌∷◌, map}
use mathlib.Core.Logic.{⊎_elim}
use Prim.Native.Nat.{ℕ, zero, suc, ◌-◌, ◌*◌, ◌^◌, ◌≤◌, ◌<◌}
use native.Mathlib.Nat.{pow-suc}
use native.Mathlib.Omega.{arith}
use borrow.Author.Tests.{eq-eqb, ne_eqb}
use lib.Dec.{eqb}
use lib.Pow.{pow_pos}
use Rattle.bits.specs.Bits.{bit_val, test_bit, from_bits}
use Rattle.bits.specs.Xor.{◌⊕◌, xors}
use Rattle.bits.proofs.Numbers.{eq-or-ne, from_bits-cong, test_bit-from_bits}
use Rattle.bits.proofs.Xor.{taut}
use Rattle.circuit.specs.Circuit.{Gate, xor, and, inv, put}
use Rattle.plain.specs.Run.{Column, next, plus, corrections, corrected, broadcast, Channel, as_sent, as_shown, Transcript, outputs, run}
use Rattle.words.specs.Words.{parity, every, broadcast_word}
use Rattle.words.proofs.Columns.{cond_map, every-lt, word-broadcast, word-delivered, word-parity, word-times, word-xor}
use Rattle.words.proofs.Folds.{word-mask}
use Rattle.packing.specs.Packed.{words, with_bit, packed_corrections, packed_corrected, WordChannel, words_sent, words_shown, WordTranscript, packed_outputs, packed_run}

-- a value put at one place, seen through a function
module _ {A B : Type 0} (g : A → B) where
  pub put_map : (f : ℕ → A) (c : ℕ) (x : A) → (λ (j : ℕ). g (put f c x j)) ≡ put (λ j. g (f j)) c (g x)
  unfolding put
  put_map f c x = fun_ext (λ j. cond_map g (eqb j c) x (f j))

-- all bits set
all_set : (n : ℕ) → from_bits n (λ i. true) ≡ 2 ^ n - 1
unfolding from_bits
all_set zero = refl
all_set (suc n) = omega (arith, all_set n, pow-suc 2 n, pow_pos n)

-- each bit of the word with b at each place
pub every-bit : (n : ℕ) (b : Bool) (i : ℕ) → i < n → test_bit (every n b) i ≡ b
unfolding every
every-bit n b i l =
    ap (λ (x : ℕ). test_bit (bit_val b * x) i) (sym (all_set n)) ∙ ap (λ (x : ℕ). test_bit x i) (word-times n b (λ k. true))
    ∙ test_bit-from_bits n (λ k. b && true) i l ∙ taut 1 (λ c. c && true) (λ c. c) tt b

-- the broadcasts of an AND gate, in words of N bits
sent_word : (N n : ℕ) (ma mb : Bool) (sa sb z o : Column) → n ≤ N
    → broadcast_word N ma mb (from_bits n sa) (from_bits n sb) (from_bits n z) (from_bits n o) ≡ from_bits n (broadcast ma mb sa sb z o)
unfolding broadcast
sent_word N n ma mb sa sb z o h = word-broadcast N n ma mb sa sb z o h

module _ (n : ℕ) where
  -- the word of a column with party p's bit b
  pub with-bit : (p : ℕ) (b : Bool) (x : Column) → with_bit n p b (from_bits n x) ≡ from_bits n (put x p b)
  unfolding with_bit put
  with-bit p b x =
      word-delivered n n p (every n b) x (omega arith) (every-lt n b)
      ∙ from_bits-cong n (λ i. cond (eqb i p) (test_bit (every n b) p) (x i)) (put x p b)
      (λ i l. ⊎_elim (λ e. rw (eq-eqb i p e) (every-bit n b p (omega arith))) (λ e. rw (ne_eqb i p e)) (eq-or-ne i p))

  -- the corrections as party n − 1's product shares
  pub packed-corrected : (cs : ℕ → Bool) (z : ℕ → Column) → packed_corrected n cs (words n z) ≡ words n (corrected n cs z)
  unfolding packed_corrected corrected put
  packed-corrected cs z = fun_ext (λ t. with-bit (n - 1) (cs t) (z t) ∙ from_bits-cong n (put (z t) (n - 1) (cs t)) (corrected n cs z t)
      (λ i l. ⊎_elim
      (λ e. rw (eq-eqb i (n - 1) e, eq-eqb (suc i) n (omega arith)))
      (λ e. rw (ne_eqb i (n - 1) e, ne_eqb (suc i) n (omega arith)))
      (eq-or-ne i (n - 1))))

  -- a column put among columns
  words-put : (s : ℕ → Column) (c : ℕ) (x : Column) (y : ℕ) → y ≡ from_bits n x → put (words n s) c y ≡ words n (put s c x)
  words-put s c x y e = ap (put (words n s) c) e ∙ sym (put_map (from_bits n) s c x)

  -- the corrections
  pub packed-corrections : (gs : List Gate) (o z s : ℕ → Column) → packed_corrections n gs (words n o) (words n z) (words n s) ≡ corrections n gs o z s
  unfolding packed_corrections corrections
  packed-corrections [] o z s = refl
  packed-corrections (xor a b c ∷ gs) o z s =
      ap (packed_corrections n gs (words n o) (words n z)) (words-put s c (plus (s a) (s b)) _ (word-xor n (s a) (s b))) ∙ packed-corrections gs o z _
  packed-corrections (and a b c ∷ gs) o z s =
      let le : n ≤ n = omega arith in
      let bit = ap₂ ◌⊕◌ (ap₂ ◌&&◌ (word-parity n n (s a) le) (word-parity n n (s b) le)) (word-parity n (n - 1) (z 0) (omega arith)) in
      ap₂ ◌∷◌ bit (ap (packed_corrections n gs (next (words n o)) (next (words n z))) (words-put s c (o 0) _ refl) ∙ packed-corrections gs (next o) (next z) _)
  packed-corrections (inv a c ∷ gs) o z s =
      ap (packed_corrections n gs (words n o) (words n z)) (words-put s c (s a) _ refl) ∙ packed-corrections gs o z _

  -- words are delivered as columns are
  abbrev pub Delivers : WordChannel → Channel → Type 0
  Delivers H h = (t : ℕ) (x : Column) → H t (from_bits n x) ≡ from_bits n (h t x)

  -- as sent
  pub delivers-sent : Delivers words_sent as_sent
  delivers-sent t x = refl

  -- with party p's bit as in its row
  pub delivers-shown : (p : ℕ) (row : ℕ → Bool) → Delivers (words_shown n p row) (as_shown p row)
  delivers-shown p row t x = with-bit p (row t) x

  -- a transcript of columns as one of words
  abbrev pub in_words : Transcript → WordTranscript
  in_words r = record { broadcasts = map (from_bits n) r.broadcasts; output = r.output }

-- one broadcast more
abbrev more : ℕ → WordTranscript → WordTranscript
more x r = record { broadcasts = x ∷ r.broadcasts; output = r.output }

-- one output more
abbrev value : ℕ → Bool → WordTranscript → WordTranscript
value x y r = record { broadcasts = x ∷ r.broadcasts; output = y ∷ r.output }

-- the run of n parties in words of N bits
module _ (N n : ℕ) (wide : n ≤ N) where
  -- the outputs
  packed-outputs : (outs : List ℕ) (H : WordChannel) (h : Channel) (s : ℕ → Column) (m : ℕ → Bool) → Delivers n H h
      → packed_outputs N outs H (words n s) m ≡ in_words n (outputs n outs h s m)
  unfolding packed_outputs outputs
  packed-outputs [] H h s m e = refl
  packed-outputs (w ∷ ws) H h s m e =
      let q : H 0 (words n s w) ≡ from_bits n (h 0 (s w)) = e 0 (s w) in
      let b : m w ⊕ parity N (H 0 (words n s w)) ≡ m w ⊕ xors n (h 0 (s w)) =
      ap (λ (y : Bool). m w ⊕ y) (ap (parity N) q ∙ word-mask N n (h 0 (s w)) wide) in
      ap₂ (λ (x : ℕ) (y : Bool). value x y (packed_outputs N ws (next H) (words n s) m)) q b
      ∙ ap (value (from_bits n (h 0 (s w))) (m w ⊕ xors n (h 0 (s w)))) (packed-outputs ws (next H) (next h) s m (λ t x. e (suc t) x))

  -- the run
  pub packed-run : (outs : List ℕ) (gs : List Gate) (o z : ℕ → Column) (H : WordChannel) (h : Channel) (s : ℕ → Column) (m : ℕ → Bool)
      → Delivers n H h → packed_run N outs gs (words n o) (words n z) H (words n s) m ≡ in_words n (run n outs gs o z h s m)
  unfolding packed_run run
  packed-run outs [] o z H h s m e = packed-outputs outs H h s m e
  packed-run outs (xor a b c ∷ gs) o z H h s m e =
      ap (λ (u : ℕ → ℕ). packed_run N outs gs (words n o) (words n z) H u (put m c (m a ⊕ m b))) (words-put n s c (plus (s a) (s b)) _ (word-xor n (s a) (s b)))
      ∙ packed-run outs gs o z H h _ _ e
  packed-run outs (and a b c ∷ gs) o z H h s m e =
      let col : Column = h 0 (broadcast (m a) (m b) (s a) (s b) (z 0) (o 0)) in
      let x : ℕ = H 0 (broadcast_word N (m a) (m b) (words n s a) (words n s b) (words n z 0) (words n o 0)) in
      let q : x ≡ from_bits n col = ap (H 0) (sent_word N n (m a) (m b) (s a) (s b) (z 0) (o 0) wide) ∙ e 0 _ in
      let d : parity N x ≡ xors n col = ap (parity N) q ∙ word-mask N n col wide in
      ap₂ more q
      (ap₂ (λ (u : ℕ → ℕ) (y : Bool). packed_run N outs gs (next (words n o)) (next (words n z)) (next H) u (put m c ((m a && m b) ⊕ y)))
      (words-put n s c (o 0) _ refl) d
      ∙ packed-run outs gs (next o) (next z) (next H) (next h) _ _ (λ t y. e (suc t) y))
  packed-run outs (inv a c ∷ gs) o z H h s m e =
      ap (λ (u : ℕ → ℕ). packed_run N outs gs (words n o) (words n z) H u (put m c (not (m a)))) (words-put n s c (s a) _ refl)
      ∙ packed-run outs gs o z H h _ _ e

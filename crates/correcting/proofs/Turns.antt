-- Each step from its parts, and each loop's turn.
-- Assumes nothing.
use mathlib.Core.Path.{◌≡◌, refl, sym, ap, ap₂, ◌∙◌}
use mathlib.Core.List.{List, ◌++◌, append_assoc}
use Prim.Native.Nat.{ℕ, zero, suc, ◌+◌, ◌-◌, ◌*◌, ◌≤◌, ◌<◌}
use native.Mathlib.Numerals.{add-one}
use native.Mathlib.Omega.{arith}
use borrow.Rule.Slice.PartMut.{mid_of, post_of, put_mid, mid_len, Post-is}
use lib.ListN.{length, take, drop, replicate, length-replicate}
use lib.Seq.{sets, sets-eq}
use Rattle.bits.specs.Bits.{odd, oct, bit_val, bit_at}
use Rattle.bits.specs.Steps.{put_bit}
use Rattle.circuit.specs.File.{inputs_of, next_of}
use Rattle.circuit.specs.Steps.{gate_of, record_of, and_one}
use Rattle.circuit.specs.declared.Gate as declared
use Rattle.circuit.specs.declared.Record.{Record}
use Rattle.circuit.proofs.Chain.{next-read, gate-read}
use Rattle.words.specs.Words.{parity}
use Rattle.planes.specs.Steps as planes
use Rattle.planes.specs.Steps.{rows_at, corrections_at, mask_word, share, put_share, tape, put_tape, masked, put_masked, loaded_rows}
use Rattle.planes.specs.declared.Layout.{Layout}
use Rattle.packed.specs.Steps.{words_cleared}
use Rattle.correcting_gate.specs.Steps.{correction_byte, output_byte, sent_word}
use Rattle.correcting.specs.Steps.{correct_step, gate_step, walked, corrections_cleared, tapes_loaded, masks_loaded}

-- an AND gate: the memory is h after the correction is put, then k, r and u
pub and-done : (l : Layout) (a b c t i j last x y sa sb o z word wire bit at : ℕ) (m h k r u : List ℕ) → i ≡ mask_word l t → j ≡ planes.broadcast_word l t
    → x ≡ masked l m a → y ≡ masked l m b → sa ≡ share m a → sb ≡ share m b → o ≡ tape l m i → z ≡ tape l m j
    → bit ≡ correction_byte x y z → word ≡ sent_word x y sa sb z o last → wire ≡ output_byte x y (parity 64 o) → at ≡ corrections_at l
    → h ≡ put_bit m (8 * at + t) (odd bit) → k ≡ put_tape l j word h → r ≡ put_share c o k → u ≡ put_masked l c wire r
    → u ≡ correct_step l a b c t last m
unfolding correct_step
and-done l a b c t i j last x y sa sb o z word wire bit at m h k r u ei ej ex ey ea eb eo ez ed ew ec et eh ek er eu =
    rw (eu, er, ek, eh, et, ec, ew, ed, ez, eo, ea, eb, ex, ey, ei, ej)

-- the walk: one gate is done, and the memory goes on from it
module _ (l : Layout) (last : ℕ) (s : List ℕ) where
  walked_on : (k slot t : ℕ) (m : List ℕ) → 0 < k
      → walked l last s k slot t m
      ≡ walked l last s (k - 1) (next_of s slot) (t + and_one (gate_of s slot)) (gate_step l (gate_of s slot) (inputs_of s + slot - 1) t last m)
  unfolding walked
  walked_on zero slot t m h = absurd (omega arith)
  walked_on (suc k) slot t m h = let e : suc k - 1 ≡ k = omega arith in rw e

  pub walked_end : (k slot t : ℕ) (m : List ℕ) → k ≤ 0 → walked l last s k slot t m ≡ m
  unfolding walked
  walked_end zero slot t m h = refl
  walked_end (suc k) slot t m h = absurd (omega arith)

  pub walk_turn : (i k slot t r : ℕ) (m m' fin : List ℕ) (q : Record) → q ≡ record_of s slot → 0 < k → 1 ≤ slot → i ≡ inputs_of s
      → m' ≡ gate_step l q.gate (i + (slot - 1)) t last m → r ≡ and_one q.gate
      → walked l last s k slot t m ≡ fin → walked l last s (k - 1) q.next (t + r) m' ≡ fin
  walk_turn i k slot t r m m' fin q e h a b d u y =
      let c : i + (slot - 1) ≡ inputs_of s + slot - 1 = omega arith in
      let g = gate-read s slot q e in
      let x : m' ≡ gate_step l (gate_of s slot) (inputs_of s + slot - 1) t last m
      = d ∙ ap₂ (λ (j : declared.Gate) (o : ℕ). gate_step l j o t last m) g c in
      let v : r ≡ and_one (gate_of s slot) = u ∙ ap and_one g in
      rw (next-read s slot q e, v, x) (sym (walked_on k slot t m h) ∙ y)

-- the inputs: one more is loaded
pub masks-none : (l : Layout) (values m : List ℕ) → m ≡ masks_loaded l 0 values m
unfolding masks_loaded
masks-none l values m = refl

pub masks-turn : (l : Layout) (values : List ℕ) (w x b q : ℕ) (m₀ m k v : List ℕ) → m ≡ masks_loaded l w values m₀ → x ≡ tape l m w → b ≡ bit_val (bit_at values w)
    → q ≡ bit_val (parity 64 x) → k ≡ put_share w x m → v ≡ put_masked l w (b + 2 * q) k → v ≡ masks_loaded l (w + 1) values m₀
unfolding masks_loaded
masks-turn l values w x b q m₀ m k v e ex eb eq ek ev = rw (ev, ek, eq, eb, ex, e, add-one)

-- a part that is filled
put-sets : (a e : ℕ) (m z : List ℕ) → a ≤ e → e ≤ length m → length z ≡ e - a → put_mid a (e - a) m z ≡ sets m a z
put-sets a e m z h l q =
    let k : e ≡ a + length z = omega (arith, q) in
    sym (append_assoc (take a m) z (post_of a (e - a) m))
    ∙ ap (λ (t : List ℕ). (take a m ++ z) ++ t) (Post-is a e m h ∙ ap (λ (x : ℕ). drop x m) k) ∙ sym (sets-eq z m a (omega (arith, q)))

-- the corrections, as the code clears them
pub corrections-done : (l : Layout) (a e : ℕ) (m z : List ℕ) → a ≡ corrections_at l → e ≡ rows_at l → rows_at l ≤ length m
    → z ≡ replicate (length (mid_of a (e - a) m)) 0 → put_mid a (e - a) m z ≡ corrections_cleared l m
unfolding corrections_cleared
corrections-done l a e m z ea ee h d =
    let size : length (mid_of a (e - a) m) ≡ e - a = mid_len a e m (omega (arith, ee)) in
    let k : e - a ≡ oct l.ands = omega (arith, ea, ee) in
    put-sets a e m z (omega (arith, ea, ee)) (omega (arith, ee)) (ap length d ∙ length-replicate {A = ℕ} _ 0 ∙ size)
    ∙ ap₂ (λ (i : ℕ) (x : List ℕ). sets m i x) ea (d ∙ ap (λ (i : ℕ). replicate i 0) (size ∙ k))

-- the tapes, in two steps
pub tapes-done : (l : Layout) (n len e : ℕ) (m k v : List ℕ) → e ≡ planes.broadcast_word l l.ands → k ≡ loaded_rows l n len m
    → v ≡ words_cleared l e (l.outputs + 7) k → v ≡ tapes_loaded l n (drop (rows_at l) m) len m
unfolding tapes_loaded loaded_rows
tapes-done l n len e m k v ee ek ev = ev ∙ ap₂ (λ (q : ℕ) (w : List ℕ). words_cleared l q (l.outputs + 7) w) ee ek

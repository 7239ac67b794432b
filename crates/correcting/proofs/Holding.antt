-- The memory holds a run on words in the middle of it, and the wires' masks beside their masked values; every gate does to it what the
-- run on words with the right corrections does.
-- Assumes nothing.
use mathlib.Core.Path.{◌≡◌, refl, sym, ap, ap₂, ◌∙◌}
use mathlib.Core.Bool.{Bool, true, false, not, ◌&&◌}
use mathlib.Core.List.{List}
use mathlib.Core.Logic.{⊎_elim}
use Prim.Native.Nat.{ℕ, suc, ◌+◌, ◌*◌, ◌/◌, ◌^◌, ◌≤◌, ◌<◌}
use native.Mathlib.Nat.{lt_of_le_of_lt}
use native.Mathlib.Omega.{arith}
use borrow.Author.Tests.{eq-eqb, ne_eqb}
use lib.Bits.{bit_xor, bit_and, and_le_l, xor_lt}
use lib.ListN.{length, get_or}
use lib.Seq.{get_or-set_other}
use Rattle.bits.specs.Bits.{odd, test_bit}
use Rattle.bits.specs.Steps.{put_bit}
use Rattle.bits.specs.Xor.{◌⊕◌}
use Rattle.bits.proofs.Little.{le_at-cong}
use Rattle.bits.proofs.Numbers.{eq-or-ne}
use Rattle.bits.proofs.Packing.{length-put_bit}
use Rattle.circuit.specs.Circuit.{put}
use Rattle.plain.specs.Run.{next}
use Rattle.words.specs.Words.{parity, every, place, broadcast_word, chosen}
use Rattle.words.proofs.Columns.{chosen-lt, every-lt}
use Rattle.planes.specs.Steps as planes
use Rattle.planes.specs.Steps.{Room, tape_words, share_at, tape_at, masked_at, planes_end, corrections_at, mask_word, share, put_share, tape, put_tape, masked}
use Rattle.planes.specs.declared.Layout.{Layout}
use Rattle.planes.proofs.Held.{share-length, share_other, tape-length, tape-other, masked-other}
use Rattle.planes.proofs.Views.{masked-share, masked-tape, masked-masked}
use Rattle.gates.specs.Steps.{put_wire, xor_step, inv_step}
use Rattle.gates.proofs.Holding.{put-at, put_same, put_other, Holds, wire-step, sent-step, xor-holds, inv-holds}
use Rattle.gates.proofs.Steps.{room-kept}
use Rattle.correcting_gate.specs.Steps.{correction_byte, output_byte, sent_word}
use Rattle.correcting.specs.Steps.{mask_of, correct_step}
use Rattle.correcting.proofs.Bytes.{parity-xor, masked-right, correction-odd, output-odd, output-mask, xor-mask, inv-mask}

-- memories with the same bytes in the planes
module _ (l : Layout) (m k : List ℕ) (same : (j : ℕ) → j < planes_end l → get_or k j 0 ≡ get_or m j 0) where
  share-same : (w : ℕ) → w < l.wires → share k w ≡ share m w
  unfolding share
  share-same w h = le_at-cong 8 k m (share_at w) (share_at w) (λ i x. same (share_at w + i) (omega arith))

  tape-same : (q : ℕ) → q < tape_words l → tape l k q ≡ tape l m q
  unfolding tape
  tape-same q h = le_at-cong 8 k m (tape_at l q) (tape_at l q) (λ i x. same (tape_at l q + i) (omega arith))

  masked_same : (w : ℕ) → w < l.wires → masked l k w ≡ masked l m w
  unfolding masked
  masked_same w h = same (masked_at l w) (omega arith)

  -- hold the same
  holds_same : length k ≡ length m → (t : ℕ) (live : ℕ → Bool) (past rest o z s : ℕ → ℕ) (b : ℕ → Bool) → Holds l t m live past rest o z s b
      → Holds l t k live past rest o z s b
  holds_same e t live past rest o z s b h = record {
    room = room-kept l m k e h.room;
    count = h.count;
    shares = λ w x a. share-same w x ∙ h.shares w x a;
    values = λ w x a. ap odd (masked_same w x) ∙ h.values w x a;
    masks = λ v u q x. tape-same (mask_word l v) (omega arith) ∙ h.masks v u q x;
    products = λ v u q x. tape-same (planes.broadcast_word l v) (omega arith) ∙ h.products v u q x;
    broadcasts = λ v x. tape-same (planes.broadcast_word l v) (omega (arith, h.count)) ∙ h.broadcasts v x;
    after = λ v x g. tape-same (planes.broadcast_word l v) g ∙ h.after v x g;
    small-shares = h.small-shares;
    small-masks = h.small-masks;
    small-products = h.small-products;
  }

-- a correction put, after the planes
module _ (l : Layout) (m : List ℕ) (t : ℕ) (d : Bool) where
  abbrev pub fixed : List ℕ
  fixed = put_bit m (8 * corrections_at l + t) d

  fixed-below : (j : ℕ) → j < planes_end l → get_or fixed j 0 ≡ get_or m j 0
  unfolding put_bit
  fixed-below j h = get_or-set_other m ((8 * corrections_at l + t) / 8) j _ 0 (omega arith)

-- the masks of the wires that are written, beside their masked values
abbrev pub Masks : Layout → List ℕ → (ℕ → Bool) → (ℕ → Bool) → Type 0
Masks l mem live k = (w : ℕ) → w < l.wires → live w ≡ true → mask_of (masked l mem w) ≡ k w

-- a run with the wires' masks k
pub record Runs (l : Layout) (t : ℕ) (mem : List ℕ) (live : ℕ → Bool) (past rest o z s : ℕ → ℕ) (m k : ℕ → Bool) : Type 0 where
  pub holds : Holds l t mem live past rest o z s m
  pub masks : Masks l mem live k
  pub agree : (w : ℕ) → k w ≡ parity 64 (s w)

-- a wire is written
module _ (l : Layout) (mem : List ℕ) (live k : ℕ → Bool) (room : Room l mem) (masks : Masks l mem live k) (c x v : ℕ) (b : Bool) (hc : c < l.wires) (e : mask_of v ≡ b) where
  masks-put : Masks l (put_wire l c x v mem) (put live c true) (put k c b)
  masks-put w hw a =
      ap mask_of (masked-masked l (put_share c x mem) (omega (arith, room.room, share-length l mem c x)) c v hc w)
      ∙ put-at k c b w _
      (λ q. rw (eq-eqb w c q) e)
      (λ q. rw (ne_eqb w c q) (ap mask_of (masked-share l mem room.room c x hc w) ∙ masks w hw (sym (put_other live c true w q) ∙ a)))

-- masks stay parities
agree-put : (k : ℕ → Bool) (s : ℕ → ℕ) → ((w : ℕ) → k w ≡ parity 64 (s w)) → (c x : ℕ) (b : Bool) → b ≡ parity 64 x → (w : ℕ) → put k c b w ≡ parity 64 (put s c x w)
agree-put k s h c x b e w =
    ⊎_elim
    (λ q. put_same k c b w q ∙ e ∙ ap (parity 64) (sym (put_same s c x w q)))
    (λ q. put_other k c b w q ∙ h w ∙ ap (parity 64) (sym (put_other s c x w q)))
    (eq-or-ne w c)

-- a broadcast word of 64 bits
sent-small : (ma mb : Bool) (sa sb z o : ℕ) → z < 2 ^ 64 → o < 2 ^ 64 → broadcast_word 64 ma mb sa sb z o < 2 ^ 64
unfolding broadcast_word
sent-small ma mb sa sb z o hz ho =
    let part : (c : Bool) (x : ℕ) → bit_and (every 64 c) x < 2 ^ 64 = λ c x. lt_of_le_of_lt (and_le_l (every 64 c) x) (every-lt 64 c) in
    xor_lt 64 _ _ (xor_lt 64 _ _ (xor_lt 64 _ _ (part ma sb) (part mb sa)) hz) ho

module _ (l : Layout) (t : ℕ) (mem : List ℕ) (live : ℕ → Bool) (past rest o z s : ℕ → ℕ) (m k : ℕ → Bool) (runs : Runs l t mem live past rest o z s m k) where
  abbrev holds : Holds l t mem live past rest o z s m
  holds = runs.holds

  -- an XOR gate
  pub xor-runs : (a b c : ℕ) → a < l.wires → b < l.wires → c < l.wires → live a ≡ true → live b ≡ true
      → Runs l t (xor_step l a b c mem) (put live c true) past rest o z (put s c (bit_xor (s a) (s b))) (put m c (m a ⊕ m b)) (put k c (k a ⊕ k b))
  unfolding xor_step
  xor-runs a b c ha hb hc la lb = record {
    holds = xor-holds l t mem live past rest o z s m runs.holds a b c ha hb hc la lb;
    masks = masks-put l mem live k runs.holds.room runs.masks c _ _ (k a ⊕ k b) hc
        (xor-mask (masked l mem a) (masked l mem b) ∙ ap₂ ◌⊕◌ (runs.masks a ha la) (runs.masks b hb lb));
    agree = agree-put k s runs.agree c (bit_xor (s a) (s b)) (k a ⊕ k b) (ap₂ ◌⊕◌ (runs.agree a) (runs.agree b) ∙ sym (parity-xor 64 (s a) (s b)));
  }

  -- an INV gate
  pub inv-runs : (a c : ℕ) → a < l.wires → c < l.wires → live a ≡ true
      → Runs l t (inv_step l a c mem) (put live c true) past rest o z (put s c (s a)) (put m c (not (m a))) (put k c (k a))
  unfolding inv_step
  inv-runs a c ha hc la = record {
    holds = inv-holds l t mem live past rest o z s m runs.holds a c ha hc la;
    masks = masks-put l mem live k runs.holds.room runs.masks c _ _ (k a) hc (inv-mask (masked l mem a) ∙ runs.masks a ha la);
    agree = agree-put k s runs.agree c (s a) (k a) (runs.agree a);
  }

  -- AND gate t, with its correction d at party p's place
  module _ (a b c p : ℕ) (d : Bool) (ha : a < l.wires) (hb : b < l.wires) (hc : c < l.wires) (la : live a ≡ true) (lb : live b ≡ true) (ht : t < l.ands)
      (hp : p < 64) (clear : test_bit (z 0) p ≡ false) (ed : d ≡ (k a && k b) ⊕ parity 64 (z 0)) where
    abbrev pub sentBy : ℕ
    sentBy = broadcast_word 64 (m a) (m b) (s a) (s b) (chosen (place 64 p) (every 64 d) (z 0)) (o 0)

    -- what the gate reads
    masks-here : tape l mem (mask_word l t) ≡ o 0
    masks-here = runs.holds.masks t 0 (omega arith) ht

    products-here : tape l mem (planes.broadcast_word l t) ≡ z 0
    products-here = runs.holds.products t 0 (omega arith) (omega arith)

    correction-here : odd (correction_byte (masked l mem a) (masked l mem b) (tape l mem (planes.broadcast_word l t))) ≡ d
    correction-here =
        correction-odd (masked l mem a) (masked l mem b) (tape l mem (planes.broadcast_word l t))
        ∙ ap₂ ◌⊕◌ (ap₂ ◌&&◌ (runs.masks a ha la) (runs.masks b hb lb)) (ap (parity 64) products-here) ∙ sym ed

    word-here : sent_word (masked l mem a) (masked l mem b) (share mem a) (share mem b) (tape l mem (planes.broadcast_word l t)) (tape l mem (mask_word l t)) (place 64 p) ≡ sentBy
    unfolding sent_word
    word-here =
        rw (
          correction-here,
          masks-here,
          products-here,
          runs.holds.shares a ha la,
          runs.holds.shares b hb lb,
          runs.holds.values a ha la,
          runs.holds.values b hb lb,
        )

    value-here : odd (output_byte (masked l mem a) (masked l mem b) (parity 64 (tape l mem (mask_word l t)))) ≡ (m a && m b) ⊕ parity 64 sentBy
    value-here =
        output-odd (masked l mem a) (masked l mem b) (parity 64 (tape l mem (mask_word l t)))
        ∙ ap₂ ◌⊕◌
        (ap₂ ◌&&◌ (ap₂ ◌⊕◌ (runs.holds.values a ha la) (runs.masks a ha la)) (ap₂ ◌⊕◌ (runs.holds.values b hb lb) (runs.masks b hb lb)))
        (ap (parity 64) masks-here)
        ∙ masked-right p (m a) (m b) (k a) (k b) d (s a) (s b) (z 0) (o 0) hp clear (runs.agree a) (runs.agree b) ed

    abbrev step : List ℕ
    step = put_tape l (planes.broadcast_word l t) sentBy (fixed l mem t d)

    room-fixed : Room l (fixed l mem t d)
    room-fixed = room-kept l mem _ (length-put_bit mem (8 * corrections_at l + t) d) runs.holds.room

    room-step : Room l step
    room-step = room-kept l (fixed l mem t d) _ (tape-length l (fixed l mem t d) (planes.broadcast_word l t) sentBy) room-fixed

    -- the memory that the gate leaves
    pub step_is : correct_step l a b c t (place 64 p) mem
        ≡ put_wire l c (tape l mem (mask_word l t)) (output_byte (masked l mem a) (masked l mem b) (parity 64 (tape l mem (mask_word l t)))) step
    unfolding correct_step
    step_is = rw (correction-here, word-here)

    masks-step : Masks l step live k
    masks-step w hw a· =
        ap mask_of
        (masked-tape l (fixed l mem t d) room-fixed.room (planes.broadcast_word l t) sentBy (omega arith) w
        ∙ masked_same l mem (fixed l mem t d) (fixed-below l mem t d) w hw)
        ∙ runs.masks w hw a·

    pub and-runs :
        Runs l (suc t) (correct_step l a b c t (place 64 p) mem) (put live c true) (put past t sentBy) rest (next o) (next z) (put s c (o 0))
        (put m c ((m a && m b) ⊕ parity 64 sentBy)) (put k c (parity 64 (o 0)))
    and-runs =
        let small : sentBy < 2 ^ 64
        = sent-small (m a) (m b) (s a) (s b) _ (o 0) (chosen-lt 64 (place 64 p) (every 64 d) (z 0) (every-lt 64 d) (runs.holds.small-products 0)) (runs.holds.small-masks 0) in
        rw step_is
        (record {
          holds = wire-step l (suc t) step live (put past t sentBy) rest (next o) (next z) s m
              (sent-step l t (fixed l mem t d) live past rest o z s m
              (holds_same l mem (fixed l mem t d) (fixed-below l mem t d) (length-put_bit mem (8 * corrections_at l + t) d) t live past rest o z s m runs.holds) sentBy (omega arith) small)
              c (tape l mem (mask_word l t)) _ (o 0) ((m a && m b) ⊕ parity 64 sentBy) hc masks-here (runs.holds.small-masks 0) value-here;
          masks = masks-put l step live k room-step masks-step c _ _ (parity 64 (o 0)) hc
              (output-mask (masked l mem a) (masked l mem b) (parity 64 (tape l mem (mask_word l t))) ∙ ap (parity 64) masks-here);
          agree = agree-put k s runs.agree c (o 0) (parity 64 (o 0)) refl;
        })

    -- what stands after the planes
    pub and-other : (j : ℕ) → planes_end l ≤ j → get_or (correct_step l a b c t (place 64 p) mem) j 0 ≡ get_or (fixed l mem t d) j 0
    and-other j h =
        let x : ℕ = tape l mem (mask_word l t) in
        let v : ℕ = output_byte (masked l mem a) (masked l mem b) (parity 64 (tape l mem (mask_word l t))) in
        ap (λ (y : List ℕ). get_or y j 0) step_is
        ∙ masked-other l (put_share c x step) c v hc j h ∙ share_other l step c x hc j h
        ∙ tape-other l (fixed l mem t d) (planes.broadcast_word l t) sentBy (omega arith) j h

-- nor do the other gates touch it
module _ (l : Layout) (c x v : ℕ) (mem : List ℕ) (hc : c < l.wires) where
  pub wire-other : (j : ℕ) → planes_end l ≤ j → get_or (put_wire l c x v mem) j 0 ≡ get_or mem j 0
  wire-other j h = masked-other l (put_share c x mem) c v hc j h ∙ share_other l mem c x hc j h

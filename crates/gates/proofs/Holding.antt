-- The memory holds a run on words in the middle of it, and every gate does to it what the run on words does.
-- Assumes nothing.
use mathlib.Core.Path.{◌≡◌, refl, sym, ap, ap₂, ◌∙◌}
use mathlib.Core.Bool.{Bool, true, not, ◌&&◌}
use mathlib.Core.List.{List}
use mathlib.Core.Logic.{◌≢◌, ⊎_elim}
use Prim.Native.Nat.{ℕ, suc, ◌+◌, ◌^◌, ◌≤◌, ◌<◌}
use native.Mathlib.Nat.{lt_of_le_of_lt}
use native.Mathlib.Omega.{arith}
use borrow.Author.Tests.{eq-eqb, ne_eqb}
use lib.Bits.{bit_xor, bit_and, and_le_l, xor_lt}
use lib.ListN.{length-set}
use lib.Seq.{length-sets}
use Rattle.bits.specs.Bits.{odd, bit_val}
use Rattle.bits.specs.Bytes.{le_bytes}
use Rattle.bits.specs.Xor.{◌⊕◌}
use Rattle.bits.proofs.Bitwise.{odd-xor}
use Rattle.bits.proofs.Numbers.{eq-or-ne, odd-bit_val}
use Rattle.circuit.specs.Circuit.{put}
use Rattle.plain.specs.Run.{next}
use Rattle.words.specs.Words.{parity, every, broadcast_word, chosen}
use Rattle.words.proofs.Columns.{chosen-lt, every-lt}
use Rattle.words.proofs.Gate.{and-masked}
use Rattle.planes.specs.Steps as planes
use Rattle.planes.specs.Steps.{Room, tape_words, share_at, tape_at, masked_at, mask_word, share, put_share, tape, put_tape, masked, put_masked}
use Rattle.planes.specs.declared.Layout.{Layout}
use Rattle.planes.proofs.Views.{share-share, tape-share, masked-share, share-tape, tape-tape, masked-tape, share-masked, tape-masked, masked-masked}
use Rattle.gates.specs.Steps.{put_wire, xor_step, inv_step, and_word, and_step, output_word, output_step, output_value}
use Rattle.gates.proofs.Steps.{room-kept}

-- all words are of 64 bits
abbrev pub Small : (ℕ → ℕ) → Type 0
Small f = (k : ℕ) → f k < 2 ^ 64

-- what stands at place k after a put at c
module _ {A : Type 0} (f : ℕ → A) (c : ℕ) (x : A) (k : ℕ) where
  pub put-at : (y : A) → (k ≡ c → y ≡ x) → (k ≢ c → y ≡ f k) → y ≡ put f c x k
  unfolding put
  put-at y yes· no· = ⊎_elim (λ e. rw (eq-eqb k c e) (yes· e)) (λ d. rw (ne_eqb k c d) (no· d)) (eq-or-ne k c)

  pub put_same : k ≡ c → put f c x k ≡ x
  unfolding put
  put_same e = rw (eq-eqb k c e)

  pub put_other : k ≢ c → put f c x k ≡ f k
  unfolding put
  put_other d = rw (ne_eqb k c d)

-- words stay of 64 bits
pub small_put : (f : ℕ → ℕ) (c x : ℕ) → Small f → x < 2 ^ 64 → Small (put f c x)
small_put f c x h l k = ⊎_elim (λ e. rw (put_same f c x k e) l) (λ d. rw (put_other f c x k d) (h k)) (eq-or-ne k c)

-- what is put in a plane is a value put
module _ (l : Layout) (m : List ℕ) (h : Room l m) where
  share-put : (c x : ℕ) → c < l.wires → x < 2 ^ 64 → (w : ℕ) → share (put_share c x m) w ≡ put (share m) c x w
  unfolding put
  share-put c x hc b w = share-share l m h.room c x hc b w

  tape-put : (c x : ℕ) → c < tape_words l → x < 2 ^ 64 → (q : ℕ) → tape l (put_tape l c x m) q ≡ put (tape l m) c x q
  unfolding put
  tape-put c x hc b q = tape-tape l m h.room c x hc b q

  masked-put : (c x : ℕ) → c < l.wires → (w : ℕ) → masked l (put_masked l c x m) w ≡ put (masked l m) c x w
  unfolding put
  masked-put c x hc w = masked-masked l m h.room c x hc w

  -- and the room is the same
  pub share-room : (c x : ℕ) → Room l (put_share c x m)
  unfolding put_share
  share-room c x = room-kept l m _ (length-sets m (share_at c) (le_bytes 8 x)) h

  tape-room : (c x : ℕ) → Room l (put_tape l c x m)
  unfolding put_tape
  tape-room c x = room-kept l m _ (length-sets m (tape_at l c) (le_bytes 8 x)) h

  pub masked-room : (c x : ℕ) → Room l (put_masked l c x m)
  unfolding put_masked
  masked-room c x = room-kept l m _ (length-set m (masked_at l c) x) h

-- of the wires those of `live` are written; t broadcasts are made, and `past` is what they were; o and z are the output masks of the AND
-- gates to come and the words in the places of the broadcasts to come; `rest` the tape words after the broadcasts; s and m the wires'
-- shares and masked values
pub record Holds (l : Layout) (t : ℕ) (mem : List ℕ) (live : ℕ → Bool) (past rest o z s : ℕ → ℕ) (m : ℕ → Bool) : Type 0 where
  pub room : Room l mem
  pub count : t ≤ l.ands + l.outputs
  pub shares : (w : ℕ) → w < l.wires → live w ≡ true → share mem w ≡ s w
  pub values : (w : ℕ) → w < l.wires → live w ≡ true → odd (masked l mem w) ≡ m w
  pub masks : (v u : ℕ) → v ≡ t + u → v < l.ands → tape l mem (mask_word l v) ≡ o u
  pub products : (v u : ℕ) → v ≡ t + u → v < l.ands + l.outputs → tape l mem (planes.broadcast_word l v) ≡ z u
  pub broadcasts : (v : ℕ) → v < t → tape l mem (planes.broadcast_word l v) ≡ past v
  pub after : (v : ℕ) → l.ands + l.outputs ≤ v → planes.broadcast_word l v < tape_words l → tape l mem (planes.broadcast_word l v) ≡ rest v
  pub small-shares : Small s
  pub small-masks : Small o
  pub small-products : Small z

-- a broadcast word of 64 bits
sent-small : (ma mb : Bool) (sa sb z o hidden : ℕ) → z < 2 ^ 64 → o < 2 ^ 64 → chosen hidden z (broadcast_word 64 ma mb sa sb z o) < 2 ^ 64
unfolding broadcast_word
sent-small ma mb sa sb z o hidden hz ho =
    let part : (c : Bool) (x : ℕ) → bit_and (every 64 c) x < 2 ^ 64 = λ c x. lt_of_le_of_lt (and_le_l (every 64 c) x) (every-lt 64 c) in
    chosen-lt 64 hidden z _ hz (xor_lt 64 _ _ (xor_lt 64 _ _ (xor_lt 64 _ _ (part ma sb) (part mb sa)) hz) ho)

module _ (l : Layout) (t : ℕ) (mem : List ℕ) (live : ℕ → Bool) (past rest o z s : ℕ → ℕ) (m : ℕ → Bool) (holds : Holds l t mem live past rest o z s m) where
  -- a wire is written
  module _ (c x v y : ℕ) (b : Bool) (hc : c < l.wires) (e : x ≡ y) (small : y < 2 ^ 64) (d : odd v ≡ b) where
    abbrev k : List ℕ
    k = put_share c x mem

    room-k : Room l k
    room-k = share-room l mem holds.room c x

    wire-share : (w : ℕ) → w < l.wires → put live c true w ≡ true → share (put_wire l c x v mem) w ≡ put s c y w
    wire-share w hw a =
        share-masked l k room-k.room c v hc w hw ∙ share-put l mem holds.room c x hc (rw e small) w
        ∙ put-at s c y w _
        (λ q. put_same (share mem) c x w q ∙ e)
        (λ q. put_other (share mem) c x w q ∙ holds.shares w hw (sym (put_other live c true w q) ∙ a))

    wire-value : (w : ℕ) → w < l.wires → put live c true w ≡ true → odd (masked l (put_wire l c x v mem) w) ≡ put m c b w
    wire-value w hw a =
        ap odd (masked-put l k room-k c v hc w)
        ∙ put-at m c b w _
        (λ q. ap odd (put_same (masked l k) c v w q) ∙ d)
        (λ q. ap odd (put_other (masked l k) c v w q ∙ masked-share l mem holds.room.room c x hc w) ∙ holds.values w hw (sym (put_other live c true w q) ∙ a))

    wire-tape : (q : ℕ) → q < tape_words l → tape l (put_wire l c x v mem) q ≡ tape l mem q
    wire-tape q hq = tape-masked l k room-k.room c v hc q hq ∙ tape-share l mem holds.room.room c x hc q

    pub wire-step : Holds l t (put_wire l c x v mem) (put live c true) past rest o z (put s c y) (put m c b)
    wire-step = record {
      room = masked-room l k room-k c v;
      count = holds.count;
      shares = wire-share;
      values = wire-value;
      masks = λ i u q h. wire-tape (mask_word l i) (omega arith) ∙ holds.masks i u q h;
      products = λ i u q h. wire-tape (planes.broadcast_word l i) (omega arith) ∙ holds.products i u q h;
      broadcasts = λ i h. wire-tape (planes.broadcast_word l i) (omega (arith, holds.count)) ∙ holds.broadcasts i h;
      after = λ i h g. wire-tape (planes.broadcast_word l i) g ∙ holds.after i h g;
      small-shares = small_put s c y holds.small-shares small;
      small-masks = holds.small-masks;
      small-products = holds.small-products;
    }

  -- broadcast t is stored
  module _ (x : ℕ) (ht : t < l.ands + l.outputs) (small : x < 2 ^ 64) where
    abbrev sent : List ℕ
    sent = put_tape l (planes.broadcast_word l t) x mem

    sent-tape : (q : ℕ) → q ≢ planes.broadcast_word l t → tape l sent q ≡ tape l mem q
    sent-tape q d = tape-put l mem holds.room (planes.broadcast_word l t) x (omega arith) small q ∙ put_other (tape l mem) (planes.broadcast_word l t) x q d

    sent-here : tape l sent (planes.broadcast_word l t) ≡ x
    sent-here =
        tape-put l mem holds.room (planes.broadcast_word l t) x (omega arith) small (planes.broadcast_word l t)
        ∙ put_same (tape l mem) (planes.broadcast_word l t) x (planes.broadcast_word l t) refl

    sent-past : (v : ℕ) → v < suc t → tape l sent (planes.broadcast_word l v) ≡ put past t x v
    sent-past v h =
        put-at past t x v _
        (λ q. ap (λ (j : ℕ). tape l sent (planes.broadcast_word l j)) q ∙ sent-here)
        (λ q. sent-tape (planes.broadcast_word l v) (omega arith) ∙ holds.broadcasts v (omega arith))

    pub sent-step : Holds l (suc t) sent live (put past t x) rest (next o) (next z) s m
    sent-step = record {
      room = tape-room l mem holds.room (planes.broadcast_word l t) x;
      count = ht;
      shares = λ w h a. share-tape l mem holds.room.room (planes.broadcast_word l t) x (omega arith) w h ∙ holds.shares w h a;
      values = λ w h a. ap odd (masked-tape l mem holds.room.room (planes.broadcast_word l t) x (omega arith) w) ∙ holds.values w h a;
      masks = λ v u q h. sent-tape (mask_word l v) (omega arith) ∙ holds.masks v (suc u) (omega arith) h;
      products = λ v u q h. sent-tape (planes.broadcast_word l v) (omega arith) ∙ holds.products v (suc u) (omega arith) h;
      broadcasts = sent-past;
      after = λ v h g. sent-tape (planes.broadcast_word l v) (omega arith) ∙ holds.after v h g;
      small-shares = holds.small-shares;
      small-masks = λ u. holds.small-masks (suc u);
      small-products = λ u. holds.small-products (suc u);
    }

  -- an XOR gate
  pub xor-holds : (a b c : ℕ) → a < l.wires → b < l.wires → c < l.wires → live a ≡ true → live b ≡ true
      → Holds l t (xor_step l a b c mem) (put live c true) past rest o z (put s c (bit_xor (s a) (s b))) (put m c (m a ⊕ m b))
  unfolding xor_step
  xor-holds a b c ha hb hc la lb =
      wire-step c (bit_xor (share mem a) (share mem b)) (bit_xor (masked l mem a) (masked l mem b)) (bit_xor (s a) (s b)) (m a ⊕ m b) hc
      (ap₂ bit_xor (holds.shares a ha la) (holds.shares b hb lb))
      (xor_lt 64 (s a) (s b) (holds.small-shares a) (holds.small-shares b))
      (odd-xor (masked l mem a) (masked l mem b) ∙ ap₂ ◌⊕◌ (holds.values a ha la) (holds.values b hb lb))

  -- an INV gate
  pub inv-holds : (a c : ℕ) → a < l.wires → c < l.wires → live a ≡ true
      → Holds l t (inv_step l a c mem) (put live c true) past rest o z (put s c (s a)) (put m c (not (m a)))
  unfolding inv_step
  inv-holds a c ha hc la =
      wire-step c (share mem a) (bit_xor 1 (masked l mem a)) (s a) (not (m a)) hc (holds.shares a ha la) (holds.small-shares a)
      (odd-xor 1 (masked l mem a) ∙ ap₂ ◌⊕◌ (odd-bit_val true) (holds.values a ha la))

-- the steps that broadcast
module _ (l : Layout) (t : ℕ) (mem : List ℕ) (live : ℕ → Bool) (past rest o z s : ℕ → ℕ) (m : ℕ → Bool) (holds : Holds l t mem live past rest o z s m) where
  -- the output masks of AND gate t
  masks-here : t < l.ands → tape l mem (mask_word l t) ≡ o 0
  masks-here h = holds.masks t 0 (omega arith) h

  -- the word in the place of broadcast t
  products-here : t < l.ands + l.outputs → tape l mem (planes.broadcast_word l t) ≡ z 0
  products-here h = holds.products t 0 (omega arith) h

  -- what AND gate t broadcasts
  abbrev and_sent : ℕ → ℕ → ℕ → ℕ
  and_sent a b hidden = chosen hidden (z 0) (broadcast_word 64 (m a) (m b) (s a) (s b) (z 0) (o 0))

  module _ (a b c hidden : ℕ) (ha : a < l.wires) (hb : b < l.wires) (hc : c < l.wires) (la : live a ≡ true) (lb : live b ≡ true) (ht : t < l.ands) where
    and_word_lem : and_word l a b t hidden mem ≡ and_sent a b hidden
    unfolding and_word
    and_word_lem =
        rw (masks-here ht, products-here (omega arith), holds.shares a ha la, holds.shares b hb lb, holds.values a ha la, holds.values b hb lb)

    and-value : odd (bit_xor (bit_and (masked l mem a) (masked l mem b)) (bit_val (parity 64 (and_sent a b hidden)))) ≡ (m a && m b) ⊕ parity 64 (and_sent a b hidden)
    and-value =
        and-masked (masked l mem a) (masked l mem b) (and_sent a b hidden) _ refl
        ∙ ap (λ (v : Bool). v ⊕ parity 64 (and_sent a b hidden)) (ap₂ ◌&&◌ (holds.values a ha la) (holds.values b hb lb))

    -- AND gate t
    pub and-holds :
        Holds l (suc t) (and_step l a b c t hidden mem) (put live c true) (put past t (and_sent a b hidden)) rest (next o) (next z) (put s c (o 0))
        (put m c ((m a && m b) ⊕ parity 64 (and_sent a b hidden)))
    unfolding and_step
    and-holds =
        let x = and_sent a b hidden in
        let small : x < 2 ^ 64 = sent-small (m a) (m b) (s a) (s b) (z 0) (o 0) hidden (holds.small-products 0) (holds.small-masks 0) in
        rw and_word_lem
        (wire-step l (suc t) (put_tape l (planes.broadcast_word l t) x mem) live (put past t x) rest (next o) (next z) s m
        (sent-step l t mem live past rest o z s m holds x (omega arith) small)
        c (tape l mem (mask_word l t)) _ (o 0) ((m a && m b) ⊕ parity 64 x) hc (masks-here ht) (holds.small-masks 0) and-value)

  module _ (w hidden : ℕ) (hw : w < l.wires) (lw : live w ≡ true) (ht : t < l.ands + l.outputs) where
    output-word : output_word l w t hidden mem ≡ chosen hidden (z 0) (s w)
    unfolding output_word
    output-word = rw (products-here ht, holds.shares w hw lw)

    -- output wire w, as broadcast t
    pub output-holds : Holds l (suc t) (output_step l w t hidden mem) live (put past t (chosen hidden (z 0) (s w))) rest (next o) (next z) s m
    unfolding output_step
    output-holds =
        let small : chosen hidden (z 0) (s w) < 2 ^ 64 = chosen-lt 64 hidden (z 0) (s w) (holds.small-products 0) (holds.small-shares w) in
        rw output-word (sent-step l t mem live past rest o z s m holds (chosen hidden (z 0) (s w)) ht small)

    -- its value
    pub output-value : odd (output_value l w t hidden mem) ≡ m w ⊕ parity 64 (chosen hidden (z 0) (s w))
    unfolding output_value
    output-value =
        odd-xor (masked l mem w) (bit_val (parity 64 (output_word l w t hidden mem)))
        ∙ ap₂ ◌⊕◌ (holds.values w hw lw) (odd-bit_val (parity 64 (output_word l w t hidden mem)) ∙ ap (parity 64) output-word)

-- Each step from its parts: what is read, and what is stored.
-- Assumes nothing.
use mathlib.Core.Path.{◌≡◌}
use mathlib.Core.List.{List}
use Prim.Native.Nat.{ℕ, ◌≤◌, ◌<◌}
use native.Mathlib.Omega.{arith}
use lib.ListN.{length}
use lib.Bits.{bit_xor, bit_and}
use Rattle.bits.specs.Bits.{odd, bit_val}
use Rattle.planes.specs.Steps as planes
use Rattle.planes.specs.Steps.{Room, share, put_share, tape, put_tape, masked, put_masked}
use Rattle.planes.specs.declared.Layout.{Layout}
use Rattle.words.specs.Words.{parity, broadcast_word, chosen}
use Rattle.gates.specs.Steps.{Fit, xor_step, inv_step, and_word, and_step, output_word, output_step, output_value}

pub xor-done : (l : Layout) (a b c sa sb ma mb : ℕ) (m k r : List ℕ) → sa ≡ share m a → sb ≡ share m b → ma ≡ masked l m a → mb ≡ masked l m b
    → k ≡ put_share c (bit_xor sa sb) m → r ≡ put_masked l c (bit_xor ma mb) k → r ≡ xor_step l a b c m
unfolding xor_step
xor-done l a b c sa sb ma mb m k r ea eb fa fb ek er = rw (er, ek, ea, eb, fa, fb)

pub inv-done : (l : Layout) (a c sa ma : ℕ) (m k r : List ℕ) → sa ≡ share m a → ma ≡ masked l m a → k ≡ put_share c sa m
    → r ≡ put_masked l c (bit_xor 1 ma) k → r ≡ inv_step l a c m
unfolding inv_step
inv-done l a c sa ma m k r ea fa ek er = rw (er, ek, ea, fa)

-- the memory is k after the broadcast is stored, then r, then u
pub and-done : (l : Layout) (a b c t o z hidden ma mb sa sb x y word v : ℕ) (m k r u : List ℕ) → o ≡ planes.mask_word l t → z ≡ planes.broadcast_word l t
    → ma ≡ masked l m a → mb ≡ masked l m b → sa ≡ share m a → sb ≡ share m b → x ≡ tape l m o → y ≡ tape l m z
    → word ≡ chosen hidden y (broadcast_word 64 (odd ma) (odd mb) sa sb y x) → v ≡ bit_xor (bit_and ma mb) (bit_val (parity 64 word))
    → k ≡ put_tape l z word m → r ≡ put_share c x k → u ≡ put_masked l c v r → u ≡ and_step l a b c t hidden m
unfolding and_step and_word
and-done l a b c t o z hidden ma mb sa sb x y word v m k r u eo ez fa fb ea eb ex ey ew em ek er eu =
    rw (eu, er, ek, em, ew, ex, ey, ea, eb, fa, fb, eo, ez)

pub output-done : (l : Layout) (w t z hidden s y word : ℕ) (m r : List ℕ) → z ≡ planes.broadcast_word l t → s ≡ share m w → y ≡ tape l m z
    → word ≡ chosen hidden y s → r ≡ put_tape l z word m → r ≡ output_step l w t hidden m
unfolding output_step output_word
output-done l w t z hidden s y word m r ez es ey ew er = rw (er, ew, es, ey, ez)

pub value-done : (l : Layout) (w t z hidden v s y word b : ℕ) (m : List ℕ) → z ≡ planes.broadcast_word l t → v ≡ masked l m w → s ≡ share m w
    → y ≡ tape l m z → word ≡ chosen hidden y s → b ≡ bit_val (parity 64 word) → bit_xor v b ≡ output_value l w t hidden m
unfolding output_value output_word
value-done l w t z hidden v s y word b m ez ev es ey ew eb = rw (eb, ew, ev, es, ey, ez)

-- so what a gate asks is met for its parts
pub fit-gate : (l : Layout) (a b c t t' : ℕ) (m : List ℕ) → Fit l c c c t m → a < l.wires → b < l.wires → t' ≤ l.ands → Fit l a b c t' m
fit-gate l a b c t t' m f ha hb ht = record { memory = f.memory; first = ha; second = hb; output = f.output; order = ht }

-- a memory of the same length has the same room
pub room-kept : (l : Layout) (m k : List ℕ) → length k ≡ length m → Room l m → Room l k
room-kept l m k e h = record { few_wires = h.few_wires; few_words = h.few_words; room = omega (arith, h.room) }

-- An AND gate on words of 64 bits is one on the columns of n parties.
-- Assumes nothing.
use mathlib.Core.Path.{◌≡◌, sym, ap, ap₂, ◌∙◌}
use mathlib.Core.Bool.{Bool, true, cond, not, ◌&&◌}
use Prim.Native.Nat.{ℕ, ◌^◌, ◌<◌}
use native.Mathlib.Nat.{lt_of_le_of_lt}
use lib.Bits.{bit_xor, bit_and, and_le_l, and_lt, xor_lt}
use Rattle.bits.specs.Bits.{bit_val, odd, test_bit, from_bits}
use Rattle.bits.specs.Xor.{◌⊕◌}
use Rattle.bits.proofs.Bitwise.{odd-and, odd-xor, test_bit-and, test_bit-xor}
use Rattle.bits.proofs.Numbers.{ext-bits, odd-bit_val, test_bit-from_bits}
use Rattle.bits.proofs.Xor.{taut, xor-true}
use Rattle.words.specs.Words.{parity, every, broadcast_word, chosen}
use Rattle.words.specs.Steps.{and_column, AndColumns}
use Rattle.words.proofs.Columns.{chosen-bit, chosen-lt, word-broadcast, word-delivered}
use Rattle.words.proofs.Folds.{word-mask}

-- from the words to the columns
pub and-columns : (ma mb : Bool) (sa sb z o hidden shown word : ℕ) (masked : Bool)
    → word ≡ chosen hidden shown (broadcast_word 64 ma mb sa sb z o) → masked ≡ (ma && mb) ⊕ parity 64 word
    → AndColumns ma mb sa sb z o hidden shown word masked
unfolding AndColumns
and-columns ma mb sa sb z o hidden shown word masked e f n p a b c d h ea eb ec ed eh lt =
    let w : word ≡ from_bits n (and_column ma mb a b c d p shown) =
    e ∙ ap₂ (λ (q x : ℕ). chosen q shown x) eh (rw (ea, eb, ec, ed) (word-broadcast 64 n ma mb a b c d h))
    ∙ word-delivered 64 n p shown (λ i. (ma && b i) ⊕ (mb && a i) ⊕ c i ⊕ d i) h lt in
    (w, f ∙ ap (λ (y : Bool). (ma && mb) ⊕ y) (ap (parity 64) w ∙ word-mask 64 n (and_column ma mb a b c d p shown) h))

-- every bit of this word is set
ones_bit : (i : ℕ) → i < 64 → test_bit 18446744073709551615 i ≡ true
unfolding from_bits
ones_bit i l = test_bit-from_bits 64 (λ i. true) i l

-- the code's AND gate puts the hidden party's bit before it takes the masked values, which are at each place of x and y
module _ (hidden shown x y sa sb z o : ℕ) (hs : shown < 2 ^ 64) (hx : x < 2 ^ 64) (hy : y < 2 ^ 64) (ha : sa < 2 ^ 64) (hb : sb < 2 ^ 64)
    (hz : z < 2 ^ 64) (ho : o < 2 ^ 64) where
  abbrev kept : ℕ
  kept = bit_xor hidden 18446744073709551615

  abbrev early : ℕ
  early = bit_xor (bit_and x (bit_and sb kept)) (bit_xor (bit_and y (bit_and sa kept)) (chosen hidden shown (bit_xor z o)))

  abbrev late : ℕ
  late = chosen hidden shown (bit_xor (bit_xor (bit_xor (bit_and x sb) (bit_and y sa)) z) o)

  kept-bit : (s i : ℕ) → i < 64 → test_bit (bit_and s kept) i ≡ test_bit s i && not (test_bit hidden i)
  kept-bit s i l =
      test_bit-and s kept i
      ∙ ap (λ (b : Bool). test_bit s i && b)
      (test_bit-xor hidden 18446744073709551615 i ∙ ap (λ (b : Bool). test_bit hidden i ⊕ b) (ones_bit i l) ∙ xor-true (test_bit hidden i))

  early-bit : (i : ℕ) → i < 64
      → test_bit early i
      ≡ (test_bit x i && (test_bit sb i && not (test_bit hidden i)))
      ⊕ ((test_bit y i && (test_bit sa i && not (test_bit hidden i))) ⊕ cond (test_bit hidden i) (test_bit shown i) (test_bit z i ⊕ test_bit o i))
  early-bit i l =
      test_bit-xor (bit_and x (bit_and sb kept)) _ i
      ∙ ap₂ ◌⊕◌ (test_bit-and x (bit_and sb kept) i ∙ ap (λ (b : Bool). test_bit x i && b) (kept-bit sb i l))
      (test_bit-xor (bit_and y (bit_and sa kept)) _ i
      ∙ ap₂ ◌⊕◌ (test_bit-and y (bit_and sa kept) i ∙ ap (λ (b : Bool). test_bit y i && b) (kept-bit sa i l))
      (chosen-bit hidden shown (bit_xor z o) i ∙ ap (cond (test_bit hidden i) (test_bit shown i)) (test_bit-xor z o i)))

  late-bit : (i : ℕ)
      → test_bit late i
      ≡ cond (test_bit hidden i) (test_bit shown i) ((test_bit x i && test_bit sb i) ⊕ (test_bit y i && test_bit sa i) ⊕ test_bit z i ⊕ test_bit o i)
  late-bit i =
      chosen-bit hidden shown (bit_xor (bit_xor (bit_xor (bit_and x sb) (bit_and y sa)) z) o) i
      ∙ ap (cond (test_bit hidden i) (test_bit shown i))
      (test_bit-xor (bit_xor (bit_xor (bit_and x sb) (bit_and y sa)) z) o i
      ∙ ap (λ (b : Bool). b ⊕ test_bit o i)
      (test_bit-xor (bit_xor (bit_and x sb) (bit_and y sa)) z i
      ∙ ap (λ (b : Bool). b ⊕ test_bit z i) (test_bit-xor (bit_and x sb) (bit_and y sa) i ∙ ap₂ ◌⊕◌ (test_bit-and x sb i) (test_bit-and y sa i))))

  early-lt : early < 2 ^ 64
  early-lt =
      xor_lt 64 _ _ (lt_of_le_of_lt (and_le_l x (bit_and sb kept)) hx)
      (xor_lt 64 _ _ (lt_of_le_of_lt (and_le_l y (bit_and sa kept)) hy) (chosen-lt 64 hidden shown (bit_xor z o) hs (xor_lt 64 z o hz ho)))

  late-lt : late < 2 ^ 64
  late-lt =
      chosen-lt 64 hidden shown _ hs
      (xor_lt 64 _ o (xor_lt 64 _ z (xor_lt 64 _ _ (and_lt 64 x sb hx hb) (and_lt 64 y sa hy ha)) hz) ho)

  put-early : early ≡ late
  put-early =
      ext-bits 64 early late early-lt late-lt
      (λ i l.
      early-bit i l
      ∙ taut 8 (λ h s x y a b z o. (x && (b && not h)) ⊕ ((y && (a && not h)) ⊕ cond h s (z ⊕ o))) (λ h s x y a b z o. cond h s ((x && b) ⊕ (y && a) ⊕ z ⊕ o)) tt
      (test_bit hidden i) (test_bit shown i) (test_bit x i) (test_bit y i) (test_bit sa i) (test_bit sb i) (test_bit z i) (test_bit o i)
      ∙ sym (late-bit i))

  -- the parts of the code's AND gate
  pub and_word : (ma mb own word : ℕ) → x ≡ every 64 (odd ma) → y ≡ every 64 (odd mb) → own ≡ chosen hidden shown (bit_xor z o)
      → word ≡ bit_xor (bit_and x (bit_and sb kept)) (bit_xor (bit_and y (bit_and sa kept)) own)
      → word ≡ chosen hidden shown (broadcast_word 64 (odd ma) (odd mb) sa sb z o)
  unfolding broadcast_word
  and_word ma mb own word ex ey ew e =
      e ∙ ap (λ (u : ℕ). bit_xor (bit_and x (bit_and sb kept)) (bit_xor (bit_and y (bit_and sa kept)) u)) ew ∙ put-early
      ∙ ap₂ (λ (u v : ℕ). chosen hidden shown (bit_xor (bit_xor (bit_xor (bit_and u sb) (bit_and v sa)) z) o)) ex ey

pub and-masked : (ma mb word r : ℕ) → r ≡ bit_val (parity 64 word) → odd (bit_xor (bit_and ma mb) r) ≡ (odd ma && odd mb) ⊕ parity 64 word
and-masked ma mb word r e = odd-xor (bit_and ma mb) r ∙ ap₂ ◌⊕◌ (odd-and ma mb) (ap odd e ∙ odd-bit_val (parity 64 word))

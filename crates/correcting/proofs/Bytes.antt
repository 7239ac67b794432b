-- The bytes of wires and the words of an AND gate that makes its correction: the masked value of the output is as the run makes it from
-- the broadcasts.
-- Assumes nothing.
use mathlib.Core.Path.{◌≡◌, refl, sym, ap, ap₂, ◌∙◌}
use mathlib.Core.Bool.{Bool, true, false, cond, ◌&&◌}
use Prim.Native.Nat.{ℕ, ◌*◌, ◌/◌, ◌%◌, ◌<◌}
use native.Mathlib.Omega.{arith}
use borrow.Author.Tests.{eq-eqb, ne_eqb}
use lib.Bits.{bit_xor, bit_and, and_zero_r, xor_zero_r}
use lib.Dec.{eqb}
use Rattle.bits.specs.Bits.{odd, bit_val, test_bit, from_bits}
use Rattle.bits.specs.Xor.{◌⊕◌}
use Rattle.bits.proofs.Bitwise.{odd-and, odd-xor, test_bit-and, test_bit-xor}
use Rattle.bits.proofs.Numbers.{mod-two, odd-bit_val, test_bit-from_bits, test_bit-high}
use Rattle.bits.proofs.Xor.{taut, xors-and, xors-change, xors-cong, xors-xor}
use Rattle.words.specs.Words.{parity, every, place, broadcast_word, chosen}
use Rattle.words.proofs.Columns.{chosen-bit}
use Rattle.packing.proofs.Agree.{every-bit}
use Rattle.correcting_gate.specs.Steps.{correction_byte, output_byte}
use Rattle.correcting.specs.Steps.{wire_byte, mask_of}

-- parity goes over XOR
pub parity-xor : (n x y : ℕ) → parity n (bit_xor x y) ≡ parity n x ⊕ parity n y
unfolding parity
parity-xor n x y =
    xors-cong n (test_bit (bit_xor x y)) (λ i. test_bit x i ⊕ test_bit y i) (λ i l. test_bit-xor x y i) ∙ xors-xor n (test_bit x) (test_bit y)

-- and over a product with one bit
parity-every : (n : ℕ) (b : Bool) (x : ℕ) → parity n (bit_and (every n b) x) ≡ b && parity n x
unfolding parity
parity-every n b x =
    xors-cong n (test_bit (bit_and (every n b) x)) (λ i. b && test_bit x i)
    (λ i l. test_bit-and (every n b) x i ∙ ap (λ (c : Bool). c && test_bit x i) (every-bit n b i l))
    ∙ xors-and n b (test_bit x)

-- a bit put at a place where none is
parity-put : (n p : ℕ) (d : Bool) (z : ℕ) → p < n → test_bit z p ≡ false → parity n (chosen (place n p) (every n d) z) ≡ parity n z ⊕ d
unfolding parity place
parity-put n p d z h e =
    let q : ℕ = from_bits n (λ i. eqb i p) in
    xors-change n (test_bit z) (test_bit (chosen q (every n d) z)) p d h
    (chosen-bit q (every n d) z p
    ∙ ap₂ (λ (b c : Bool). cond b c (test_bit z p)) (test_bit-from_bits n (λ i. eqb i p) p h ∙ eq-eqb p p refl) (every-bit n d p h)
    ∙ ap (λ (b : Bool). b ⊕ d) (sym e))
    (λ j l a.
    chosen-bit q (every n d) z j
    ∙ ap (λ (b : Bool). cond b (test_bit (every n d) j) (test_bit z j)) (test_bit-from_bits n (λ i. eqb i p) j l ∙ ne_eqb j p a))

-- the XOR of all broadcasts
sent-parity : (ma mb : Bool) (sa sb z o : ℕ)
    → parity 64 (broadcast_word 64 ma mb sa sb z o) ≡ (ma && parity 64 sb) ⊕ (mb && parity 64 sa) ⊕ parity 64 z ⊕ parity 64 o
unfolding broadcast_word
sent-parity ma mb sa sb z o =
    parity-xor 64 _ o
    ∙ ap (λ (b : Bool). b ⊕ parity 64 o)
    (parity-xor 64 _ z
    ∙ ap (λ (b : Bool). b ⊕ parity 64 z) (parity-xor 64 _ _ ∙ ap₂ ◌⊕◌ (parity-every 64 ma sb) (parity-every 64 mb sa)))

-- "Masked c is masked a times masked b, XOR all broadcasts": with the right correction it is the product of the values XOR c's mask
pub masked-right : (p : ℕ) (ma mb ka kb d : Bool) (sa sb z o : ℕ) → p < 64 → test_bit z p ≡ false → ka ≡ parity 64 sa → kb ≡ parity 64 sb
    → d ≡ (ka && kb) ⊕ parity 64 z
    → ((ma ⊕ ka) && (mb ⊕ kb)) ⊕ parity 64 o
    ≡ (ma && mb) ⊕ parity 64 (broadcast_word 64 ma mb sa sb (chosen (place 64 p) (every 64 d) z) o)
masked-right p ma mb ka kb d sa sb z o h e ea eb ed =
    let put· : parity 64 (chosen (place 64 p) (every 64 d) z) ≡ parity 64 z ⊕ d = parity-put 64 p d z h e in
    taut 6 (λ a b x y u v. ((a ⊕ x) && (b ⊕ y)) ⊕ v) (λ a b x y u v. (a && b) ⊕ ((a && y) ⊕ (b && x) ⊕ (u ⊕ ((x && y) ⊕ u)) ⊕ v)) tt ma mb ka kb (parity 64 z) (parity 64 o)
    ∙ sym
    (ap (λ (b : Bool). (ma && mb) ⊕ b)
    (sent-parity ma mb sa sb (chosen (place 64 p) (every 64 d) z) o
    ∙ ap₂ (λ (x y : Bool). (ma && y) ⊕ (mb && x) ⊕ parity 64 (chosen (place 64 p) (every 64 d) z) ⊕ parity 64 o) (sym ea) (sym eb)
    ∙ ap (λ (b : Bool). (ma && kb) ⊕ (mb && ka) ⊕ b ⊕ parity 64 o) (put· ∙ ap (λ (b : Bool). parity 64 z ⊕ b) ed)))

-- the mask in half a byte
pub half-odd : (x : ℕ) → odd (x / 2) ≡ mask_of x
unfolding test_bit
half-odd x = refl

-- the correction
pub correction-odd : (x y z : ℕ) → odd (correction_byte x y z) ≡ (mask_of x && mask_of y) ⊕ parity 64 z
correction-odd x y z =
    odd-xor (bit_and (x / 2) (y / 2)) (bit_val (parity 64 z))
    ∙ ap₂ ◌⊕◌ (odd-and (x / 2) (y / 2) ∙ ap₂ ◌&&◌ (half-odd x) (half-odd y)) (odd-bit_val (parity 64 z))

-- three times a bit has it at both places
triple-odd : (k : Bool) → odd (3 * bit_val k) ≡ k
unfolding odd
triple-odd true = refl
triple-odd false = refl

triple-mask : (k : Bool) → mask_of (3 * bit_val k) ≡ k
unfolding test_bit odd
triple-mask true = refl
triple-mask false = refl

-- an AND gate's output: its masked value, and its mask
pub output-odd : (x y : ℕ) (k : Bool) → odd (output_byte x y k) ≡ ((odd x ⊕ mask_of x) && (odd y ⊕ mask_of y)) ⊕ k
output-odd x y k =
    let u : ℕ = bit_and (bit_xor x (x / 2)) (bit_xor y (y / 2)) in
    odd-xor (u % 2) (3 * bit_val k)
    ∙ ap₂ ◌⊕◌
    (ap odd (mod-two u) ∙ odd-bit_val (odd u) ∙ odd-and (bit_xor x (x / 2)) (bit_xor y (y / 2))
    ∙ ap₂ ◌&&◌ (odd-xor x (x / 2) ∙ ap (λ (b : Bool). odd x ⊕ b) (half-odd x)) (odd-xor y (y / 2) ∙ ap (λ (b : Bool). odd y ⊕ b) (half-odd y)))
    (triple-odd k)

pub output-mask : (x y : ℕ) (k : Bool) → mask_of (output_byte x y k) ≡ k
output-mask x y k =
    let u : ℕ = bit_and (bit_xor x (x / 2)) (bit_xor y (y / 2)) in
    test_bit-xor (u % 2) (3 * bit_val k) 1
    ∙ ap₂ ◌⊕◌ (test_bit-high 1 (u % 2) 1 (omega arith) (omega arith)) (triple-mask k)

-- a wire that is loaded
pub wire-odd : (b k : Bool) → odd (wire_byte b k) ≡ b
unfolding odd
wire-odd true true = refl
wire-odd true false = refl
wire-odd false true = refl
wire-odd false false = refl

pub wire-mask : (b k : Bool) → mask_of (wire_byte b k) ≡ k
unfolding test_bit odd
wire-mask true true = refl
wire-mask true false = refl
wire-mask false true = refl
wire-mask false false = refl

-- XOR and INV gates act on masks as on shares
pub xor-mask : (x y : ℕ) → mask_of (bit_xor x y) ≡ mask_of x ⊕ mask_of y
xor-mask x y = test_bit-xor x y 1

pub inv-mask : (x : ℕ) → mask_of (bit_xor 1 x) ≡ mask_of x
inv-mask x = test_bit-xor 1 x 1 ∙ ap (λ (b : Bool). b ⊕ mask_of x) (test_bit-high 1 1 1 (omega arith) (omega arith))

-- nobody is hidden
pub chosen_none : (old new : ℕ) → chosen 0 old new ≡ new
unfolding chosen
chosen_none old new = ap (bit_xor new) (and_zero_r (bit_xor old new)) ∙ xor_zero_r new

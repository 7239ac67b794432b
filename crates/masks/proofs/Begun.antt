-- The byte that the corrections come into, one bit after the other: a bit put into it is put into the memory.
-- Assumes nothing.
use mathlib.Core.Path.{◌≡◌, refl, sym, ap, ap₂, ◌∙◌, subst}
use mathlib.Core.Bool.{Bool, true, false}
use mathlib.Core.List.{List}
use mathlib.Core.Logic.{⊎_elim, ◌≢◌}
use Prim.Native.Nat.{ℕ, ◌+◌, ◌-◌, ◌*◌, ◌/◌, ◌%◌, ◌^◌, ◌≤◌, ◌<◌}
use native.Mathlib.Nat.{pow-suc}
use native.Mathlib.Numerals.{add-one}
use native.Mathlib.Omega.{arith}
use borrow.Author.Tests.{eq-eqb, ne_eqb}
use lib.Bits.{bit_xor, bit_and}
use lib.ListN.{length, get_or, set}
use lib.Pow.{pow_pos}
use lib.Seq.{get_or-set_same, get_or-set_other}
use Rattle.bits.specs.Bits.{bit_val, odd, test_bit, bit_at}
use Rattle.bits.specs.Steps.{put_bit}
use Rattle.bits.proofs.Numbers.{eq-or-ne, test_bit-high}
use Rattle.bits.proofs.Packing.{shift-bit}
use Rattle.circuit.specs.Steps.{and_one, within}
use Rattle.circuit.specs.declared.Gate.{Gate}
use Rattle.circuit.specs.declared.Gate.TheVariants.{Xor, And, Inv}
use Rattle.words.specs.Steps.{at}
use Rattle.masks.specs.Steps.{passed, carried, byte_after, Asks}

-- wires below W are below V
pub within-le : (W N : ℕ) (g : Gate) → W ≤ N → within W g → within N g
within-le W N (Xor a b) h (ha, hb) = (omega arith, omega arith)
within-le W N (And a b) h (ha, hb) = (omega arith, omega arith)
within-le W N (Inv a) h ha = omega arith

-- a byte with one bit more
grown : (z byte : ℕ) (b : Bool) → byte < 2 ^ z → byte + bit_val b * 2 ^ z < 2 ^ (z + 1)
grown z byte b l =
    let e : 2 ^ (z + 1) ≡ 2 ^ z * 2 = ap (λ (k : ℕ). 2 ^ k) (add-one z) ∙ pow-suc 2 z in
    bits b e
  where
    bits : (b : Bool) → 2 ^ (z + 1) ≡ 2 ^ z * 2 → byte + bit_val b * 2 ^ z < 2 ^ (z + 1)
    bits true e = omega (arith, l, e)
    bits false e = omega (arith, l, e)

-- bit t of the bytes from c on, put into the byte that has the bits before it
pub put_next : (m : List ℕ) (c t byte : ℕ) (b : Bool) → byte ≡ get_or m (c + t / 8) 0 → byte < 2 ^ (t % 8)
    → set m (c + t / 8) (byte + bit_val b * 2 ^ (t % 8)) ≡ put_bit m (8 * c + t) b
unfolding put_bit
put_next m c t byte b e l =
    let j : (8 * c + t) / 8 ≡ c + t / 8 = omega arith in
    let d : (8 * c + t) % 8 ≡ t % 8 = omega arith in
    let f : ℕ → ℕ → ℕ = λ x z. x - bit_val (test_bit x z) * 2 ^ z + bit_val b * 2 ^ z in
    let none : f byte (t % 8) ≡ byte + bit_val b * 2 ^ (t % 8) = rw (test_bit-high (t % 8) byte (t % 8) l (omega arith)) (omega arith) in
    sym
    (ap₂ (λ (i z : ℕ). set m i (f (get_or m i 0) z)) j d ∙ ap (λ (x : ℕ). set m (c + t / 8) (f x (t % 8))) (sym e) ∙ ap (set m (c + t / 8)) none)

-- an AND gate of the code: x is the bit of the product shares, w that of the output mask, v the byte that the next correction comes into
module _ (g : Gate) (out k p c t byte a b x w v : ℕ) (m : List ℕ) (asks : Asks g out k p c t byte m) (e : g ≡ And a b) (ex : x ≡ bit_val (bit_at m p)) where
  abbrev new : ℕ
  new = byte + bit_xor (bit_and (at m a) (at m b)) x % 2 * 2 ^ (t % 8) % 256

  abbrev stored : List ℕ
  stored = set m (c + t / 8) new

  abbrev bit : Bool
  bit = odd (bit_xor (bit_and (at m a) (at m b)) (bit_val (bit_at m p)))

  new_is : new ≡ byte + bit_val bit * 2 ^ (t % 8)
  new_is =
      ap (λ (d : ℕ). byte + d) (shift-bit 8 (bit_xor (bit_and (at m a) (at m b)) x) (t % 8) (omega arith))
      ∙ ap (λ (d : ℕ). byte + bit_val (odd (bit_xor (bit_and (at m a) (at m b)) d)) * 2 ^ (t % 8)) ex

  stored_is : stored ≡ put_bit m (8 * c + t) bit
  stored_is =
      let one : 1 ≤ and_one g = rw e (omega arith) in
      ap (set m (c + t / 8)) new_is ∙ put_next m c t byte bit (asks.held one) asks.low

  pub and-passes : w ≡ bit_val (bit_at stored k) → v ≡ carried (t + 1) new
      → (set stored out w ≡ passed g out k p (8 * c + t) m) × ((t + 1 ≡ t + and_one g) × (v ≡ byte_after p g t m byte))
  and-passes ew ev =
      rw e
      ((
        ap (set stored out) ew ∙ ap (λ (u : List ℕ). set u out (bit_val (bit_at u k))) stored_is,
        (refl, ev ∙ ap (carried (t + 1)) new_is),
      ))

-- t corrections are put from byte c on, of count bytes: `byte` has the last of them, and the bytes after it are zero
pub record Begun (c count t byte : ℕ) (m : List ℕ) : Type 0 where
  pub held : t < 8 * count → byte ≡ get_or m (c + t / 8) 0
  pub low : byte < 2 ^ (t % 8)
  pub zeros : (j : ℕ) → t < 8 * j → j < count → get_or m (c + j) 0 ≡ 0

module _ (c count t byte : ℕ) (m : List ℕ) (h : Begun c count t byte m) (out : ℕ) (l : out < c) where
  -- a byte before them
  begun-before : (x : ℕ) → Begun c count t byte (set m out x)
  begun-before x = record {
    held = λ a. h.held a ∙ sym (get_or-set_other m out (c + t / 8) x 0 (omega arith));
    low = h.low;
    zeros = λ j a b. get_or-set_other m out (c + j) x 0 (omega arith) ∙ h.zeros j a b;
  }

  -- one more
  module _ (b : Bool) (more : t < 8 * count) (room : c + count ≤ length m) where
    abbrev y : ℕ
    y = byte + bit_val b * 2 ^ (t % 8)

    abbrev put : List ℕ
    put = set m (c + t / 8) y

    later : (j : ℕ) → t < 8 * j → j < count → get_or put (c + j) 0 ≡ 0
    later j a d = get_or-set_other m (c + t / 8) (c + j) y 0 (omega arith) ∙ h.zeros j a d

    here : y ≡ get_or put (c + t / 8) 0
    here = sym (get_or-set_same m (c + t / 8) y 0 (omega arith))

    -- it ends a byte
    begun-end : (t + 1) % 8 ≡ 0 → Begun c count (t + 1) 0 put
    begun-end e = record {
      held = λ a. sym (later ((t + 1) / 8) (omega arith) (omega arith));
      low = pow_pos ((t + 1) % 8);
      zeros = λ j a d. later j (omega arith) d;
    }

    -- it does not
    begun-within : (t + 1) % 8 ≢ 0 → Begun c count (t + 1) y put
    begun-within e =
        let i : (t + 1) / 8 ≡ t / 8 = omega arith in
        let z : (t + 1) % 8 ≡ t % 8 + 1 = omega arith in
        let l : y < 2 ^ (t % 8 + 1) = grown (t % 8) byte b h.low in
        record {
          held = λ a. here ∙ ap (λ (k : ℕ). get_or put (c + k) 0) (sym i);
          low = rw z l;
          zeros = λ j a d. later j (omega arith) d;
        }

    begun-put : Begun c count (t + 1) (carried (t + 1) y) put
    unfolding carried
    begun-put =
        ⊎_elim (λ e. rw (eq-eqb ((t + 1) % 8) 0 e) (begun-end e)) (λ e. rw (ne_eqb ((t + 1) % 8) 0 e) (begun-within e))
        (eq-or-ne ((t + 1) % 8) 0)

-- a gate passed
pub begun-on : (g : Gate) (c count t byte out k p : ℕ) (m : List ℕ) → Begun c count t byte m → out < c → t + and_one g ≤ 8 * count → c + count ≤ length m
    → Begun c count (t + and_one g) (byte_after p g t m byte) (passed g out k p (8 * c + t) m)
begun-on (Xor a b) c count t byte out k p m h l more room =
    let e : t + 0 ≡ t = omega arith in
    rw e (begun-before c count t byte m h out l _)
begun-on (And a b) c count t byte out k p m h l more room =
    let v : Bool = odd (bit_xor (bit_and (at m a) (at m b)) (bit_val (bit_at m p))) in
    let here : t < 8 * count = omega arith in
    let put : List ℕ = set m (c + t / 8) (byte + bit_val v * 2 ^ (t % 8)) in
    let e : put ≡ put_bit m (8 * c + t) v = put_next m c t byte v (h.held here) h.low in
    subst (λ (w : List ℕ). Begun c count (t + 1) (byte_after p (And a b) t m byte) (set w out (bit_val (bit_at w k)))) e
    (begun-before c count (t + 1) _ put (begun-put c count t byte m h out l v here room) out l _)
begun-on (Inv a) c count t byte out k p m h l more room =
    let e : t + 0 ≡ t = omega arith in
    rw e (begun-before c count t byte m h out l _)

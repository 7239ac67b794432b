-- Fields inside a file, and one step along the chain, as the code counts: n links are left, then n - 1.
-- Assumes nothing.
use mathlib.Core.Path.{◌≡◌, refl, sym, ap, ap₂, subst, ◌∙◌, fun_ext}
use mathlib.Core.Bool.{Bool, true, false, cond, ◌&&◌, ◌||◌}
use mathlib.Core.List.{List, [], ◌∷◌}
use mathlib.Core.Logic.{inr, ⊎_elim, ◌≢◌}
use Prim.Native.Nat.{ℕ, zero, suc, ◌+◌, ◌-◌, ◌*◌, ◌/◌, ◌%◌, ◌≤◌, ◌<◌}
use native.Mathlib.Omega.{arith}
use native.Mathlib.Numerals.{add-one}
use native.Mathlib.Nat.{mul-suc, mul-le-mul_left}
use borrow.Author.Tests.{eq-eqb, ne_eqb, leb-true}
use lib.Dec.{eqb, leb, ltb}
use lib.ListN.{length, get_or, replicate, length-replicate, get_or-replicate, get_or-eq_default}
use Rattle.bits.specs.Bits.{bit_at, test_bit}
use Rattle.bits.specs.Steps.{put_bit}
use Rattle.bits.proofs.Packing.{bit_at-put_bit, bit_at-put_bit-other}
use Rattle.bits.proofs.Tests.{and-true-left, and-true-right}
use Rattle.bits.proofs.Numbers.{lt-or-le, eq-or-ne, test_bit-zero}
use Rattle.circuit.specs.Circuit as paper
use Rattle.circuit.specs.Fields.{Fields, inputs_of, gates_of, next_of, kind_of, wire_a, wire_b, chain_from, gate_at, reads_written, good_record, good_records, good_outputs, output_wire}
use Rattle.circuit.specs.File.{width}
use Rattle.circuit.specs.FieldSteps.{Known, gate_of, record_of, Inside, Laid, gates_from, walks}
use Rattle.circuit.specs.Steps.{placed, and_one, readable, seen}
use Rattle.circuit.specs.declared.Gate.{Gate}
use Rattle.circuit.specs.declared.Gate.TheVariants.{Xor, And, Inv}
use Rattle.circuit.specs.declared.Record.{Record}

-- the width in use is known
pub width-known : Known width
width-known = inr refl

-- what holds of 2 and of 4 holds of a known width
by_width : (P : ℕ → Type 0) (w : ℕ) → Known w → P 2 → P 4 → P w
by_width P w known two four = ⊎_elim (λ e. subst P (sym e) two) (λ e. subst P (sym e) four) known

-- field k of n that are inside is inside
pub fits : (w n k l : ℕ) → k < n → w * n ≤ l → w * k + w ≤ l
fits w n k l a b =
    let c : w * k + w ≡ w * suc k = sym (mul-suc w k) in
    omega (arith, c, mul-le-mul_left w a)

-- n fields are no more than the bytes
pub few : (w n l : ℕ) → Known w → w * n ≤ l → n ≤ l
few w n l known = by_width (λ v. v * n ≤ l → n ≤ l) w known (λ h. omega arith) (λ h. omega arith)

-- n fields take at most 4 bytes each
pub times-few : (w n : ℕ) → Known w → w * n ≤ 4 * n
times-few w n known = by_width (λ v. v * n ≤ 4 * n) w known (omega arith) (omega arith)

-- the fields up to the end of a record are no more than the bytes
pub at-few : (w : ℕ) (s : List ℕ) (o k : ℕ) → Inside w s o k → 4 + o + 4 * (k - 1) + 4 ≤ length s
at-few w s o k p = few w (4 + o + 4 * (k - 1) + 4) (length s) p.known p.room

-- a slot from 1 to G has its record inside the file
pub inside : (w : ℕ) (s : List ℕ) (i o g k : ℕ) → Laid w s i o g → 1 ≤ k → k ≤ g → Inside w s o k
inside w s i o g k l a b =
    let c : 4 + o + 4 * (k - 1) + 4 ≤ 4 + o + 4 * g = omega arith in
    record { known = l.known; outputs = l.outputs; first = a; room = omega (arith, l.whole, mul-le-mul_left w c) }

-- what a good chain says of the slot in hand, with n links left
pub record Here (s : Fields) (n k : ℕ) : Type 0 where
  pub first : 1 ≤ k
  pub low : k ≤ gates_of s
  pub rest : walks s (n - 1) (next_of s k) ≡ true

pub here : (s : Fields) (n k : ℕ) → 0 < n → walks s n k ≡ true → Here s n k
unfolding walks
here s zero k h e = absurd (omega arith)
here s (suc n) k h e =
    let q : suc n - 1 ≡ n = omega arith in
    let t = and-true-left (leb 1 k && leb k (gates_of s)) (walks s n (next_of s k)) e in
    record {
      first = leb-true 1 k (and-true-left (leb 1 k) (leb k (gates_of s)) t);
      low = leb-true k (gates_of s) (and-true-right (leb 1 k) (leb k (gates_of s)) t);
      rest = rw q (and-true-right (leb 1 k && leb k (gates_of s)) (walks s n (next_of s k)) e);
    }

placed-cond : (a b : Bool) (x y z : Gate) (c : ℕ) → placed (cond a x (cond b y z)) c ≡ cond a (placed x c) (cond b (placed y c) (placed z c))
placed-cond true b x y z c = refl
placed-cond false true x y z c = refl
placed-cond false false x y z c = refl

-- the gate read, with the wire that its slot writes, is the slot's gate
pub placed_at : (s : Fields) (k : ℕ) → placed (gate_of s k) (inputs_of s + k - 1) ≡ gate_at s k
unfolding gate_of gate_at
placed_at s k =
    placed-cond (eqb (kind_of s k) 1) (eqb (kind_of s k) 2) (Xor (wire_a s k) (wire_b s k)) (And (wire_a s k) (wire_b s k)) (Inv (wire_a s k)) (inputs_of s + k - 1)

-- so for a record read
pub placed-record : (s : Fields) (k : ℕ) → placed (record_of s k).gate (inputs_of s + k - 1) ≡ gate_at s k
unfolding record_of
placed-record s k = placed_at s k

pub gates-on : (s : Fields) (n k : ℕ) → 0 < n → gates_from s n k ≡ placed (gate_of s k) (inputs_of s + k - 1) ∷ gates_from s (n - 1) (next_of s k)
unfolding gates_from chain_from
gates-on s zero k h = absurd (omega arith)
gates-on s (suc n) k h =
    let q : suc n - 1 ≡ n = omega arith in
    rw (q, placed_at)

-- a way of n links passes n slots
pub length-chain : (s : Fields) (n k : ℕ) → length (chain_from s n k) ≡ n
unfolding chain_from
length-chain s zero k = refl
length-chain s (suc n) k = ap suc (length-chain s n (next_of s k))

pub gates-end : (s : Fields) (n k : ℕ) → n ≤ 0 → gates_from s n k ≡ []
unfolding gates_from chain_from
gates-end s zero k h = refl
gates-end s (suc n) k h = absurd (omega arith)

pub ands-on : (g : Gate) (c : ℕ) (gs : List paper.Gate) → paper.ands (placed g c ∷ gs) ≡ and_one g + paper.ands gs
unfolding paper.ands
ands-on (Xor a b) c gs = omega arith
ands-on (And a b) c gs = omega arith
ands-on (Inv a) c gs = omega arith

pub and_one-le : (g : Gate) → and_one g ≤ 1
and_one-le (Xor a b) = omega arith
and_one-le (And a b) = omega arith
and_one-le (Inv a) = omega arith

pub reads_on : (f : ℕ → Bool) (g : Gate) (c : ℕ) (gs : List paper.Gate)
    → reads_written f (placed g c ∷ gs) ≡ readable f g && reads_written (paper.put f c true) gs
unfolding reads_written
reads_on f (Xor a b) c gs = refl
reads_on f (And a b) c gs = refl
reads_on f (Inv a) c gs = refl

or-true : (a : Bool) → a || true ≡ true
or-true true = refl
or-true false = refl

or-false : (a : Bool) → a || false ≡ a
or-false true = refl
or-false false = refl

-- what is put at a place stands there, and the other places are kept
pub put_same : (f : ℕ → Bool) (c : ℕ) (x : Bool) → paper.put f c x c ≡ x
unfolding paper.put
put_same f c x = ap (λ (b : Bool). cond b x (f c)) (eq-eqb c c refl)

pub put_other : (f : ℕ → Bool) (c : ℕ) (x : Bool) (j : ℕ) → j ≢ c → paper.put f c x j ≡ f j
unfolding paper.put
put_other f c x j h = ap (λ (b : Bool). cond b x (f j)) (ne_eqb j c h)

-- with bit c of a byte string put to b, its bits are those with b at place c
pub bits_put : (v : List ℕ) (c : ℕ) (b : Bool) → c < 8 * length v → bit_at (put_bit v c b) ≡ paper.put (bit_at v) c b
bits_put v c b h =
    fun_ext (λ w.
    ⊎_elim
    (λ e. rw e (bit_at-put_bit v c b h ∙ sym (put_same (bit_at v) c b)))
    (λ n. bit_at-put_bit-other v c b w n ∙ sym (put_other (bit_at v) c b w n))
    (eq-or-ne w c))

-- with the bit of wire c set, c is written too
pub seen-put : (i : ℕ) (flags : List ℕ) (c : ℕ) → c < 8 * length flags → seen i (put_bit flags c true) ≡ paper.put (seen i flags) c true
unfolding seen
seen-put i flags c h =
    fun_ext (λ w.
    ⊎_elim
    (λ e.
    rw e
    (ap (λ (x : Bool). ltb c i || x) (bit_at-put_bit flags c true h) ∙ or-true (ltb c i) ∙ sym (put_same (seen i flags) c true)))
    (λ n. ap (λ (x : Bool). ltb w i || x) (bit_at-put_bit-other flags c true w n) ∙ sym (put_other (seen i flags) c true w n))
    (eq-or-ne w c))

pub zeros-at : (n w : ℕ) → ◌≡◌ {A = ℕ} (get_or (replicate n 0) w 0) 0
zeros-at n w = ⊎_elim (λ h. get_or-replicate n w 0 0 h) (λ h. get_or-eq_default (replicate n 0) 0 (rw length-replicate h)) (lt-or-le w n)

pub zero_bits : (n w : ℕ) → bit_at (replicate n 0) w ≡ false
unfolding bit_at
zero_bits n w = ap (λ (x : ℕ). test_bit x (w % 8)) (zeros-at n (w / 8)) ∙ test_bit-zero (w % 8)

-- with no bit set, the inputs are written
pub seen_none : (i n : ℕ) → seen i (replicate n 0) ≡ (λ w. ltb w i)
unfolding seen
seen_none i n = fun_ext (λ w. ap (λ (x : Bool). ltb w i || x) (zero_bits n w) ∙ or-false (ltb w i))

-- the parts of a record read
pub next-read : (s : Fields) (k : ℕ) (q : Record) → q ≡ record_of s k → q.next ≡ next_of s k
unfolding record_of
next-read s k q e = ap (λ (x : Record). x.next) e

pub gate-read : (s : Fields) (k : ℕ) (q : Record) → q ≡ record_of s k → q.gate ≡ gate_of s k
unfolding record_of
gate-read s k q e = ap (λ (x : Record). x.gate) e

-- a turn of the count of AND gates
pub ands-turn : (s : Fields) (n k count r t : ℕ) (q : Record) → q ≡ record_of s k → 0 < n → r ≡ and_one q.gate
    → count + paper.ands (gates_from s n k) ≡ t → count + r + paper.ands (gates_from s (n - 1) q.next) ≡ t
ands-turn s n k count r t q e h a i =
    let g : r ≡ and_one (gate_of s k) = a ∙ ap and_one (gate-read s k q e) in
    let m : paper.ands (gates_from s (n - 1) q.next) ≡ paper.ands (gates_from s (n - 1) (next_of s k))
    = ap (λ (j : ℕ). paper.ands (gates_from s (n - 1) j)) (next-read s k q e) in
    let o : paper.ands (gates_from s n k) ≡ and_one (gate_of s k) + paper.ands (gates_from s (n - 1) (next_of s k))
    = ap paper.ands (gates-on s n k h) ∙ ands-on (gate_of s k) (inputs_of s + k - 1) (gates_from s (n - 1) (next_of s k)) in
    omega arith

-- a turn of the test of the wires that are read
module _ (s : Fields) (i n k : ℕ) (flags : List ℕ) (q : Record) (e : q ≡ record_of s k) (h : 0 < n) where
  reads-split : reads_written (seen i flags) (gates_from s n k)
      ≡ readable (seen i flags) q.gate && reads_written (paper.put (seen i flags) (inputs_of s + k - 1) true) (gates_from s (n - 1) q.next)
  reads-split =
      ap (reads_written (seen i flags)) (gates-on s n k h)
      ∙ reads_on (seen i flags) (gate_of s k) (inputs_of s + k - 1) (gates_from s (n - 1) (next_of s k))
      ∙ rw (gate-read s k q e, next-read s k q e)

  pub reads-fail : readable (seen i flags) q.gate ≡ false → reads_written (seen i flags) (gates_from s n k) ≡ false
  reads-fail f = reads-split ∙ rw f

  pub reads-turn : readable (seen i flags) q.gate ≡ true → i ≡ inputs_of s → 1 ≤ k → i + (k - 1) < 8 * length flags
      → reads_written (seen i (put_bit flags (i + (k - 1)) true)) (gates_from s (n - 1) q.next) ≡ reads_written (seen i flags) (gates_from s n k)
  reads-turn t u a b =
      let w : i + (k - 1) ≡ inputs_of s + k - 1 = omega arith in
      ap (λ (f : ℕ → Bool). reads_written f (gates_from s (n - 1) q.next))
      (seen-put i flags (i + (k - 1)) b ∙ ap (λ (j : ℕ). paper.put (seen i flags) j true) w)
      ∙ sym (reads-split ∙ rw t)

-- turns of the tests of the records and of the output wires
pub records-turn : (s : Fields) (k : ℕ) (x y z : Bool) → x ≡ good_records s k → y ≡ good_record s (k + 1) → z ≡ x && y → z ≡ good_records s (k + 1)
unfolding good_records
records-turn s k x y z p q r = rw add-one (r ∙ ap₂ ◌&&◌ p (rw add-one at q))

pub outputs-turn : (s : Fields) (j w : ℕ) (x z : Bool) → x ≡ good_outputs s j → w ≡ inputs_of s + gates_of s
    → z ≡ x && ltb (output_wire s j) w → z ≡ good_outputs s (j + 1)
unfolding good_outputs
outputs-turn s j w x z p q r = rw add-one (r ∙ ap₂ (λ (a : Bool) (b : ℕ). a && ltb (output_wire s j) b) p q)

pub ands-none : paper.ands [] ≡ 0
unfolding paper.ands
ands-none = refl

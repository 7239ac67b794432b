-- The bits of an evaluation: what each turn does, and that they are those of the circuit's wires.
-- Assumes nothing.
use mathlib.Core.Path.{◌≡◌, refl, sym, ap, ap₂, ◌∙◌, fun_ext}
use mathlib.Core.Bool.{Bool, true, false, not, ◌&&◌}
use mathlib.Core.List.{List, ◌∷◌, map}
use mathlib.Core.Logic.{⊎_elim}
use Prim.Native.Nat.{ℕ, zero, suc, ◌+◌, ◌-◌, ◌*◌, ◌^◌, ◌≤◌, ◌<◌}
use native.Mathlib.Omega.{arith}
use native.Mathlib.Nat.{eq-or-lt_of_le, le_of_suc-le-suc}
use native.Mathlib.Numerals.{add-one}
use borrow.Author.Tests.{ltb-true}
use lib.Dec.{ltb}
use lib.Bits.{bit_xor, bit_and}
use lib.ListN.{length, get_or, set, replicate, length-replicate, length-map}
use lib.Pow.{pow_mono}
use lib.Seq.{get_or-set_same, get_or-set_other, ext_get_or}
use Rattle.bits.specs.Bits.{tabulate, odd, bit_val, bit_at, from_bits, oct, pack, unused_zero}
use Rattle.bits.specs.Xor.{◌⊕◌}
use Rattle.bits.specs.Steps.{put_bit}
use Rattle.bits.proofs.Numbers.{lt-or-le, eq-or-ne, odd-bit_val, from_bits-lt}
use Rattle.bits.proofs.Packing.{length-pack, unused-all, length-put_bit, bit_at-put_bit, bit_at-put_bit-other}
use Rattle.bits.proofs.Tabulate.{length-tabulate, get_d_tabulate, get_or-tabulate-end}
use Rattle.bits.proofs.Tests.{and-true-left, and-true-right}
use Rattle.circuit.specs.Circuit as paper
use Rattle.circuit.specs.Fields as fields
use Rattle.circuit.specs.FieldSteps as steps
use Rattle.circuit.specs.File.{inputs_of, gates_of, head_of, next_of, output_wire, good_chain, reads_written, gates_in_order, circuit_of}
use Rattle.circuit.specs.Steps.{max_wires, wire_bytes, gate_of, record_of, placed, readable, gates_from, gate_bit, loaded, walked, out_bits, out_byte, within, wired, Legal, walks, good_outputs}
use Rattle.circuit.specs.declared.Gate.{Gate}
use Rattle.circuit.specs.declared.Gate.TheVariants.{Xor, And, Inv}
use Rattle.circuit.specs.declared.Record.{Record}
use Rattle.circuit.proofs.Walking.{chain-walks}
use Rattle.circuit.proofs.Chain.{here, gates-on, gates-end, reads_on, put_other, next-read, gate-read}
use Rattle.circuit.proofs.Slots.{bits_put, zero_bits}

-- loading the witness
module _ (w v : List ℕ) where
  pub load-none : v ≡ loaded w 0 v
  unfolding loaded
  load-none = refl

  pub load-turn : (k x : ℕ) (u : List ℕ) → u ≡ loaded w k v → x ≡ bit_val (bit_at w k) → put_bit u k (odd x) ≡ loaded w (k + 1) v
  unfolding loaded
  load-turn k x u p q = rw (p, q, add-one, odd-bit_val)

  pub length-loaded : (k : ℕ) → length (loaded w k v) ≡ length v
  unfolding loaded
  length-loaded zero = refl
  length-loaded (suc k) = length-put_bit (loaded w k v) k (bit_at w k) ∙ length-loaded k

  loaded_at : (k j : ℕ) → k ≤ 8 * length v → j < k → bit_at (loaded w k v) j ≡ bit_at w j
  unfolding loaded
  loaded_at zero j h l = absurd (omega arith)
  loaded_at (suc k) j h l =
      ⊎_elim
      (λ e. rw e (bit_at-put_bit (loaded w k v) k (bit_at w k) (omega (arith, length-loaded k))))
      (λ m. bit_at-put_bit-other (loaded w k v) k (bit_at w k) j (omega arith) ∙ loaded_at k j (omega arith) m)
      (eq-or-lt_of_le (le_of_suc-le-suc l))

  loaded-other : (k j : ℕ) → k ≤ j → bit_at (loaded w k v) j ≡ bit_at v j
  unfolding loaded
  loaded-other zero j h = refl
  loaded-other (suc k) j h = bit_at-put_bit-other (loaded w k v) k (bit_at w k) j (omega arith) ∙ loaded-other k j (omega arith)

-- the wires hold the witness, whose unused bits are zero
pub bits-loaded : (w : List ℕ) (i n : ℕ) → i ≤ 8 * n → unused_zero i w ≡ true → bit_at (loaded w i (replicate n 0)) ≡ bit_at w
bits-loaded w i n h u =
    let z : List ℕ = replicate n 0 in
    let l : length z ≡ n = length-replicate n 0 in
    fun_ext (λ j.
    ⊎_elim
    (λ a. loaded_at w z i j (omega arith) a)
    (λ a. loaded-other w z i j a ∙ zero_bits n j ∙ sym (unused-all i w u j a))
    (lt-or-le j i))

-- one turn of the walk
module _ (s : List ℕ) where
  pub walked_on : (n k : ℕ) (v : List ℕ) → 0 < n
      → walked s n k v ≡ walked s (n - 1) (next_of s k) (put_bit v (inputs_of s + k - 1) (gate_bit (gate_of s k) (bit_at v)))
  unfolding walked
  walked_on zero k v h = absurd (omega arith)
  walked_on (suc n) k v h = let e : suc n - 1 ≡ n = omega arith in rw e

  pub walked_end : (n k : ℕ) (v : List ℕ) → n ≤ 0 → walked s n k v ≡ v
  unfolding walked
  walked_end zero k v h = refl
  walked_end (suc n) k v h = absurd (omega arith)

  pub wired-on : (m n k : ℕ) → 0 < n → wired s m n k → within m (gate_of s k) × wired s m (n - 1) (next_of s k)
  unfolding wired
  wired-on m zero k h p = absurd (omega arith)
  wired-on m (suc n) k h p = let e : suc n - 1 ≡ n = omega arith in (p.0, rw e p.1)

  pub walk_turn : (i n k x : ℕ) (v t : List ℕ) (q : Record) → q ≡ record_of s k → 0 < n → 1 ≤ k → i ≡ inputs_of s → x ≡ bit_val (gate_bit q.gate (bit_at v))
      → walked s n k v ≡ t → walked s (n - 1) q.next (put_bit v (i + (k - 1)) (odd x)) ≡ t
  walk_turn i n k x v t q e h a b d p =
      let c : i + (k - 1) ≡ inputs_of s + k - 1 = omega arith in
      let y : odd x ≡ gate_bit (gate_of s k) (bit_at v) = ap odd d ∙ odd-bit_val _ ∙ ap (λ (g : Gate). gate_bit g (bit_at v)) (gate-read s k q e) in
      rw (next-read s k q e, c, y) (sym (walked_on n k v h) ∙ p)

-- a gate on the bytes of bits
module _ (v : List ℕ) where
  pub xor-read : (a b x y : ℕ) → x ≡ bit_val (bit_at v a) → y ≡ bit_val (bit_at v b) → bit_xor x y ≡ bit_val (bit_at v a ⊕ bit_at v b)
  xor-read a b x y p q = ap₂ bit_xor p q ∙ bits (bit_at v a) (bit_at v b)
    where
      bits : (a b : Bool) → bit_xor (bit_val a) (bit_val b) ≡ bit_val (a ⊕ b)
      bits true true = refl
      bits true false = refl
      bits false true = refl
      bits false false = refl

  pub and-read : (a b x y : ℕ) → x ≡ bit_val (bit_at v a) → y ≡ bit_val (bit_at v b) → bit_and x y ≡ bit_val (bit_at v a && bit_at v b)
  and-read a b x y p q = ap₂ bit_and p q ∙ bits (bit_at v a) (bit_at v b)
    where
      bits : (a b : Bool) → bit_and (bit_val a) (bit_val b) ≡ bit_val (a && b)
      bits true true = refl
      bits true false = refl
      bits false true = refl
      bits false false = refl

  pub not-read : (a x : ℕ) → x ≡ bit_val (bit_at v a) → bit_xor 1 x ≡ bit_val (not (bit_at v a))
  not-read a x p = ap (bit_xor 1) p ∙ bits (bit_at v a)
    where
      bits : (a : Bool) → bit_xor 1 (bit_val a) ≡ bit_val (not a)
      bits true = refl
      bits false = refl

eval-on : (g : Gate) (c : ℕ) (gs : List paper.Gate) (f : ℕ → Bool) → paper.eval_gates (placed g c ∷ gs) f ≡ paper.eval_gates gs (paper.put f c (gate_bit g f))
unfolding paper.eval_gates
eval-on (Xor a b) c gs f = refl
eval-on (And a b) c gs f = refl
eval-on (Inv a) c gs f = refl

eval-none : (s : List ℕ) (k : ℕ) (f : ℕ → Bool) → paper.eval_gates (gates_from s 0 k) f ≡ f
unfolding paper.eval_gates
eval-none s k f = rw (gates-end s 0 k (omega arith))

-- the bits after the walk are those of the wires after the gates
pub bits-walked : (s : List ℕ) (n k : ℕ) (v : List ℕ) → walks s n k ≡ true → inputs_of s + gates_of s ≤ 8 * length v
    → bit_at (walked s n k v) ≡ paper.eval_gates (gates_from s n k) (bit_at v)
bits-walked s zero k v e h = ap bit_at (walked_end s 0 k v (omega arith)) ∙ sym (eval-none s k (bit_at v))
bits-walked s (suc n) k v e h =
    let a : 0 < suc n = omega arith in
    let p : suc n - 1 ≡ n = omega arith in
    let t = here s (suc n) k a e in
    let c = inputs_of s + k - 1 in
    let x = gate_bit (gate_of s k) (bit_at v) in
    let l : c < 8 * length v = omega arith in
    let y = put_bit v c x in
    ap bit_at (walked_on s (suc n) k v a) ∙ ap (λ (j : ℕ). bit_at (walked s j (next_of s k) y)) p
    ∙ bits-walked s n (next_of s k) y (rw p at t.rest) (rw (length-put_bit v c x) h)
    ∙ ap (paper.eval_gates (gates_from s n (next_of s k))) (bits_put v c x l)
    ∙ sym
    (ap (λ (gs : List paper.Gate). paper.eval_gates gs (bit_at v)) (gates-on s (suc n) k a)
    ∙ eval-on (gate_of s k) c (gates_from s (suc n - 1) (next_of s k)) (bit_at v)
    ∙ ap (λ (j : ℕ). paper.eval_gates (gates_from s j (next_of s k)) (paper.put (bit_at v) c (gate_bit (gate_of s k) (bit_at v)))) p)

-- a gate that reads wires reads bits of values that hold every wire
pub within-room : (v : List ℕ) (g : Gate) → length v ≡ wire_bytes → within max_wires g → within (8 * length v) g
within-room v g e w = rw e w

-- gates that read only written wires read wires below m, where the written wires are
within-read : (m : ℕ) (f : ℕ → Bool) (g : Gate) → ((w : ℕ) → f w ≡ true → w < m) → readable f g ≡ true → within m g
within-read m f (Xor a b) h e = (h a (and-true-left (f a) (f b) e), h b (and-true-right (f a) (f b) e))
within-read m f (And a b) h e = (h a (and-true-left (f a) (f b) e), h b (and-true-right (f a) (f b) e))
within-read m f (Inv a) h e = h a e

pub wired-reads : (s : List ℕ) (m n k : ℕ) (f : ℕ → Bool) → ((w : ℕ) → f w ≡ true → w < m) → inputs_of s + gates_of s ≤ m → walks s n k ≡ true
    → reads_written f (gates_from s n k) ≡ true → wired s m n k
unfolding wired
wired-reads s m zero k f h l e r = tt
wired-reads s m (suc n) k f h l e r =
    let a : 0 < suc n = omega arith in
    let p : suc n - 1 ≡ n = omega arith in
    let t = here s (suc n) k a e in
    let c = inputs_of s + k - 1 in
    let b : c < m = omega arith in
    let d = sym (ap (reads_written f) (gates-on s (suc n) k a) ∙ reads_on f (gate_of s k) c (gates_from s (suc n - 1) (next_of s k))) ∙ r in
    let u = and-true-right (readable f (gate_of s k)) (reads_written (paper.put f c true) (gates_from s (suc n - 1) (next_of s k))) d in (
      within-read m f (gate_of s k) h (and-true-left (readable f (gate_of s k)) (reads_written (paper.put f c true) (gates_from s (suc n - 1) (next_of s k))) d),
      wired-reads s m n (next_of s k) (paper.put f c true)
          (λ w q. ⊎_elim (λ z. rw z b) (λ z. h w (sym (put_other f c true w z) ∙ q)) (eq-or-ne w c))
          l
          (rw p at t.rest)
          (rw p at u),
    )

-- an output wire is below I + G
pub output-low : (s : List ℕ) (n j : ℕ) → good_outputs s n ≡ true → j < n → output_wire s j < inputs_of s + gates_of s
unfolding fields.good_outputs
output-low s zero j e l = absurd (omega arith)
output-low s (suc n) j e l =
    ⊎_elim
    (λ q. rw q (ltb-true (output_wire s n) (inputs_of s + gates_of s) (and-true-right (good_outputs s n) (ltb (output_wire s n) (inputs_of s + gates_of s)) e)))
    (λ q. output-low s n j (and-true-left (good_outputs s n) (ltb (output_wire s n) (inputs_of s + gates_of s)) e) q)
    (eq-or-lt_of_le (le_of_suc-le-suc l))

pub map-tabulate : {A : Type 0} {B : Type 0} (f : A → B) (n : ℕ) (g : ℕ → A) → map f (tabulate n g) ≡ tabulate n (λ i. f (g i))
map-tabulate f zero g = refl
map-tabulate f (suc n) g = ap (λ (l : List _). f (g 0) ∷ l) (map-tabulate f n (λ i. g (suc i)))

-- output bit j
module _ (s v : List ℕ) (o : ℕ) where
  pub out-in : (j : ℕ) → j < o → get_or (out_bits s v o) j false ≡ bit_at v (output_wire s j)
  unfolding out_bits
  out-in j h =
      ap (λ (l : List Bool). get_or l j false) (map-tabulate (bit_at v) o (output_wire s)) ∙ get_d_tabulate o (λ i. bit_at v (output_wire s i)) j false h

  pub out-end : (j : ℕ) → o ≤ j → get_or (out_bits s v o) j false ≡ false
  unfolding out_bits
  out-end j h =
      ap (λ (l : List Bool). get_or l j false) (map-tabulate (bit_at v) o (output_wire s)) ∙ get_or-tabulate-end o (λ i. bit_at v (output_wire s i)) j false h

  length-out : length (out_bits s v o) ≡ o
  unfolding out_bits
  length-out = length-map (tabulate o (output_wire s)) (bit_at v) ∙ length-tabulate o (output_wire s)

  -- bytes that are each the packed byte are the packed bits
  pub packed : (y : List ℕ) → length y ≡ oct o → ((j : ℕ) → j < length y → get_or y j 0 ≡ out_byte s v o j) → y ≡ pack (out_bits s v o)
  unfolding pack out_byte
  packed y h e =
      let n : oct (length (out_bits s v o)) ≡ length y = ap oct length-out ∙ sym h in
      ext_get_or 0 y (pack (out_bits s v o)) (sym (length-pack (out_bits s v o) ∙ n))
      (λ j l. e j l ∙ sym (get_d_tabulate (oct (length (out_bits s v o))) (λ i. from_bits 8 (λ t. get_or (out_bits s v o) (8 * i + t) false)) j 0 (omega arith)))

-- a turn of a loop that stores f 0, f 1, ..
pub store-turn : (f : ℕ → ℕ) (y : List ℕ) (j x : ℕ) → j < length y → ((i : ℕ) → i < j → get_or y i 0 ≡ f i) → x ≡ f j
    → (i : ℕ) → i < j + 1 → get_or (set y j x) i 0 ≡ f i
store-turn f y j x h p q i l =
    ⊎_elim
    (λ e. rw e (get_or-set_same y j x 0 h ∙ q))
    (λ n. get_or-set_other y j i x 0 n ∙ p i (omega arith))
    (eq-or-ne i j)

-- a turn of the sum of a byte's bits
pub byte-turn : (f : ℕ → Bool) (t sum weight b : ℕ) → sum ≡ from_bits t f → weight ≡ 2 ^ t → b ≡ bit_val (f t) → sum + b * weight ≡ from_bits (t + 1) f
unfolding from_bits
byte-turn f t sum weight b p q r = rw (add-one, p, q, r)

pub good_chain-walks : (s : List ℕ) → good_chain s ≡ true → walks s (gates_of s) (head_of s) ≡ true
good_chain-walks s e = sym (chain-walks s) ∙ e

pub gates-order : (s : List ℕ) → gates_from s (gates_of s) (head_of s) ≡ gates_in_order s
unfolding steps.gates_from fields.gates_in_order
gates-order s = refl

-- such a sum stays a byte
pub byte-room : (f : ℕ → Bool) (t sum weight b : ℕ) → t < 8 → sum ≡ from_bits t f → weight ≡ 2 ^ t → b ≡ bit_val (f t) → sum + b * weight < 256
byte-room f t sum weight b h p q r =
    omega (arith, byte-turn f t sum weight b p q r, from_bits-lt (t + 1) f, pow_mono {i = t + 1} {j = 8} (omega arith))

-- the outputs of the bytes after the walk are those of the circuit
pub evaluated : (s : List ℕ) (i o g h : ℕ) (w : List ℕ) → Legal s i o g → h ≡ head_of s → i ≤ max_wires → inputs_of s + gates_of s ≤ max_wires → unused_zero i w ≡ true
    → out_bits s (walked s g h (loaded w i (replicate wire_bytes 0))) o ≡ paper.evaluate (circuit_of s) (bit_at w)
unfolding out_bits paper.evaluate fields.circuit_of
evaluated s i o g h w f p few all u =
    let z : List ℕ = replicate wire_bytes 0 in
    let l : length (loaded w i z) ≡ wire_bytes = length-loaded w z i ∙ length-replicate {A = ℕ} wire_bytes 0 in
    let c : walks s g h ≡ true = ap₂ (walks s) f.laid.gates p ∙ chain-good in
    let q : bit_at (walked s g h (loaded w i z)) ≡ paper.eval_gates (gates_in_order s) (bit_at w)
    = bits-walked s g h (loaded w i z) c (omega arith) ∙ ap₂ paper.eval_gates gates-all (bits-loaded w i wire_bytes few u) in
    ap₂ (λ (x : ℕ → Bool) (n : ℕ). map x (tabulate n (output_wire s))) q f.laid.outputs
  where
    chain-good : walks s (gates_of s) (head_of s) ≡ true
    chain-good = good_chain-walks s f.chain

    gates-all : gates_from s g h ≡ gates_in_order s
    gates-all = ap₂ (gates_from s) f.laid.gates p ∙ gates-order s

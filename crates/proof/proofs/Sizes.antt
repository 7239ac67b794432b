-- The bytes of a stretch and of a proof, in the numbers that the code carries.
-- Assumes nothing.
use mathlib.Core.Path.{◌≡◌, sym, ap, ◌∙◌}
use mathlib.Core.Bool.{Bool, true, false, cond}
use mathlib.Core.List.{List}
use Prim.Native.Nat.{ℕ, suc, ◌+◌, ◌*◌, ◌≤◌}
use native.Mathlib.Numerals.{add-one}
use native.Mathlib.Omega.{arith}
use borrow.Author.Tests.{eq-eqb, ne_eqb}
use lib.Dec.{eqb}
use Rattle.bits.specs.Bits.{oct}
use Rattle.parties.proofs.Counts.{height-small}
use Rattle.circuit.specs.Circuit.{Circuit}
use Rattle.circuit.specs.File.{max_inputs, max_outputs, max_gates, circuit_of}
use Rattle.cover.specs.Masters.{cover_bytes}
use Rattle.mpc.specs.Steps.{Known}
use Rattle.plain.specs.Tapes.{ands_of}
use Rattle.mpc.proofs.Asks.{ands-few, broadcasts-few}
use Rattle.mpc.proofs.Opened.{sized, circuit-inputs, circuit-outputs, circuit-ands}
use Rattle.instance.specs.Instance.{Asked, opened, hiding}
use Rattle.instance.specs.Stretch.{correction_bytes, stretch_bytes}
use Rattle.instance.specs.Steps.{Tree}
use Rattle.instance.proofs.Laid.{stretch-size}
use Rattle.proof.specs.File.{hides, stretch_start}
use Rattle.proof.specs.Steps.{ask_of}

-- the number n is that of an instance not chosen
pub ask-opened : (n p : ℕ) → p ≡ n → ask_of n p ≡ opened
unfolding ask_of
ask-opened n p e = rw (eq-eqb p n e)

-- any other to hide that party
pub ask-hiding : (n p : ℕ) → (p ≡ n → ⊥) → ask_of n p ≡ hiding p
unfolding ask_of
ask-hiding n p e = rw (ne_eqb p n e)

-- the stretch of an instance that is not chosen
pub size-opened : (c : Circuit) (n p : ℕ) → p ≡ n → 32 ≡ stretch_bytes c n (ask_of n p)
unfolding stretch_bytes
size-opened c n p e = sym (ap (stretch_bytes c n) (ask-opened n p e))

-- the bytes of a stretch at most: siblings of six levels, corrections, com_p, masked inputs and a row
abbrev pub max_stretch : ℕ
max_stretch = 16 * 6 + oct max_gates + 32 + oct max_inputs + oct (max_gates + max_outputs)

-- a legal circuit
module _ (s : List ℕ) (i o g a : ℕ) (k : Known s (sized i o g a)) where
  -- the stretch of a chosen instance, of which v bytes are corrections
  pub size-hiding : (n h p v x y : ℕ) → Tree n h → p ≤ n → (p ≡ n → ⊥) → v ≡ cond (eqb (suc p) n) 0 (oct a) → x ≡ oct i → y ≡ oct (a + o)
      → 16 * h + v + 32 + (x + y) ≡ stretch_bytes (circuit_of s) n (ask_of n p)
  size-hiding n h p v x y tree few other sent e f =
      let z : stretch_bytes (circuit_of s) n (hiding p) ≡ 16 * h + v + 32 + oct i + oct (a + o) =
      stretch-size s (sized i o g a) n h p k tree ∙ ap (λ (x : ℕ). 16 * h + x + 32 + oct i + oct (a + o)) (sym sent) in
      let q : stretch_bytes (circuit_of s) n (ask_of n p) ≡ stretch_bytes (circuit_of s) n (hiding p) = ap (stretch_bytes (circuit_of s) n) (ask-hiding n p other) in
      omega arith

  -- the corrections that are sent are those of a legal file at most
  pub sent-few : (n p v : ℕ) → v ≡ cond (eqb (suc p) n) 0 (oct a) → v ≤ oct max_gates
  sent-few n p v e = rw e (go (eqb (suc p) n))
    where
      go : (b : Bool) → cond b 0 (oct a) ≤ oct max_gates
      go true = omega arith
      go false = omega (arith, ands-few s i o g a k)

  corrections-few : (n p : ℕ) → correction_bytes (circuit_of s) n p ≤ oct max_gates
  unfolding correction_bytes
  corrections-few n p = go (eqb (suc p) n)
    where
      go : (b : Bool) → cond b 0 (oct (ands_of (circuit_of s))) ≤ oct max_gates
      go true = omega arith
      go false = omega (arith, circuit-ands s i o g a k, ands-few s i o g a k)

  -- no stretch is longer
  pub stretch-few : (n : ℕ) (q : Asked) → stretch_bytes (circuit_of s) n q ≤ max_stretch
  unfolding stretch_bytes
  stretch-few n opened = omega arith
  stretch-few n (hiding p) =
      let e1 = circuit-ands s i o g a k in
      let e2 = circuit-outputs s i o g a k in
      let e3 = circuit-inputs s i o g a k in
      let w1 = broadcasts-few s i o g a k in
      let w2 = k.legal.laid.few_inputs in
      omega (arith, corrections-few n p, height-small n)

-- the header and the opened nodes
pub start_none : (c : Circuit) (M n : ℕ) (ask : ℕ → Asked) (v : ℕ) → v ≡ cover_bytes M (hides ask) → 70 + v ≡ stretch_start c M n ask 0
unfolding stretch_start
start_none c M n ask v e = omega (arith, e)

-- one stretch more
pub start-more : (c : Circuit) (M n : ℕ) (ask : ℕ → Asked) (j at r : ℕ) → at ≡ stretch_start c M n ask j → r ≡ stretch_bytes c n (ask j)
    → at + r ≡ stretch_start c M n ask (j + 1)
unfolding stretch_start
start-more c M n ask j at r e f =
    let z : stretch_start c M n ask (j + 1) ≡ stretch_start c M n ask j + stretch_bytes c n (ask j) = ap (stretch_start c M n ask) (add-one j) in
    omega arith

-- the last stretch
pub start-end : (c : Circuit) (M n : ℕ) (ask : ℕ → Asked) (j m at : ℕ) → j ≤ m → m ≤ j → at ≡ stretch_start c M n ask j → at ≡ stretch_start c M n ask m
start-end c M n ask j m at l u e = let z : j ≡ m = omega arith in e ∙ ap (stretch_start c M n ask) z

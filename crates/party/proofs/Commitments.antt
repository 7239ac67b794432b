-- The commitment from the parts that are hashed.
-- Assumes nothing.
use native.Mathlib.Omega.{arith}
use mathlib.Core.Path.{◌≡◌, sym, ap, ◌∙◌}
use mathlib.Core.List.{List, ◌∷◌, ◌++◌, append_assoc, append-nil}
use Prim.Native.Nat.{ℕ, ◌+◌, ◌-◌}
use borrow.Author.Tests.{eq-eqb, ne_eqb}
use lib.ListN.{length, take, drop, length-drop, take-append-drop}
use lib.Seq.{take_all, take-length}
use Rattle.hashing.specs.declared.Context.{Context}
use Rattle.bits.specs.Bytes.{le_bytes}
use Rattle.keccak.specs.Sponge.{sponge, sha3_256}
use Rattle.hashing.specs.Inputs.{commitment_input, own_corrections}
use Rattle.party.specs.Derive.{commitment_to}
use Rattle.short.specs.Steps.{key_input}

-- the corrections of party n - 1, and of no other
pub own-all : (n i : ℕ) (c : List ℕ) (own : ℕ) → i + 1 ≡ n → own ≡ length c → take own c ≡ own_corrections n i c
unfolding own_corrections
own-all n i c own e o = rw (o, eq-eqb (i + 1) n e) (take-length c)

pub own-none : (n i : ℕ) (c : List ℕ) (own : ℕ) → (i + 1 ≡ n → ⊥) → own ≡ 0 → take own c ≡ own_corrections n i c
unfolding own_corrections
own-none n i c own e o = rw (o, ne_eqb (i + 1) n e)

-- the commitment from its parts
pub commitment-is : (j : Context) (n i : ℕ) (row corr r : List ℕ) (own : ℕ) → take own corr ≡ own_corrections n i corr
    → r ≡ sha3_256 ((1 ∷ j.salt) ++ (le_bytes 2 j.number ++ le_bytes 1 i) ++ take 16 row ++ take own corr ++ take (length row - 16) (drop 16 row))
    → r ≡ commitment_to j n i row corr
unfolding commitment_input
commitment-is j n i row corr r own o g =
    let front : List ℕ = (1 ∷ j.salt) ++ (le_bytes 2 j.number ++ le_bytes 1 i) in
    let t : take (length row - 16) (drop 16 row) ≡ drop 16 row = take_all (length row - 16) (drop 16 row) (rw length-drop (omega arith)) in
    g ∙ ap (λ (z : List ℕ). sha3_256 (front ++ take 16 row ++ take own corr ++ z)) t
    ∙ ap (λ (z : List ℕ). sha3_256 (front ++ take 16 row ++ z ++ drop 16 row)) o

-- the commitment of a party before n − 1: its input ends with its row
input-first : (j : Context) (n i : ℕ) (row corr : List ℕ) → (i + 1 ≡ n → ⊥) → commitment_input j n i (take 16 row) corr (drop 16 row) ≡ key_input 1 j i row
unfolding commitment_input own_corrections
input-first j n i row corr h =
    let front : List ℕ = (1 ∷ j.salt) ++ (le_bytes 2 j.number ++ le_bytes 1 i) in
    rw (ne_eqb (i + 1) n h)
    (ap (λ (t : List ℕ). t ++ drop 16 row) (append-nil (front ++ take 16 row)) ∙ append_assoc front (take 16 row) (drop 16 row)
    ∙ ap (λ (t : List ℕ). front ++ t) (take-append-drop 16 row))

-- it is the hash of that input
pub commitment-first : (j : Context) (n i : ℕ) (row corr : List ℕ) → (i + 1 ≡ n → ⊥) → sponge 136 0x06 (key_input 1 j i row) 32 ≡ commitment_to j n i row corr
unfolding sha3_256
commitment-first j n i row corr h = ap (λ (t : List ℕ). sponge 136 0x06 t 32) (sym (input-first j n i row corr h))

-- Salts keep inputs apart.
-- Assumes nothing.
use mathlib.Core.Path.{◌≡◌, sym, ap, ◌∙◌}
use mathlib.Core.List.{List, ◌++◌, append_assoc}
use Prim.Native.Nat.{ℕ}
use lib.ListN.{drop}
use Rattle.bits.specs.Bytes.{le_bytes}
use Rattle.hashing.specs.Inputs.{own_corrections, node_input, leaf_input, tape_input, commitment_input}
use Rattle.hashing.specs.Salts.{Small, node, leaf, tape, commitment, small_input, SaltsApart}
use Rattle.hashing.proofs.Fixed.{parts}

-- after the tag the salt, then the rest
record Split (salt input : List ℕ) : Type 0 where
  rest : List ℕ
  is : drop 1 input ≡ salt ++ rest

split : (salt : List ℕ) (a : Small) → Split salt (small_input salt a)
unfolding small_input node_input leaf_input tape_input commitment_input
split salt (node j k value) = record { rest = (le_bytes 2 j ++ le_bytes 2 k) ++ value; is = append_assoc salt (le_bytes 2 j ++ le_bytes 2 k) value }
split salt (leaf j i value) = record { rest = (le_bytes 2 j ++ le_bytes 1 i) ++ value; is = append_assoc salt (le_bytes 2 j ++ le_bytes 1 i) value }
split salt (tape j i seed) = record { rest = (le_bytes 2 j ++ le_bytes 1 i) ++ seed; is = append_assoc salt (le_bytes 2 j ++ le_bytes 1 i) seed }
split salt (commitment j n i seed corrections r) =
    let head : List ℕ = le_bytes 2 j ++ le_bytes 1 i in
    let own : List ℕ = own_corrections n i corrections in
    record {
      rest = head ++ (seed ++ (own ++ r));
      is =
          append_assoc (((salt ++ head) ++ seed)) own r ∙ append_assoc (salt ++ head) seed (own ++ r) ∙ append_assoc salt head (seed ++ (own ++ r));
    }

pub salts-apart : SaltsApart
salts-apart salt salt' a b l l' other e =
    let p = split salt a in
    let q = split salt' b in
    other (parts salt salt' p.rest q.rest (l ∙ sym l') (sym p.is ∙ (ap (drop 1) e ∙ q.is))).0

-- What is decoded of a proof file is its stretches and their parts.
-- Assumes nothing.
use mathlib.Core.Path.{◌≡◌, refl, sym, ap, ◌∙◌}
use mathlib.Core.List.{List, [], ◌∷◌}
use Prim.Native.Nat.{ℕ, zero, suc, ◌+◌, ◌-◌, ◌*◌, ◌≤◌}
use native.Mathlib.Nat.{zero-add, suc-add}
use native.Mathlib.Omega.{arith}
use lib.ListN.{length, get_or, take, drop}
use lib.Seq.{take-nil, take-take, drop-drop, get_or-drop}
use Rattle.bits.specs.Bits.{oct}
use Rattle.bits.specs.Bytes.{le_at}
use Rattle.bits.proofs.Little.{le_at-cong}
use Rattle.parties.specs.Parties.{height_of}
use Rattle.circuit.specs.Circuit.{Circuit}
use Rattle.plain.specs.Tapes.{ands_of}
use Rattle.instance.specs.Instance.{Asked, opened, hiding}
use Rattle.instance.specs.Stretch.{correction_bytes, stretch_bytes, siblings_part, corrections_part, commitment_part, masked_part, row_part}
use Rattle.proof.specs.File.{header_bytes, header_m, header_tau, header_n, header_hstar, header_salt, stretch_start, stretch_at}
use Rattle.honest.specs.Response.{Sent, unchosen, chosen, decode_header, aux_bytes, decode_sent, bytes_from, nodes_bytes, sent_bytes, all_bytes}

-- what is dropped of the first n + m is dropped of all
drop-take : (n m : ℕ) (s : List ℕ) → drop n (take (n + m) s) ≡ take m (drop n s)
drop-take zero m s = ap (λ (k : ℕ). take k s) (zero-add m)
drop-take (suc n) m [] = ap (λ (k : ℕ). drop (suc n) (take k [])) (suc-add n m) ∙ sym (take-nil m)
drop-take (suc n) m (x ∷ s) = ap (λ (k : ℕ). drop (suc n) (take k (x ∷ s))) (suc-add n m) ∙ drop-take n m s

-- a part of the first t is that part of all, where it ends by there
part_of : (k w t : ℕ) (s : List ℕ) → k + w ≤ t → take w (drop k (take t s)) ≡ take w (drop k s)
part_of k w t s h =
    let e : k + (t - k) ≡ t = omega arith in
    ap (λ (z : ℕ). take w (drop k (take z s))) (sym e) ∙ (ap (take w) (drop-take k (t - k) s) ∙ take-take w (t - k) (drop k s) (omega arith))

-- five parts, the third of 32 bytes, one after the other: each is that part of the first bytes
module _ (a b d e : ℕ) (s : List ℕ) where
  abbrev total : ℕ
  total = a + b + 32 + d + e

  part-1 : take a s ≡ take a (take total s)
  part-1 = sym (take-take a total s (omega arith))

  part-2 : take b (drop a s) ≡ take b (drop a (take total s))
  part-2 = sym (part_of a b total s (omega arith))

  part-3 : take 32 (drop b (drop a s)) ≡ take 32 (drop (a + b) (take total s))
  part-3 = ap (take 32) (drop-drop b a s) ∙ sym (part_of (a + b) 32 total s (omega arith))

  dropped-3 : drop 32 (drop b (drop a s)) ≡ drop (a + b + 32) s
  dropped-3 = ap (drop 32) (drop-drop b a s) ∙ drop-drop 32 (a + b) s

  part-4 : take d (drop 32 (drop b (drop a s))) ≡ take d (drop (a + b + 32) (take total s))
  part-4 = ap (take d) dropped-3 ∙ sym (part_of (a + b + 32) d total s (omega arith))

  part-5 : take e (drop d (drop 32 (drop b (drop a s)))) ≡ drop (a + b + 32 + d) (take total s)
  part-5 = ap (take e) (ap (drop d) dropped-3 ∙ drop-drop d (a + b + 32) s) ∙ sym (drop-take (a + b + 32 + d) e s)

-- the header is the one that check reads
pub header_is : (proof : List ℕ)
    → decode_header proof ≡ record { M = header_m proof; tau = header_tau proof; n = header_n proof; hstar = header_hstar proof; salt = header_salt proof }
unfolding decode_header
header_is proof =
    let t : le_at 2 (drop 2 proof) 0 ≡ header_tau proof = le_at-cong 2 (drop 2 proof) proof 0 2 (λ i l. get_or-drop 2 proof (0 + i) 0 ∙ ap (λ (z : ℕ). get_or proof (2 + z) 0) (zero-add i)) in
    let n : get_or (drop 2 (drop 2 proof)) 0 0 ≡ header_n proof = get_or-drop 2 (drop 2 proof) 0 0 ∙ get_or-drop 2 proof 2 0 in
    let h : take 32 (drop 2 (drop 2 (drop 2 proof))) ≡ header_hstar proof =
    ap (take 32) (drop-drop 2 2 (drop 2 proof) ∙ drop-drop 4 2 proof) in
    let z : take 32 (drop 32 (drop 2 (drop 2 (drop 2 proof)))) ≡ header_salt proof =
    ap (λ (r : List ℕ). take 32 (drop 32 r)) (drop-drop 2 2 (drop 2 proof) ∙ drop-drop 4 2 proof) ∙ ap (take 32) (drop-drop 32 6 proof) in
    λ k. record { M = header_m proof; tau = t k; n = n k; hstar = h k; salt = z k }

-- an instance of n parties
module _ (c : Circuit) (n : ℕ) where
  -- what the parts of a stretch send
  abbrev pub parts_of : Asked → List ℕ → Sent
  parts_of opened part = unchosen (record { h' = part })
  parts_of (hiding p) part =
      chosen p (record {
        siblings = siblings_part n part;
        aux = corrections_part c n p part;
        com_p = commitment_part c n p part;
        masked = masked_part c n p part;
        msgs_p = row_part c n p part;
      })

  -- its bytes
  sent-bytes : (a : Asked) → sent_bytes c n a ≡ stretch_bytes c n a
  unfolding sent_bytes aux_bytes stretch_bytes correction_bytes
  sent-bytes opened = refl
  sent-bytes (hiding p) = refl

  -- the bytes after it
  sent-rest : (a : Asked) (s : List ℕ) → (decode_sent c n a s).1 ≡ drop (sent_bytes c n a) s
  unfolding decode_sent sent_bytes
  sent-rest opened s = refl
  sent-rest (hiding p) s = simp drop-drop

  -- its parts
  sent-parts : (a : Asked) (s : List ℕ) → (decode_sent c n a s).0 ≡ parts_of a (take (stretch_bytes c n a) s)
  unfolding decode_sent aux_bytes stretch_bytes correction_bytes siblings_part corrections_part commitment_part masked_part row_part
  sent-parts opened s = refl
  sent-parts (hiding p) s =
      let a : ℕ = 16 * height_of n in
      let b : ℕ = correction_bytes c n p in
      let d : ℕ = oct c.inputs in
      let e : ℕ = oct (ands_of c + length c.outputs) in
      λ k. chosen p (record {
        siblings = part-1 a b d e s k;
        aux = part-2 a b d e s k;
        com_p = part-3 a b d e s k;
        masked = part-4 a b d e s k;
        msgs_p = part-5 a b d e s k;
      })

  -- the instances that are asked for
  module _ (ask : ℕ → Asked) where
    -- the bytes from instance j on
    pub bytes-from : (s : List ℕ) (j : ℕ) → bytes_from c n ask s j ≡ drop (all_bytes c n ask j) s
    unfolding bytes_from all_bytes
    bytes-from s zero = refl
    bytes-from s (suc j) =
        sent-rest (ask j) (bytes_from c n ask s j)
        ∙ (ap (drop (sent_bytes c n (ask j))) (bytes-from s j) ∙ drop-drop (sent_bytes c n (ask j)) (all_bytes c n ask j) s)

    -- of M instances
    module _ (M : ℕ) where
      -- they start where their stretch does
      pub all-bytes : (m : ℕ) → header_bytes + nodes_bytes M ask + all_bytes c n ask m ≡ stretch_start c M n ask m
      unfolding nodes_bytes all_bytes stretch_start
      all-bytes zero = omega arith
      all-bytes (suc m) = omega (arith, all-bytes m, sent-bytes (ask m))

      -- what is decoded of instance j
      pub decoded-parts : (proof : List ℕ) (j : ℕ)
          → (decode_sent c n (ask j) (bytes_from c n ask (drop (nodes_bytes M ask) (drop header_bytes proof)) j)).0
          ≡ parts_of (ask j) (stretch_at c M n ask proof j)
      unfolding stretch_at
      decoded-parts proof j =
          let size : ℕ = nodes_bytes M ask in
          ap (λ (s : List ℕ). (decode_sent c n (ask j) s).0)
          (bytes-from (drop size (drop header_bytes proof)) j
          ∙ (ap (drop (all_bytes c n ask j)) (drop-drop size header_bytes proof)
          ∙ (drop-drop (all_bytes c n ask j) (header_bytes + size) proof ∙ ap (λ (k : ℕ). drop k proof) (all-bytes j))))
          ∙ sent-parts (ask j) (drop (stretch_start c M n ask j) proof)

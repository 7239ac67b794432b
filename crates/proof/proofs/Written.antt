-- An honest proof: its header, its length, the opened nodes and the stretch of each instance at their places.
-- Assumes nothing.
use mathlib.Core.Path.{◌≡◌, sym, ap, ap₂, ◌∙◌}
use mathlib.Core.Bool.{true, false}
use mathlib.Core.List.{List, [], ◌++◌, append_assoc}
use Prim.Native.Nat.{ℕ, suc, ◌+◌, ◌<◌}
use native.Mathlib.Omega.{arith}
use lib.ListN.{length, take, drop, length-append}
use Rattle.keccak.proofs.Lengths.{length-sha3-256}
use Rattle.parties.specs.Parties.{is_party_count}
use Rattle.circuit.specs.Circuit.{Circuit}
use Rattle.hashing.specs.Inputs.{context_of}
use Rattle.cover.specs.Masters.{master_of, cover_of, cover_bytes, master_from}
use Rattle.cover.proofs.Masters.{length-cover-of}
use Rattle.cover.proofs.Rebuilding.{masters-follow}
use Rattle.hashing.specs.Digest.{transcript_of}
use Rattle.seeds.specs.Operations.{are_counts}
use Rattle.instance.specs.Instance.{Asked, stretch_of}
use Rattle.proof.specs.Protocol.{hstar_of, first_message, challenged, response_of}
use Rattle.proof.specs.File.{header_of, header_m, header_tau, header_n, header_hstar, header_salt, good_header, hides, nodes_at, master_at, stretch_start, proof_bytes, stretch_at}
use Rattle.proof.specs.Prove.{proof_of}
use Rattle.proof.proofs.Places.{middle, length-parts, part_at}
use Rattle.proof.proofs.Parts.{length-stretch}
use Rattle.proof.proofs.Header.{length-header, header-M, header-tau, header-n, header-hstar, header-salt, header-good}

-- the proof of M instances, of which tau are chosen, by n parties
module _ (c : Circuit) (M tau n : ℕ) (salt witness bound root : List ℕ) (salt_size : length salt ≡ 32) (root-size : length root ≡ 16) where
  abbrev hstar : List ℕ
  hstar = first_message c M n salt witness (master_of M salt root)

  abbrev ask : ℕ → Asked
  ask = challenged M tau n hstar bound

  abbrev sent : ℕ → List ℕ
  sent j = stretch_of c n (context_of salt j) witness (master_of M salt root j) (ask j)

  abbrev nodes : List ℕ
  nodes = cover_of M (hides ask) salt root

  abbrev response : List ℕ
  response = response_of c M n salt witness (master_of M salt root) ask

  abbrev proof : List ℕ
  proof = proof_of c M tau n salt witness bound root

  -- h* has 32 bytes
  length-hstar : length hstar ≡ 32
  unfolding first_message hstar_of transcript_of
  length-hstar = length-sha3-256 _

  -- the header, and what follows it
  proof-is : proof ≡ header_of M tau n hstar salt ++ (nodes ++ response)
  unfolding proof_of
  proof-is = append_assoc (header_of M tau n hstar salt) nodes response

  -- the stretch after instance j starts where that of j ends
  next_start : (j : ℕ) → stretch_start c M n ask (suc j) ≡ stretch_start c M n ask j + length (sent j)
  unfolding stretch_start
  next_start j = ap (λ (k : ℕ). stretch_start c M n ask j + k) (sym (length-stretch c n (context_of salt j) witness (master_of M salt root j) (ask j)))

  -- the first one starts after the opened nodes
  first-start : length (header_of M tau n hstar salt ++ nodes) ≡ stretch_start c M n ask 0
  unfolding stretch_start
  first-start =
      length-append (header_of M tau n hstar salt) nodes
      ∙ omega (arith, length-header M tau n hstar salt [] length-hstar salt_size, length-cover-of M (hides ask) salt root root-size)

  -- the length of an honest proof
  pub length-proof : length proof ≡ proof_bytes c M n ask
  unfolding proof_of response_of
  length-proof = length-parts (header_of M tau n hstar salt ++ nodes) sent (stretch_start c M n ask) first-start next_start M

  -- the opened nodes stand after the header
  pub nodes-there : nodes_at M ask proof ≡ cover_of M (hides ask) salt root
  unfolding nodes_at
  nodes-there =
      ap (λ (t : List ℕ). take (cover_bytes M (hides ask)) (drop 70 t)) proof-is
      ∙ middle (header_of M tau n hstar salt) nodes response 70 (cover_bytes M (hides ask)) (length-header M tau n hstar salt [] length-hstar salt_size)
      (length-cover-of M (hides ask) salt root root-size)

  -- the salt is read back
  pub salt-there : header_salt proof ≡ salt
  salt-there = ap header_salt proof-is ∙ header-salt M tau n hstar salt (nodes ++ response) length-hstar salt_size

  -- the master of each instance that is not chosen follows from them, once some instance p is chosen
  pub master-there : (p j : ℕ) → p < M → hides ask p ≡ true → j < M → hides ask j ≡ false → master_at M ask proof j ≡ master_of M salt root j
  unfolding master_at
  master-there p j hp t h f =
      ap₂ (λ (z t : List ℕ). master_from M (hides ask) z t j) salt-there nodes-there ∙ masters-follow M (hides ask) salt root p j root-size hp t h f

  -- the stretch of instance j stands at its place
  pub stretch-there : (j : ℕ) → j < M → stretch_at c M n ask proof j ≡ sent j
  unfolding proof_of response_of stretch_at
  stretch-there j h =
      ap (λ (k : ℕ). take k (drop (stretch_start c M n ask j) proof)) (sym (length-stretch c n (context_of salt j) witness (master_of M salt root j) (ask j)))
      ∙ part_at (header_of M tau n hstar salt ++ nodes) sent (stretch_start c M n ask) first-start next_start M j h

  -- the header is read back
  pub hstar-there : header_hstar proof ≡ first_message c M n salt witness (master_of M salt root)
  hstar-there = ap header_hstar proof-is ∙ header-hstar M tau n hstar salt (nodes ++ response) length-hstar salt_size

  pub M-there : M < 65536 → header_m proof ≡ M
  M-there h = ap header_m proof-is ∙ header-M M tau n hstar salt (nodes ++ response) length-hstar salt_size h

  pub tau-there : tau < 65536 → header_tau proof ≡ tau
  tau-there h = ap header_tau proof-is ∙ header-tau M tau n hstar salt (nodes ++ response) length-hstar salt_size h

  pub n-there : header_n proof ≡ n
  n-there = ap header_n proof-is ∙ header-n M tau n hstar salt (nodes ++ response) length-hstar salt_size

  pub good-there : M < 65536 → tau < 65536 → are_counts M tau ≡ true → is_party_count n ≡ true → good_header proof ≡ true
  good-there a b h i = ap good_header proof-is ∙ header-good M tau n hstar salt (nodes ++ response) length-hstar salt_size a b h i

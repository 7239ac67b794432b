-- seed*_j is read from the cover.
-- Assumes nothing.
use mathlib.Core.Path.{◌≡◌, refl, sym, ap, ◌∙◌}
use mathlib.Core.Bool.{true, false}
use mathlib.Core.List.{List}
use Prim.Native.Nat.{ℕ, ◌<◌}
use native.Mathlib.Omega.{arith}
use borrow.Author.Tests.{eqb-true}
use lib.ListN.{length, take, drop}
use lib.Seq.{take_at}
use Rattle.parties.specs.Parties.{is_party_count}
use Rattle.parties.proofs.Counts.{sizes}
use Rattle.circuit.specs.Circuit.{Circuit}
use Rattle.cover.specs.Masters.{master_of, master_from}
use Rattle.cover.proofs.Least.{least-height}
use Rattle.cover.proofs.Covering.{exactly-one}
use Rattle.seeds.specs.Operations.{are_counts}
use Rattle.seeds.proofs.Instances.{Fit, counts-fit}
use Rattle.instance.specs.Instance.{Asked, opened, is_chosen}
use Rattle.proof.specs.Protocol.{first_message, statement_of, challenged}
use Rattle.proof.specs.File.{header_salt, header_bytes, hides, nodes_at, master_at}
use Rattle.proof.specs.Prove.{proof_of}
use Rattle.proof.proofs.Passing.{has-height}
use Rattle.proof.proofs.Chosen.{some-chosen}
use Rattle.proof.proofs.Written.{master-there, hstar-there, salt-there, M-there, tau-there, n-there}
use Rattle.honest.specs.Response.{Header, decode_header, bound_in, challenge_in, nodes_bytes, decode}
use Rattle.honest.specs.Verification.{seed*}
use Rattle.honest.specs.Theorems.{Proves, SeedsFollow, SeedsFromCover}
use Rattle.honest.proofs.Decoded.{header_is}
use Rattle.honest.proofs.Published.{counts-good}
use Rattle.honest.proofs.Proved.{proved}

-- a challenge with counts in their limits
module _ (M tau n : ℕ) (hstar bound : List ℕ) (counts : are_counts M tau ≡ true) (parties : is_party_count n ≡ true) where
  abbrev ask : ℕ → Asked
  ask = challenged M tau n hstar bound

  -- there is a party
  some-party : 0 < n
  some-party = omega (arith, (sizes n (has-height n parties)).some)

  -- it chooses an instance, so that the others follow from the opened nodes
  seeds-follow : SeedsFollow M ask
  unfolding is_chosen
  seeds-follow =
      let i = some-chosen M tau n hstar bound counts some-party in
      record {
        every = λ j l e. exactly-one.every _ M (hides ask) i.0 j (least-height.fits M) i.1 i.2 l (ap is_chosen e);
        none = λ j p k l e o. exactly-one.none _ M (hides ask) j k (least-height.fits M) l (ap is_chosen e) o;
      }

-- an honest proof, with counts in their limits
module _ (c : Circuit) (M tau n : ℕ) (salt witness bound root : List ℕ) (salt_size : length salt ≡ 32) (root-size : length root ≡ 16) (counts : are_counts M tau ≡ true)
    (parties : is_party_count n ≡ true) where
  abbrev first : List ℕ
  first = first_message c M n salt witness (master_of M salt root)

  abbrev asks : ℕ → Asked
  asks = challenged M tau n first bound

  abbrev proof : List ℕ
  proof = proof_of c M tau n salt witness bound root

  -- the master of each instance that is not chosen follows from the opened nodes
  pub master-follows : (j : ℕ) → j < M → is_chosen (asks j) ≡ false → master_at M asks proof j ≡ master_of M salt root j
  master-follows j h e =
      let i = some-chosen M tau n first bound counts (some-party M tau n first bound counts parties) in
      master-there c M tau n salt witness bound root salt_size root-size i.0 j i.1 i.2 h e

  -- its header
  pub header-there : decode_header proof ≡ record { M = M; tau = tau; n = n; hstar = first; salt = salt }
  header-there =
      let fit : Fit M tau = counts-fit M tau counts in
      header_is proof
      ∙ (λ k. record {
        M = M-there c M tau n salt witness bound root salt_size root-size (omega (arith, fit.most)) k;
        tau = tau-there c M tau n salt witness bound root salt_size root-size (omega (arith, fit.most, fit.below)) k;
        n = n-there c M tau n salt witness bound root salt_size root-size k;
        hstar = hstar-there c M tau n salt witness bound root salt_size root-size k;
        salt = salt-there c M tau n salt witness bound root salt_size root-size k;
      })

-- what the challenge of a file with the header g asks
abbrev pub asks_with : List ℕ → List ℕ → List ℕ → Header → ℕ → Asked
asks_with s y message g = challenged g.M g.tau g.n g.hstar (statement_of g.salt g.M g.tau g.n s y message)

-- seed*_j in it
abbrev seed_with : List ℕ → List ℕ → List ℕ → List ℕ → ℕ → ℕ → Header → List ℕ
seed_with s y message file M j g =
    master_from M (hides (asks_with s y message g)) g.salt (take (nodes_bytes g.M (asks_with s y message g)) (drop header_bytes file)) j

seed-in : (s y message file : List ℕ) (M j : ℕ) (c : Circuit)
    → seed* M (decode_header file).salt (challenge_in (bound_in s y message file) file) (decode c (bound_in s y message file) file) j ≡ seed_with s y message file M j (decode_header file)
unfolding seed* decode
seed-in s y message file M j c = refl

-- the master that follows from the nodes at their place
seed-at : (M : ℕ) (ask : ℕ → Asked) (file : List ℕ) (j : ℕ) → master_from M (hides ask) (header_salt file) (take (nodes_bytes M ask) (drop header_bytes file)) j ≡ master_at M ask file j
unfolding master_at nodes_at nodes_bytes
seed-at M ask file j = refl

-- in the bytes that prove writes, seed*_j is the master of j
seed-honest : (s witness y message root salt buffer work left : List ℕ) (M tau n k : ℕ) (c : Circuit)
    → Proves s witness y message root salt M tau n buffer work k left
    → (j : ℕ) → j < M → challenge_in (bound_in s y message (take k left)) (take k left) j ≡ opened
    → seed* M salt (challenge_in (bound_in s y message (take k left)) (take k left)) (decode c (bound_in s y message (take k left)) (take k left)) j
    ≡ master_of M salt root j
unfolding is_chosen
seed-honest s witness y message root salt buffer work left M tau n k c e j h a =
    let p = proved s witness y message root salt buffer left M tau n k work e in
    let d : Circuit = p.circuit in
    let bound : List ℕ = statement_of salt M tau n s y message in
    let salted : length salt ≡ 32 = eqb-true (length salt) 32 p.salt_size in
    let size : length root ≡ 16 = eqb-true (length root) 16 p.root-size in
    let file : List ℕ = proof_of d M tau n salt witness bound root in
    let written : take k left ≡ file = ap (take k) (sym p.content) ∙ take_at file (drop k buffer) k p.size in
    let head = header-there d M tau n salt witness bound root salted size p.counts p.parties in
    let same : asks_with s y message (decode_header (take k left)) ≡ asks d M tau n salt witness bound root salted size p.counts p.parties
    = ap (λ (z : List ℕ). asks_with s y message (decode_header z)) written ∙ ap (asks_with s y message) head in
    let own : (decode_header (take k left)).salt ≡ salt = ap (λ (z : List ℕ). (decode_header z).salt) written ∙ ap (λ (g : Header). g.salt) head in
    ap (λ (z : List ℕ). seed* M z (challenge_in (bound_in s y message (take k left)) (take k left)) (decode c (bound_in s y message (take k left)) (take k left)) j) (sym own)
    ∙ seed-in s y message (take k left) M j c
    ∙ (ap (λ (z : List ℕ). seed_with s y message z M j (decode_header z)) written
    ∙ (ap (seed_with s y message file M j) head
    ∙ (ap (λ (z : List ℕ). master_from M (hides (asks d M tau n salt witness bound root salted size p.counts p.parties)) z (take (nodes_bytes M (asks d M tau n salt witness bound root salted size p.counts p.parties)) (drop header_bytes file)) j)
    (sym (salt-there d M tau n salt witness bound root salted size))
    ∙ seed-at M (asks d M tau n salt witness bound root salted size p.counts p.parties) file j
    ∙ master-follows d M tau n salt witness bound root salted size p.counts p.parties j h
    (ap (λ (f : ℕ → Asked). is_chosen (f j)) (sym same) ∙ ap is_chosen a))))

-- seed*_j is read from the cover
pub seeds-from-cover : SeedsFromCover
seeds-from-cover = record {
  follow = λ bound proof g.
      seeds-follow (decode_header proof).M (decode_header proof).tau (decode_header proof).n (decode_header proof).hstar bound (counts-good proof (decode_header proof) g)
      g.parties;
  honest = λ s witness y message root salt buffer work left M tau n k c r e. seed-honest s witness y message root salt buffer work left M tau n k c e;
}

-- What is encoded is decoded again.
-- Assumes nothing.
use mathlib.Core.Path.{◌≡◌, refl, sym, ap, ◌∙◌}
use mathlib.Core.Bool.{cond}
use mathlib.Core.List.{List, ◌++◌, flatten, append_assoc}
use mathlib.Core.Logic.{⊎_elim}
use Prim.Native.Nat.{ℕ, suc, ◌+◌, ◌<◌}
use native.Mathlib.Omega.{arith}
use borrow.Author.Tests.{lt-ltb, le-ltb}
use lib.Dec.{ltb}
use lib.ListN.{length, take, drop, replicate, length-append, length-replicate}
use Rattle.bits.specs.Bits.{tabulate}
use Rattle.bits.proofs.Numbers.{lt-or-le}
use Rattle.bits.proofs.Tabulate.{tabulate-cong}
use Rattle.circuit.specs.Circuit.{Circuit}
use Rattle.instance.specs.Instance.{Asked}
use Rattle.instance.specs.Stretch.{correction_bytes, stretch_bytes}
use Rattle.proof.specs.Protocol.{challenged}
use Rattle.proof.specs.File.{header_bytes, header_of, stretch_start, stretch_at}
use Rattle.honest.specs.Response.{Sent, unchosen, chosen, Response, answered, Header, HeaderFits, encode_header, encode_sent, encode, decode_header, aux_bytes, decode_sent, bytes_from, nodes_bytes, decode, Lengths}
use Rattle.honest.specs.Theorems.{EncodingDecodes}
use Rattle.proof.proofs.Places.{middle, part_at}
use Rattle.proof.proofs.Header.{length-header, header-M, header-tau, header-n, header-hstar, header-salt}
use Rattle.proof.proofs.Parts.{length-five, first_back, second_back, third_back, fourth-back, last-back}
use Rattle.honest.proofs.Decoded.{header_is, parts_of, decoded-parts}

-- an instance of n parties
module _ (c : Circuit) (n : ℕ) where
  -- its bytes
  length-encoded : (z : Sent) → Lengths c n z → length (encode_sent z) ≡ stretch_bytes c n (answered z)
  unfolding encode_sent answered stretch_bytes aux_bytes correction_bytes
  length-encoded (unchosen u) l = l
  length-encoded (chosen p x) l =
      length-five c n p x.siblings x.aux x.com_p x.masked x.msgs_p l.0 l.1 l.2 l.3 l.4

  -- its parts
  parts-back : (z : Sent) → Lengths c n z → parts_of c n (answered z) (encode_sent z) ≡ z
  unfolding encode_sent answered aux_bytes correction_bytes
  parts-back (unchosen u) l = refl
  parts-back (chosen p x) l =
      λ k. chosen p (record {
        siblings = first_back c n p x.siblings x.aux x.com_p x.masked x.msgs_p l.0 l.1 l.2 l.3 k;
        aux = second_back c n p x.siblings x.aux x.com_p x.masked x.msgs_p l.0 l.1 l.2 l.3 k;
        com_p = third_back c n p x.siblings x.aux x.com_p x.masked x.msgs_p l.0 l.1 l.2 l.3 k;
        masked = fourth-back c n p x.siblings x.aux x.com_p x.masked x.msgs_p l.0 l.1 l.2 l.3 k;
        msgs_p = last-back c n p x.siblings x.aux x.com_p x.masked x.msgs_p l.0 l.1 l.2 l.3 k;
      })

-- the header, the opened nodes and what is sent of all instances, in order
in_order : (h : Header) (r : Response) → encode h r ≡ encode_header h ++ (r.nodes ++ flatten (tabulate h.M (λ j. encode_sent (r.sent j))))
unfolding encode
in_order h r = append_assoc (encode_header h) r.nodes _

-- the header, where its numbers fit their bytes
header-back : (h : Header) (r : Response) → HeaderFits h → decode_header (encode h r) ≡ h
unfolding encode_header header_of
header-back h r fits =
    let rest : List ℕ = r.nodes ++ flatten (tabulate h.M (λ j. encode_sent (r.sent j))) in
    ap decode_header (in_order h r) ∙ header_is (encode_header h ++ rest)
    ∙ (λ k. record {
      M = header-M h.M h.tau h.n h.hstar h.salt rest fits.2 fits.3 fits.0 k;
      tau = header-tau h.M h.tau h.n h.hstar h.salt rest fits.2 fits.3 fits.1 k;
      n = header-n h.M h.tau h.n h.hstar h.salt rest fits.2 fits.3 k;
      hstar = header-hstar h.M h.tau h.n h.hstar h.salt rest fits.2 fits.3 k;
      salt = header-salt h.M h.tau h.n h.hstar h.salt rest fits.2 fits.3 k;
    })

-- it has 70 bytes
header-size : (h : Header) → HeaderFits h → length (encode_header h) ≡ header_bytes
unfolding encode_header header_of
header-size h fits = length-header h.M h.tau h.n h.hstar h.salt h.hstar fits.2 fits.3

-- what the challenge of a header asks of each instance
abbrev asks : List ℕ → Header → ℕ → Asked
asks bound h = challenged h.M h.tau h.n h.hstar bound

-- the opened nodes, where they have the bytes that its challenge implies
module _ (c : Circuit) (bound : List ℕ) (h : Header) (r : Response) (fits : HeaderFits h)
    (nodes-size : length r.nodes ≡ nodes_bytes h.M (asks bound h)) where
  -- the file
  abbrev file : List ℕ
  file = encode h r

  nodes-back : (decode c bound file).nodes ≡ r.nodes
  unfolding decode
  nodes-back =
      ap (λ (g : Header). take (nodes_bytes g.M (asks bound g)) (drop header_bytes file)) (header-back h r fits)
      ∙ (ap (λ (s : List ℕ). take (nodes_bytes h.M (asks bound h)) (drop header_bytes s)) (in_order h r)
      ∙ middle (encode_header h) r.nodes _ header_bytes (nodes_bytes h.M (asks bound h)) (header-size h fits) nodes-size)

  -- a response to the challenge
  module _ (answers : (j : ℕ) → j < h.M → answered (r.sent j) ≡ asks bound h j) (lengths : (j : ℕ) → j < h.M → Lengths c h.n (r.sent j)) where
    -- what was sent of each instance
    abbrev bytes : ℕ → List ℕ
    bytes j = encode_sent (r.sent j)

    -- the same, and beyond the last instance others of the same length
    abbrev padded : ℕ → List ℕ
    padded j = cond (ltb j h.M) (bytes j) (replicate (stretch_bytes c h.n (asks bound h j)) 0)

    padded-is : (j : ℕ) → j < h.M → padded j ≡ bytes j
    padded-is j l = rw (lt-ltb j h.M l)

    length-padded : (j : ℕ) → length (padded j) ≡ stretch_bytes c h.n (asks bound h j)
    length-padded j =
        ⊎_elim
        (λ l. ap length (padded-is j l) ∙ (length-encoded c h.n (r.sent j) (lengths j l) ∙ ap (stretch_bytes c h.n) (answers j l)))
        (λ l. rw (le-ltb j h.M l) (length-replicate (stretch_bytes c h.n (asks bound h j)) 0))
        (lt-or-le j h.M)

    -- where the stretches start
    abbrev front : List ℕ
    front = encode_header h ++ r.nodes

    abbrev start : ℕ → ℕ
    start = stretch_start c h.M h.n (asks bound h)

    first : length front ≡ start 0
    unfolding stretch_start nodes_bytes
    first = length-append (encode_header h) r.nodes ∙ omega (arith, header-size h fits, nodes-size)

    more : (i : ℕ) → start (suc i) ≡ start i + length (padded i)
    unfolding stretch_start
    more i = ap (λ (k : ℕ). start i + k) (sym (length-padded i))

    -- the stretch of instance j is what was sent of it
    stretch-back : (j : ℕ) → j < h.M → stretch_at c h.M h.n (asks bound h) file j ≡ bytes j
    unfolding encode stretch_at
    stretch-back j l =
        let same : file ≡ front ++ flatten (tabulate h.M padded) =
        ap (λ (t : List (List ℕ)). front ++ flatten t) (tabulate-cong h.M bytes padded (λ i b. sym (padded-is i b))) in
        ap (λ (s : List ℕ). take (stretch_bytes c h.n (asks bound h j)) (drop (start j) s)) same
        ∙ (ap (λ (k : ℕ). take k (drop (start j) (front ++ flatten (tabulate h.M padded)))) (sym (length-padded j))
        ∙ (part_at front padded start first more h.M j l ∙ padded-is j l))

    -- so it is decoded
    sent_back : (j : ℕ) → j < h.M → (decode c bound file).sent j ≡ r.sent j
    unfolding decode
    sent_back j l =
        ap
        (λ (g : Header).
        (decode_sent c g.n (asks bound g j) (bytes_from c g.n (asks bound g) (drop (nodes_bytes g.M (asks bound g)) (drop header_bytes file)) j)).0)
        (header-back h r fits)
        ∙ (decoded-parts c h.n (asks bound h) h.M file j
        ∙ (ap (parts_of c h.n (asks bound h j)) (stretch-back j l)
        ∙ (ap (λ (a : Asked). parts_of c h.n a (bytes j)) (sym (answers j l)) ∙ parts-back c h.n (r.sent j) (lengths j l))))

-- what is encoded is decoded again
pub encoding-decodes : EncodingDecodes
encoding-decodes = record { header = header-back; nodes = nodes-back; response = sent_back }

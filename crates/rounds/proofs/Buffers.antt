-- The proof buffer, from the h'_j of the first round to the response; and the sizes of its parts.
-- Assumes nothing.
use mathlib.Core.Path.{◌≡◌, sym, ap, ap₂, ◌∙◌}
use mathlib.Core.List.{List, [], ◌++◌, map, flatten, append_assoc, append-nil}
use Prim.Native.Nat.{ℕ, zero, suc, ◌+◌, ◌-◌, ◌*◌, ◌^◌, ◌≤◌, ◌<◌}
use native.Mathlib.Omega.{arith}
use borrow.Rule.Slice.PartMut.{mid_of, put_mid, post_of, same_len_mid, mid_len, Post-is, drop_put}
use lib.ListN.{length, take, drop, length-append, length-drop}
use lib.Seq.{length-take-le, take-take, take_all, drop-drop, drop-length, take_at, drop_at}
use Rattle.bits.specs.Bytes.{row_of}
use Rattle.keccak.proofs.Lengths.{length-sha3-256}
use Rattle.circuit.specs.Circuit.{Circuit}
use Rattle.circuit.specs.File.{circuit_of}
use Rattle.circuit.specs.declared.Sizes.{Sizes}
use Rattle.cover.specs.Masters.{height, cover_bytes}
use Rattle.cover.specs.Steps.{cover_by}
use Rattle.choice.specs.Challenge.{challenge_of}
use Rattle.hashing.specs.Digest.{transcript_of}
use Rattle.seeds.proofs.Instances.{counts-fit}
use Rattle.instance.specs.Instance.{Asked}
use Rattle.instance.specs.Steps.{Tree}
use Rattle.instance.proofs.Trees.{tree-sizes}
use Rattle.proof.specs.Protocol.{hstar_of, first_message, statement_of, challenged, response_of}
use Rattle.proof.specs.File.{header_of, hides, stretch_start, proof_bytes}
use Rattle.proof.specs.Steps.{table_of, asks_in, master_in, marks_in, Drawable}
use Rattle.proof.proofs.Askings.{asks-same, asking-challenge, length-table}
use Rattle.proof.proofs.Header.{length-header}
use Rattle.proof.proofs.Leaves.{cover-in}
use Rattle.proof.proofs.Room.{challenge-fits}
use Rattle.rounds.specs.Steps.{onlines_of, opened_rows, proof_from, Answering, Response, Tested}
use Rattle.rounds.proofs.Responds.{stretch-least}

-- the proof of M instances is longer than their h'_j
start-least : (c : Circuit) (M n : ℕ) (ask : ℕ → Asked) (m : ℕ) → 70 + cover_bytes M (hides ask) + 32 * m ≤ stretch_start c M n ask m
unfolding stretch_start
start-least c M n ask zero = omega arith
start-least c M n ask (suc m) = omega (arith, start-least c M n ask m, stretch-least c n (ask m))

-- round 3, into the bytes after the header
module _ (s : List ℕ) (M n : ℕ) (salt witness nodes table part : List ℕ) (a : Answering s M n salt witness nodes table part) where
  -- what is asked
  abbrev ask : ℕ → Asked
  ask = asks_in n table

  -- size is the proof's; `opened` bytes are those of the opened nodes
  module _ (opened size : ℕ) (eo : opened ≡ cover_bytes M (hides ask)) (es : size ≡ proof_bytes (circuit_of s) M n ask) where
    -- it is beyond the header, the opened nodes and the h'_j
    size-least : 70 + opened + 32 * M ≤ size
    size-least = omega (arith, eo, es, start-least (circuit_of s) M n ask M)

    pub size-start : 70 ≤ size
    size-start = omega (arith, size-least)

    -- the part lies inside
    pub part-inside : size - 70 ≤ length part
    part-inside = omega (arith, es, a.room)

    pub length_part : length (take (size - 70) part) ≡ size - 70
    length_part = length-take-le (size - 70) part part-inside

    -- what the stretches are lent
    pub response-asks : Response s M n salt witness nodes table opened (take (size - 70) part)
    response-asks =
        let d : 70 + length (take (size - 70) part) ≡ size = omega (arith, length_part, size-start) in
        record {
          few = a.few;
          rows = a.rows;
          entries = a.entries;
          asking = a.asking;
          place = eo;
          size = d ∙ es;
          onlines = take-take (32 * M) (size - 70) part (omega (arith, size-least)) ∙ a.onlines;
        }

    -- the stretches r are written, into z
    module _ (r z : List ℕ) (ez : z ≡ take opened (take (size - 70) part) ++ r) where
      -- the opened nodes have their place
      front_length : length (take opened (take (size - 70) part)) ≡ opened
      front_length = length-take-le opened (take (size - 70) part) (omega (arith, length_part, size-least))

      length-written : length z ≡ opened + length r
      length-written = ap length ez ∙ length-append (take opened (take (size - 70) part)) r ∙ omega (arith, front_length)

      pub front-place : opened ≤ length (z ++ drop (size - 70) part)
      front-place = omega (arith, length-written, length-append z (drop (size - 70) part))

      pub front-part : length (take opened (z ++ drop (size - 70) part)) ≡ opened
      front-part = length-take-le opened (z ++ drop (size - 70) part) front-place

      -- they are written, by the marks
      module _ (marks : List ℕ) where
        -- as many as there are
        pub front_fits : marks ≡ marks_in M n table → length (take opened (z ++ drop (size - 70) part)) ≡ 16 * length (cover_by marks)
        unfolding cover_bytes
        front_fits em =
            front-part ∙ eo ∙ sym (ap (λ (l : List ℕ). 16 * length l) (ap cover_by em ∙ cover-in M n table a.entries))

        -- into g
        pub answer-made : (g : List ℕ) → marks ≡ marks_in M n table → g ≡ flatten (map (row_of nodes 16) (cover_by marks))
            → g ++ drop opened (z ++ drop (size - 70) part) ≡ opened_rows M ask nodes ++ (r ++ drop (size - 70) part)
        unfolding opened_rows
        answer-made g em eg =
            let f : List ℕ = take opened (take (size - 70) part) in
            let d : drop opened (z ++ drop (size - 70) part) ≡ r ++ drop (size - 70) part
            = ap (λ (t : List ℕ). drop opened (t ++ drop (size - 70) part)) ez
            ∙ (ap (drop opened) (append_assoc f r (drop (size - 70) part)) ∙ drop_at f (r ++ drop (size - 70) part) opened front_length) in
            ap₂ ◌++◌ (eg ∙ ap (λ (l : List ℕ). flatten (map (row_of nodes 16) l)) (ap cover_by em ∙ cover-in M n table a.entries)) d

      -- the bytes stay as many
      pub answer-kept : (g : List ℕ) → length z ≡ length (take (size - 70) part) → length g ≡ length (take opened (z ++ drop (size - 70) part))
          → length (g ++ drop opened (z ++ drop (size - 70) part)) ≡ length part
      answer-kept g e f =
          omega (
            arith,
            length-append g (drop opened (z ++ drop (size - 70) part)),
            length-drop opened (z ++ drop (size - 70) part),
            length-append z (drop (size - 70) part),
            length-drop (size - 70) part,
            length_part,
            part-inside,
            front-part,
            front-place,
          )

-- the buffer B; the h'_j, in on
module _ (M : ℕ) (B on : List ℕ) (fit : 70 + 32 * M ≤ length B) (count : length on ≡ length (mid_of 70 (70 + 32 * M - 70) B)) where
  -- with the h'_j
  abbrev kept : List ℕ
  kept = put_mid 70 (70 + 32 * M - 70) B on

  -- 32 bytes for each instance
  length-on : length on ≡ 32 * M
  length-on = count ∙ mid_len 70 (70 + 32 * M) B (omega arith) ∙ omega arith

  -- the buffer keeps its length
  length-kept : length kept ≡ length B
  length-kept = same_len_mid 70 (70 + 32 * M - 70) B on count

  -- the header's place
  pub head-inside : 70 ≤ length kept
  head-inside = omega (arith, length-kept)

  -- it has 70 bytes
  pub head-part : length (take 70 kept) ≡ 70
  head-part = length-take-le 70 kept head-inside

  -- the header, hd
  module _ (hd : List ℕ) (front : length hd ≡ 70) where
    -- with the header
    abbrev headed : List ℕ
    headed = hd ++ drop 70 kept

    -- it keeps its length
    length-headed : length headed ≡ length B
    length-headed = length-append hd (drop 70 kept) ∙ omega (arith, front, length-drop 70 kept, length-kept)

    -- the bytes after it
    abbrev rest : List ℕ
    rest = mid_of 70 (length headed - 70) headed

    rest-is : rest ≡ drop 70 kept
    rest-is =
        ap (take (length headed - 70)) (drop_at hd (drop 70 kept) 70 front)
        ∙ take_all (length headed - 70) (drop 70 kept) (omega (arith, length-headed, length-drop 70 kept, length-kept))

    length_rest : length rest ≡ length B - 70
    length_rest = ap length rest-is ∙ length-drop 70 kept ∙ omega (arith, length-kept)

    -- the h'_j stand at their start
    onlines-there : take (32 * M) rest ≡ on
    onlines-there =
        let p = drop (70 + 32 * M - 70) (drop 70 B) in
        let d : drop 70 kept ≡ on ++ p = drop_at (take 70 B) (on ++ p) 70 (length-take-le 70 B (omega arith)) in
        ap (take (32 * M)) (rest-is ∙ d) ∙ take_at on p (32 * M) length-on

    -- the bytes beyond the proof stay
    rest-stays : (size : ℕ) → 70 + 32 * M ≤ size → drop (size - 70) rest ≡ drop size B
    rest-stays size inside =
        let e : 70 + (size - 70) ≡ size = omega arith in
        let f : 70 + 32 * M + (size - (70 + 32 * M)) ≡ size = omega arith in
        let split : (l : List ℕ) → drop size l ≡ drop (size - (70 + 32 * M)) (drop (70 + 32 * M) l)
        = λ l. sym (drop-drop (size - (70 + 32 * M)) (70 + 32 * M) l ∙ ap (λ (t : ℕ). drop t l) f) in
        ap (drop (size - 70)) rest-is ∙ drop-drop (size - 70) 70 kept ∙ ap (λ (t : ℕ). drop t kept) e
        ∙ split kept
        ∙ ap (drop (size - (70 + 32 * M))) (drop_put 70 (70 + 32 * M) B on (omega arith) (omega arith) (length-on ∙ omega arith))
        ∙ sym (split B)

    -- the proof is written
    all-written : (z : List ℕ) → put_mid 70 (length headed - 70) headed z ≡ hd ++ z
    all-written z =
        let p : post_of 70 (length headed - 70) headed ≡ [] = Post-is 70 (length headed) headed (omega (arith, length-headed)) ∙ drop-length headed in
        ap₂ ◌++◌ (take_at hd (drop 70 kept) 70 front) (ap (λ (t : List ℕ). z ++ t) p ∙ append-nil z)

-- h* has 32 bytes
length-hstar : (c : Circuit) (M n : ℕ) (salt w : List ℕ) (masters : ℕ → List ℕ) → length (first_message c M n salt w masters) ≡ 32
unfolding first_message hstar_of transcript_of
length-hstar c M n salt w masters = length-sha3-256 _

-- the tests are past
module _ (s : List ℕ) (sizes : Sizes) (M tau n h : ℕ) (w y message salt nodes B : List ℕ) (t : Tested s sizes M tau n w y message salt B) (tree : Tree n h)
    (rows : length nodes ≡ 16 * 2 ^ suc (height M)) where
  -- the circuit
  abbrev c : Circuit
  c = circuit_of s

  -- what the challenge is bound to
  abbrev bound : List ℕ
  bound = statement_of salt M tau n s y message

  -- there is a party
  some-party : 0 < n
  some-party = omega (arith, (tree-sizes n h tree).some)

  -- the numbers fit into the header
  pub head-fits : (M < 65536) × ((tau < 65536) × (n < 256))
  head-fits =
      let z = counts-fit M tau t.counts in
      (omega (arith, z.most), (omega (arith, z.most, z.below), omega (arith, (tree-sizes n h tree).few)))

  -- the instances are few
  pub few-instances : M ≤ 512
  few-instances = (counts-fit M tau t.counts).most

  -- the h'_j fit
  pub onlines-fit : 70 + 32 * M ≤ length B
  onlines-fit =
      let ask : ℕ → Asked = challenged M tau n [] bound in
      omega (arith, start-least c M n ask M, challenge-fits c M tau n [] bound t.counts tree.parties, t.room)

  -- their place has 32 bytes for each instance
  pub onlines-part : length (mid_of 70 (70 + 32 * M - 70) B) ≡ 32 * M
  onlines-part = mid_len 70 (70 + 32 * M) B onlines-fit ∙ omega arith

  -- h*
  module _ (hs : List ℕ) (eh : hs ≡ first_message c M n salt w (master_in nodes)) where
    -- it has 32 bytes
    pub length-first : length hs ≡ 32
    length-first = ap length eh ∙ length-hstar c M n salt w (master_in nodes)

    -- the challenge can be drawn from it
    pub first-drawable : Drawable M tau n hs salt y message
    first-drawable =
        record {
          counts = t.counts;
          parties = tree.parties;
          hstar_size = length-first;
          salt_size = t.salt_size;
          y_least = t.y_least;
          y_most = t.y_most;
          short = t.short;
        }

    -- the h'_j and the header
    module _ (on hd : List ℕ) (count : length on ≡ length (mid_of 70 (70 + 32 * M - 70) B)) (eo : on ≡ onlines_of c M n salt w (master_in nodes))
        (eg : hd ≡ header_of M tau n hs salt) where
      -- the buffer that the response is written into
      abbrev ready : List ℕ
      ready = hd ++ drop 70 (put_mid 70 (70 + 32 * M - 70) B on)

      -- the header has 70 bytes
      front : length hd ≡ 70
      front = ap length eg ∙ length-header M tau n hs salt [] length-first t.salt_size

      -- it is as long as before
      length-ready : length ready ≡ length B
      length-ready = length-headed M B on onlines-fit count hd front

      -- the header lies inside
      pub ready-inside : 70 ≤ length ready
      ready-inside = omega (arith, length-ready, onlines-fit)

      -- the table of the challenge
      module _ (table : List ℕ) (table-right : table ≡ table_of M n (challenge_of M tau n hs bound)) where
        -- it asks what the challenge asks
        asks-right : asks_in n table ≡ challenged M tau n hs bound
        asks-right = ap (asks_in n) table-right ∙ asks-same M tau n hs bound t.counts some-party

        -- what round 3 is lent
        pub answer-asks : Answering s M n salt w nodes table (mid_of 70 (length ready - 70) ready)
        answer-asks =
            record {
              few = few-instances;
              rows = rows;
              entries = ap length table-right ∙ length-table M n _;
              asking = rw table-right (asking-challenge M tau n hs bound t.counts some-party);
              room =
                  omega (
                    arith,
                    ap (proof_bytes c M n) asks-right,
                    challenge-fits c M tau n hs bound t.counts tree.parties,
                    t.room,
                    length_rest M B on onlines-fit count hd front,
                    onlines-fit,
                  );
              onlines = onlines-there M B on onlines-fit count hd front ∙ eo;
            }

        -- the proof is written
        module _ (size : ℕ) (z : List ℕ) (es : size ≡ proof_bytes c M n (asks_in n table))
            (ez : z ≡ opened_rows M (asks_in n table) nodes ++ (response_of c M n salt w (master_in nodes) (asks_in n table) ++ drop (size - 70) (mid_of 70 (length ready - 70) ready))) where
          -- the buffer is as long as before
          pub buffer-kept : length z ≡ length (mid_of 70 (length ready - 70) ready) → length (put_mid 70 (length ready - 70) ready z) ≡ length B
          buffer-kept l = same_len_mid 70 (length ready - 70) ready z l ∙ length-ready

          -- the buffer then
          pub proof-made : put_mid 70 (length ready - 70) ready z ≡ proof_from c M tau n salt w bound nodes ++ drop size B
          unfolding proof_from
          proof-made =
              let o : List ℕ = opened_rows M (asks_in n table) nodes in
              let r : List ℕ = response_of c M n salt w (master_in nodes) (asks_in n table) in
              let least : 70 + 32 * M ≤ size = omega (arith, es, start-least c M n (asks_in n table) M) in
              all-written M B on onlines-fit count hd front z
              ∙ ap (λ (l : List ℕ). hd ++ l)
              (ez ∙ ap (λ (l : List ℕ). o ++ (r ++ l)) (rest-stays M B on onlines-fit count hd front size least) ∙ sym (append_assoc o r (drop size B)))
              ∙ sym (append_assoc hd (o ++ r) (drop size B))
              ∙ ap (λ (l : List ℕ). l ++ drop size B)
              (ap₂ (λ (u : List ℕ) (v : ℕ → Asked). u ++ (opened_rows M v nodes ++ response_of c M n salt w (master_in nodes) v)) eg asks-right
              ∙ ap (λ (x : List ℕ). header_of M tau n x salt ++ (opened_rows M (challenged M tau n x bound) nodes ++ response_of c M n salt w (master_in nodes) (challenged M tau n x bound))) eh)

          -- its length
          pub size-made : length z ≡ length (mid_of 70 (length ready - 70) ready) → size ≡ length (proof_from c M tau n salt w bound nodes)
          size-made l =
              let inside : size ≤ length B
              = omega (arith, es, ap (proof_bytes c M n) asks-right, challenge-fits c M tau n hs bound t.counts tree.parties, t.room) in
              omega (arith, ap length proof-made, length-append (proof_from c M tau n salt w bound nodes) (drop size B), length-drop size B, buffer-kept l)

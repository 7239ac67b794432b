-- The instances of a proof, checked one after the other: their stretches, their tests, and their digests taken in.
-- Assumes nothing.
use mathlib.Core.Path.{◌≡◌, refl, sym, ap, ap₂, ◌∙◌}
use mathlib.Core.Bool.{Bool, true, false, ◌&&◌}
use mathlib.Core.List.{List, [], ◌∷◌, ◌++◌, flatten, append_assoc}
use Prim.Native.Nat.{ℕ, ◌+◌, ◌-◌, ◌≤◌, ◌<◌}
use native.Mathlib.Numerals.{add-one}
use native.Mathlib.Omega.{arith}
use lib.ListN.{length, take, drop}
use Rattle.hashing.specs.declared.Context.{Context}
use Rattle.bits.specs.Bits.{tabulate}
use Rattle.bits.proofs.Rows.{flatten-more}
use Rattle.keccak.specs.declared.sponge.Sponge.{Sponge}
use Rattle.keccak.specs.Steps.{absorbs, padded}
use Rattle.keccak.specs.Sponge.{sha3_256}
use Rattle.keccak.proofs.Absorbing.{Bytes}
use Rattle.keccak.proofs.Steps.{squeezes-length}
use Rattle.circuit.specs.Circuit.{Circuit}
use Rattle.hashing.specs.Inputs.{context_of, all_commitments_input, all_online_input}
use Rattle.hashing.specs.Digest.{transcript_of, taken, given}
use Rattle.hashing.proofs.Digests.{taken_more, taken-room, given-taken}
use Rattle.hashing.proofs.Hashes.{bytes-append, bytes_one}
use Rattle.instance.specs.Instance.{Asked, opened, hiding, is_chosen, commitments_digest, master_commitments}
use Rattle.instance.specs.Stretch.{stretch_bytes}
use Rattle.instance.specs.Opened.{opened_commitments, stretch_commitments, stretch_online, stretch_unused, stretch_output}
use Rattle.proof.specs.Steps.{ask_of, master_in}
use Rattle.proof.specs.Protocol.{hstar_of}
use Rattle.proof.specs.File.{header_salt, context_at, hides, master_at, stretch_start, proof_bytes, stretch_at}
use Rattle.proof.specs.Check.{every}
use Rattle.proof.proofs.Sizes.{ask-opened, ask-hiding, start-more}
use Rattle.proof.proofs.Inside.{stretch-inside, length-stretchAt}
use Rattle.proof.proofs.Passing.{every-at}
use Rattle.proof_tests.specs.Steps.{commitments_at, online_at, output_at}
use Rattle.proof_tests.proofs.Hashed.{rows-bytes, commitments-bytes, online-bytes, stretch-bytes}

-- the stretch of an instance, of which p is asked
module _ (c : Circuit) (n : ℕ) (j : Context) (p : ℕ) (y master part : List ℕ) where
  -- the instance is not chosen
  module _ (e : p ≡ n) where
    -- its stretch is 32 bytes
    pub open-online : length part ≡ stretch_bytes c n (ask_of n p) → 32 ≡ length part
    unfolding stretch_bytes
    open-online h = sym (h ∙ ap (stretch_bytes c n) (ask-opened n p e))

    -- it has no unused bits
    pub open-unused : true ≡ stretch_unused c n part (ask_of n p)
    unfolding stretch_unused
    open-unused = ap (stretch_unused c n part) (sym (ask-opened n p e))

    -- its answers
    pub open-answer : (h o : List ℕ) → h ≡ master_commitments c n j master → o ≡ part
        → (true ≡ stretch_output c n j y part (ask_of n p))
        × ((h ≡ stretch_commitments c n j master part (ask_of n p)) × (o ≡ stretch_online c n j part (ask_of n p)))
    unfolding stretch_output stretch_commitments stretch_online
    open-answer h o a b = (
      ap (stretch_output c n j y part) (sym (ask-opened n p e)),
      (a ∙ ap (stretch_commitments c n j master part) (sym (ask-opened n p e)), b ∙ ap (stretch_online c n j part) (sym (ask-opened n p e))),
    )

  -- it hides p
  module _ (e : p ≡ n → ⊥) where
    -- its bytes
    pub hidden-size : length part ≡ stretch_bytes c n (ask_of n p) → length part ≡ stretch_bytes c n (hiding p)
    hidden-size h = h ∙ ap (stretch_bytes c n) (ask-hiding n p e)

    -- its unused bits
    pub hidden-unused : stretch_unused c n part (ask_of n p) ≡ true → stretch_unused c n part (hiding p) ≡ true
    hidden-unused h = ap (stretch_unused c n part) (sym (ask-hiding n p e)) ∙ h

    -- their test
    pub hidden-test : (b : Bool) → b ≡ stretch_unused c n part (hiding p) → b ≡ stretch_unused c n part (ask_of n p)
    hidden-test b h = h ∙ ap (stretch_unused c n part) (sym (ask-hiding n p e))

    -- its answers
    pub hidden-answer : (b : Bool) (h o : List ℕ)
        → (b ≡ stretch_output c n j y part (hiding p))
        × ((h ≡ commitments_digest j.number (opened_commitments c n j p part)) × (o ≡ stretch_online c n j part (hiding p)))
        → (b ≡ stretch_output c n j y part (ask_of n p))
        × ((h ≡ stretch_commitments c n j master part (ask_of n p)) × (o ≡ stretch_online c n j part (ask_of n p)))
    unfolding stretch_commitments
    hidden-answer b h o a = (
      a.0 ∙ ap (stretch_output c n j y part) (sym (ask-hiding n p e)),
      (
        a.1.0 ∙ ap (stretch_commitments c n j master part) (sym (ask-hiding n p e)),
        a.1.1 ∙ ap (stretch_online c n j part) (sym (ask-hiding n p e)),
      ),
    )

-- no instance is tested yet
pub every-none : (f : ℕ → Bool) → true ≡ every 0 f
unfolding every
every-none f = refl

-- one more
pub every-turn : (f : ℕ → Bool) (j : ℕ) (a b r : Bool) → a ≡ every j f → b ≡ f j → r ≡ a && b → r ≡ every (j + 1) f
unfolding every
every-turn f j a b r p q e = e ∙ (ap₂ ◌&&◌ p q ∙ ap (λ (k : ℕ). every k f) (sym (add-one j)))

-- the end
pub every-end : (f : ℕ → Bool) (j m : ℕ) (r : Bool) → j ≡ m → r ≡ every j f → r ≡ every m f
every-end f j m r e q = q ∙ ap (λ (k : ℕ). every k f) e

-- the master of a chosen instance is not looked at
pub master-unseen : (c : Circuit) (n : ℕ) (j : Context) (m m' part : List ℕ) (a : Asked) → (is_chosen a ≡ false → m ≡ m')
    → stretch_commitments c n j m part a ≡ stretch_commitments c n j m' part a
unfolding stretch_commitments is_chosen
master-unseen c n j m m' part opened h = ap (master_commitments c n j) (h refl)
master-unseen c n j m m' part (hiding p) h = refl

-- the test of the unused bits of each instance of a proof
module _ (c : Circuit) (M n : ℕ) (ask : ℕ → Asked) (proof : List ℕ) where
  abbrev pub unused_at : ℕ → Bool
  unused_at i = stretch_unused c n (stretch_at c M n ask proof i) (ask i)

-- instance j, of which a is asked: its stretch is the b bytes from k on
module _ (c : Circuit) (n M : ℕ) (ask : ℕ → Asked) (proof : List ℕ) (size : length proof ≡ proof_bytes c M n ask) (j k b : ℕ) (a : Asked)
    (low : j < M) (place : k ≡ stretch_start c M n ask j) (is : a ≡ ask j) (bytes : b ≡ stretch_bytes c n a) where
  asked-bytes : b ≡ stretch_bytes c n (ask j)
  asked-bytes = bytes ∙ ap (stretch_bytes c n) is

  -- it ends inside the proof
  pub turn_inside : k + b ≤ length proof
  turn_inside = omega (arith, stretch-inside c n M ask j low, asked-bytes, place, size)

  -- where the next one starts
  pub turn-place : k + b ≡ stretch_start c M n ask (j + 1)
  turn-place = start-more c M n ask j k b place asked-bytes

  -- it is the instance's
  turn-part : take (k + b - k) (drop k proof) ≡ stretch_at c M n ask proof j
  unfolding stretch_at
  turn-part =
      let d : k + b - k ≡ stretch_bytes c n (ask j) = omega (arith, asked-bytes) in
      ap (λ (x : ℕ). take x (drop k proof)) d ∙ ap (λ (x : ℕ). take (stretch_bytes c n (ask j)) (drop x proof)) place

  -- it has the bytes that are asked
  pub turn-size : length (take (k + b - k) (drop k proof)) ≡ stretch_bytes c n a
  turn-size = ap length turn-part ∙ (length-stretchAt c n M ask proof size j low ∙ ap (stretch_bytes c n) (sym is))

  -- its unused bits are zero where all are
  pub turn-unused : every M (unused_at c M n ask proof) ≡ true → stretch_unused c n (take (k + b - k) (drop k proof)) a ≡ true
  turn-unused e = ap₂ (stretch_unused c n) turn-part is ∙ every-at M (unused_at c M n ask proof) e j low

  -- its tests
  pub turn-test : (f : List ℕ → Asked → Bool) (r : Bool) → r ≡ f (take (k + b - k) (drop k proof)) a → r ≡ f (stretch_at c M n ask proof j) (ask j)
  turn-test f r e = e ∙ ap₂ f turn-part is

  -- its digests
  pub turn-digest : (f : List ℕ → Asked → List ℕ) (r : List ℕ) → r ≡ f (take (k + b - k) (drop k proof)) a → r ≡ f (stretch_at c M n ask proof j) (ask j)
  turn-digest f r e = e ∙ ap₂ f turn-part is

  -- its output and its digests, with the header's salt
  module _ (salt : List ℕ) (es : salt ≡ header_salt proof) where
    pub turn-output : (y : List ℕ) (r : Bool) → r ≡ stretch_output c n (context_of salt j) y (take (k + b - k) (drop k proof)) a
        → r ≡ output_at c M n ask proof y j
    turn-output y r e =
        turn-test (stretch_output c n (context_of salt j) y) r e
        ∙ ap (λ (t : List ℕ). stretch_output c n (context_of t j) y (stretch_at c M n ask proof j) (ask j)) es

    pub turn-online : (r : List ℕ) → r ≡ stretch_online c n (context_of salt j) (take (k + b - k) (drop k proof)) a → r ≡ online_at c M n ask proof j
    turn-online r e =
        turn-digest (stretch_online c n (context_of salt j)) r e
        ∙ ap (λ (t : List ℕ). stretch_online c n (context_of t j) (stretch_at c M n ask proof j) (ask j)) es

    -- its h_j, from its master, which is not looked at where it is chosen
    pub turn-made : (master r : List ℕ) → (hides ask j ≡ false → master ≡ master_at M ask proof j)
        → r ≡ stretch_commitments c n (context_of salt j) master (take (k + b - k) (drop k proof)) a → r ≡ commitments_at c M n ask proof j
    turn-made master r seen e =
        turn-digest (stretch_commitments c n (context_of salt j) master) r e
        ∙ ap (λ (t : List ℕ). stretch_commitments c n (context_of t j) master (stretch_at c M n ask proof j) (ask j)) es
        ∙ master-unseen c n (context_at proof j) master (master_at M ask proof j) (stretch_at c M n ask proof j) (ask j) seen

    -- its h_j, from the master in its row
    pub turn-commitments : (nodes master r : List ℕ) → ((i : ℕ) → i < M → hides ask i ≡ false → master_in nodes i ≡ master_at M ask proof i)
        → master ≡ master_in nodes j → r ≡ stretch_commitments c n (context_of salt j) master (take (k + b - k) (drop k proof)) a
        → r ≡ commitments_at c M n ask proof j
    turn-commitments nodes master r rebuilt q e = turn-made master r (λ t. q ∙ rebuilt j low t) e

-- a sponge that has taken in anything has room for the next byte
pub sponge-room : (N : List ℕ) (s : Sponge) → s ≡ taken N → s.fill < 136
sponge-room N s e = rw e (taken-room N)

-- what it gives out is 32 bytes
pub digest-length : (s : Sponge) (r : List ℕ) → r ≡ given s → 32 ≡ length r
unfolding given
digest-length s r e = sym (ap length e ∙ squeezes-length 136 32 (padded 136 0x06 s))

-- digests that are taken in after a tag
module _ (t : ℕ) (f : ℕ → List ℕ) where
  -- one more
  tagged-turn : (i : ℕ) (s r : Sponge) (N : List ℕ) → s ≡ taken ((t ∷ []) ++ flatten (tabulate i f)) → N ≡ f i → r ≡ absorbs 136 s N
      → r ≡ taken ((t ∷ []) ++ flatten (tabulate (i + 1) f))
  tagged-turn i s r N e q a =
      let M : List ℕ = flatten (tabulate i f) in
      taken_more ((t ∷ []) ++ M) N s r e a
      ∙ ap taken (append_assoc (t ∷ []) M N
      ∙ ap (λ (x : List ℕ). (t ∷ []) ++ x) (ap (λ (x : List ℕ). M ++ x) q ∙ (flatten-more i f ∙ ap (λ (k : ℕ). flatten (tabulate k f)) (sym (add-one i)))))

  -- the end is their digest
  tagged-end : (i m : ℕ) (s : Sponge) (r : List ℕ) → t < 256 → ((k : ℕ) → Bytes (f k)) → i ≡ m → s ≡ taken ((t ∷ []) ++ flatten (tabulate i f)) → r ≡ given s
      → r ≡ sha3_256 ((t ∷ []) ++ flatten (tabulate m f))
  tagged-end i m s r l h q e g =
      g ∙ (ap given e
      ∙ (given-taken ((t ∷ []) ++ flatten (tabulate i f)) (bytes-append (t ∷ []) (flatten (tabulate i f)) (bytes_one t l) (rows-bytes i f h))
      ∙ ap (λ (k : ℕ). sha3_256 ((t ∷ []) ++ flatten (tabulate k f))) q))

-- all h_j
module _ (f : ℕ → List ℕ) where
  -- none is taken in yet
  pub commitments-none : (s : Sponge) → s ≡ taken (all_commitments_input []) → s ≡ taken (all_commitments_input (flatten (tabulate 0 f)))
  unfolding flatten
  commitments-none s e = e

  -- one more
  pub commitments-turn : (i : ℕ) (s r : Sponge) (N : List ℕ) → s ≡ taken (all_commitments_input (flatten (tabulate i f))) → N ≡ f i → r ≡ absorbs 136 s N
      → r ≡ taken (all_commitments_input (flatten (tabulate (i + 1) f)))
  unfolding all_commitments_input
  commitments-turn i s r N e q a = tagged-turn 9 f i s r N e q a

  -- the end is h
  pub commitments-end : (i m : ℕ) (s : Sponge) (r : List ℕ) → ((k : ℕ) → Bytes (f k)) → i ≡ m → s ≡ taken (all_commitments_input (flatten (tabulate i f)))
      → r ≡ given s → r ≡ sha3_256 (all_commitments_input (flatten (tabulate m f)))
  unfolding all_commitments_input
  commitments-end i m s r h q e g = tagged-end 9 f i m s r (omega arith) h q e g

-- all h'_j
module _ (f : ℕ → List ℕ) where
  -- none is taken in yet
  pub online-none : (s : Sponge) → s ≡ taken (all_online_input []) → s ≡ taken (all_online_input (flatten (tabulate 0 f)))
  unfolding flatten
  online-none s e = e

  -- one more
  pub online-turn : (i : ℕ) (s r : Sponge) (N : List ℕ) → s ≡ taken (all_online_input (flatten (tabulate i f))) → N ≡ f i → r ≡ absorbs 136 s N
      → r ≡ taken (all_online_input (flatten (tabulate (i + 1) f)))
  unfolding all_online_input
  online-turn i s r N e q a = tagged-turn 10 f i s r N e q a

  -- the end is h'
  pub online-end : (i m : ℕ) (s : Sponge) (r : List ℕ) → ((k : ℕ) → Bytes (f k)) → i ≡ m → s ≡ taken (all_online_input (flatten (tabulate i f)))
      → r ≡ given s → r ≡ sha3_256 (all_online_input (flatten (tabulate m f)))
  unfolding all_online_input
  online-end i m s r h q e g = tagged-end 10 f i m s r (omega arith) h q e g

-- h* from the two sponges, after m instances
module _ (c : Circuit) (M n : ℕ) (ask : ℕ → Asked) (proof : List ℕ) (bytes : Bytes proof) where
  pub hstar-made : (i m : ℕ) (s o : Sponge) (h g r : List ℕ) → i ≡ m
      → s ≡ taken (all_commitments_input (flatten (tabulate i (commitments_at c M n ask proof))))
      → o ≡ taken (all_online_input (flatten (tabulate i (online_at c M n ask proof))))
      → h ≡ given s → g ≡ given o → r ≡ transcript_of h g → r ≡ hstar_of m (commitments_at c M n ask proof) (online_at c M n ask proof)
  unfolding hstar_of
  hstar-made i m s o h g r e p q a b d =
      d ∙ ap₂ transcript_of
      (commitments-end (commitments_at c M n ask proof) i m s h (λ k. commitments-bytes c n (context_at proof k) (master_at M ask proof k) (stretch_at c M n ask proof k) (ask k)) e p a)
      (online-end (online_at c M n ask proof) i m o g (λ k. online-bytes c n (context_at proof k) (stretch_at c M n ask proof k) (stretch-bytes c M n ask proof bytes k) (ask k)) e q b)

-- What a party's closed sponge gives out.
-- Assumes nothing.
use mathlib.Core.Path.{◌≡◌, ap₂, ◌∙◌}
use mathlib.Core.List.{List, [], ◌∷◌, ◌++◌}
use Prim.Native.Nat.{ℕ, ◌+◌, ◌*◌, ◌<◌}
use native.Mathlib.Omega.{arith}
use lib.ListN.{length, take, drop}
use Rattle.hashing.specs.declared.Context.{Context}
use Rattle.hashing.proofs.Hashes.{bytes-append, bytes_one, closed-shake128}
use Rattle.bits.specs.Bytes.{le_bytes}
use Rattle.bits.proofs.Little.{le_bytes-lt}
use Rattle.keccak.specs.Sponge.{sponge, shake128}
use Rattle.keccak.specs.Steps.{empty, absorbs, closed, squeezes}
use Rattle.keccak.proofs.Absorbing.{Bytes}
use Rattle.keccak.proofs.Bytes.{bytes_take, bytes_drop}
use Rattle.four.specs.Steps.{state_of, joined}
use Rattle.four_sponges.specs.Steps.{full, four_rows}
use Rattle.four_sponges.proofs.Given.{four-given}
use Rattle.short.specs.Steps.{key_input}

-- what is hashed under a tag is bytes
bytes-key : (tag : ℕ) (j : Context) (i : ℕ) (key : List ℕ) → tag < 256 → Bytes j.salt → Bytes key → Bytes (key_input tag j i key)
bytes-key tag j i key t salt own =
    let head : List ℕ = le_bytes 2 j.number ++ le_bytes 1 i in
    bytes-append ((tag ∷ j.salt) ++ head) key (bytes-append (tag ∷ j.salt) head (bytes-append (tag ∷ []) j.salt (bytes_one tag t) salt) (bytes-append (le_bytes 2 j.number) (le_bytes 1 i) (le_bytes-lt 2 j.number) (le_bytes-lt 1 i))) own

-- SHAKE128 of what it has taken in
pub row-bytes : (tag : ℕ) (j : Context) (i : ℕ) (key : List ℕ) (d : ℕ) → tag < 256 → Bytes j.salt → Bytes key
    → squeezes 168 d (closed 168 0x1f (absorbs 168 empty (key_input tag j i key))) ≡ shake128 (key_input tag j i key) d
row-bytes tag j i key d t salt k =
    closed-shake128 tag j.salt (le_bytes 2 j.number ++ le_bytes 1 i) key d t salt (bytes-append (le_bytes 2 j.number) (le_bytes 1 i) (le_bytes-lt 2 j.number) (le_bytes-lt 1 i)) k

-- four closed sponges, joined, give out four rows: of what parties i to i + 3 hash under a tag, from part k of len bytes of the keys
module _ (rate first d : ℕ) (some : 0 < rate) (below : rate < 200) (small : first < 128) (tag : ℕ) (j : Context) (i len : ℕ) (keys : List ℕ) (t : tag < 256) (salt : Bytes j.salt) (own : Bytes keys) where
  keyed : ℕ → List ℕ
  keyed k = key_input tag j (i + k) (take len (drop (len * k) keys))

  pub four-keys : (a b c e : List ℕ) → length a ≡ 25 → length b ≡ 25 → length c ≡ 25 → length e ≡ 25
      → a ≡ (closed rate first (absorbs rate empty (key_input tag j i (take len keys)))).lanes
      → b ≡ (closed rate first (absorbs rate empty (key_input tag j (i + 1) (take len (drop (len * 1) keys))))).lanes
      → c ≡ (closed rate first (absorbs rate empty (key_input tag j (i + 2) (take len (drop (len * 2) keys))))).lanes
      → e ≡ (closed rate first (absorbs rate empty (key_input tag j (i + 3) (take len (drop (len * 3) keys))))).lanes
      → four_rows (λ k. squeezes rate d (full rate (state_of k (joined a b c e)))) ≡ four_rows (λ k. sponge rate first (key_input tag j (i + k) (take len (drop (len * k) keys))) d)
  unfolding keyed
  four-keys a b c e la lb lc le ea eb ec ee =
      let none : i ≡ i + 0 = omega arith in
      let at : 0 ≡ len * 0 = omega arith in
      four-given rate first d some below small keyed (λ k. bytes-key tag j (i + k) (take len (drop (len * k) keys)) t salt (bytes_take len (drop (len * k) keys) (bytes_drop (len * k) keys own)))
      a b c e la lb lc le
      (ea ∙ ap₂ (λ (x y : ℕ). (closed rate first (absorbs rate empty (key_input tag j x (take len (drop y keys))))).lanes) none at) eb ec ee

-- The lanes of a message in parts, the tag, the salt, two numbers and a value, with its padding.
-- Assumes nothing.
use native.Mathlib.Omega.{arith}
use mathlib.Core.Path.{◌≡◌, sym, ap, ◌∙◌}
use mathlib.Core.List.{List, [], ◌∷◌, ◌++◌, append_assoc}
use Prim.Native.Nat.{ℕ, suc, ◌+◌, ◌*◌, ◌/◌, ◌%◌, ◌^◌, ◌≤◌, ◌<◌}
use lib.ListN.{length, get_or, replicate, length-append, get_or-append}
use lib.Seq.{get_or-append-add}
use Rattle.hashing.proofs.Hashes.{bytes-append, bytes_one}
use Rattle.bits.specs.Bytes.{le_at, le_bytes}
use Rattle.bits.proofs.Little.{le_at-suc, le_at-one, le_at-add, le_at-last, le_at-cong, le_at-cons, le_at-lt, le_at-le_bytes, le_bytes-lt, length-le_bytes}
use Rattle.keccak.specs.Steps.{empty, absorbs, closed, xor_byte}
use Rattle.keccak.proofs.Absorbing.{Bytes}
use Rattle.short.proofs.Closed.{lanes_at, padding, closed_block}

-- a number in the first of two parts, and one in the second
le_at-front : (n : ℕ) (a b : List ℕ) (i : ℕ) → i + n ≤ length a → le_at n (a ++ b) i ≡ le_at n a i
le_at-front n a b i w = le_at-cong n (a ++ b) a i i (λ q u. get_or-append a b 0 (i + q) (omega arith))

le_at-behind : (n : ℕ) (a b : List ℕ) (i k : ℕ) → k ≡ length a + i → le_at n (a ++ b) k ≡ le_at n b i
le_at-behind n a b i k e =
    le_at-cong n (a ++ b) b k i (λ q u. let z : k + q ≡ length a + (i + q) = omega arith in ap (λ (x : ℕ). get_or (a ++ b) x 0) z ∙ get_or-append-add a b (i + q) 0)

-- j in 2 bytes, then the number of a node in 2 or of a party in 1
abbrev numbers : ℕ → ℕ → ℕ → List ℕ
numbers d n x = le_bytes 2 n ++ le_bytes d x

length-numbers : (d n x : ℕ) → length (numbers d n x) ≡ 2 + d
length-numbers d n x = length-append (le_bytes 2 n) (le_bytes d x) ∙ omega (arith, length-le_bytes 2 n, length-le_bytes d x)

-- the two as one number
two-numbers : (d n x : ℕ) → le_at (2 + d) (numbers d n x) 0 ≡ n % 65536 + x % 256 ^ d * 65536
two-numbers d n x =
    le_at-add 2 d (numbers d n x) 0
    ∙ omega (
      arith,
      le_at-front 2 (le_bytes 2 n) (le_bytes d x) 0 (omega (arith, length-le_bytes 2 n)),
      le_at-le_bytes 2 n,
      le_at-behind d (le_bytes 2 n) (le_bytes d x) 0 2 (omega (arith, length-le_bytes 2 n)),
      le_at-le_bytes d x,
    )

-- the first seven lanes of a block of SHAKE128, and the last bit of its padding; the first nine of one of SHA3-256
abbrev pub block168 : ℕ → ℕ → ℕ → ℕ → ℕ → ℕ → ℕ → List ℕ
block168 a b c d e f g =
    a ∷ b ∷ c ∷ d ∷ e ∷ f ∷ g ∷ 0 ∷ 0 ∷ 0 ∷ 0 ∷ 0 ∷ 0 ∷ 0 ∷ 0 ∷ 0 ∷ 0 ∷ 0 ∷ 0 ∷ 0 ∷ 0x8000000000000000 ∷ 0 ∷ 0 ∷ 0 ∷ 0 ∷ []

abbrev pub block136 : ℕ → ℕ → ℕ → ℕ → ℕ → ℕ → ℕ → ℕ → ℕ → List ℕ
block136 a b c d e f g h i =
    a ∷ b ∷ c ∷ d ∷ e ∷ f ∷ g ∷ h ∷ i ∷ 0 ∷ 0 ∷ 0 ∷ 0 ∷ 0 ∷ 0 ∷ 0 ∷ 0x8000000000000000 ∷ 0 ∷ 0 ∷ 0 ∷ 0 ∷ 0 ∷ 0 ∷ 0 ∷ 0 ∷ []

-- the closed block of a message with its padding
seven : (first z : ℕ) (M m : List ℕ) → first < 256 → length M + suc z ≡ 56 → Bytes M → M ++ padding first z ≡ m
    → block168 (le_at 8 m 0) (le_at 8 m 8) (le_at 8 m 16) (le_at 8 m 24) (le_at 8 m 32) (le_at 8 m 40) (le_at 8 m 48) ≡ (closed 168 first (absorbs 168 empty M)).lanes
unfolding lanes_at xor_byte
seven first z M m small l bytes e =
    ap (λ (t : List ℕ). xor_byte (lanes_at 7 t 0 ++ replicate 18 0) 167 0x80) (sym e)
    ∙ sym (closed_block 168 first z 7 18 M (omega arith) small l (omega arith) bytes)

nine : (first z : ℕ) (M m : List ℕ) → first < 256 → length M + suc z ≡ 72 → Bytes M → M ++ padding first z ≡ m
    → block136 (le_at 8 m 0) (le_at 8 m 8) (le_at 8 m 16) (le_at 8 m 24) (le_at 8 m 32) (le_at 8 m 40) (le_at 8 m 48) (le_at 8 m 56) (le_at 8 m 64)
    ≡ (closed 136 first (absorbs 136 empty M)).lanes
unfolding lanes_at xor_byte
nine first z M m small l bytes e =
    ap (λ (t : List ℕ). xor_byte (lanes_at 9 t 0 ++ replicate 16 0) 135 0x80) (sym e)
    ∙ sym (closed_block 136 first z 9 16 M (omega arith) small l (omega arith) bytes)

module _ (tag : ℕ) (salt : List ℕ) (d n x : ℕ) (v : List ℕ) (first z : ℕ) (ls : length salt ≡ 32) (bs : Bytes salt) (bv : Bytes v) where
  -- the message, and with its padding
  M : List ℕ
  M = (tag ∷ salt) ++ numbers d n x ++ v

  H : List ℕ
  H = tag ∷ salt

  W : List ℕ
  W = v ++ padding first z

  m : List ℕ
  m = H ++ (numbers d n x ++ W)

  whole : M ++ padding first z ≡ m
  unfolding M m H W
  whole = append_assoc ((tag ∷ salt) ++ numbers d n x) v (padding first z) ∙ append_assoc (tag ∷ salt) (numbers d n x) (v ++ padding first z)

  length-H : length H ≡ 33
  unfolding H
  length-H = omega arith

  length-M : length M ≡ 35 + d + length v
  unfolding M H
  length-M = length-append (H ++ numbers d n x) v ∙ omega (arith, length-append H (numbers d n x), length-H, length-numbers d n x)

  bytes-M : tag < 256 → Bytes M
  unfolding M
  bytes-M t =
      bytes-append ((tag ∷ salt) ++ numbers d n x) v
      (bytes-append ((tag ∷ []) ++ salt) (numbers d n x) (bytes-append (tag ∷ []) salt (bytes_one tag t) bs)
      (bytes-append (le_bytes 2 n) (le_bytes d x) (le_bytes-lt 2 n) (le_bytes-lt d x)))
      bv

  -- a number in the salt, the two numbers, a number behind them, one in the value
  in-salt : (k i : ℕ) → i + k ≤ 32 → le_at k m (suc i) ≡ le_at k salt i
  unfolding m H
  in-salt k i w = le_at-front k H (numbers d n x ++ W) (suc i) (omega (arith, length-H)) ∙ le_at-cons k tag salt i

  in-numbers : le_at (2 + d) m 33 ≡ n % 65536 + x % 256 ^ d * 65536
  unfolding m
  in-numbers =
      let e : 33 ≡ length H + 0 = omega (arith, length-H) in
      le_at-behind (2 + d) H (numbers d n x ++ W) 0 33 e ∙ le_at-front (2 + d) (numbers d n x) W 0 (omega (arith, length-numbers d n x)) ∙ two-numbers d n x

  behind : (k i j : ℕ) → j ≡ 35 + d + i → le_at k m j ≡ le_at k W i
  unfolding m
  behind k i j e =
      let f : j ≡ length H + (2 + d + i) = omega (arith, length-H) in
      le_at-behind k H (numbers d n x ++ W) (2 + d + i) j f ∙ le_at-behind k (numbers d n x) W i (2 + d + i) (omega (arith, length-numbers d n x))

  in-value : (k i j : ℕ) → j ≡ 35 + d + i → i + k ≤ length v → le_at k m j ≡ le_at k v i
  unfolding W
  in-value k i j e w = behind k i j e ∙ le_at-front k v (padding first z) i (omega arith)

  in-padding : (k j : ℕ) → j ≡ 35 + d + length v → le_at k m j ≡ le_at k (padding first z) 0
  unfolding W
  in-padding k j e = behind k (length v) j e ∙ le_at-behind k v (padding first z) 0 (length v) (omega arith)

  -- the first lane
  tag-lane : le_at 8 salt 0 * 256 % 18446744073709551616 + tag ≡ le_at 8 m 0
  unfolding m H
  tag-lane =
      omega (
        arith,
        le_at-front 8 H (numbers d n x ++ W) 0 (omega (arith, length-H)),
        le_at-suc 7 H 0,
        le_at-cons 7 tag salt 0,
        le_at-last 7 salt 0,
        le_at-lt 7 salt 0 bs,
      )

  -- the first four lanes
  front : (a b c e : ℕ) (rest : List ℕ) → a ≡ le_at 8 salt 0 → b ≡ le_at 8 salt 7 → c ≡ le_at 8 salt 15 → e ≡ le_at 8 salt 23
      → ◌≡◌ {A = List ℕ} ((a * 256 % 18446744073709551616 + tag) ∷ (b ∷ (c ∷ (e ∷ rest)))) (le_at 8 m 0 ∷ (le_at 8 m 8 ∷ (le_at 8 m 16 ∷ (le_at 8 m 24 ∷ rest))))
  front a b c e rest p q r s =
      let q' = q ∙ sym (in-salt 8 7 (omega arith)) in
      let r' = r ∙ sym (in-salt 8 15 (omega arith)) in
      let s' = s ∙ sym (in-salt 8 23 (omega arith)) in
      rw (p, q', r', s', tag-lane)

  -- the closed block
  module _ (t : tag < 256) (small : first < 256) where
    closed-seven : d + length v + z ≡ 20
        → block168 (le_at 8 m 0) (le_at 8 m 8) (le_at 8 m 16) (le_at 8 m 24) (le_at 8 m 32) (le_at 8 m 40) (le_at 8 m 48)
        ≡ (closed 168 first (absorbs 168 empty ((tag ∷ salt) ++ (le_bytes 2 n ++ le_bytes d x) ++ v))).lanes
    unfolding M
    closed-seven l = seven first z M m small (omega (arith, length-M)) (bytes-M t) whole

    closed-nine : d + length v + z ≡ 36
        → block136 (le_at 8 m 0) (le_at 8 m 8) (le_at 8 m 16) (le_at 8 m 24) (le_at 8 m 32) (le_at 8 m 40) (le_at 8 m 48) (le_at 8 m 56) (le_at 8 m 64)
        ≡ (closed 136 first (absorbs 136 empty ((tag ∷ salt) ++ (le_bytes 2 n ++ le_bytes d x) ++ v))).lanes
    unfolding M
    closed-nine l = nine first z M m small (omega (arith, length-M)) (bytes-M t) whole

-- the lane of the numbers and the last one: of a node
module _ (salt : List ℕ) (n x : ℕ) (v : List ℕ) (ls : length salt ≡ 32) (lv : length v ≡ 16) (bs : Bytes salt) (bv : Bytes v) where
  abbrev node : List ℕ
  node = m 2 salt 2 n x v 0x1f 2 ls bs bv

  node-numbers : le_at 8 v 0 * 1099511627776 % 18446744073709551616 + x % 65536 * 16777216 % 18446744073709551616 + n % 65536 * 256 % 18446744073709551616
      + get_or salt 31 0
      ≡ le_at 8 node 32
  node-numbers =
      omega (
        arith,
        le_at-add 1 7 node 32,
        in-salt 2 salt 2 n x v 0x1f 2 ls bs bv 1 31 (omega arith),
        le_at-one salt 31,
        le_at-add 4 3 node 33,
        in-numbers 2 salt 2 n x v 0x1f 2 ls bs bv,
        in-value 2 salt 2 n x v 0x1f 2 ls bs bv 3 0 37 (omega arith) (omega arith),
        le_at-add 3 5 v 0,
        le_at-lt 3 v 0 bv,
      )

  node-last : le_at 8 v 8 / 16777216 + 34084860461056 ≡ le_at 8 node 48
  unfolding le_at
  node-last =
      omega (
        arith,
        le_at-add 5 3 node 48,
        in-value 2 salt 2 n x v 0x1f 2 ls bs bv 5 11 48 (omega arith) (omega arith),
        in-padding 2 salt 2 n x v 0x1f 2 ls bs bv 3 53 (omega arith),
        le_at-add 3 5 v 8,
        le_at-lt 3 v 8 bv,
      )

-- the same of a party, with a value of whole lanes
module _ (tag : ℕ) (salt : List ℕ) (n x : ℕ) (v : List ℕ) (first : ℕ) (ls : length salt ≡ 32) (bs : Bytes salt) (bv : Bytes v) where
  abbrev party : List ℕ
  party = m tag salt 1 n x v first 3 ls bs bv

  party-numbers : 4 ≤ length v
      → le_at 8 v 0 * 4294967296 % 18446744073709551616 + x % 256 * 16777216 % 18446744073709551616 + n % 65536 * 256 % 18446744073709551616 + get_or salt 31 0
      ≡ le_at 8 party 32
  party-numbers h =
      omega (
        arith,
        le_at-add 1 7 party 32,
        in-salt tag salt 1 n x v first 3 ls bs bv 1 31 (omega arith),
        le_at-one salt 31,
        le_at-add 3 4 party 33,
        in-numbers tag salt 1 n x v first 3 ls bs bv,
        in-value tag salt 1 n x v first 3 ls bs bv 4 0 36 (omega arith) (omega arith),
        le_at-add 4 4 v 0,
        le_at-lt 4 v 0 bv,
      )

  party-last : (o : ℕ) → o + 8 ≡ length v → le_at 8 v o / 4294967296 + first * 4294967296 ≡ le_at 8 party (40 + o)
  unfolding le_at
  party-last o e =
      omega (
        arith,
        le_at-add 4 4 party (40 + o),
        in-value tag salt 1 n x v first 3 ls bs bv 4 (o + 4) (40 + o) (omega arith) (omega arith),
        in-padding tag salt 1 n x v first 3 ls bs bv 4 (40 + o + 4) (omega arith),
        le_at-add 4 4 v o,
        le_at-lt 4 v o bv,
      )

-- the lanes that are made of the parts, closed: of a node
module _ (n x : ℕ) (salt v : List ℕ) (ls : length salt ≡ 32) (lv : length v ≡ 16) (bs : Bytes salt) (bv : Bytes v) where
  pub node_block : (a b c d e f g : ℕ) → a ≡ le_at 8 salt 0 → b ≡ le_at 8 salt 7 → c ≡ le_at 8 salt 15 → d ≡ le_at 8 salt 23 → e ≡ le_at 8 v 0 → f ≡ le_at 8 v 3
      → g ≡ le_at 8 v 8
      → block168 (a * 256 % 18446744073709551616 + 2) b c d
      (e * 1099511627776 % 18446744073709551616 + x % 65536 * 16777216 % 18446744073709551616 + n % 65536 * 256 % 18446744073709551616 + get_or salt 31 0)
      f (g / 16777216 + 34084860461056)
      ≡ (closed 168 0x1f (absorbs 168 empty ((2 ∷ salt) ++ (le_bytes 2 n ++ le_bytes 2 x) ++ v))).lanes
  node_block a b c d e f g p q r s t u w =
      let u' = u ∙ sym (in-value 2 salt 2 n x v 0x1f 2 ls bs bv 8 3 40 (omega arith) (omega arith)) in
      front 2 salt 2 n x v 0x1f 2 ls bs bv a b c d _ p q r s
      ∙ rw (t, u', w, node-numbers salt n x v ls lv bs bv, node-last salt n x v ls lv bs bv)
      (closed-seven 2 salt 2 n x v 0x1f 2 ls bs bv (omega arith) (omega arith) (omega arith))

-- of a party, with a key of 16 bytes
module _ (tag n x : ℕ) (salt v : List ℕ) (small : tag < 256) (ls : length salt ≡ 32) (lv : length v ≡ 16) (bs : Bytes salt) (bv : Bytes v) where
  pub key-block : (a b c d e f g : ℕ) → a ≡ le_at 8 salt 0 → b ≡ le_at 8 salt 7 → c ≡ le_at 8 salt 15 → d ≡ le_at 8 salt 23 → e ≡ le_at 8 v 0 → f ≡ le_at 8 v 4
      → g ≡ le_at 8 v 8
      → block168 (a * 256 % 18446744073709551616 + tag) b c d
      (e * 4294967296 % 18446744073709551616 + x % 256 * 16777216 % 18446744073709551616 + n % 65536 * 256 % 18446744073709551616 + get_or salt 31 0)
      f (g / 4294967296 + 133143986176)
      ≡ (closed 168 0x1f (absorbs 168 empty ((tag ∷ salt) ++ (le_bytes 2 n ++ le_bytes 1 x) ++ v))).lanes
  key-block a b c d e f g p q r s t u w =
      let u' = u ∙ sym (in-value tag salt 1 n x v 0x1f 3 ls bs bv 8 4 40 (omega arith) (omega arith)) in
      front tag salt 1 n x v 0x1f 3 ls bs bv a b c d _ p q r s
      ∙ rw (t, u', w, party-numbers tag salt n x v 0x1f ls bs bv (omega arith), party-last tag salt n x v 0x1f ls bs bv 8 (omega arith))
      (closed-seven tag salt 1 n x v 0x1f 3 ls bs bv small (omega arith) (omega arith))

-- of a party's commitment, with its row of 32 bytes
module _ (n x : ℕ) (salt v : List ℕ) (ls : length salt ≡ 32) (lv : length v ≡ 32) (bs : Bytes salt) (bv : Bytes v) where
  pub commitment-block : (a b c d e f g h i : ℕ) → a ≡ le_at 8 salt 0 → b ≡ le_at 8 salt 7 → c ≡ le_at 8 salt 15 → d ≡ le_at 8 salt 23 → e ≡ le_at 8 v 0
      → f ≡ le_at 8 v 4 → g ≡ le_at 8 v 12 → h ≡ le_at 8 v 20 → i ≡ le_at 8 v 24
      → block136 (a * 256 % 18446744073709551616 + 1) b c d
      (e * 4294967296 % 18446744073709551616 + x % 256 * 16777216 % 18446744073709551616 + n % 65536 * 256 % 18446744073709551616 + get_or salt 31 0)
      f g h (i / 4294967296 + 25769803776)
      ≡ (closed 136 0x06 (absorbs 136 empty ((1 ∷ salt) ++ (le_bytes 2 n ++ le_bytes 1 x) ++ v))).lanes
  commitment-block a b c d e f g h i p q r s t u w o k =
      let in-v = in-value 1 salt 1 n x v 0x06 3 ls bs bv in
      let u' = u ∙ sym (in-v 8 4 40 (omega arith) (omega arith)) in
      let w' = w ∙ sym (in-v 8 12 48 (omega arith) (omega arith)) in
      let o' = o ∙ sym (in-v 8 20 56 (omega arith) (omega arith)) in
      front 1 salt 1 n x v 0x06 3 ls bs bv a b c d _ p q r s
      ∙ rw (t, u', w', o', k, party-numbers 1 salt n x v 0x06 ls bs bv (omega arith), party-last 1 salt n x v 0x06 ls bs bv 24 (omega arith))
      (closed-nine 1 salt 1 n x v 0x06 3 ls bs bv (omega arith) (omega arith) (omega arith))

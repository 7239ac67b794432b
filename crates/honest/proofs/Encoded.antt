-- Every accepted file is the encoding of its header and its response.
-- Assumes nothing.
use mathlib.Core.Path.{◌≡◌, refl, sym, ap, ap₂, ◌∙◌}
use mathlib.Core.List.{List, [], ◌∷◌, ◌++◌, flatten}
use Prim.Native.Nat.{ℕ, zero, suc, ◌+◌, ◌-◌, ◌*◌, ◌≤◌}
use native.Mathlib.Omega.{arith}
use lib.ListN.{length, get_or, take, drop, take-append-drop, length-drop}
use lib.Seq.{take_all, take-add, drop-drop, get_or-drop}
use Rattle.bits.specs.Bits.{tabulate, oct}
use Rattle.bits.specs.Bytes.{le_at, le_bytes}
use Rattle.bits.proofs.Little.{le_bytes-le_at}
use Rattle.bits.proofs.Rows.{flatten-more}
use Rattle.parties.specs.Parties.{height_of}
use Rattle.circuit.specs.Circuit.{Circuit}
use Rattle.plain.specs.Tapes.{ands_of}
use Rattle.instance.specs.Instance.{Asked, opened, hiding}
use Rattle.proof.specs.File.{header_bytes}
use Rattle.honest.specs.Response.{encode_header, encode_sent, encode, decode_header, bound_in, challenge_in, aux_bytes, decode_sent, bytes_from, nodes_bytes, decode, sent_bytes, all_bytes, implied_length}
use Rattle.honest.specs.Theorems.{AllBytes, GoodHeader, AcceptedEncoding}
use Rattle.honest.proofs.Decoded.{bytes-from}
use Rattle.honest.proofs.Published.{check-is-published, same-circuit}

-- the first k bytes and then d of the rest are the first k + d
joined : (k d : ℕ) (s t : List ℕ) → t ≡ drop k s → take k s ++ take d t ≡ take (k + d) s
joined k d s t e = ap (λ (z : List ℕ). take k s ++ take d z) e ∙ sym (take-add k d s)

-- a byte and a zero byte
two_bytes : (s : List ℕ) → 2 ≤ length s → get_or s 1 0 ≡ 0 → (get_or s 0 0 ∷ 0 ∷ []) ≡ take 2 s
two_bytes [] h e = absurd (omega arith)
two_bytes (x ∷ []) h e = absurd (omega arith)
two_bytes (x ∷ y ∷ s) h e = ap (λ (z : ℕ). x ∷ z ∷ []) (sym e)

-- the header of a file of bytes is its first 70 bytes
header-encoded : (file : List ℕ) → AllBytes file → 70 ≤ length file → get_or file 5 0 ≡ 0 → encode_header (decode_header file) ≡ take 70 file
unfolding encode_header decode_header
header-encoded file b h z =
    let s₁ : List ℕ = drop 2 file in
    let s₂ : List ℕ = drop 2 s₁ in
    let s₃ : List ℕ = drop 2 s₂ in
    let d₂ : s₂ ≡ drop 4 file = drop-drop 2 2 file in
    let s₄ : List ℕ = drop 32 s₃ in
    let d₃ : s₃ ≡ drop 6 file = ap (drop 2) d₂ ∙ drop-drop 2 4 file in
    let d₄ : s₄ ≡ drop 38 file = ap (drop 32) d₃ ∙ drop-drop 32 6 file in
    let l₁ : length s₁ ≡ length file - 2 = length-drop 2 file in
    let l₂ : length s₂ ≡ length s₁ - 2 = length-drop 2 s₁ in
    let b₁ : AllBytes s₁ = λ k. rw (get_or-drop 2 file k 0) (b (2 + k)) in
    let e₀ : le_bytes 2 (le_at 2 file 0) ≡ take 2 file = le_bytes-le_at 2 file 0 b (omega arith) in
    let e₁ : le_bytes 2 (le_at 2 s₁ 0) ≡ take 2 s₁ = le_bytes-le_at 2 s₁ 0 b₁ (omega arith) in
    let z₂ : get_or s₂ 1 0 ≡ 0 = get_or-drop 2 s₁ 1 0 ∙ (get_or-drop 2 file 3 0 ∙ z) in
    let e₂ : (get_or s₂ 0 0 ∷ 0 ∷ []) ≡ take 2 s₂ = two_bytes s₂ (omega arith) z₂ in
    let j₁ : le_bytes 2 (le_at 2 file 0) ++ le_bytes 2 (le_at 2 s₁ 0) ≡ take 4 file = ap₂ (λ (x y : List ℕ). x ++ y) e₀ e₁ ∙ joined 2 2 file s₁ refl in
    let j₂ : le_bytes 2 (le_at 2 file 0) ++ le_bytes 2 (le_at 2 s₁ 0) ++ (get_or s₂ 0 0 ∷ 0 ∷ []) ≡ take 6 file =
    ap₂ (λ (x y : List ℕ). x ++ y) j₁ e₂ ∙ joined 4 2 file s₂ d₂ in
    let j₃ : le_bytes 2 (le_at 2 file 0) ++ le_bytes 2 (le_at 2 s₁ 0) ++ (get_or s₂ 0 0 ∷ 0 ∷ []) ++ take 32 s₃ ≡ take 38 file =
    ap (λ (x : List ℕ). x ++ take 32 s₃) j₂ ∙ joined 6 32 file s₃ d₃ in
    ap (λ (x : List ℕ). x ++ take 32 s₄) j₃ ∙ joined 38 32 file s₄ d₄

-- an instance of n parties
module _ (c : Circuit) (n : ℕ) where
  -- what is sent of an instance is the bytes that it was decoded from
  sent-encoded : (a : Asked) (s : List ℕ) → encode_sent (decode_sent c n a s).0 ≡ take (sent_bytes c n a) s
  unfolding encode_sent decode_sent sent_bytes
  sent-encoded opened s = refl
  sent-encoded (hiding p) s =
      let k₁ : ℕ = 16 * height_of n in
      let k₂ : ℕ = aux_bytes c n p in
      let k₄ : ℕ = oct c.inputs in
      let k₅ : ℕ = oct (ands_of c + length c.outputs) in
      let s₁ : List ℕ = drop k₁ s in
      let s₂ : List ℕ = drop k₂ s₁ in
      let s₃ : List ℕ = drop 32 s₂ in
      let s₄ : List ℕ = drop k₄ s₃ in
      let d₂ : s₂ ≡ drop (k₁ + k₂) s = drop-drop k₂ k₁ s in
      let d₃ : s₃ ≡ drop (k₁ + k₂ + 32) s = ap (drop 32) d₂ ∙ drop-drop 32 (k₁ + k₂) s in
      let d₄ : s₄ ≡ drop (k₁ + k₂ + 32 + k₄) s = ap (drop k₄) d₃ ∙ drop-drop k₄ (k₁ + k₂ + 32) s in
      let j₁ : take k₁ s ++ take k₂ s₁ ≡ take (k₁ + k₂) s = joined k₁ k₂ s s₁ refl in
      let j₂ : take k₁ s ++ take k₂ s₁ ++ take 32 s₂ ≡ take (k₁ + k₂ + 32) s =
      ap (λ (x : List ℕ). x ++ take 32 s₂) j₁ ∙ joined (k₁ + k₂) 32 s s₂ d₂ in
      let j₃ : take k₁ s ++ take k₂ s₁ ++ take 32 s₂ ++ take k₄ s₃ ≡ take (k₁ + k₂ + 32 + k₄) s =
      ap (λ (x : List ℕ). x ++ take k₄ s₃) j₂ ∙ joined (k₁ + k₂ + 32) k₄ s s₃ d₃ in
      ap (λ (x : List ℕ). x ++ take k₅ s₄) j₃ ∙ joined (k₁ + k₂ + 32 + k₄) k₅ s s₄ d₄

  -- so is what is sent of the first m instances
  all-encoded : (ask : ℕ → Asked) (s : List ℕ) (m : ℕ)
      → flatten (tabulate m (λ j. encode_sent (decode_sent c n (ask j) (bytes_from c n ask s j)).0)) ≡ take (all_bytes c n ask m) s
  unfolding flatten all_bytes
  all-encoded ask s zero = refl
  all-encoded ask s (suc m) =
      sym (flatten-more m (λ j. encode_sent (decode_sent c n (ask j) (bytes_from c n ask s j)).0))
      ∙ (ap₂ (λ (x y : List ℕ). x ++ y) (all-encoded ask s m) (sent-encoded (ask m) (bytes_from c n ask s m))
      ∙ joined (all_bytes c n ask m) (sent_bytes c n (ask m)) s (bytes_from c n ask s m) (bytes-from c n ask s m))

-- a file of the length that h* implies, with a good header
file-encoded : (c : Circuit) (bound file : List ℕ) → AllBytes file → GoodHeader file (decode_header file) → length file ≡ implied_length c bound file
    → file ≡ encode (decode_header file) (decode c bound file)
unfolding encode decode implied_length
file-encoded c bound file b g e =
    let n : ℕ = (decode_header file).n in
    let M : ℕ = (decode_header file).M in
    let ask : ℕ → Asked = challenge_in bound file in
    let size : ℕ = nodes_bytes M ask in
    let s : List ℕ = drop header_bytes file in
    let rest : List ℕ = drop size s in
    let front : encode_header (decode_header file) ++ take size s ≡ take (header_bytes + size) file =
    ap (λ (x : List ℕ). x ++ take size s) (header-encoded file b g.size g.zero) ∙ joined header_bytes size file s refl in
    let all : take (all_bytes c n ask M) rest ≡ rest = take_all (all_bytes c n ask M) rest (omega (arith, length-drop header_bytes file, length-drop size s)) in
    sym
    (ap₂ (λ (x y : List ℕ). x ++ y) front (all-encoded c n ask rest M ∙ (all ∙ drop-drop size header_bytes file))
    ∙ take-append-drop (header_bytes + size) file)

-- every accepted file
pub accepted-encoding : AcceptedEncoding
accepted-encoding s y message proof work c b r e =
    let h = check-is-published.sound s y message proof work e in
    file-encoded c (bound_in s y message proof) proof b h.header (h.size ∙ ap (λ (z : Circuit). implied_length z (bound_in s y message proof) proof) (same-circuit s h.circuit c h.read r))

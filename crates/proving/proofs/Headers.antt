-- The header of a proof as it is written: six bytes, then h*, then the salt.
-- Assumes nothing.
use mathlib.Core.Path.{◌≡◌, refl, sym, ap, ap₂, ◌∙◌}
use mathlib.Core.List.{List, [], ◌∷◌, ◌++◌, append-nil, append_assoc}
use Prim.Native.Nat.{ℕ, ◌-◌, ◌≤◌}
use native.Mathlib.Omega.{arith}
use borrow.Rule.Slice.PartMut.{mid_of, put_mid, mid_len}
use lib.ListN.{length, take, drop, set, length-set, length-append, length-drop, drop_of_length-le}
use lib.Seq.{sets, length-sets, length-take-le, take_at}
use Rattle.bits.specs.Bytes.{le_bytes}
use Rattle.proof.specs.File.{header_of}

-- the first six bytes
front-made : (M tau n : ℕ) (out : List ℕ) → 6 ≤ length out
    → take 6 (set (set (sets (sets out 0 (le_bytes 2 M)) 2 (le_bytes 2 tau)) 4 n) 5 0) ≡ le_bytes 2 M ++ le_bytes 2 tau ++ (n ∷ 0 ∷ [])
unfolding le_bytes
front-made M tau n [] h = absurd (omega arith)
front-made M tau n (a ∷ []) h = absurd (omega arith)
front-made M tau n (a ∷ b ∷ []) h = absurd (omega arith)
front-made M tau n (a ∷ b ∷ c ∷ []) h = absurd (omega arith)
front-made M tau n (a ∷ b ∷ c ∷ d ∷ []) h = absurd (omega arith)
front-made M tau n (a ∷ b ∷ c ∷ d ∷ e ∷ []) h = absurd (omega arith)
front-made M tau n (a ∷ b ∷ c ∷ d ∷ e ∷ f ∷ out) h = refl

-- a buffer of 70 bytes, with M, and with tau
module _ (M tau n : ℕ) (out x y : List ℕ) (size : length out ≡ 70) (p : x ≡ sets out 0 (le_bytes 2 M)) (q : y ≡ sets x 2 (le_bytes 2 tau)) where
  -- with n and the zero byte
  abbrev begun : List ℕ
  begun = set (set y 4 n) 5 0

  -- it keeps its length with M and tau
  length-tau : length y ≡ 70
  length-tau = ap length q ∙ length-sets x 2 (le_bytes 2 tau) ∙ ap length p ∙ length-sets out 0 (le_bytes 2 M) ∙ size

  -- with n
  pub length-n : length (set y 4 n) ≡ 70
  length-n = length-set y 4 n ∙ length-tau

  -- and with the zero byte
  pub length-begun : length begun ≡ 70
  length-begun = length-set (set y 4 n) 5 0 ∙ length-n

  -- h* has its place
  pub rest-begun : length (mid_of 6 (38 - 6) begun) ≡ 32
  rest-begun = mid_len 6 38 begun (omega (arith, length-begun)) ∙ omega arith

  -- with h*
  module _ (hstar z : List ℕ) (e : z ≡ hstar) (l : length hstar ≡ 32) where
    abbrev pub mid : List ℕ
    mid = put_mid 6 (38 - 6) begun z

    front-mid : length (take 6 begun ++ z) ≡ 38
    front-mid = length-append (take 6 begun) z ∙ omega (arith, length-take-le 6 begun (omega (arith, length-begun)), ap length e, l)

    mid-is : mid ≡ (take 6 begun ++ z) ++ drop (38 - 6) (drop 6 begun)
    mid-is = sym (append_assoc (take 6 begun) z (drop (38 - 6) (drop 6 begun)))

    pub length-mid : length mid ≡ 70
    length-mid =
        ap length mid-is ∙ length-append (take 6 begun ++ z) (drop (38 - 6) (drop 6 begun))
        ∙ omega (arith, front-mid, length-drop (38 - 6) (drop 6 begun), length-drop 6 begun, length-begun)

    -- the rest holds the salt
    pub rest-mid : length (mid_of 38 (length mid - 38) mid) ≡ 32
    rest-mid = mid_len 38 (length mid) mid (omega (arith, length-mid)) ∙ omega (arith, length-mid)

    -- the header
    pub header_made : (salt u : List ℕ) → u ≡ salt → put_mid 38 (length mid - 38) mid u ≡ header_of M tau n hstar salt
    unfolding header_of
    header_made salt u g =
        let front : List ℕ = le_bytes 2 M ++ le_bytes 2 tau ++ (n ∷ 0 ∷ []) in
        let f : take 6 begun ≡ front
        = ap (λ (t : List ℕ). take 6 (set (set t 4 n) 5 0)) (q ∙ ap (λ (t : List ℕ). sets t 2 (le_bytes 2 tau)) p)
        ∙ front-made M tau n out (omega (arith, size)) in
        let t : take 38 mid ≡ front ++ hstar
        = ap (take 38) mid-is ∙ take_at (take 6 begun ++ z) (drop (38 - 6) (drop 6 begun)) 38 front-mid ∙ ap₂ ◌++◌ f e in
        let r : drop (length mid - 38) (drop 38 mid) ≡ []
        = drop_of_length-le (drop 38 mid) {i = length mid - 38} (omega (arith, length-drop 38 mid, length-mid)) in
        ap₂ (λ (a b : List ℕ). a ++ (u ++ b)) t r ∙ ap (λ (b : List ℕ). (front ++ hstar) ++ b) (append-nil u ∙ g)

-- The Boolean ring of XOR and AND, and XOR over n places: the laws by which shares are summed and one share is found from the others.
-- Assumes nothing.
use mathlib.Core.Path.{◌≡◌, refl, sym, ap, ap₂, ◌∙◌}
use mathlib.Core.Bool.{Bool, true, false, cond, not, ◌&&◌, and_assoc, and_comm, and_self, and_self_left, and-true, and-false}
use mathlib.Core.List.{List, [], ◌∷◌, ◌++◌}
use mathlib.Core.Logic.{⊎_elim, ◌≢◌}
use Prim.Native.Nat.{ℕ, zero, suc, ◌<◌}
use native.Mathlib.Nat.{eq-or-lt_of_le, le_of_suc-le-suc}
use native.Mathlib.Omega.{arith}
use borrow.Author.Tests.{eq-eqb, ne_eqb, eqb-false}
use lib.Dec.{T, eqb}
use lib.ListN.{length, get_or}
use Rattle.bits.specs.Bits.{tabulate}
use Rattle.bits.specs.Xor.{◌⊕◌, xors}
use Rattle.bits.specs.Steps.{xor_all, without}
use Rattle.bits.proofs.Tabulate.{tabulate-get_or}

-- a function of n bits
abbrev pub Fun : ℕ → Type 0
Fun zero = Bool
Fun (suc n) = Bool → Fun n

-- two functions of n bits are equal at every n bits
abbrev pub Same : (n : ℕ) → Fun n → Fun n → Type 0
Same zero f g = f ≡ g
Same (suc n) f g = (b : Bool) → Same n (f b) (g b)

-- whether the truth tables of two functions of n bits are equal
abbrev pub table : (n : ℕ) → Fun n → Fun n → Bool
table zero f g = not (f ⊕ g)
table (suc n) f g = table n (f true) (g true) && table n (f false) (g false)

-- the left part of an AND
and_l : (a b : Bool) → T (a && b) → T a
and_l true b t = tt
and_l false b t = t

-- the right part of an AND
and_r : (a b : Bool) → T (a && b) → T b
and_r true b t = t
and_r false b t = absurd t

-- two bits whose XOR is false are equal
eq_of : (a b : Bool) → T (not (a ⊕ b)) → a ≡ b
eq_of true true t = refl
eq_of true false t = absurd t
eq_of false true t = absurd t
eq_of false false t = refl

-- an equation of n bits holds if its truth tables are equal: `taut 2 _ _ tt`
pub taut : (n : ℕ) (f g : Fun n) → T (table n f g) → Same n f g
taut zero f g t = eq_of f g t
taut (suc n) f g t =
    let x = table n (f true) (g true) in
    let y = table n (f false) (g false) in
    elim [ true ↦ taut n (f true) (g true) (and_l x y t) | false ↦ taut n (f false) (g false) (and_r x y t) ]

-- XOR is associative
pub xor_assoc : (a b c : Bool) → a ⊕ b ⊕ c ≡ a ⊕ (b ⊕ c)
xor_assoc = taut 3 _ _ tt

-- XOR is commutative
pub xor_comm : (a b : Bool) → a ⊕ b ≡ b ⊕ a
xor_comm = taut 2 _ _ tt

-- the first two of three may be exchanged
pub xor-left-comm : (a b c : Bool) → a ⊕ (b ⊕ c) ≡ b ⊕ (a ⊕ c)
xor-left-comm = taut 3 _ _ tt

-- a bit cancels itself
pub xor_self : (a : Bool) → a ⊕ a ≡ false
xor_self = taut 1 _ _ tt

-- a bit cancels itself at the front
pub xor-self-left : (a b : Bool) → a ⊕ (a ⊕ b) ≡ b
xor-self-left = taut 2 _ _ tt

-- a bit cancels itself at the end
pub xor-self-right : (a b : Bool) → a ⊕ b ⊕ b ≡ a
xor-self-right = taut 2 _ _ tt

-- false changes nothing, on the right
pub xor-false : (a : Bool) → a ⊕ false ≡ a
xor-false = taut 1 _ _ tt

-- false changes nothing, on the left
pub false-xor : (a : Bool) → false ⊕ a ≡ a
false-xor a = refl

-- true negates, on the right
pub xor-true : (a : Bool) → a ⊕ true ≡ not a
xor-true = taut 1 _ _ tt

-- true negates, on the left
pub true-xor : (a : Bool) → true ⊕ a ≡ not a
true-xor a = refl

-- a negation comes out, from the right
pub xor-not : (a b : Bool) → a ⊕ not b ≡ not (a ⊕ b)
xor-not = taut 2 _ _ tt

-- a negation comes out, from the left
pub not-xor : (a b : Bool) → not a ⊕ b ≡ not (a ⊕ b)
not-xor = taut 2 _ _ tt

-- two negations cancel
pub not-not : (a : Bool) → not (not a) ≡ a
not-not = taut 1 _ _ tt

-- AND with a negation is an XOR, on the right
pub and-not : (a b : Bool) → a && not b ≡ a ⊕ (a && b)
and-not = taut 2 _ _ tt

-- AND with a negation is an XOR, on the left
pub not-and : (a b : Bool) → not a && b ≡ b ⊕ (a && b)
not-and = taut 2 _ _ tt

-- AND goes over XOR, on the right
pub and_xor : (a b c : Bool) → a && (b ⊕ c) ≡ (a && b) ⊕ (a && c)
and_xor = taut 3 _ _ tt

-- AND goes over XOR, on the left
pub xor-and : (a b c : Bool) → (a ⊕ b) && c ≡ (a && c) ⊕ (b && c)
xor-and = taut 3 _ _ tt

-- the first two of three may be exchanged
pub and-left-comm : (a b c : Bool) → a && (b && c) ≡ b && (a && c)
and-left-comm = taut 3 _ _ tt

-- the rules by which `simp ring` brings a term of XOR, AND and not to a sum of products
pub ruleset ring = (false-xor, true-xor, xor_assoc, xor_comm, xor-left-comm, xor_self, xor-self-left, xor-false, xor-not, not-xor, not-not, and-not, not-and, and_xor, xor-and, and_comm, and-left-comm, and_assoc, and_self, and_self_left, and-true, and-false)

-- the XOR of no bits
pub xors-zero : (f : ℕ → Bool) → xors 0 f ≡ false
unfolding xors
xors-zero f = refl

-- the XOR of one bit more
pub xors-suc : (n : ℕ) (f : ℕ → Bool) → xors (suc n) f ≡ xors n f ⊕ f n
unfolding xors
xors-suc n f = refl

-- the XOR of equal bits is equal
pub xors-cong : (n : ℕ) (f g : ℕ → Bool) → ((i : ℕ) → i < n → f i ≡ g i) → xors n f ≡ xors n g
unfolding xors
xors-cong zero f g h = refl
xors-cong (suc n) f g h = ap₂ ◌⊕◌ (xors-cong n f g (λ i l. h i (omega arith))) (h n (omega arith))

-- the XOR of bits that are all false is false
pub xors-false : (n : ℕ) → xors n (λ i. false) ≡ false
unfolding xors
xors-false zero = refl
xors-false (suc n) = rw (xors-false n)

-- the XOR of XORs place by place is the XOR of the two
pub xors-xor : (n : ℕ) (f g : ℕ → Bool) → xors n (λ i. f i ⊕ g i) ≡ xors n f ⊕ xors n g
unfolding xors
xors-xor zero f g = refl
xors-xor (suc n) f g = rw (xors-xor n f g) (taut 4 (λ a b c d. a ⊕ b ⊕ (c ⊕ d)) (λ a b c d. a ⊕ c ⊕ (b ⊕ d)) tt (xors n f) (xors n g) (f n) (g n))

-- a factor comes out
pub xors-and : (n : ℕ) (b : Bool) (f : ℕ → Bool) → xors n (λ i. b && f i) ≡ b && xors n f
unfolding xors
xors-and zero b f = sym (and-false b)
xors-and (suc n) b f = rw (xors-and n b f) (sym (and_xor b (xors n f) (f n)))

-- the first bit comes out
pub xors-front : (n : ℕ) (f : ℕ → Bool) → xors (suc n) f ≡ f 0 ⊕ xors n (λ i. f (suc i))
unfolding xors
xors-front zero f = sym (xor-false (f 0))
xors-front (suc n) f = ap (λ (b : Bool). b ⊕ f (suc n)) (xors-front n f) ∙ xor_assoc (f 0) _ _

-- if one place changes by d, the XOR changes by d
pub xors-change : (n : ℕ) (f g : ℕ → Bool) (i : ℕ) (d : Bool) → i < n → g i ≡ f i ⊕ d → ((j : ℕ) → j < n → j ≢ i → g j ≡ f j) → xors n g ≡ xors n f ⊕ d
unfolding xors
xors-change zero f g i d l e h = absurd (omega arith)
xors-change (suc n) f g i d l e h =
    ⊎_elim
    (λ q. ap₂ ◌⊕◌ (xors-cong n g f (λ j k. h j (omega arith) (omega arith))) (rw q at e) ∙ sym (xor_assoc (xors n f) (f n) d))
    (λ k. ap₂ ◌⊕◌ (xors-change n f g i d k e (λ j m. h j (omega arith))) (h n (omega arith) (omega arith))
    ∙ taut 3 (λ a b c. a ⊕ b ⊕ c) (λ a b c. a ⊕ c ⊕ b) tt (xors n f) d (f n))
    (eq-or-lt_of_le (le_of_suc-le-suc l))

-- place i is left out
pub without_at : (i : ℕ) (f : ℕ → Bool) → without i f i ≡ false
unfolding without
without_at i f = rw (eq-eqb i i refl)

-- the other places are kept
pub without_other : (i : ℕ) (f : ℕ → Bool) (j : ℕ) → j ≢ i → without i f j ≡ f j
unfolding without
without_other i f j h = rw (ne_eqb j i h)

-- two values that agree where the test fails
cond_same : (b x y : Bool) → (b ≡ false → x ≡ y) → cond b false x ≡ cond b false y
cond_same true x y h = refl
cond_same false x y h = h refl

-- bits that agree but at place i are equal with place i left out
pub xors-without-cong : (n i : ℕ) (f g : ℕ → Bool) → ((j : ℕ) → j < n → j ≢ i → f j ≡ g j) → xors n (without i f) ≡ xors n (without i g)
unfolding without
xors-without-cong n i f g h =
    xors-cong n (without i f) (without i g) (λ j l. cond_same (eqb j i) (f j) (g j) (λ e. h j l (eqb-false j i e)))

-- the XOR is place i with all the others
pub xors-split : (n i : ℕ) (f : ℕ → Bool) → i < n → xors n f ≡ f i ⊕ xors n (without i f)
xors-split n i f l =
    xors-change n (without i f) f i (f i) l (rw without_at) (λ j m h. sym (without_other i f j h)) ∙ xor_comm (xors n (without i f)) (f i)

-- the share at place i is the XOR of the whole value and all the other shares
pub share-from-others : (n i : ℕ) (f : ℕ → Bool) (m : Bool) → i < n → xors n f ≡ m → f i ≡ m ⊕ xors n (without i f)
share-from-others n i f m l e =
    sym (xor-self-right (f i) (xors n (without i f))) ∙ ap (λ (b : Bool). b ⊕ xors n (without i f)) (sym (xors-split n i f l) ∙ e)

-- shares of which one is the XOR of m and all the others are shares of m
pub others-make-value : (n i : ℕ) (f : ℕ → Bool) (m : Bool) → i < n → f i ≡ m ⊕ xors n (without i f) → xors n f ≡ m
others-make-value n i f m l e =
    xors-split n i f l ∙ ap (λ (b : Bool). b ⊕ xors n (without i f)) e ∙ xor-self-right m (xors n (without i f))

-- the XOR of a list given place by place
pub xor_all-tabulate : (n : ℕ) (f : ℕ → Bool) → xor_all (tabulate n f) ≡ xors n f
unfolding xor_all
xor_all-tabulate zero f = sym (xors-zero f)
xor_all-tabulate (suc n) f = ap (λ (b : Bool). f 0 ⊕ b) (xor_all-tabulate n (λ i. f (suc i))) ∙ sym (xors-front n f)

-- the XOR of a list is that of its places
pub xor_all-xors : (l : List Bool) → xor_all l ≡ xors (length l) (λ i. get_or l i false)
xor_all-xors l = ap xor_all (sym (tabulate-get_or l false)) ∙ xor_all-tabulate (length l) (λ i. get_or l i false)

-- the XOR of two lists one after the other
pub xor_all-append : (a b : List Bool) → xor_all (a ++ b) ≡ xor_all a ⊕ xor_all b
unfolding xor_all
xor_all-append [] b = refl
xor_all-append (x ∷ a) b = ap (λ (y : Bool). x ⊕ y) (xor_all-append a b) ∙ sym (xor_assoc x (xor_all a) (xor_all b))

-- What a checker makes of a stretch, in the numbers that the code carries: its parts, their unused bits, the tapes and corrections shown.
-- Assumes nothing.
use mathlib.Core.Path.{◌≡◌, refl, sym, ap, ap₂, ◌∙◌}
use mathlib.Core.Bool.{Bool, true, false, cond, ◌&&◌}
use mathlib.Core.List.{List, ◌++◌}
use Prim.Native.Nat.{ℕ, suc, ◌+◌, ◌-◌, ◌*◌, ◌≤◌, ◌<◌}
use native.Mathlib.Omega.{arith}
use native.Mathlib.Numerals.{add-one}
use borrow.Author.Tests.{eq-eqb, ne_eqb}
use borrow.Rule.Slice.PartMut.{put_mid, mid_len, take_put, drop_put}
use lib.Dec.{eqb}
use lib.ListN.{length, take, drop, replicate, length-drop}
use lib.Seq.{take_all, take_at, drop_at, length-take-le}
use Rattle.hashing.specs.declared.Context.{Context}
use Rattle.bits.specs.Bits.{oct, unused_zero}
use Rattle.parties.specs.Parties.{height_of}
use Rattle.circuit.specs.File.{circuit_of}
use Rattle.circuit.specs.declared.Sizes.{Sizes}
use Rattle.planes.specs.Steps.{corrections_at, rows_at, seeds_at, held_end}
use Rattle.planes.specs.declared.Layout.{Layout}
use Rattle.planes.proofs.Fits.{seeds-before}
use Rattle.walk.specs.Steps.{layout_of}
use Rattle.plain.specs.Tapes.{ands_of}
use Rattle.packed.specs.Steps.{tapes_held, corrections_held}
use Rattle.mpc.specs.Steps.{Known}
use Rattle.mpc.proofs.Opened.{sized, circuit-inputs, circuit-outputs, circuit-ands}
use Rattle.tree.specs.Tree.{opened_below}
use Rattle.instance.specs.Instance.{hiding, seeds_but}
use Rattle.instance.specs.Stretch.{correction_bytes, stretch_bytes, siblings_part, corrections_part, commitment_part, masked_part, row_part}
use Rattle.instance.specs.Opened.{opened_seeds, opened_showing, stretch_unused}
use Rattle.instance.specs.Steps.{Tree, seeds_held, tapes_but}
use Rattle.derivation.proofs.Together.{part-first}
use Rattle.instance.proofs.Tapes.{tapes-hidden}
use Rattle.instance.proofs.Rooms.{part-kept, corrections-inside, corrections-size}

-- three tests, from the left
and_in_turn : (x y z : Bool) → ((x && y) && z) ≡ (x && (y && z))
and_in_turn true y z = refl
and_in_turn false y z = refl

-- the last party sends no corrections
pub sent-none : (p n x : ℕ) → p + 1 ≡ n → 0 ≡ cond (eqb (suc p) n) 0 x
sent-none p n x e = rw (eq-eqb (suc p) n (sym (add-one p) ∙ e)) refl

-- any other sends them
pub sent-all : (p n x r : ℕ) → (p + 1 ≡ n → ⊥) → r ≡ x → r ≡ cond (eqb (suc p) n) 0 x
sent-all p n x r e q = rw (ne_eqb (suc p) n (λ t. e (add-one p ∙ t))) q

-- a part is what lies from its start on
part-is : (m a b : ℕ) (s : List ℕ) → b ≡ a + m → take (b - a) (drop a s) ≡ take m (drop a s)
part-is m a b s e = let d : b - a ≡ m = omega (arith, e) in ap (λ (k : ℕ). take k (drop a s)) d

-- the part to the end
part-rest : (a : ℕ) (s : List ℕ) → take (length s - a) (drop a s) ≡ drop a s
part-rest a s = take_all (length s - a) (drop a s) (omega (arith, length-drop a s))

-- the bytes sent are few
pub sent-few : (b : Bool) (x y : ℕ) → x ≡ cond b 0 y → x ≤ y
sent-few true x y e = omega (arith, e)
sent-few false x y e = omega (arith, e)

-- the stretch of a chosen instance, of a legal file's circuit
module _ (s : List ℕ) (i o g a : ℕ) (k : Known s (sized i o g a)) (n h p : ℕ) (tree : Tree n h) (part : List ℕ)
    (size : length part ≡ stretch_bytes (circuit_of s) n (hiding p)) (x : ℕ) (sent : x ≡ cond (eqb (suc p) n) 0 (oct a)) where
  -- the corrections in it
  pub sent-bytes : correction_bytes (circuit_of s) n p ≡ x
  unfolding correction_bytes
  sent-bytes = ap (λ (y : ℕ). cond (eqb (suc p) n) 0 (oct y)) (circuit-ands s i o g a k) ∙ sym sent

  -- the start of the commitment
  first_two : 16 * height_of n + correction_bytes (circuit_of s) n p ≡ 16 * h + x
  first_two = omega (arith, tree.height, sent-bytes)

  -- its bytes
  pub stretch-size : length part ≡ 16 * h + x + 32 + oct i + oct (a + o)
  unfolding stretch_bytes
  stretch-size =
      size ∙ omega (
        arith,
        first_two,
        ap oct (circuit-inputs s i o g a k),
        ap₂ (λ (y z : ℕ). oct (y + z)) (circuit-ands s i o g a k) (circuit-outputs s i o g a k),
      )

  -- the corrections sent are few
  pub sent-small : x ≤ oct a
  sent-small = sent-few (eqb (suc p) n) x (oct a) sent

  -- its parts: the corrections
  corrections-are : take (16 * h + x - 16 * h) (drop (16 * h) part) ≡ corrections_part (circuit_of s) n p part
  unfolding corrections_part
  corrections-are =
      part-is x (16 * h) (16 * h + x) part refl
      ∙ ap₂ (λ (y z : ℕ). take y (drop (16 * z) part)) (sym sent-bytes) tree.height

  -- the commitment
  pub commitment-is : take (16 * h + x + 32 - (16 * h + x)) (drop (16 * h + x) part) ≡ commitment_part (circuit_of s) n p part
  unfolding commitment_part
  commitment-is = part-is 32 (16 * h + x) (16 * h + x + 32) part refl ∙ ap (λ (y : ℕ). take 32 (drop y part)) (sym first_two)

  -- with the bytes of the masked inputs
  module _ (y : ℕ) (ins : y ≡ oct i) where
    -- the masked inputs
    pub masked-are : take (16 * h + x + 32 + y - (16 * h + x + 32)) (drop (16 * h + x + 32) part) ≡ masked_part (circuit_of s) n p part
    unfolding masked_part
    masked-are =
        part-is y (16 * h + x + 32) (16 * h + x + 32 + y) part refl
        ∙ ap₂ (λ (u v : ℕ). take u (drop (v + 32) part)) (ins ∙ ap oct (sym (circuit-inputs s i o g a k))) (sym first_two)

    -- the row
    pub row_is : take (length part - (16 * h + x + 32 + y)) (drop (16 * h + x + 32 + y) part) ≡ row_part (circuit_of s) n p part
    unfolding row_part
    row_is =
        part-rest (16 * h + x + 32 + y) part
        ∙ ap₂ (λ (u v : ℕ). drop (v + 32 + u) part) (ins ∙ ap oct (sym (circuit-inputs s i o g a k))) (sym first_two)

    -- the test of the unused bits
    pub unused-made : (b1 b2 b3 b : Bool) → b1 ≡ unused_zero a (take (16 * h + x - 16 * h) (drop (16 * h) part))
        → b2 ≡ unused_zero i (take (16 * h + x + 32 + y - (16 * h + x + 32)) (drop (16 * h + x + 32) part))
        → b3 ≡ unused_zero (a + o) (take (length part - (16 * h + x + 32 + y)) (drop (16 * h + x + 32 + y) part))
        → b ≡ (b1 && b2) && b3 → b ≡ stretch_unused (circuit_of s) n part (hiding p)
    unfolding stretch_unused
    unused-made b1 b2 b3 b e1 e2 e3 e4 =
        let ca = circuit-ands s i o g a k in
        let ci = circuit-inputs s i o g a k in
        let co = circuit-outputs s i o g a k in
        let f1 : b1 ≡ unused_zero (ands_of (circuit_of s)) (corrections_part (circuit_of s) n p part) = e1 ∙ ap₂ unused_zero (sym ca) corrections-are in
        let f2 : b2 ≡ unused_zero (circuit_of s).inputs (masked_part (circuit_of s) n p part) = e2 ∙ ap₂ unused_zero (sym ci) masked-are in
        let f3 : b3 ≡ unused_zero (ands_of (circuit_of s) + length (circuit_of s).outputs) (row_part (circuit_of s) n p part)
        = e3 ∙ ap₂ unused_zero (ap₂ ◌+◌ (sym ca) (sym co)) row_is in
        e4 ∙ and_in_turn b1 b2 b3 ∙ ap₂ ◌&&◌ f1 (ap₂ ◌&&◌ f2 f3)

-- the length of a part
pub part_length : (a u m t : ℕ) (s : List ℕ) → a + u ≤ length s → u ≡ m → t ≡ m → t ≡ length (take (a + u - a) (drop a s))
part_length a u m t s h e f = f ∙ sym (mid_len a (a + u) s h ∙ omega (arith, e))

-- of the part to the end
pub rest-length : (a m : ℕ) (s : List ℕ) → length s ≡ a + m → length (take (length s - a) (drop a s)) ≡ m
rest-length a m s e = mid_len a (length s) s (omega arith) ∙ omega (arith, e)

-- what stands for the last party
last-is : (p n : ℕ) (y x z : List ℕ) → p + 1 ≡ n → y ≡ x → y ≡ cond (eqb (suc p) n) x z
last-is p n y x z e q = rw (eq-eqb (suc p) n (sym (add-one p) ∙ e)) q

-- and for any other
other-is : (p n : ℕ) (y x z : List ℕ) → (p + 1 ≡ n → ⊥) → y ≡ z → y ≡ cond (eqb (suc p) n) x z
other-is p n y x z e q = rw (ne_eqb (suc p) n (λ t. e (add-one p ∙ t))) q

-- the seeds that follow from a stretch
pub seeds-opened : (n h : ℕ) (j : Context) (p : ℕ) → Tree n h → (part x : List ℕ) → x ≡ seeds_but n p j (opened_below j h 1 p (take (16 * h) part)) → x ≡ opened_seeds n j p part
unfolding opened_seeds siblings_part
seeds-opened n h j p tree part x q = q ∙ ap (λ (y : ℕ). seeds_but n p j (opened_below j y 1 p (take (16 * y) part))) tree.height

-- and the tapes, with row p hidden
pub tapes-shown : (s : List ℕ) (n h : ℕ) (j : Context) (p : ℕ) → Tree n h → p < n → (part x : List ℕ)
    → x ≡ tapes_but (circuit_of s) n p j (seeds_but n p j (opened_below j h 1 p (take (16 * h) part))) → x ≡ (opened_showing (circuit_of s) n j p part).tapes
unfolding opened_showing
tapes-shown s n h j p tree few part x q =
    q ∙ ap (tapes_but (circuit_of s) n p j) (seeds-opened n h j p tree part _ refl) ∙ tapes-hidden (circuit_of s) n j (opened_seeds n j p part) p few

-- the corrections of a stretch
module _ (s : List ℕ) (i o g a : ℕ) (k : Known s (sized i o g a)) (n h : ℕ) (j : Context) (p : ℕ) (tree : Tree n h) (part : List ℕ)
    (size : length part ≡ stretch_bytes (circuit_of s) n (hiding p)) where
  -- all zero where they are the hidden party's
  pub corrections-zero : (t : ℕ) (y : List ℕ) → p + 1 ≡ n → t ≡ oct a → y ≡ replicate t 0 → y ≡ (opened_showing (circuit_of s) n j p part).corrections
  unfolding opened_showing
  corrections-zero t y e l q =
      last-is p n y (replicate (oct (ands_of (circuit_of s))) 0) (corrections_part (circuit_of s) n p part) e
      (q ∙ ap (λ (m : ℕ). replicate m 0) (l ∙ ap oct (sym (circuit-ands s i o g a k))))

  -- else as they are sent
  pub corrections-sent : (u : ℕ) (y : List ℕ) → (p + 1 ≡ n → ⊥) → u ≡ oct a → y ≡ take (16 * h + u - 16 * h) (drop (16 * h) part)
      → y ≡ (opened_showing (circuit_of s) n j p part).corrections
  unfolding opened_showing
  corrections-sent u y e l q =
      other-is p n y (replicate (oct (ands_of (circuit_of s))) 0) (corrections_part (circuit_of s) n p part) e
      (q ∙ corrections-are s i o g a k n h p tree part size u (sent-all p n (oct a) u e l))

-- the place of the corrections is filled with y, in the places that the code has
module _ (z : Sizes) (n : ℕ) (l : Layout) (e : l ≡ layout_of z) (m : List ℕ) (room : held_end (layout_of z) n ≤ length m) (at rows : ℕ) (ea : at ≡ corrections_at l)
    (er : rows ≡ rows_at l) (y : List ℕ) (fits : length y ≡ length (take (rows - at) (drop at m))) where
  abbrev filled : List ℕ
  filled = put_mid at (rows - at) m y

  inside : (at ≤ rows) × (rows ≤ length m)
  inside = corrections-inside z n l e m room at rows ea er

  short : length y ≡ rows - at
  short = fits ∙ mid_len at rows m inside.1

  -- what stands from the rows on is as it was
  after : drop (rows_at (layout_of z)) filled ≡ drop (rows_at (layout_of z)) m
  after =
      let d : rows ≡ rows_at (layout_of z) = er ∙ ap rows_at e in
      ap (λ (k : ℕ). drop k filled) (sym d) ∙ drop_put at rows m y inside.0 inside.1 short ∙ ap (λ (k : ℕ). drop k m) d

  -- and so are the seeds, which stand before
  pub filled-seeds : n ≤ 64 → (x : List ℕ) → seeds_held z n m ≡ x → seeds_held z n filled ≡ x
  filled-seeds few x d =
      let k : ℕ = seeds_at (layout_of z) in
      let h : k + 32 * n ≤ at = omega (arith, ea ∙ ap corrections_at e, seeds-before (layout_of z), few) in
      sym (part-first (32 * n) k at filled h) ∙ ap (λ (t : List ℕ). take (32 * n) (drop k t)) (take_put at (rows - at) m y (omega (arith, inside)))
      ∙ part-first (32 * n) k at m h ∙ d

  pub filled-tapes : (x : List ℕ) → tapes_held z n m ≡ x → tapes_held z n filled ≡ x
  filled-tapes x d = part-kept (rows_at (layout_of z)) (rows_at (layout_of z)) (n * oct (z.inputs + 2 * z.ands)) m filled (omega arith) after ∙ d

  pub filled-corrections : corrections_held z filled ≡ y
  filled-corrections =
      let d : corrections_at (layout_of z) ≡ at = sym (ea ∙ ap corrections_at e) in
      let post : List ℕ = drop (rows - at) (drop at m) in
      ap (λ (k : ℕ). take (oct z.ands) (drop k filled)) d
      ∙ ap (take (oct z.ands)) (drop_at (take at m) (y ++ post) at (length-take-le at m (omega (arith, inside))))
      ∙ take_at y post (oct z.ands) (fits ∙ corrections-size z n l e m room at rows ea er)

-- The response, written from its last stretch to its first over the h'_j of the first message.
-- Assumes nothing.
use mathlib.Core.Path.{◌≡◌, refl, sym, ap, ap₂, ◌∙◌}
use mathlib.Core.List.{List, ◌++◌, flatten, append_assoc, append-nil}
use Prim.Native.Nat.{ℕ, zero, suc, ◌+◌, ◌-◌, ◌*◌, ◌≤◌}
use native.Mathlib.Omega.{arith}
use borrow.Rule.Slice.PartMut.{put_mid, post_of, Post-is}
use lib.ListN.{length, get_or, take, drop, length-append}
use lib.Seq.{length-take-le, drop-length, take_all, take-length, take_at, drop_at, take-take, take-add}
use Rattle.hashing.specs.Inputs.{context_of}
use Rattle.hashing.specs.declared.Context.{Context}
use Rattle.bits.specs.Bits.{tabulate}
use Rattle.bits.proofs.Rows.{row_inside, row-tabulate, flatten-more}
use Rattle.circuit.specs.Circuit.{Circuit}
use Rattle.circuit.specs.File.{circuit_of}
use Rattle.cover.specs.Masters.{cover_bytes}
use Rattle.instance.specs.Instance.{Asked, opened, hiding, master_online, stretch_of}
use Rattle.instance.specs.Stretch.{stretch_bytes}
use Rattle.proof.specs.Protocol.{response_of}
use Rattle.proof.specs.File.{hides, stretch_start, proof_bytes}
use Rattle.proof.specs.Steps.{ask_of, asks_in, Asking}
use Rattle.proof.proofs.Sizes.{ask-opened, ask-hiding}
use Rattle.proof.proofs.Inside.{stretches-after}
use Rattle.proof.proofs.Parts.{length-stretch}
use Rattle.proof.proofs.Places.{length-rows}
use Rattle.rounds.specs.Steps.{Response}
use Rattle.rounds.proofs.Firsts.{online_at, length-online}

-- parts one after the other: the first j, and the others
parts-split : (j k : ℕ) (f : ℕ → List ℕ) → flatten (tabulate (j + k) f) ≡ flatten (tabulate j f) ++ flatten (tabulate k (λ i. f (j + i)))
unfolding flatten
parts-split j zero f =
    let e : j + 0 ≡ j = omega arith in
    ap (λ (i : ℕ). flatten (tabulate i f)) e ∙ sym (append-nil (flatten (tabulate j f)))
parts-split j (suc k) f =
    let e : j + suc k ≡ suc (j + k) = omega arith in
    ap (λ (i : ℕ). flatten (tabulate i f)) e ∙ sym (flatten-more (j + k) f)
    ∙ (ap (λ (t : List ℕ). t ++ f (j + k)) (parts-split j k f)
    ∙ (append_assoc (flatten (tabulate j f)) (flatten (tabulate k (λ i. f (j + i)))) (f (j + k))
    ∙ ap (λ (t : List ℕ). flatten (tabulate j f) ++ t) (flatten-more k (λ i. f (j + i)))))

-- two lists with the same front of e bytes have the same parts there
part_same : (a len e : ℕ) (l r : List ℕ) → e ≤ length l → e ≤ length r → a + len ≤ e → take e l ≡ take e r → take len (drop a l) ≡ take len (drop a r)
part_same a len e l r b d h q = one l b ∙ (ap (λ (t : List ℕ). drop a (take (a + len) t)) q ∙ sym (one r d))
  where
    one : (l : List ℕ) → e ≤ length l → take len (drop a l) ≡ drop a (take (a + len) (take e l))
    one l b =
        sym (ap (drop a) (take-take (a + len) e l h ∙ take-add a len l) ∙ drop_at (take a l) (take len (drop a l)) a (length-take-le a l (omega arith)))

-- the stretch of an instance of which p is asked
module _ (c : Circuit) (n p : ℕ) where
  -- not chosen: h'_j, which is w
  module _ (j : Context) (witness master : List ℕ) (e : p ≡ n) where
    -- it has its place
    pub shut-size : (part w : List ℕ) → length part ≡ stretch_bytes c n (ask_of n p) → w ≡ master_online c n j witness master → length part ≡ length w
    unfolding stretch_bytes
    shut-size part w size f =
        size ∙ ap (stretch_bytes c n) (ask-opened n p e) ∙ sym (ap length f ∙ length-online c n j witness master)

    -- it is all that is sent
    pub shut-made : (z w : List ℕ) → z ≡ w → w ≡ master_online c n j witness master → z ≡ stretch_of c n j witness master (ask_of n p)
    unfolding stretch_of
    shut-made z w g f = g ∙ f ∙ sym (ap (stretch_of c n j witness master) (ask-opened n p e))

  -- chosen: party p is hidden
  module _ (e : p ≡ n → ⊥) where
    -- the bytes are those of a chosen instance's stretch
    pub hidden-size : (part : List ℕ) → length part ≡ stretch_bytes c n (ask_of n p) → length part ≡ stretch_bytes c n (hiding p)
    hidden-size part size = size ∙ ap (stretch_bytes c n) (ask-hiding n p e)

    -- and so is the stretch
    pub hidden-made : (j : Context) (witness master z : List ℕ) → z ≡ stretch_of c n j witness master (hiding p)
        → z ≡ stretch_of c n j witness master (ask_of n p)
    hidden-made j witness master z g = g ∙ ap (stretch_of c n j witness master) (sym (ask-hiding n p e))

-- no stretch is shorter than 32 bytes
pub stretch-least : (c : Circuit) (n : ℕ) (a : Asked) → 32 ≤ stretch_bytes c n a
unfolding stretch_bytes
stretch-least c n opened = omega arith
stretch-least c n (hiding p) = omega arith

-- the response to `ask`, after the bytes in front
module _ (c : Circuit) (n : ℕ) (salt witness : List ℕ) (masters : ℕ → List ℕ) (ask : ℕ → Asked) (front : List ℕ) where
  -- of the first j instances
  abbrev pub sent : ℕ → List ℕ
  sent j = front ++ response_of c j n salt witness masters ask

  -- the stretch of instance j
  abbrev stretch_at : ℕ → List ℕ
  stretch_at j = stretch_of c n (context_of salt j) witness (masters j) (ask j)

  -- has the bytes that are asked
  length_at : (j : ℕ) → length (stretch_at j) ≡ stretch_bytes c n (ask j)
  length_at j = length-stretch c n (context_of salt j) witness (masters j) (ask j)

  -- of no instance
  pub sent-none : sent 0 ≡ front
  unfolding response_of flatten
  sent-none = append-nil front

  -- of one instance more
  sent-more : (j : ℕ) → sent (suc j) ≡ sent j ++ stretch_at j
  unfolding response_of
  sent-more j = ap (λ (t : List ℕ). front ++ t) (sym (flatten-more j stretch_at)) ∙ sym (append_assoc front _ _)

  -- and of all others
  sent-split : (j k : ℕ) → sent (j + k) ≡ sent j ++ flatten (tabulate k (λ i. stretch_at (j + i)))
  unfolding response_of
  sent-split j k = ap (λ (t : List ℕ). front ++ t) (parts-split j k stretch_at) ∙ sym (append_assoc front _ _)

  -- where the stretch of instance j ends
  pub sent-next : (j k : ℕ) → k ≡ suc j → length (sent k) ≡ length (sent j) + stretch_bytes c n (ask j)
  sent-next j k e = ap (λ (i : ℕ). length (sent i)) e ∙ (ap length (sent-more j) ∙ (length-append (sent j) (stretch_at j) ∙ ap (λ (i : ℕ). length (sent j) + i) (length_at j)))

  -- the places in the proof
  pub sent-start : (M : ℕ) → length front ≡ cover_bytes M (hides ask) → (j : ℕ) → 70 + length (sent j) ≡ stretch_start c M n ask j
  unfolding stretch_start
  sent-start M e zero = omega (arith, ap length sent-none, e)
  sent-start M e (suc j) = omega (arith, sent-next j (suc j) refl, sent-start M e j)

  -- each stretch has 32 bytes or more
  pub sent-least : (j : ℕ) → 32 * j ≤ length (sent j)
  sent-least zero = omega arith
  sent-least (suc j) = omega (arith, sent-next j (suc j) refl, sent-least j, stretch-least c n (ask j))

  -- what follows the first j of m instances
  module _ (j k m : ℕ) (e : k ≡ suc j) (l : k ≤ m) where
    -- the stretch of instance j, and the others
    sent-rest : drop (length (sent j)) (sent m) ≡ stretch_at j ++ drop (length (sent k)) (sent m)
    sent-rest =
        let r : List ℕ = flatten (tabulate (m - k) (λ i. stretch_at (k + i))) in
        let s : m ≡ k + (m - k) = omega arith in
        let w : sent m ≡ sent k ++ r = ap sent s ∙ sent-split k (m - k) in
        let v : sent m ≡ sent j ++ (stretch_at j ++ r) = w ∙ (ap (λ (t : List ℕ). t ++ r) (ap sent e ∙ sent-more j) ∙ append_assoc (sent j) (stretch_at j) r) in
        ap (drop (length (sent j))) v ∙ (drop_at (sent j) (stretch_at j ++ r) (length (sent j)) refl
        ∙ ap (λ (t : List ℕ). stretch_at j ++ t) (sym (ap (drop (length (sent k))) w ∙ drop_at (sent k) r (length (sent k)) refl)))

    -- the first k end inside
    pub sent-inside : length (sent k) ≤ length (sent m)
    sent-inside =
        let r : List ℕ = flatten (tabulate (m - k) (λ i. stretch_at (k + i))) in
        let s : m ≡ k + (m - k) = omega arith in
        let w : sent m ≡ sent k ++ r = ap sent s ∙ sent-split k (m - k) in
        omega (arith, ap length w, length-append (sent k) r)

    -- old, with the stretches from k on in their places
    module _ (start end : ℕ) (old part : List ℕ) (size : length old ≡ length (sent m)) (p : start ≡ length (sent j)) (q : end ≡ length (sent k))
        (there : part ≡ take end old ++ drop end (sent m)) where
      -- the stretch ends inside
      end-inside : end ≤ length old
      end-inside = omega (arith, sent-inside)

      -- it starts before it ends
      start-before : start ≤ end
      start-before = omega (arith, sent-next j k e)

      -- what lies before its end is as it was
      take-end : take end part ≡ take end old
      take-end = ap (take end) there ∙ take_at (take end old) (drop end (sent m)) end (length-take-le end old end-inside)

      -- one stretch more
      pub sent-turn : (z : List ℕ) → z ≡ stretch_at j → put_mid start (end - start) part z ≡ take start old ++ drop start (sent m)
      sent-turn z y =
          let a : take start part ≡ take start old
          = sym (take-take start end part start-before) ∙ (ap (take start) take-end ∙ take-take start end old start-before) in
          let b : post_of start (end - start) part ≡ drop end (sent m)
          = Post-is start end part start-before
          ∙ (ap (drop end) there ∙ drop_at (take end old) (drop end (sent m)) end (length-take-le end old end-inside)) in
          ap₂ ◌++◌ a (ap₂ ◌++◌ y b ∙ (ap (λ (i : ℕ). stretch_at j ++ drop i (sent m)) q ∙ (sym sent-rest ∙ ap (λ (i : ℕ). drop i (sent m)) (sym p))))

      -- until then its h'_j stands
      pub online-there : (a : ℕ) → length part ≡ length old → take (32 * m) old ≡ flatten (tabulate m (online_at c n salt witness masters)) → a ≡ 32 * j
          → take (a + 32 - a) (drop a part) ≡ master_online c n (context_of salt j) witness (masters j)
      online-there a same onlines from =
          let rows : List ℕ = flatten (tabulate m (online_at c n salt witness masters)) in
          let r : length rows ≡ m * 32 = length-rows 32 m (online_at c n salt witness masters) (λ i. length-online c n (context_of salt i) witness (masters i)) in
          let w : 32 * m ≤ length (sent m) = sent-least m in
          let v : 32 * k ≤ length (sent k) = sent-least k in
          let x : take (32 * m) old ≡ take (32 * m) rows = onlines ∙ sym (take_all (32 * m) rows (omega arith)) in
          let y : a + 32 - a ≡ 32 = omega arith in
          let z : a ≡ j * 32 = omega arith in
          ap (λ (i : ℕ). take i (drop a part)) y
          ∙ (part_same a 32 end part old (omega (arith, end-inside)) end-inside (omega arith) take-end
          ∙ (part_same a 32 (32 * m) old rows (omega arith) (omega arith) (omega arith) x
          ∙ (ap (λ (i : ℕ). take 32 (drop i rows)) z
          ∙ (sym (row_inside rows 32 j (omega arith)) ∙ row-tabulate 32 m (online_at c n salt witness masters) (λ i b. length-online c n (context_of salt i) witness (masters i)) j (omega arith)))))

  -- nothing is written yet
  module _ (m : ℕ) (part : List ℕ) (there : length front ≡ cover_bytes m (hides ask)) (size : 70 + length part ≡ proof_bytes c m n ask) where
    -- the bytes are those in front and of all stretches
    pub sent-size : length part ≡ length (sent m)
    sent-size = omega (arith, sent-start m there m)

    -- all of it is as it was
    pub sent-begin : part ≡ take (length part) part ++ drop (length part) (sent m)
    sent-begin =
        sym
        (ap₂ ◌++◌ (take-length part) (ap (λ (i : ℕ). drop i (sent m)) sent-size ∙ drop-length (sent m)) ∙ append-nil part)

    -- the h'_j lie inside
    pub onlines-inside : 32 * m ≤ length part
    onlines-inside = omega (arith, sent-size, sent-least m)

  -- all stretches are written
  pub sent-end : (j m end : ℕ) (old part : List ℕ) → j ≡ 0 → end ≡ length (sent j) → part ≡ take end old ++ drop end (sent m)
      → part ≡ take (length front) old ++ response_of c m n salt witness masters ask
  sent-end j m end old part z q there =
      let e : end ≡ length front = q ∙ ap (λ (i : ℕ). length (sent i)) z ∙ ap length sent-none in
      there ∙ ap (λ (i : ℕ). take i old ++ drop i (sent m)) e
      ∙ ap (λ (t : List ℕ). take (length front) old ++ t) (drop_at front (response_of c m n salt witness masters ask) (length front) refl)

-- the opened nodes come first, v bytes
pub front_length : (s : List ℕ) (M n : ℕ) (salt witness nodes table : List ℕ) (v : ℕ) (part : List ℕ)
    → Response s M n salt witness nodes table v part → length (take v part) ≡ cover_bytes M (hides (asks_in n table))
front_length s M n salt witness nodes table v part r =
    length-take-le v part (omega (arith, r.place, r.size, stretches-after (circuit_of s) n M (asks_in n table) M)) ∙ r.place

-- the party that is asked of instance j
pub party-low : (n j p : ℕ) (table : List ℕ) → Asking n table → p ≡ get_or table j n → p ≤ n
party-low n j p table asking e = rw e (asking.parties j)

-- the stretch of instance j, from its bytes
module _ (c : Circuit) (n : ℕ) (salt witness : List ℕ) (masters : ℕ → List ℕ) (table front : List ℕ) (j k p r end : ℕ) (e : k ≡ suc j) (named : p ≡ get_or table j n)
    (bytes : r ≡ stretch_bytes c n (ask_of n p)) (q : end ≡ length (sent c n salt witness masters (asks_in n table) front k)) where
  -- the bytes are those that the challenge asks for
  asked-bytes : r ≡ stretch_bytes c n (asks_in n table j)
  asked-bytes = bytes ∙ ap (λ (i : ℕ). stretch_bytes c n (ask_of n i)) named

  -- it does not start before the first byte
  pub start_fits : r ≤ end
  start_fits = omega (arith, asked-bytes, sent-next c n salt witness masters (asks_in n table) front j k e)

  -- it starts where the stretches before it end
  pub start_is : end - r ≡ length (sent c n salt witness masters (asks_in n table) front j)
  start_is = omega (arith, asked-bytes, sent-next c n salt witness masters (asks_in n table) front j k e)

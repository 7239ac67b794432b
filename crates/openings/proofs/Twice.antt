-- Two replays with different hidden parties that give the same rows are the run in which all parties broadcast for themselves.
-- Assumes nothing.
use mathlib.Core.Path.{◌≡◌, refl, sym, ap, ◌∙◌}
use mathlib.Core.Bool.{Bool, not, ◌&&◌}
use mathlib.Core.List.{List, [], ◌∷◌}
use mathlib.Core.Logic.{◌≢◌}
use Prim.Native.Nat.{ℕ, suc, ◌<◌}
use lib.ListN.{length}
use Rattle.bits.specs.Bits.{oct, pack}
use Rattle.bits.specs.Bytes.{row_of}
use Rattle.bits.specs.Xor.{◌⊕◌, xors}
use Rattle.bits.proofs.Packing.{length-pack}
use Rattle.bits.proofs.Rows.{row-tabulate}
use Rattle.circuit.specs.Circuit.{Gate, xor, and, inv, put}
use Rattle.circuit.proofs.Chain.{put_other}
use Rattle.plain.specs.Run.{Column, next, plus, broadcast, Channel, as_sent, as_shown, Transcript, outputs, run}
use Rattle.plain.specs.Showing.{row_bits, rows_of}
use Rattle.hiding.proofs.Columns.{Others, all-agree}
use Rattle.hiding.proofs.Fixed.{head-eq, tail-eq}
use Rattle.hiding.proofs.Replay.{others_put, others-broadcast}
use Rattle.hiding.proofs.Shown.{pack-injective}

-- what the parties hold in the middle of a run: output masks and product shares of the AND gates to come, shares of the wires' masks
pub record Held : Type 0 where
  pub masks : ℕ → Column
  pub products : ℕ → Column
  pub shares : ℕ → Column

-- a wire's shares are written; an AND gate takes the first of its masks and product shares
written : ℕ → Column → Held → Held
written c v x = record { masks = x.masks; products = x.products; shares = put x.shares c v }

taken : ℕ → Held → Held
taken c x = record { masks = next x.masks; products = next x.products; shares = put x.shares c (x.masks 0) }

-- the run on what they hold
abbrev pub run_held : ℕ → List ℕ → List Gate → Channel → (ℕ → Bool) → Held → Transcript
run_held n outs gs h m x = run n outs gs x.masks x.products h x.shares m

-- what the parties broadcast at an AND gate
broadcast_at : ℕ → ℕ → (ℕ → Bool) → Held → Column
broadcast_at a b m x = broadcast (m a) (m b) (x.shares a) (x.shares b) (x.products 0) (x.masks 0)

-- the parties but p hold the same
pub record OthersHold (p : ℕ) (x y : Held) : Type 0 where
  pub masks : (k : ℕ) → Others p (x.masks k) (y.masks k)
  pub products : (k : ℕ) → Others p (x.products k) (y.products k)
  pub shares : (k : ℕ) → Others p (x.shares k) (y.shares k)

-- they go on holding the same
module _ (p : ℕ) (x y : Held) (h : OthersHold p x y) where
  others-written : (c : ℕ) (v u : Column) → Others p v u → OthersHold p (written c v x) (written c u y)
  unfolding written
  others-written c v u e = record {
    masks = h.masks;
    products = h.products;
    shares = others_put p x.shares y.shares c v u h.shares e;
  }

  others-taken : (c : ℕ) → OthersHold p (taken c x) (taken c y)
  unfolding taken
  others-taken c = record {
    masks = λ k. h.masks (suc k);
    products = λ k. h.products (suc k);
    shares = others_put p x.shares y.shares c (x.masks 0) (y.masks 0) h.shares (h.masks 0);
  }

  -- and broadcast the same
  others-at : (a b : ℕ) (m : ℕ → Bool) → Others p (broadcast_at a b m x) (broadcast_at a b m y)
  unfolding broadcast_at
  others-at a b m = others-broadcast p (m a) (m b) _ _ _ _ _ _ _ _ (h.shares a) (h.shares b) (h.products 0) (h.masks 0)

-- a column that all but p have right, with a bit of p put in, is right if that bit is the one that p has where q is hidden
agreed : (p q : ℕ) → p ≢ q → (x u v : Column) (r t : Bool) → Others p u x → Others q v x → put u p r p ≡ put v q t p → put u p r ≡ x
agreed p q d x u v r t hu hv e =
    all-agree p (put u p r) x (λ i k. put_other u p r i k ∙ hu i k) (e ∙ put_other v q t p d ∙ hv p d)

-- p and q of n parties
module _ (n p q : ℕ) (lp : p < n) (lq : q < n) (d : p ≢ q) where
  -- the outputs
  outputs-twice : (ws : List ℕ) (x u v : Held) (m r t : ℕ → Bool) → OthersHold p u x → OthersHold q v x
      → ((i : ℕ) → i < n → row_bits (outputs n ws (as_shown p r) u.shares m) i ≡ row_bits (outputs n ws (as_shown q t) v.shares m) i)
      → outputs n ws (as_shown p r) u.shares m ≡ outputs n ws as_sent x.shares m
  unfolding outputs row_bits
  outputs-twice [] x u v m r t hu hv e = refl
  outputs-twice (w ∷ ws) x u v m r t hu hv e =
      let y : put (u.shares w) p (r 0) ≡ x.shares w =
      agreed p q d (x.shares w) (u.shares w) (v.shares w) (r 0) (t 0) (hu.shares w) (hv.shares w) (head-eq (e p lp)) in
      let rest : outputs n ws (as_shown p (next r)) u.shares m ≡ outputs n ws as_sent x.shares m =
      outputs-twice ws x u v m (next r) (next t) hu hv (λ i l. tail-eq (e i l)) in
      λ j. record { broadcasts = y j ∷ (rest j).broadcasts; output = (m w ⊕ xors n (y j)) ∷ (rest j).output }

  -- the run
  pub run-twice : (outs : List ℕ) (gs : List Gate) (x u v : Held) (m r t : ℕ → Bool) → OthersHold p u x → OthersHold q v x
      → ((i : ℕ) → i < n → row_bits (run_held n outs gs (as_shown p r) m u) i ≡ row_bits (run_held n outs gs (as_shown q t) m v) i)
      → run_held n outs gs (as_shown p r) m u ≡ run_held n outs gs as_sent m x
  unfolding run row_bits written taken broadcast_at
  run-twice outs [] x u v m r t hu hv e = outputs-twice outs x u v m r t hu hv e
  run-twice outs (xor a b c ∷ gs) x u v m r t hu hv e =
      run-twice outs gs _ _ _ (put m c (m a ⊕ m b)) r t
      (others-written p u x hu c (plus (u.shares a) (u.shares b)) (plus (x.shares a) (x.shares b)) (λ i k. rw (hu.shares a i k, hu.shares b i k)))
      (others-written q v x hv c (plus (v.shares a) (v.shares b)) (plus (x.shares a) (x.shares b)) (λ i k. rw (hv.shares a i k, hv.shares b i k))) e
  run-twice outs (and a b c ∷ gs) x u v m r t hu hv e =
      let y : Column = broadcast_at a b m x in
      let hy : Others p (broadcast_at a b m u) y = others-at p u x hu a b m in
      let hz : Others q (broadcast_at a b m v) y = others-at q v x hv a b m in
      let yu : put (broadcast_at a b m u) p (r 0) ≡ y = agreed p q d y (broadcast_at a b m u) (broadcast_at a b m v) (r 0) (t 0) hy hz (head-eq (e p lp)) in
      let yv : put (broadcast_at a b m v) q (t 0) ≡ y =
      agreed q p (λ k. d (sym k)) y (broadcast_at a b m v) (broadcast_at a b m u) (t 0) (r 0) hz hy (sym (head-eq (e q lq))) in
      let rest : restu y ≡ run_held n outs gs as_sent (masked y) (taken c x) =
      run-twice outs gs (taken c x) (taken c u) (taken c v) (masked y) (next r) (next t) (others-taken p u x hu c) (others-taken q v x hv c)
      (λ i l. ap (λ (z : Column). row_bits (restu z) i) (sym yu) ∙ tail-eq (e i l) ∙ ap (λ (z : Column). row_bits (restv z) i) yv) in
      (λ j. record { broadcasts = yu j ∷ (restu (yu j)).broadcasts; output = (restu (yu j)).output }) ∙ (λ j. record { broadcasts = y ∷ (rest j).broadcasts; output = (rest j).output })
    where
      masked : Column → ℕ → Bool
      masked y = put m c ((m a && m b) ⊕ xors n y)

      restu : Column → Transcript
      restu y = run_held n outs gs (as_shown p (next r)) (masked y) (taken c u)

      restv : Column → Transcript
      restv y = run_held n outs gs (as_shown q (next t)) (masked y) (taken c v)
  run-twice outs (inv a c ∷ gs) x u v m r t hu hv e =
      run-twice outs gs _ _ _ (put m c (not (m a))) r t (others-written p u x hu c (u.shares a) (x.shares a) (hu.shares a))
      (others-written q v x hv c (v.shares a) (x.shares a) (hv.shares a)) e

-- rows of k bits that are the same bytes are the same bits
pub rows-bits : (n k : ℕ) (r r' : Transcript) → ((i : ℕ) → length (row_bits r i) ≡ k) → ((i : ℕ) → length (row_bits r' i) ≡ k)
    → rows_of n r ≡ rows_of n r' → (i : ℕ) → i < n → row_bits r i ≡ row_bits r' i
unfolding rows_of
rows-bits n k r r' h h' e i l =
    pack-injective (row_bits r i) (row_bits r' i) (h i ∙ sym (h' i)) (sym (row r h) ∙ ap (λ (s : List ℕ). row_of s (oct k) i) e ∙ row r' h')
  where
    row : (r : Transcript) → ((i : ℕ) → length (row_bits r i) ≡ k) → row_of (rows_of n r) (oct k) i ≡ pack (row_bits r i)
    row r h = row-tabulate (oct k) n (λ j. pack (row_bits r j)) (λ j m. length-pack (row_bits r j) ∙ ap oct (h j)) i l

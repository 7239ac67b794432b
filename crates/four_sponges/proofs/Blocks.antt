-- The rows while blocks are given out: what stands in them already, and the states from which the next block comes.
-- Assumes nothing.
use mathlib.Core.Path.{◌≡◌, refl, sym, ap, ap₂, ◌∙◌}
use mathlib.Core.List.{List, [], ◌++◌, append-nil}
use Prim.Native.Nat.{ℕ, ◌+◌, ◌-◌, ◌*◌, ◌/◌, ◌%◌, ◌≤◌, ◌<◌, min}
use native.Mathlib.Omega.{arith}
use lib.ListN.{length, get_or, drop, length-append, length-drop, drop_of_length-le}
use lib.Seq.{sets}
use lib.Pow.{pow_pos}
use mathlib.Core.Logic.{⊎_elim}
use Rattle.bits.proofs.Numbers.{lt-or-le}
use Rattle.bits.proofs.Tabulate.{get_d_tabulate, get_or-tabulate-end}
use Rattle.keccak.proofs.Absorbing.{permuted-state}
use Rattle.keccak.specs.declared.sponge.Sponge.{Sponge}
use Rattle.keccak.specs.Steps.{permuted, squeezes, squeezed}
use Rattle.keccak.proofs.Blocks.{next-bytes, next-block}
use Rattle.keccak.proofs.Steps.{squeezed-add, squeezes-add, squeezes-length}
use Rattle.four.specs.Steps.{Lanes64, state_of, each}
use Rattle.four.proofs.States.{each-state, each-length}
use Rattle.four_sponges.specs.Steps.{full, opened, stored, four_rows}
use Rattle.four_sponges.proofs.Rows.{four-eq, stored-four, row_more, row_in, row-size, rows_whole}

-- `done` bytes of each row are given, and s are the states after them
pub record Halfway (rate len : ℕ) (s₀ rows₀ : List ℕ) (s rows : List ℕ) (done : ℕ) : Type 0 where
  pub within : done ≤ len
  pub long : length s ≡ 100
  pub small : Lanes64 s
  pub size : length rows ≡ 4 * len
  pub given : rows ≡ four_rows (λ k. squeezes rate done (full rate (state_of k s₀)) ++ drop done (row_in len rows₀ k))
  pub next : done < len → (k : ℕ) → k < 4 → squeezed rate done (full rate (state_of k s₀)) ≡ full rate (state_of k s)

four-cong : (f g : ℕ → List ℕ) → ((k : ℕ) → k < 4 → f k ≡ g k) → four_rows f ≡ four_rows g
four-cong f g h = four-eq f g (h 0 (omega arith)) (h 1 (omega arith)) (h 2 (omega arith)) (h 3 (omega arith))

-- the permuted states are lanes of 64 bits
each-small : (s : List ℕ) → Lanes64 (each permuted s)
unfolding each
each-small s j =
    let g : ℕ → ℕ = λ i. get_or (permuted (state_of (i % 4) s)) (i / 4) 0 in
    ⊎_elim
    (λ l. rw (get_d_tabulate 100 g j 0 l) ((permuted-state (state_of (j % 4) s)).small (j / 4)))
    (λ l. rw (get_or-tabulate-end 100 g j 0 l) (pow_pos 64))
    (lt-or-le j 100)

module _ (rate len : ℕ) (some : 0 < rate) (s₀ rows₀ : List ℕ) where
  -- no byte is given yet
  pub halfway-start : length s₀ ≡ 100 → Lanes64 s₀ → length rows₀ ≡ 4 * len → Halfway rate len s₀ rows₀ s₀ rows₀ 0
  unfolding squeezes squeezed
  halfway-start l sm e =
      record {
        within = omega arith;
        long = l;
        small = sm;
        size = e;
        given = sym (rows_whole len rows₀ e);
        next = λ h k q. refl;
      }

  -- one block more
  pub halfway-more : (s rows : List ℕ) (done m : ℕ) (s' rows' : List ℕ) → Halfway rate len s₀ rows₀ s rows done → done < len → length rows₀ ≡ 4 * len
      → m ≡ min rate (len - done) → s' ≡ each permuted s → rows' ≡ stored (λ k. squeezes rate m (opened (state_of k s'))) done len 4 rows
      → length rows' ≡ length rows → Halfway rate len s₀ rows₀ s' rows' (done + m)
  halfway-more s rows done m s' rows' h lt e₀ em es er el =
      let S : ℕ → Sponge = λ k. full rate (state_of k s₀) in
      let g : ℕ → List ℕ = λ k. squeezes rate done (S k) ++ drop done (row_in len rows₀ k) in
      let f : ℕ → List ℕ = λ k. squeezes rate m (opened (state_of k s')) in
      let few : done + m ≤ len = omega arith in
      let state : (k : ℕ) → k < 4 → state_of k s' ≡ permuted (state_of k s) = λ k q.
      ap (state_of k) es ∙ each-state permuted s k q (permuted-state (state_of k s)).long in
      let bytes : (k : ℕ) → k < 4 → f k ≡ squeezes rate m (squeezed rate done (S k)) = λ k q.
      ap (λ (l : List ℕ). squeezes rate m (opened l)) (state k q) ∙ sym (next-bytes rate some m (state_of k s)) ∙ ap (squeezes rate m) (sym (h.next lt k q)) in
      record {
        within = few;
        long = ap length es ∙ each-length permuted s;
        small = rw es (each-small s);
        size = el ∙ h.size;
        given =
            er ∙ ap (stored f done len 4) h.given
            ∙ stored-four len done g f
            (λ k q.
            length-append (squeezes rate done (S k)) (drop done (row_in len rows₀ k))
            ∙ omega (arith, squeezes-length rate done (S k), length-drop done (row_in len rows₀ k), row-size len rows₀ k q e₀))
            (λ k. omega (arith, squeezes-length rate m (opened (state_of k s'))))
            ∙ four-cong (λ k. sets (g k) done (f k)) (λ k. squeezes rate (done + m) (S k) ++ drop (done + m) (row_in len rows₀ k))
            (λ k q.
            row_more (squeezes rate done (S k)) (row_in len rows₀ k) (f k) done m (squeezes-length rate done (S k))
            (squeezes-length rate m (opened (state_of k s'))) (omega (arith, row-size len rows₀ k q e₀))
            ∙ ap (λ (t : List ℕ). t ++ drop (done + m) (row_in len rows₀ k))
            (ap (λ (t : List ℕ). squeezes rate done (S k) ++ t) (bytes k q) ∙ sym (squeezes-add rate done m (S k))));
        next = λ l k q.
            let whole : m ≡ rate = omega arith in
            squeezed-add rate done m (S k) ∙ ap₂ (squeezed rate) whole (h.next lt k q) ∙ next-block rate some (state_of k s)
            ∙ ap (full rate) (sym (state k q));
      }

  -- all bytes are given
  pub halfway-end : (s rows : List ℕ) (done : ℕ) → Halfway rate len s₀ rows₀ s rows done → len ≤ done → length rows₀ ≡ 4 * len
      → rows ≡ four_rows (λ k. squeezes rate len (full rate (state_of k s₀)))
  halfway-end s rows done h stop e₀ =
      let S : ℕ → Sponge = λ k. full rate (state_of k s₀) in
      let all : done ≡ len = omega (arith, h.within) in
      h.given
      ∙ four-cong (λ k. squeezes rate done (S k) ++ drop done (row_in len rows₀ k)) (λ k. squeezes rate len (S k))
      (λ k q.
      let none : drop done (row_in len rows₀ k) ≡ [] = drop_of_length-le (row_in len rows₀ k) {i = done} (omega (arith, row-size len rows₀ k q e₀)) in
      ap₂ (λ (n : ℕ) (t : List ℕ). squeezes rate n (S k) ++ t) all none ∙ append-nil (squeezes rate len (S k)))

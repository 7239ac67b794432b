-- Wires and links that go up, and the link that leads on.
-- Assumes nothing.
use mathlib.Core.Path.{◌≡◌}
use mathlib.Core.Logic.{⊎_elim}
use Prim.Native.Nat.{ℕ, ◌+◌, ◌≤◌, ◌<◌}
use native.Mathlib.Omega.{arith}
use borrow.Author.Tests.{lt-ltb, le-ltb, eq-eqb, ne_eqb}
use Rattle.bits.proofs.Numbers.{lt-or-le}
use Rattle.join.specs.Join.{moved_wire, moved_link, led_on}

module _ (I up : ℕ) where
  -- an input stays
  pub wire-input : (w : ℕ) → w < I → moved_wire I up w ≡ w
  unfolding moved_wire
  wire-input w h = rw (lt-ltb w I h)

  -- the wire of a slot goes up
  pub wire-slot : (w : ℕ) → I ≤ w → moved_wire I up w ≡ w + up
  unfolding moved_wire
  wire-slot w h = rw (le-ltb w I h)

  -- none goes further
  pub wire-le : (w : ℕ) → moved_wire I up w ≤ w + up
  wire-le w = ⊎_elim (λ l. omega (arith, wire-input w l)) (λ l. omega (arith, wire-slot w l)) (lt-or-le w I)

  -- different wires stay different
  pub wire-injective : (a b : ℕ) → moved_wire I up a ≡ moved_wire I up b → a ≡ b
  wire-injective a b e =
      ⊎_elim
      (λ (l : a < I). ⊎_elim (λ (m : b < I). omega (arith, wire-input a l, wire-input b m)) (λ (m : I ≤ b). omega (arith, wire-input a l, wire-slot b m)) (lt-or-le b I))
      (λ (l : I ≤ a). ⊎_elim (λ (m : b < I). omega (arith, wire-slot a l, wire-input b m)) (λ (m : I ≤ b). omega (arith, wire-slot a l, wire-slot b m)) (lt-or-le b I))
      (lt-or-le a I)

-- the end of the second's chain stays the end, and slots go up
pub link-end : (up k : ℕ) → k ≡ 0 → moved_link up k ≡ 0
unfolding moved_link
link-end up k e = rw (eq-eqb k 0 e)

pub link_up : (up k : ℕ) → 1 ≤ k → moved_link up k ≡ k + up
unfolding moved_link
link_up up k h = rw (ne_eqb k 0 (λ e. omega arith))

pub link-le : (up k : ℕ) → moved_link up k ≤ k + up
link-le up k = ⊎_elim (λ l. omega (arith, link-end up k (omega arith))) (λ l. omega (arith, link_up up k l)) (lt-or-le k 1)

-- the end of the first's chain leads on, and slots stay
pub led-end : (to k : ℕ) → k ≡ 0 → led_on to k ≡ to
unfolding led_on
led-end to k e = rw (eq-eqb k 0 e)

pub led-slot : (to k : ℕ) → 1 ≤ k → led_on to k ≡ k
unfolding led_on
led-slot to k h = rw (ne_eqb k 0 (λ e. omega arith))

pub led-le : (to k n : ℕ) → to ≤ n → k ≤ n → led_on to k ≤ n
led-le to k n h l = ⊎_elim (λ m. omega (arith, led-end to k (omega arith))) (λ m. omega (arith, led-slot to k m)) (lt-or-le k 1)

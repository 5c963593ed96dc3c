-- Tests of the numbers below n.
use Rattle.std.proofs.Common.{◌≡◌, ℕ, zero, suc, ◌<◌, Bool, true, false, refl, inl, inr, ⊎_elim, arith}
use mathlib.Core.Bool.{false≢true}
use Rattle.std.proofs.lemmas.Bool.{or_cases, or_from, or_left, or_right, and_from, and_left, and_right, cases_eq}
use Rattle.table.specs.Moves.{some_below, every_below}

pub then_some : (n : ℕ) (P : ℕ → Bool) (s : ℕ) → s < n → P s ≡ true → some_below n P ≡ true
unfolding some_below
then_some zero P s lt p = absurd (omega arith)
then_some (suc n) P s lt p = elim (cases_eq s n) [
  | inl e ↦ or_right _ (P n) (rw e at p)
  | inr ne ↦ or_left _ (P n) (then_some n P s (omega arith) p)
]

pub none_below : (n : ℕ) (P : ℕ → Bool) → ((s : ℕ) → s < n → P s ≡ false) → some_below n P ≡ false
unfolding some_below
none_below zero P h = refl
none_below (suc n) P h = or_from _ (P n) (none_below n P (λ s lt. h s (omega arith))) (h n (omega arith))

pub all_below : (n : ℕ) (P : ℕ → Bool) → ((s : ℕ) → s < n → P s ≡ true) → every_below n P ≡ true
unfolding every_below
all_below zero P h = refl
all_below (suc n) P h = and_from _ (P n) (all_below n P (λ s lt. h s (omega arith))) (h n (omega arith))

pub broken_below : (n : ℕ) (P : ℕ → Bool) (s : ℕ) → s < n → P s ≡ false → every_below n P ≡ false
unfolding every_below
broken_below zero P s lt p = absurd (omega arith)
broken_below (suc n) P s lt p = elim (cases_eq s n) [
  | inl e ↦ and_right _ (P n) (rw e at p)
  | inr ne ↦ and_left _ (P n) (broken_below n P s (omega arith) p)
]

pub found_below : (n : ℕ) (P : ℕ → Bool) → some_below n P ≡ true → (s : ℕ) × (s < n) × (P s ≡ true)
unfolding some_below
found_below zero P e = absurd (false≢true e)
found_below (suc n) P e = ⊎_elim
    (λ p. let (s, lt, q) = found_below n P p in (s, omega arith, q))
    (λ p. (n, omega arith, p))
    (or_cases (some_below n P) (P n) e)

-- Moves by a rule: how many there are, where each goes, and what they reach.
use Rattle.std.proofs.Common.{◌≡◌, ℕ, zero, suc, ◌<◌, ◌≤◌, Bool, true, false, ◌||◌, eqb, List, [], ◌∷◌, ◌++◌, map, length, get_or, sym, refl, ap, ◌∙◌, add-one, arith}
use Rattle.std.specs.List.{range_with_len}
use Rattle.std.proofs.lemmas.List.{get_or_past}
use Rattle.std.proofs.lemmas.List.FromFn.{length-map-range_with_len, get_or-map-range_with_len, map-range_with_len_more}
use Rattle.table.specs.Faithful.{listed}
use Rattle.table.specs.Moves.{some_below}
use Rattle.table.specs.Counted.{counted}

pub counted_length : (n : ℕ) (f : ℕ → ℕ) → length (counted n f) ≡ n
counted_length n f = length-map-range_with_len f 0 n

pub counted_at : (n : ℕ) (f : ℕ → ℕ) (k : ℕ) → k < n → get_or (counted n f) k 0 ≡ f k
counted_at n f k h = get_or-map-range_with_len f 0 n k k 0 h (omega arith)

pub counted_past : (n : ℕ) (f : ℕ → ℕ) (k : ℕ) → n ≤ k → get_or (counted n f) k 0 ≡ 0
counted_past n f k h = get_or_past (counted n f) k 0 (omega (arith, counted_length n f))

listed_push : (t x : ℕ) (xs : List ℕ) → listed t (xs ++ x ∷ []) ≡ (listed t xs || eqb t x)
listed_push t x [] = or_false (eqb t x)
  where
    or_false : (c : Bool) → (c || false) ≡ c
    or_false true = refl
    or_false false = refl
listed_push t x (y ∷ xs) = ap (λ b. eqb t y || b) (listed_push t x xs) ∙ or_assoc (eqb t y) (listed t xs) (eqb t x)
  where
    or_assoc : (a b c : Bool) → (a || (b || c)) ≡ ((a || b) || c)
    or_assoc true b c = refl
    or_assoc false b c = refl

-- A state is reached where some move goes to it.
pub listed_counted : (t n : ℕ) (f : ℕ → ℕ) → listed t (counted n f) ≡ some_below n (λ k. eqb t (f k))
unfolding some_below
listed_counted t zero f = refl
listed_counted t (suc n) f =
    ap (listed t) (ap (λ m. map f (range_with_len 0 m)) (sym (add-one n)) ∙ map-range_with_len_more f 0 n n (omega arith))
    ∙ listed_push t (f n) (counted n f)
    ∙ ap (λ b. b || eqb t (f n)) (listed_counted t n f)

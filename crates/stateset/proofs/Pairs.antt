-- Rows of bytes, two by two.
use Rattle.std.proofs.Common.{◌≡◌, ℕ, suc, ◌/◌, List, [], ◌∷◌, map, length, sym, ap, ◌∙◌, arith}
use Rattle.std.specs.Simd.{first_chunks}

-- A reading that goes through a row by pairs reads each pair of the row that is cut into pairs.
pub in_pairs : {B : Type 0} (f : List ℕ → B) (g : List ℕ → List B) → g [] ≡ [] → ((x : ℕ) → g (x ∷ []) ≡ []) → ((x y : ℕ) (xs : List ℕ) → g (x ∷ y ∷ xs) ≡ f (x ∷ y ∷ []) ∷ g xs)
    → (xs : List ℕ) → map f (first_chunks 2 (length xs / 2) xs) ≡ g xs
in_pairs f g none one two [] = sym none
in_pairs f g none one two (x ∷ []) = sym (one x)
in_pairs f g none one two (x ∷ y ∷ xs) =
    let e : suc (suc (length xs)) / 2 ≡ suc (length xs / 2) = omega arith in
    ap (λ k. map f (first_chunks 2 k (x ∷ y ∷ xs))) e
    ∙ ap (λ ys. f (x ∷ y ∷ []) ∷ ys) (in_pairs f g none one two xs)
    ∙ sym (two x y xs)

-- A search through the numbers below n finds one with P exactly where there is one.
use Rattle.std.proofs.Common.{◌≡◌, ℕ, zero, suc, ◌+◌, Bool, ◌||◌, [], ◌∷◌, ◌++◌, sym, refl, ap, ◌∙◌, add-one, arith}
use Rattle.std.specs.List.{range_with_len, list_any}
use Rattle.std.proofs.lemmas.List.{map-id}
use Rattle.std.proofs.lemmas.List.FromFn.{map-range_with_len_more}
use Rattle.std.proofs.lemmas.List.Recursion.{or_push}
use Rattle.table.specs.Moves.{some_below}

pub some_in_range : (P : ℕ → Bool) (n : ℕ) → list_any P (range_with_len 0 n) ≡ some_below n P
unfolding some_below
some_in_range P zero = refl
some_in_range P (suc n) =
    let more : range_with_len 0 (n + 1) ≡ range_with_len 0 n ++ n ∷ [] = simp map-id at (map-range_with_len_more (λ x. x) 0 n n (omega arith)) in
    ap (λ k. list_any P (range_with_len 0 k)) (sym (add-one n))
    ∙ ap (list_any P) more
    ∙ or_push (list_any P) P refl (λ _ _. refl) (range_with_len 0 n) n
    ∙ ap (λ b. b || P n) (some_in_range P n)

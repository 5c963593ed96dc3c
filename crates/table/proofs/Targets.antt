-- From a loop over the moves of a state, one by one, to the relation.
use Rattle.std.proofs.Common.{◌≡◌, ℕ, zero, suc, ◌<◌, Bool, true, false, not, eqb, List, [], ◌∷◌, length, get_or, sym, refl, ap, ◌∙◌, inl, inr, ⊎_elim, arith}
use mathlib.Core.Bool.{false≢true}
use Rattle.std.proofs.lemmas.Bool.{or_cases, or_from, or_left, or_right, and_from, and_left, and_right, eqb-true, eq-eqb, not_from_true, not_from_false, cases_Bool}
use Rattle.table.specs.Meaning.{Meaning}
use Rattle.table.specs.Faithful.{Faithful, listed}
use Rattle.table.specs.Moves.{some_move, every_move}
use Rattle.table.proofs.Below.{then_some, none_below, all_below, broken_below}

-- What stands in a list stands at a place of it, and the other way round.
pub place_of : (t : ℕ) (ts : List ℕ) → listed t ts ≡ true → (k : ℕ) × (k < length ts) × (get_or ts k 0 ≡ t)
place_of t [] h = absurd (false≢true h)
place_of t (x ∷ ts) h = elim (or_cases (eqb t x) _ h) [
  | inl e ↦ (0, omega arith, sym (eqb-true t x e))
  | inr r ↦ let (k, lt, e) = place_of t ts r in (suc k, omega arith, e)
]

pub listed_at : (ts : List ℕ) (k : ℕ) → k < length ts → listed (get_or ts k 0) ts ≡ true
listed_at [] k h = absurd (omega arith)
listed_at (x ∷ ts) zero h = or_left _ _ (eq-eqb x x refl)
listed_at (x ∷ ts) (suc k) h = or_right _ _ (listed_at ts k (omega arith))

module _ (M : Meaning) (targets : ℕ → List ℕ) (faithful : Faithful M targets) (s : ℕ) where
  target_moves : (k : ℕ) → k < length (targets s) → M.moves s (get_or (targets s) k 0) ≡ true
  target_moves k h = sym (faithful.exact s (get_or (targets s) k 0)) ∙ listed_at (targets s) k h

  -- The target of a move is a state.
  pub target_inside : (k : ℕ) → k < length (targets s) → get_or (targets s) k 0 < M.states
  target_inside k h = faithful.proper.inside s (get_or (targets s) k 0) (target_moves k h)

  move_place : (t : ℕ) → M.moves s t ≡ true → (k : ℕ) × (k < length (targets s)) × (get_or (targets s) k 0 ≡ t)
  move_place t h = place_of t (targets s) (faithful.exact s t ∙ h)

  -- A loop over the moves: n is what `move_count` answered, and x what `target` answered for move k.
  module _ (n : ℕ) (count : n ≡ length (targets s)) where
    pub in_row : (k x : ℕ) → k < n → x ≡ get_or (targets s) k 0 → x < 1024
    in_row k x h e = omega (arith, target_inside k (omega arith), faithful.proper.few_states)

    module _ (P : ℕ → Bool) where
      -- Some move goes into P, or none does.
      pub some_found : (k x : ℕ) → k < n → x ≡ get_or (targets s) k 0 → P x ≡ true → some_move M s P ≡ true
      unfolding some_move
      some_found k x h e p =
          let l : k < length (targets s) = omega arith in
          then_some M.states _ (get_or (targets s) k 0) (target_inside k l) (and_from _ _ (target_moves k l) (ap P (sym e) ∙ p))

      pub none_found : ((k : ℕ) → k < n → P (get_or (targets s) k 0) ≡ false) → some_move M s P ≡ false
      unfolding some_move
      none_found h = none_below M.states _ (λ t lt. ⊎_elim
          (λ m. let (k, l, e) = move_place t m in and_right (M.moves s t) (P t) (ap P (sym e) ∙ h k (omega arith)))
          (λ m. and_left (M.moves s t) (P t) m)
          (cases_Bool (M.moves s t)))

      -- Some move does not go into P, or every move does.
      pub every_broken : (k x : ℕ) → k < n → x ≡ get_or (targets s) k 0 → P x ≡ false → every_move M s P ≡ false
      unfolding every_move
      every_broken k x h e p =
          let l : k < length (targets s) = omega arith in
          broken_below M.states _ (get_or (targets s) k 0) (target_inside k l) (or_from _ _ (not_from_true _ (target_moves k l)) (ap P (sym e) ∙ p))

      pub every_kept : ((k : ℕ) → k < n → P (get_or (targets s) k 0) ≡ true) → every_move M s P ≡ true
      unfolding every_move
      every_kept h = all_below M.states _ (λ t lt. ⊎_elim
          (λ m. let (k, l, e) = move_place t m in or_right (not (M.moves s t)) (P t) (ap P (sym e) ∙ h k (omega arith)))
          (λ m. or_left (not (M.moves s t)) (P t) (not_from_false _ m))
          (cases_Bool (M.moves s t)))

-- Moves told one by one.
use Rattle.std.specs.Prelude.{◌≡◌, ℕ, ◌*◌, ◌^◌, ◌≤◌, Bool, false, ◌||◌, List, [], ◌∷◌, length, ◌==◌}
use Rattle.table.specs.Meaning.{Meaning, Proper}

-- t stands in the list.
abbrev pub listed : ℕ → List ℕ → Bool
listed t [] = false
listed t (x ∷ xs) = t == x || listed t xs

-- The targets of each state, repeats allowed, are exactly the states that it moves to; what is no state has none. With b
-- fairness sets no state has more than states × 16 ^ b moves.
pub record Faithful (M : Meaning) (targets : ℕ → List ℕ) : Type 0 where
  pub proper : Proper M
  pub exact : (s t : ℕ) → listed t (targets s) ≡ M.moves s t
  pub few : (s : ℕ) → length (targets s) ≤ M.states * 16 ^ M.fairs

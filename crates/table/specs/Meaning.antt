-- What a transition table says.
use Rattle.std.specs.Prelude.{◌≡◌, ℕ, ◌<◌, ◌≤◌, Bool, true}

-- Five things: a count of states, numbered from 0; a set of start states; sets called atoms; sets called fairness sets;
-- and the relation "s moves to t". A set is told by its test, which answers false for whatever is not there.
pub record Meaning : Type 0 where
  pub states : ℕ
  pub starts : ℕ → Bool
  pub atoms : ℕ
  pub atom : ℕ → ℕ → Bool
  pub fairs : ℕ
  pub fair : ℕ → ℕ → Bool
  pub moves : ℕ → ℕ → Bool

-- A proper meaning: 1 to 1,024 states, at most 16 atoms, 1 to 4 fairness sets, a start state, and a move from every
-- state; sets and moves stay among the states.
pub record Proper (M : Meaning) : Type 0 where
  pub some_state : 1 ≤ M.states
  pub few_states : M.states ≤ 1024
  pub few_atoms : M.atoms ≤ 16
  pub some_fair : 1 ≤ M.fairs
  pub few_fairs : M.fairs ≤ 4
  pub some_start : (s : ℕ) × (M.starts s ≡ true)
  pub onward : (s : ℕ) → s < M.states → (t : ℕ) × (M.moves s t ≡ true)
  pub inside : (s t : ℕ) → M.moves s t ≡ true → t < M.states
  pub from_inside : (s t : ℕ) → M.moves s t ≡ true → s < M.states
  pub start_inside : (s : ℕ) → M.starts s ≡ true → s < M.states
  pub atom_inside : (j s : ℕ) → M.atom j s ≡ true → (j < M.atoms) × (s < M.states)
  pub fair_inside : (i s : ℕ) → M.fair i s ≡ true → (i < M.fairs) × (s < M.states)

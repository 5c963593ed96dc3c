-- When two tables mean the same.
use Rattle.std.specs.Prelude.{◌≡◌, ℕ, ◌<◌}
use Rattle.table.specs.Meaning.{Meaning}

-- The five things agree, number by number.
pub record SameMeaning (M N : Meaning) : Type 0 where
  pub states : M.states ≡ N.states
  pub starts : (s : ℕ) → s < M.states → M.starts s ≡ N.starts s
  pub atoms : M.atoms ≡ N.atoms
  pub atom : (j s : ℕ) → j < M.atoms → s < M.states → M.atom j s ≡ N.atom j s
  pub fairs : M.fairs ≡ N.fairs
  pub fair : (i s : ℕ) → i < M.fairs → s < M.states → M.fair i s ≡ N.fair i s
  pub moves : (s t : ℕ) → s < M.states → t < M.states → M.moves s t ≡ N.moves s t

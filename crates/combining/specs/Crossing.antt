-- The moves of two tables together, one by one.
use Rattle.std.specs.Prelude.{◌≡◌, ℕ, ◌+◌, ◌*◌, ◌/◌, ◌%◌, ◌<◌, ◌≤◌, List, length, slice_index}
use Rattle.combining.specs.Pair.{crossed}

-- From state s both have r moves: as many as pairs of a move of the one and a move of the other. Move k leads where its two
-- moves lead.
pub record Crossing (n : ℕ) (f g : ℕ → List ℕ) (s r : ℕ) : Type 0 where
  pub product : r ≡ length (f (s / n)) * length (g (s % n))
  pub count : r ≡ length (crossed n (f (s / n)) (g (s % n)))
  pub target : (k : ℕ) → k < r → slice_index (crossed n (f (s / n)) (g (s % n))) k ≡ slice_index (f (s / n)) (k / length (g (s % n))) * n + slice_index (g (s % n)) (k % length (g (s % n)))
  pub past : (k : ℕ) → r ≤ k → slice_index (crossed n (f (s / n)) (g (s % n))) k ≡ 0

-- Moves by a rule.
use Rattle.std.specs.Prelude.{ℕ, List, map}
use Rattle.std.specs.List.{range_with_len}

-- The targets of n moves, move k going to f k.
abbrev pub counted : ℕ → (ℕ → ℕ) → List ℕ
counted n f = map f (range_with_len 0 n)

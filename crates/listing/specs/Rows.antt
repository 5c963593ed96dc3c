-- Rows of targets as cumulative counts and one list.
use Rattle.std.specs.Prelude.{ℕ, ◌+◌, ◌-◌, ◌<◌, List, [], ◌∷◌, ◌++◌, length, take, drop}

-- For each row the count of targets up to and with it, `last` before the first; and all targets, row by row.
abbrev pub counts : ℕ → List (List ℕ) → List ℕ
counts last [] = []
counts last (row ∷ rows) = (last + length row) ∷ counts (last + length row) rows

abbrev pub all_of : List (List ℕ) → List ℕ
all_of [] = []
all_of (row ∷ rows) = row ++ all_of rows

-- The rows again: each takes what its count has more than the one before.
abbrev pub dealt : ℕ → List ℕ → List ℕ → List (List ℕ)
dealt last [] targets = []
dealt last (c ∷ cs) targets = take (c - last) targets ∷ dealt c cs (drop (c - last) targets)

-- The last count, or `last` where there is none.
abbrev pub last_of : ℕ → List ℕ → ℕ
last_of last [] = last
last_of last (c ∷ cs) = last_of c cs

-- Counts that rise strictly from above `last`.
abbrev pub Rises : ℕ → List ℕ → Type 0
Rises last [] = Unit {0}
Rises last (c ∷ cs) = (last < c) × Rises c cs

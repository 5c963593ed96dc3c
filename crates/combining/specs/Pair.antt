-- Two tables side by side.
use Rattle.std.specs.Prelude.{ℕ, ◌+◌, ◌-◌, ◌*◌, ◌/◌, ◌%◌, Bool, cond, ◌&&◌, List, length, nat_le, nat_lt, slice_index}
use Rattle.table.specs.Meaning.{Meaning}
use Rattle.table.specs.Counted.{counted}
use Rattle.table.specs.OneState.{one_state, one_state_targets}

-- Together they keep the limits of a table: 1,024 states, 16 atoms, 4 fairness sets.
abbrev pub fits : Meaning → Meaning → Bool
fits A B = nat_le (A.states * B.states) 1024 && (nat_le (A.atoms + B.atoms) 16 && nat_le (A.fairs + B.fairs) 4)

-- The c sets of A, then those of B, as sets of the states of both: state s is state s / n of A, rounded down, with state
-- s mod n of B, where B has n states.
abbrev pub side_by_side : Meaning → Meaning → ℕ → (ℕ → ℕ → Bool) → (ℕ → ℕ → Bool) → ℕ → ℕ → Bool
side_by_side A B c f g j s = nat_lt s (A.states * B.states) && cond (nat_lt j c) (f j (s / B.states)) (g (j - c) (s % B.states))

-- Both start, both move.
abbrev pub both : Meaning → Meaning → Meaning
both A B = record {
  states = A.states * B.states;
  starts = λ s. A.starts (s / B.states) && B.starts (s % B.states);
  atoms = A.atoms + B.atoms;
  atom = side_by_side A B A.atoms A.atom B.atom;
  fairs = A.fairs + B.fairs;
  fair = side_by_side A B A.fairs A.fair B.fair;
  moves = λ s t. A.moves (s / B.states) (t / B.states) && B.moves (s % B.states) (t % B.states);
}

-- The pair of two tables; past the limits it is the one-state table.
abbrev pub pair : Meaning → Meaning → Meaning
pair A B = cond (fits A B) (both A B) one_state

-- Where B has m moves, move k of both is A's move k / m, rounded down, with B's move k mod m.
abbrev pub crossed : ℕ → List ℕ → List ℕ → List ℕ
crossed n xs ys = counted (length xs * length ys) (λ k. slice_index xs (k / length ys) * n + slice_index ys (k % length ys))

abbrev pub pair_targets : Meaning → Meaning → (ℕ → List ℕ) → (ℕ → List ℕ) → ℕ → List ℕ
pair_targets A B f g s = cond (fits A B) (crossed B.states (f (s / B.states)) (g (s % B.states))) (one_state_targets s)

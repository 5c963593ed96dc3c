-- The one-state table: what stands in for a table that cannot be had.
use Rattle.std.specs.Prelude.{ℕ, false, cond, ◌&&◌, List, [], ◌∷◌, ◌==◌}
use Rattle.table.specs.Meaning.{Meaning}

-- One start state that moves to itself, without atoms, its one fairness set full.
abbrev pub one_state : Meaning
one_state = record {
  states = 1;
  starts = λ s. (s == 0);
  atoms = 0;
  atom = λ j s. false;
  fairs = 1;
  fair = λ i s. (i == 0) && (s == 0);
  moves = λ s t. (s == 0) && (t == 0);
}

abbrev pub one_state_targets : ℕ → List ℕ
one_state_targets s = cond (s == 0) (0 ∷ []) []

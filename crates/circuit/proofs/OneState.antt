-- The circuit without registers is within the bounds of a table, and means the one-state table.
use Rattle.std.proofs.Common.{◌≡◌, ℕ, ◌<◌, true, sym, refl, ap, ◌∙◌, ap₂, arith}
use Rattle.table.specs.Moves.{some_below}
use Rattle.table.specs.Same.{SameMeaning}
use Rattle.table.specs.OneState.{one_state}
use Rattle.circuit.specs.Table.{meaning_of, usable, one_circuit}

-- There is only state 0, and only fairness set 0.
only : (s : ℕ) → s < 1 → 0 ≡ s
only s h = omega arith

pub one_usable : usable one_circuit ≡ true
unfolding usable some_below
one_usable = refl

pub one_same : SameMeaning (meaning_of one_circuit) one_state
unfolding some_below
one_same = record {
  states = refl;
  starts = λ s h. sym (ap (meaning_of one_circuit).starts (only s h)) ∙ ap one_state.starts (only s h);
  atoms = refl;
  atom = λ j s l h. absurd (omega arith);
  fairs = refl;
  fair = λ i s l h. sym (ap₂ (meaning_of one_circuit).fair (only i l) (only s h)) ∙ ap₂ one_state.fair (only i l) (only s h);
  moves = λ s t h l. sym (ap₂ (meaning_of one_circuit).moves (only s h) (only t l)) ∙ ap₂ one_state.moves (only s h) (only t l);
}

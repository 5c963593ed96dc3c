-- A table with its atoms numbered anew is a table.
use Rattle.std.proofs.Common.{ℕ, ◌≤◌, ltb, List, length, get_or}
use Rattle.std.proofs.lemmas.Bool.{and_parts, ltb-true}
use Rattle.table.specs.Meaning.{Meaning, Proper}
use Rattle.table.specs.Faithful.{Faithful}
use Rattle.combining.specs.Renaming.{renamed}

renamed_proper : (list : List ℕ) (M : Meaning) → length list ≤ 16 → Proper M → Proper (renamed list M)
renamed_proper list M few p = record {
  some_state = p.some_state;
  few_states = p.few_states;
  few_atoms = few;
  some_fair = p.some_fair;
  few_fairs = p.few_fairs;
  some_start = p.some_start;
  onward = p.onward;
  inside = p.inside;
  from_inside = p.from_inside;
  start_inside = p.start_inside;
  atom_inside = λ j s h.
      let parts = and_parts (ltb j (length list)) (M.atom (get_or list j 0) s) h in
      (ltb-true j (length list) parts.0, (p.atom_inside (get_or list j 0) s parts.1).1);
  fair_inside = p.fair_inside;
}

pub renamed_faithful : (list : List ℕ) (M : Meaning) (f : ℕ → List ℕ) → length list ≤ 16 → Faithful M f → Faithful (renamed list M) f
renamed_faithful list M f few h = record { proper = renamed_proper list M few h.proper; exact = h.exact; few = h.few }

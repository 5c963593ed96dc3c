-- What is done with the table of a file.
use Rattle.std.specs.Prelude.{◌≡◌, ℕ, List, Ok, Err, Result}
use Rattle.fault.specs.declared.Fault.{Fault}
use Rattle.table.specs.Meaning.{Meaning}
use Rattle.casetable.specs.Tables.{Told}

-- Where there is a table, the task was done with it, and its answer is given back; where there is a fault, that is told, and
-- the context is as it was.
abbrev pub Done : {C A : Type 0} → Result Told Fault → Result A Fault → (Meaning → (ℕ → List ℕ) → C → A → C → Type 0) → C → C → Type 0
Done (Ok t) (Ok a) done before after = done t.meaning t.targets before a after
Done (Ok t) (Err f) done before after = ⊥
Done (Err e) (Ok a) done before after = ⊥
Done (Err e) (Err f) done before after = (f ≡ e) × (after ≡ before)

-- The text that tells a case file's table.
use Rattle.std.specs.Prelude.{ℕ, List, Ok, Err, Result}
use Rattle.fault.specs.declared.Fault.{Fault}
use Rattle.fault.specs.Faults.{refusal_line}
use Rattle.tabletext.specs.Text.{table_text}
use Rattle.casetable.specs.Tables.{Told, table_in}

-- The table, or the line of the refusal.
abbrev pub told_text : Result Told Fault → List ℕ
told_text (Ok t) = table_text t.meaning t.targets
told_text (Err e) = refusal_line e

abbrev pub file_text : List ℕ → List ℕ
file_text file = told_text (table_in file)

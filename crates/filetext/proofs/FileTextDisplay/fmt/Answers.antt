use Rattle.std.proofs.Common.{ℕ, List, Ok, Err, Result, rules}
use Rattle.std.specs.declared.fmt.Formatter.{Formatter}
use Rattle.std.specs.declared.fmt.Error.{Error}
use Rattle.std.specs.Fmt.{WritesOnOk}
use Rattle.fault.specs.declared.Fault.{Fault}
use Rattle.fault.specs.Faults.{refusal_line}
use Rattle.tabletext.specs.Text.{table_text}
use Rattle.casetable.specs.Tables.{Told, table_in}
use Rattle.casetable.specs.Task.{Done}
use Rattle.filetext.specs.Text.{told_text}
use Rattle.filetext.proofs.FileTextDisplay.fmt.Goals as goal

module _ {W : Type 0} (took : W → List ℕ → W → Type 0) (f g : Formatter W) where
  -- The table was written.
  table_told : (want : Result Told Fault) (w : Result (Unit {0}) Error) → Done want (Ok w) (λ M targets x r y. WritesOnOk took x r (table_text M targets) y) f g → WritesOnOk took f w (told_text want) g
  table_told (Ok t) w done = done
  table_told (Err e) w done = absurd done

  -- Nothing was written, and then the line of the fault.
  fault_told : (want : Result Told Fault) (e : Fault) (w : Result (Unit {0}) Error) (h : Formatter W) → Done {A = Result (Unit {0}) Error} want (Err e) (λ M targets x r y. WritesOnOk took x r (table_text M targets) y) f g → WritesOnOk took g w (refusal_line e) h → WritesOnOk took f w (told_text want) h
  fault_told (Ok t) e w h done writes = absurd done
  fault_told (Err b) e w h done writes = rw done.0 at (rw done.1 at writes)

pub returns-in-Ok-clause-writes : goal.returns-in-Ok-clause-writes
returns-in-Ok-clause-writes g c = table_told g.W.Write.write_str_gives _ _ (table_in c.args.self.now.file.now) _ c.in-Ok.ensures

pub returns-in-Err-clause-writes : goal.returns-in-Err-clause-writes
returns-in-Err-clause-writes g c = fault_told g.W.Write.write_str_gives _ _ (table_in c.args.self.now.file.now) _ _ _ c.in-Err.ensures (search rules)

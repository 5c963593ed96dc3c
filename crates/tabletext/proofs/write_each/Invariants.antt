use Rattle.std.proofs.Common.{ℕ, List}
use Rattle.std.specs.Fmt.{IsPlainFormatter, HasWritten}
use Rattle.tabletext.specs.Text.{each_below}
use Rattle.tabletext.specs.Inner.{WritesEachBelow}
use Rattle.tabletext.proofs.write_each.Given as goal

-- What comes before is written.
abbrev pub invariant-loop-i : goal.invariant-loop-i
invariant-loop-i g l = (text : ℕ → List ℕ) → WritesEachBelow g.W.Write.write_str_gives (goal.F-post g l.write) l.n text → IsPlainFormatter l.initial.f → HasWritten g.W.Write.write_str_gives l.initial.f (each_below l.i text) l.f

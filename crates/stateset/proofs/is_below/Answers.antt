use Rattle.std.proofs.Common.{sym, ◌∙◌}
use Rattle.std.proofs.lemmas.Bool.{le-leb}
use Rattle.stateset.proofs.Flags.{clear_past}
use Rattle.stateset.proofs.is_below.Goals as goal

pub returns-then-n-set : goal.returns-then-n-set
returns-then-n-set c = le-leb _ _ c.if-n-set.true ∙ sym (clear_past c.args.n c.args.«set».now c.if-n-set.true)

use Rattle.std.proofs.Common.{sym, ◌∙◌, rules}
use Rattle.std.proofs.lemmas.Bool.{ne_eqb}
use Rattle.stateset.proofs.Flags.{clear_not, clear_rest}
use Rattle.stateset.proofs.is_clear_from.Goals as goal

pub returns-then-set-first-eq0 : goal.returns-then-set-first-eq0
returns-then-set-first-eq0 c = c.is_zero.ensures ∙ sym (clear_rest c.args.n c.args.«set».now c.requires (λ i. search rules) c.if-set-first-eq0.true)

pub returns-else-set-first-eq0 : goal.returns-else-set-first-eq0
returns-else-set-first-eq0 c = ne_eqb _ 0 c.if-set-first-eq0.false ∙ sym (clear_not c.args.n c.args.«set».now c.requires (search rules) c.if-set-first-eq0.false)

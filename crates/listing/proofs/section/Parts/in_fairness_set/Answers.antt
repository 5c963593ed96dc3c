use Rattle.std.proofs.Common.{rules}
use Rattle.listing.proofs.Questions.{few_sets}
use Rattle.listing.proofs.section.Parts.in_fairness_set.Goals as goal

pub overflow_add-self : goal.overflow_add-self
overflow_add-self c = let few = few_sets c.args.self.now in search rules

pub overflow_add-self-then-i-self : goal.overflow_add-self-then-i-self
overflow_add-self-then-i-self c = let few = few_sets c.args.self.now in search rules

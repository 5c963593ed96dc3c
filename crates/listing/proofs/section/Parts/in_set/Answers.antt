use Rattle.std.proofs.Common.{◌∙◌, rules}
use Rattle.std.proofs.lemmas.Bool.{le-ltb}
use Rattle.listing.proofs.Questions.{few_states, set_room, set_small, set_flag, set_past}
use Rattle.listing.proofs.section.Parts.in_set.Goals as goal

pub overflow_add-width : goal.overflow_add-width
overflow_add-width c = let few = few_states c.args.self.now in search rules

pub overflow_mul-from : goal.overflow_mul-from
overflow_mul-from c = let small = set_small c.args.self.now c.args.j c.requires in search rules

pub overflow_add-from : goal.overflow_add-from
overflow_add-from c =
    let small = set_small c.args.self.now c.args.j c.requires in
    let few = few_states c.args.self.now in
    search rules

pub slice_bounds-contains-end : goal.slice_bounds-contains-end
slice_bounds-contains-end c = set_room c.args.self.now c.args.j c.requires

pub returns-then-s-self : goal.returns-then-s-self
returns-then-s-self c = c.contains.ensures ∙ set_flag c.args.self.now c.args.j c.args.s c.requires (search rules)

pub returns-else-s-self : goal.returns-else-s-self
returns-else-s-self c = le-ltb c.args.s c.args.self.now.states (search rules) ∙ set_past c.args.self.now c.args.j c.args.s c.requires (search rules)

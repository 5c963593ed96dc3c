use Rattle.std.proofs.Common.{◌≡◌, suc, ◌-◌, ◌∷◌, get_or, sym, ap, ◌∙◌, arith, rules}
use Rattle.listing.specs.Numbers.{numbers}
use Rattle.listing.proofs.Dealing.{number_at}
use Rattle.listing.proofs.Questions.{few_states, count_room}
use Rattle.listing.proofs.section.Parts.moves_before.Goals as goal

pub offset_bounds-self-s : goal.offset_bounds-self-s
offset_bounds-self-s c = let few = few_states c.args.self.now in search rules

pub bounds-self-s : goal.bounds-self-s
bounds-self-s c = count_room c.args.self.now (c.args.s - 1) (omega arith)

pub returns : goal.returns
returns c =
    let e : suc (c.args.s - 1) ≡ c.args.s = omega arith in
    c.number.ensures.value
    ∙ sym (number_at c.args.self.now.counts.now (c.args.s - 1) (count_room c.args.self.now (c.args.s - 1) (omega arith)))
    ∙ ap (λ i. get_or (0 ∷ numbers c.args.self.now.counts.now) i 0) e

use Rattle.std.proofs.Common.{◌-◌, take, drop, ◌∙◌, ap₂, rules}
use Rattle.listing.specs.Numbers.{numbers}
use Rattle.listing.proofs.Questions.{row_room, row_is, row_none}
use Rattle.listing.proofs.section.Parts.row.Goals as goal

pub returns-then-s-self : goal.returns-then-s-self
returns-then-s-self c = row_none c.args.self.now c.args.s (search rules)

pub offset_bounds-self-moves_before : goal.offset_bounds-self-moves_before
offset_bounds-self-moves_before c = let room = row_room c.args.self.now c.args.s (search rules) in search rules

pub slice_bounds-result-count : goal.slice_bounds-result-count
slice_bounds-result-count c = let room = row_room c.args.self.now c.args.s (search rules) in search rules

pub slice_bounds-result-start : goal.slice_bounds-result-start
slice_bounds-result-start c = let room = row_room c.args.self.now c.args.s (search rules) in search rules

pub slice_bounds-result-end-2 : goal.slice_bounds-result-end-2
slice_bounds-result-end-2 c = let room = row_room c.args.self.now c.args.s (search rules) in search rules

pub returns : goal.returns
returns c =
    ap₂ (λ end from. numbers (take (end - from) (drop from c.args.self.now.targets.now))) c.moves_before-2.ensures c.moves_before.ensures
    ∙ row_is c.args.self.now c.args.s (search rules)

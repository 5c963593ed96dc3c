use Rattle.std.proofs.Common.{rules, tests, ◌∙◌}
use Rattle.std.proofs.lemmas.Iterator.{YieldsList-from_range}
use Rattle.std.proofs.lemmas.Iterator.Search.{any_from_yields_List}
use Rattle.circuit.specs.Table.{size, holds}
use Rattle.register.specs.Parts.{circuit_in}
use Rattle.table.proofs.Range.{some_in_range}
use Rattle.register.proofs.parts.Parts.has_start.Goals as goal

pub returns : goal.returns
returns c =
    let p = c.args.self.now in
    any_from_yields_List (holds (circuit_in p) p.start) _ _ _ c.any.ensures.ran (YieldsList-from_range 0 (size (circuit_in p)) (size (circuit_in p)) (search rules) (search rules)) (λ x b q k. search (rules, tests))
    ∙ some_in_range (holds (circuit_in p) p.start) (size (circuit_in p))

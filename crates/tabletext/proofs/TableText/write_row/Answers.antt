use Rattle.std.proofs.Common.{rules, arith, slice_index}
use Rattle.std.proofs.lemmas.Grind.{common_steps}
use Rattle.tabletext.specs.Text.{spaced}
use Rattle.tabletext.proofs.TableText.write_row.Goals as goal

pub returns : goal.returns
returns g c =
    let table = c.args.self.now.table.now in
    let targets = c.write_each.ensures (λ k. spaced (slice_index (g.T.Table.targets table c.args.s) k)) (search rules) in
    grind (arith, common_steps)

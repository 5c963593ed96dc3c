use Rattle.std.proofs.Common.{rules, arith}
use Rattle.std.proofs.lemmas.Grind.{common_steps}
use Rattle.tabletext.specs.Text.{member_text}
use Rattle.tabletext.proofs.TableText.write_set.Goals as goal

pub returns : goal.returns
returns g c =
    let M = g.T.Table.meaning c.args.self.now.table.now in
    let members = c.write_each.ensures (member_text M c.args.«set») (search rules) in
    grind (arith, common_steps)

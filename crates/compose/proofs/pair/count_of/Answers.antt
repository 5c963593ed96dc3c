use Rattle.std.proofs.Common.{rules}
use Rattle.combining.proofs.Pairs.{few_moves}
use Rattle.compose.proofs.pair.count_of.Goals as goal

pub returns : goal.returns
returns g c = let few = few_moves (g.T.Table.meaning c.args.table.now) (g.T.Table.targets c.args.table.now) (g.T.Table.faithful c.args.table.now) c.args.s in search rules

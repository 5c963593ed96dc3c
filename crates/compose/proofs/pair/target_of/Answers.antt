use Rattle.std.proofs.Common.{rules}
use Rattle.combining.proofs.Pairs.{small_target}
use Rattle.compose.proofs.pair.target_of.Goals as goal

pub returns : goal.returns
returns g c = let small = small_target (g.T.Table.meaning c.args.table.now) (g.T.Table.targets c.args.table.now) (g.T.Table.faithful c.args.table.now) c.args.s c.args.k in search rules

use Rattle.register.specs.Inner.{counts_in}
use Rattle.register.proofs.Cutting.{circuit_cut}
use Rattle.register.proofs.read.cut.Goals as goal

pub returns : goal.returns
returns c = let is = circuit_cut (counts_in c.args.n) c.args.rest.now in cc

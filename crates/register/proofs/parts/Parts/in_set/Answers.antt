use Rattle.std.proofs.Common.{sym, rules}
use Rattle.circuit.proofs.Questions.{holds_nowhere}
use Rattle.register.specs.Parts.{circuit_in}
use Rattle.register.proofs.parts.Parts.in_set.Goals as goal

pub returns-in-None : goal.returns-in-None
returns-in-None c = sym (holds_nowhere (circuit_in c.args.self.now) c.args.names.now c.args.j c.args.s (search rules))

use Rattle.std.proofs.Common.{refl}
use Rattle.listing.specs.Read.{passes}
use Rattle.listed.proofs.one_state.Goals as goal

pub invariant_of-result : goal.invariant_of-result
unfolding passes
invariant_of-result c = record { passed = refl; counted = refl; targeted = refl }

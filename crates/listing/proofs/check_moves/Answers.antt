use Rattle.std.proofs.Common.{sym, ap, ◌∙◌}
use Rattle.fault.specs.Checks.{passed}
use Rattle.listing.specs.Numbers.{numbers}
use Rattle.listing.proofs.Dealing.{counts_rise}
use Rattle.listing.proofs.check_moves.Goals as goal

pub check_rows-requires-clause-rise : goal.check_rows-requires-clause-rise
check_rows-requires-clause-rise c = counts_rise 0 c.args.from (numbers c.args.counts.now) (sym c.check_counts.ensures.value ∙ ap passed c.in_ok-last.was)

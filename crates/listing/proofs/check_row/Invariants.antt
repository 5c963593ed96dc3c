use Rattle.std.proofs.Common.{◌≡◌, ◌+◌, ◌*◌, drop}
use Rattle.listing.specs.Numbers.{numbers}
use Rattle.listing.specs.Check.{row_check}
use Rattle.listing.proofs.check_row.Given as goal

-- The targets that are left decide it.
abbrev pub invariant-loop-k : goal.invariant-loop-k
invariant-loop-k l = row_check l.n 0 l.from (numbers l.row) ≡ row_check l.n l.lowest (l.from + 2 * l.k) (numbers (drop l.k l.row))

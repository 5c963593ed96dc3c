use Rattle.std.proofs.Common.{◌≡◌, ◌+◌, ◌*◌, length, drop}
use Rattle.listing.specs.Numbers.{numbers}
use Rattle.listing.specs.Rows.{dealt, last_of, Rises}
use Rattle.listing.specs.Check.{rows_check}
use Rattle.listing.proofs.check_rows.Given as goal

-- The rows that are left decide it, and their counts rise to the last of the targets.
abbrev pub invariant-loop-end : goal.invariant-loop-end
invariant-loop-end l =
    (rows_check l.n l.from (dealt 0 (numbers l.counts) (numbers l.targets)) ≡ rows_check l.n (l.from + 2 * l.first) (dealt l.first (numbers (drop l.end-index l.counts)) (drop l.first (numbers l.targets))))
    × Rises l.first (numbers (drop l.end-index l.counts))
    × (last_of l.first (numbers (drop l.end-index l.counts)) ≡ length l.targets)

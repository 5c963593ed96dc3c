use Rattle.std.proofs.Common.{◌≡◌, ◌+◌, ◌*◌, ◌≤◌, drop}
use Rattle.listing.specs.Numbers.{numbers}
use Rattle.listing.specs.Rows.{last_of}
use Rattle.listing.specs.Check.{counts_check}
use Rattle.listing.proofs.check_counts.Given as goal

-- The counts that are left decide it.
abbrev pub invariant-loop-s : goal.invariant-loop-s
invariant-loop-s l =
    (counts_check 0 l.from (numbers l.counts) ≡ counts_check l.last (l.from + 2 * l.s) (numbers (drop l.s l.counts)))
    × (last_of 0 (numbers l.counts) ≡ last_of l.last (numbers (drop l.s l.counts)))
    × (l.last ≤ 16384)

use Rattle.std.proofs.Common.{◌≡◌, ◌+◌, ◌*◌, ◌/◌, ◌≤◌, length}
use Rattle.listing.specs.Check.{sets_check}
use Rattle.listing.proofs.check_sets.Given as goal

-- The sets that are left decide it.
abbrev pub invariant-loop-j : goal.invariant-loop-j
invariant-loop-j l =
    (sets_check l.n l.k (length l.sets / l.k) 4 l.sets ≡ sets_check l.n l.k (length l.j-iterator.iter.rest.now / l.k) (4 + l.j-iterator.count * l.k) l.j-iterator.iter.rest.now)
    × (l.j-iterator.count * l.k + length l.j-iterator.iter.rest.now ≤ length l.sets)
    × (l.j-iterator.iter.size ≡ l.k)

use Rattle.std.proofs.Common.{◌≡◌, ℕ, ◌<◌, false, get_or}
use Rattle.table.proofs.moves.has_move_into.Given as goal

-- No move so far goes into the set.
abbrev pub invariant-loop-k : goal.invariant-loop-k
invariant-loop-k g l = (j : ℕ) → j < l.k → get_or l.«set» (get_or (g.T.Table.targets l.table l.s) j 0) false ≡ false

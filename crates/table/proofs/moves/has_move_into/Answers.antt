use Rattle.std.proofs.Common.{sym, arith}
use Rattle.table.proofs.Targets.{in_row, some_found, none_found}
use Rattle.table.proofs.moves.has_move_into.Goals as goal

pub bounds-set-target : goal.bounds-set-target
bounds-set-target g c = in_row _ _ (g.T.Table.faithful c.args.table.now) _ _ c.move_count-k-end.ensures _ _ c.loop-k-test.true c.target.ensures

pub returns-then-set-target : goal.returns-then-set-target
returns-then-set-target g c = sym (some_found _ _ (g.T.Table.faithful c.args.table.now) _ _ c.move_count-k-end.ensures _ _ _ c.loop-k-test.true c.target.ensures c.if-set-target.true)

pub returns : goal.returns
returns g c = sym (none_found _ _ (g.T.Table.faithful c.args.table.now) _ _ c.move_count-k-end.ensures _ (λ j h. c.loop-k.invariant j (omega arith)))

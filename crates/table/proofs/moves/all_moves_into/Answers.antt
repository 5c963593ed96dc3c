use Rattle.std.proofs.Common.{sym, arith}
use Rattle.table.proofs.Targets.{in_row, every_broken, every_kept}
use Rattle.table.proofs.moves.all_moves_into.Goals as goal

pub bounds-set-target : goal.bounds-set-target
bounds-set-target g c = in_row _ _ (g.T.Table.faithful c.args.table.now) _ _ c.move_count-moves.ensures _ _ c.loop-k-test.true c.target.ensures

pub returns-then-not-set-target : goal.returns-then-not-set-target
returns-then-not-set-target g c = sym (every_broken _ _ (g.T.Table.faithful c.args.table.now) _ _ c.move_count-moves.ensures _ _ _ c.loop-k-test.true c.target.ensures c.if-not-set-target.true)

pub returns : goal.returns
returns g c = sym (every_kept _ _ (g.T.Table.faithful c.args.table.now) _ _ c.move_count-moves.ensures _ (λ j h. c.loop-k.invariant j (omega arith)))

use Rattle.std.proofs.Common.{◌≡◌, Err, sym, ◌∙◌, arith, rules}
use Rattle.listing.proofs.Turns.{rise_on, last_on, rows_on, rows_stop}
use Rattle.listing.proofs.check_rows.Goals as goal

pub slice_bounds-check_row-end : goal.slice_bounds-check_row-end
slice_bounds-check_row-end c =
    let rise = rise_on c.args.counts.now c.loop-end.end-index c.loop-end-test.true c.number-end.result (search rules) c.loop-end.first c.loop-end.invariant.1 in
    search rules

pub returns-in_err-check_row : goal.returns-in_err-check_row
returns-in_err-check_row c =
    let v = c.number-end.result in
    let rise = rise_on c.args.counts.now c.loop-end.end-index c.loop-end-test.true v (search rules) c.loop-end.first c.loop-end.invariant.1 in
    let e : c.from_residual.result ≡ Err c.in_err-check_row.field-0.0 = search rules in
    e ∙ sym (c.loop-end.invariant.0 ∙ rows_stop c.args.counts.now c.loop-end.end-index c.loop-end-test.true v (search rules) c.loop-end.first c.args.n c.args.from c.args.targets.now rise.0 (omega (arith, rise.2, c.loop-end.invariant.2)) c.in_err-check_row.field-0.0 (sym c.check_row.ensures ∙ c.in_err-check_row.was))

pub loop-end-preserved : goal.loop-end-preserved
loop-end-preserved c =
    let v = c.number-end.result in
    let rise = rise_on c.args.counts.now c.loop-end.end-index c.loop-end-test.true v (search rules) c.loop-end.first c.loop-end.invariant.1 in (
      c.loop-end.invariant.0 ∙ rows_on c.args.counts.now c.loop-end.end-index c.loop-end-test.true v (search rules) c.loop-end.first c.args.n c.args.from c.args.targets.now rise.0 (omega (arith, rise.2, c.loop-end.invariant.2)) (sym c.check_row.ensures ∙ c.in_ok-check_row.was),
      rise.1,
      sym (last_on c.args.counts.now c.loop-end.end-index c.loop-end-test.true v (search rules) c.loop-end.first) ∙ c.loop-end.invariant.2,
    )

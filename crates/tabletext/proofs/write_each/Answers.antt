use Rattle.std.proofs.Common.{◌≡◌, ap, arith, is_ok, add-one}
use Rattle.std.proofs.Output.{writes_in_calls_nil, has_written_append}
use Rattle.tabletext.specs.Text.{each_below}
use Rattle.tabletext.proofs.write_each.Goals as goal

pub loop-i-init : goal.loop-i-init
unfolding each_below
loop-i-init g c text writes plain = record { wrote = writes_in_calls_nil g.W.Write.write_str_gives c.args.f.now.writer; plain = plain }

pub loop-i-preserved : goal.loop-i-preserved
unfolding each_below
loop-i-preserved g c text writes plain =
    let before = c.loop-i.invariant text writes plain in
    let here = writes c.loop-i.i _ _ c.write.result c.loop-i-test.true c.write.ensures before.plain (ap is_ok c.in_ok-write.was) in
    rw add-one (has_written_append g.W.Write.write_str_gives _ _ _ _ _ before here)

pub returns : goal.returns
returns g c text writes plain ok =
    let all : c.loop-i.i ≡ c.args.n = omega arith in
    rw all at (c.loop-i.invariant text writes plain)

use Rattle.std.proofs.Common.{◌≡◌, ◌+◌, ◌*◌, ◌/◌, true, false, length, Err, sym, ap, ◌∙◌, suc-mul, add-one, arith, rules}
use Rattle.std.proofs.lemmas.List.{length-append}
use Rattle.fault.specs.declared.Cause.TheVariants.{StrayBit}
use Rattle.fault.specs.Faults.{fault}
use Rattle.stateset.specs.Sets.{clear}
use Rattle.listing.specs.Check.{sets_check}
use Rattle.listing.proofs.Turns.{sets_on, sets_stop, sets_end}
use Rattle.listing.proofs.check_sets.Goals as goal

pub loop-j-preserved : goal.loop-j-preserved
loop-j-preserved c =
    let s = c.in-Some.ensures.steps in
    let ok : clear c.args.n c.in-Some.set.now ≡ true = search rules in
    let size : length c.in-Some.set.now ≡ c.args.k = search rules in
    let more : c.next.new.self.count * c.args.k ≡ c.loop-j.j-iterator.count * c.args.k + c.args.k = ap (λ i. i * c.args.k) (s.2 ∙ add-one c.loop-j.j-iterator.count) ∙ suc-mul c.loop-j.j-iterator.count c.args.k in (
      c.loop-j.invariant.0
          ∙ sets_on c.args.n c.args.k (4 + c.loop-j.j-iterator.count * c.args.k) c.loop-j.j-iterator.iter.rest.now c.in-Some.set.now c.next.new.self.iter.rest.now c.requires.0 s.0.1.0 size ok
          ∙ ap (λ place. sets_check c.args.n c.args.k (length c.next.new.self.iter.rest.now / c.args.k) place c.next.new.self.iter.rest.now) (omega arith),
      omega (arith, more, size, c.loop-j.invariant.1, ap length s.0.1.0 ∙ length-append c.in-Some.set.now c.next.new.self.iter.rest.now),
      search rules,
    )

pub returns-in_err-need : goal.returns-in_err-need
returns-in_err-need c =
    let s = c.in-Some.ensures.steps in
    let bad : clear c.args.n c.in-Some.set.now ≡ false = search rules in
    let size : length c.in-Some.set.now ≡ c.args.k = search rules in
    let e : c.from_residual.result ≡ Err (fault StrayBit (4 + c.loop-j.j-iterator.count * c.args.k)) = search rules in
    e ∙ sym (c.loop-j.invariant.0 ∙ sets_stop c.args.n c.args.k (4 + c.loop-j.j-iterator.count * c.args.k) c.loop-j.j-iterator.iter.rest.now c.in-Some.set.now c.next.new.self.iter.rest.now c.requires.0 s.0.1.0 size bad)

pub returns : goal.returns
returns c =
    let s = c.in-None.ensures.steps in
    sym (c.loop-j.invariant.0 ∙ sets_end c.args.n c.args.k _ c.loop-j.j-iterator.iter.rest.now (omega (arith, s.0.1.0, c.loop-j.invariant.2)))

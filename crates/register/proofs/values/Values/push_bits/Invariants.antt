use Rattle.std.proofs.Common.{◌≡◌, ◌+◌, ◌++◌, length}
use Rattle.stateset.specs.Sets.{bits}
use Rattle.register.specs.Inner.{known}
use Rattle.register.proofs.values.Values.push_bits.Given as goal

-- The bits so far.
abbrev pub invariant-loop-i : goal.invariant-loop-i
invariant-loop-i l = record {
  same : known l.self ≡ known l.initial.self ++ bits l.i l.number;
  long : length (known l.self) ≡ length (known l.initial.self) + l.i;
}

-- The entries in use.
use Rattle.std.proofs.Common.{◌≤◌, length, arith}
use Rattle.std.proofs.lemmas.List.{length-take}
use Rattle.wiring.specs.Lists.{list_in}
use Rattle.wiring.specs.declared.Wiring.{Wiring as Held}

-- At most 16 are in use.
pub few_used : (w : Held) → length (list_in w) ≤ 16
few_used w = omega (arith, length-take w.count w.entries, w.few)

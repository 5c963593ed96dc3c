use Rattle.std.proofs.Common.{◌-◌, length, take, drop, Result, Ok, Err, IfOk}
use Rattle.fault.specs.declared.Fault.{Fault}
use Rattle.fault.proofs.Near.{mapped_near}
use Rattle.listing.specs.declared.section.Parts.{Parts}
use Rattle.listing.specs.Parts.{listed_in, Formed}
use Rattle.listing.proofs.Questions.{formed}
use Rattle.listing.proofs.Near.{read_body_near}
use Rattle.listing.proofs.Inverse.{accepted_is_layout}
use Rattle.listing.proofs.read.Goals as goal

pub returns-in_default-clause-accepted : goal.returns-in_default-clause-accepted
returns-in_default-clause-accepted c = accepted_is_layout

pub returns-clause-place : goal.returns-clause-place
returns-clause-place c =
    mapped_near listed_in c.read_body.result _ c.read_body.ensures (read_body_near c.number.result c.from.result c.from-2.result (take (length c.args.section.now - 4) (drop 4 c.args.section.now)))

pub returns-clause-accepted : goal.returns-clause-accepted
returns-clause-accepted c = accepted_is_layout

if_read : (r : Result Parts Fault) → IfOk r Formed
if_read (Ok p) = formed p
if_read (Err e) = tt

pub returns-clause-formed : goal.returns-clause-formed
returns-clause-formed c = if_read c.read_body.result

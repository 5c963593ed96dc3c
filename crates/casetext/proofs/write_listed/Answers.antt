use Rattle.std.proofs.Common.{◌≡◌, Ok, is_ok, ap}
use Rattle.std.proofs.Output.{has_written_of_eq, writes_on_IsOk-append}
use Rattle.listing.specs.Read.{read_of}
use Rattle.listed.specs.Listed.{listed_held}
use Rattle.casefile.specs.Parts.{part_in}
use Rattle.casetext.specs.Text.{second_text, listed_text}
use Rattle.casetext.proofs.write_listed.Goals as goal

pub returns-in_ok-write-in-Ok : goal.returns-in_ok-write-in-Ok
returns-in_ok-write-in-Ok g c plain ok =
    let first = part_in c.args.contents.now.first in
    let more = second_text c.args.contents.now.second_kind (part_in c.args.contents.now.second) in
    let told : Ok (listed_held c.in-Ok.table) ≡ read_of first.bytes = c.in-Ok.ensures.table in
    has_written_of_eq g.W.Write.write_str_gives _ _ _ _ (ap (λ r. listed_text first.at r more) told)
    (writes_on_IsOk-append g.W.Write.write_str_gives _ _ _ _ _ _ _ (λ _. ap is_ok c.in_ok-write-in-Ok.was) c.write.ensures.writes c.write_second.ensures plain ok)

-- The table that any bytes give as a section.
use Rattle.std.specs.Prelude.{Option}
use Rattle.fault.specs.declared.Fault.{Fault}
use Rattle.listing.specs.Listed.{Listed}
use Rattle.listing.specs.Parts.{listed_in}
use Rattle.listed.specs.declared.Listed.{Listed as Held}

-- The table that was read, or the one-state table where the section was refused; and why it was.
abbrev pub listed_held : Held → Listed
listed_held t = listed_in t.parts

abbrev pub refusal : Held → Option Fault
refusal t = t.fault

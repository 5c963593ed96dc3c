-- Faults: their numbers, and the line that tells one.
use Rattle.std.specs.Prelude.{ℕ, ◌+◌, List, ◌++◌, codes, decimal}
use Rattle.fault.specs.declared.Cause.{Cause}
use Rattle.fault.specs.declared.Cause.TheVariants.{FileLength, Contents, TableCounts, StrayBit, MoveCounts, Targets, ValueNumber, NoStart, PairLimits, Wiring}
use Rattle.fault.specs.declared.Fault.{Fault}

-- The number of each cause.
abbrev pub number_of : Cause → ℕ
number_of FileLength = 1
number_of Contents = 2
number_of TableCounts = 3
number_of StrayBit = 4
number_of MoveCounts = 5
number_of Targets = 6
number_of ValueNumber = 6
number_of NoStart = 7
number_of PairLimits = 8
number_of Wiring = 9

-- A cause at a place.
abbrev pub fault : Cause → ℕ → Fault
fault c p = record { cause = c; place = p }

-- A fault told from the beginning of a part, as one of the whole in which the part begins at `from`.
abbrev pub moved_by : ℕ → Fault → Fault
moved_by from e = fault e.cause (from + e.place)

-- How a fault is told: `refused`, the number, the place. The line of a refusal is that, and the line's end.
abbrev pub line_of : Fault → List ℕ
line_of e = codes "refused " ++ (decimal (number_of e.cause) ++ (codes " " ++ decimal e.place))

abbrev pub refusal_line : Fault → List ℕ
refusal_line e = line_of e ++ codes "\n"

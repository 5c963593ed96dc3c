-- Wiring lists.
use Rattle.std.specs.Prelude.{ℕ, List, length, take, Result, nat_le}
use Rattle.fault.specs.declared.Cause.TheVariants.{Wiring}
use Rattle.fault.specs.declared.Fault.{Fault}
use Rattle.fault.specs.Faults.{fault}
use Rattle.fault.specs.Checks.{Checked, need, given, first_past, none_past}
use Rattle.wiring.specs.declared.Wiring.{Wiring as Held}

-- The entries in use: the first `count` of the array.
abbrev pub list_in : Held → List ℕ
list_in w = take w.count w.entries

-- The list that a section lays out, a byte an entry: at most 16.
abbrev pub list_of : List ℕ → Result (List ℕ) Fault
list_of section = given (need (nat_le (length section) 16) (fault Wiring 0)) section

-- Every entry names one of so many atoms; the first that does not is at fault.
abbrev pub entries_check : ℕ → List ℕ → Checked
entries_check atoms list = none_past Wiring 0 (first_past atoms list)

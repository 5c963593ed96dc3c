-- Reading and laying out are inverse.
use Rattle.std.specs.Prelude.{◌≡◌, ℕ, List, Ok}
use Rattle.stateset.specs.Sets.{Bytes}
use Rattle.listing.specs.Listed.{Listed, Lawful, encode}
use Rattle.listing.specs.Read.{read_of}

-- What is accepted is the layout of the table that was read, and that table is lawful.
abbrev pub AcceptedIsLayout : Type 0
AcceptedIsLayout = (bytes : List ℕ) (t : Listed) → Bytes bytes → read_of bytes ≡ Ok t → (encode t ≡ bytes) × Lawful t

-- The layout of every lawful table is accepted, and read as that table.
abbrev pub LayoutIsAccepted : Type 0
LayoutIsAccepted = (t : Listed) → Lawful t → read_of (encode t) ≡ Ok t

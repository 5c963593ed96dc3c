-- The contents of a case file: five entries, each a letter and a 32-bit length, and then the five sections without gaps.
use Rattle.std.specs.Prelude.{ℕ, zero, suc, ◌+◌, ◌*◌, Bool, cond, ◌&&◌, List, length, Ok, Err, codes, Result, ◌==◌, nat_le, slice_index, slice_range}
use Rattle.fault.specs.declared.Cause.TheVariants.{FileLength, Contents}
use Rattle.fault.specs.declared.Fault.{Fault}
use Rattle.fault.specs.Faults.{fault}
use Rattle.fault.specs.Checks.{need, given, ◌>>=◌, ◌>>◌}
use Rattle.casefile.specs.declared.Kind.{Kind}
use Rattle.casefile.specs.declared.Kind.TheVariants.{ListedTable, RegisterTable}

-- The number of 32 bits at i, the low byte first.
abbrev pub u32_at : List ℕ → ℕ → ℕ
u32_at bytes i = slice_index bytes i + slice_index bytes (i + 1) * 256 + slice_index bytes (i + 2) * 65536 + slice_index bytes (i + 3) * 16777216

-- Entry i of the contents.
abbrev pub letter : List ℕ → ℕ → ℕ
letter file i = slice_index file (5 * i)

abbrev pub size : List ℕ → ℕ → ℕ
size file i = u32_at file (5 * i + 1)

-- Where section i begins: behind the contents and the sections before it.
abbrev pub begins : List ℕ → ℕ → ℕ
begins file zero = 25
begins file (suc i) = begins file i + size file i

-- The kind of table that a letter names: T listed, R register.
abbrev pub kind_of : ℕ → Result Kind Fault
kind_of b = cond (b == 84) (Ok ListedTable) (cond (b == 82) (Ok RegisterTable) (Err (fault Contents 0)))

abbrev pub kind_text : Kind → List ℕ
kind_text ListedTable = codes "T"
kind_text RegisterTable = codes "R"

-- The letters N, F and P.
abbrev pub others_named : List ℕ → Bool
others_named file = letter file 2 == 78 && (letter file 3 == 70 && letter file 4 == 80)

-- A section: where it begins in the file, and its bytes.
pub record Part : Type 0 where
  pub at : ℕ
  pub bytes : List ℕ

abbrev pub part : List ℕ → ℕ → Part
part file i = record { at = begins file i; bytes = slice_range file (begins file i) (begins file (suc i)) }

-- What the contents tell: the tables' kinds, and the five sections.
pub record Laid : Type 0 where
  pub first_kind : Kind
  pub first : Part
  pub second_kind : Kind
  pub second : Part
  pub wiring : Part
  pub formula : Part
  pub steps : Part

abbrev pub laid : List ℕ → Kind → Kind → Laid
laid file k l = record {
  first_kind = k;
  first = part file 0;
  second_kind = l;
  second = part file 1;
  wiring = part file 2;
  formula = part file 3;
  steps = part file 4;
}

-- The five lengths add up to the file.
abbrev pub adding_up : List ℕ → Kind → Kind → Result Laid Fault
adding_up file k l = given (need (begins file 5 == length file) (fault Contents 0)) (laid file k l)

-- What a file's contents tell, or the fault: a file over 65,536 bytes before wrong contents.
abbrev pub contents_of : List ℕ → Result Laid Fault
contents_of file = do
  need (nat_le (length file) 65536) (fault FileLength 0)
  need (nat_le 25 (length file)) (fault Contents 0)
  first ← kind_of (letter file 0)
  second ← kind_of (letter file 1)
  need (others_named file) (fault Contents 0)
  adding_up file first second

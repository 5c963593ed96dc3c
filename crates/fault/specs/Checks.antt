-- Checks, and the first fault of a row of them.
use Rattle.std.specs.Prelude.{ℕ, ◌+◌, Bool, true, false, ◌&&◌, List, [], ◌∷◌, Some, None, Ok, Err, Option, Result, nat_le, position}
use Rattle.fault.specs.declared.Cause.{Cause}
use Rattle.fault.specs.declared.Fault.{Fault}
use Rattle.fault.specs.Faults.{fault}

-- A check is passed, or has the first fault that it finds.
abbrev pub Checked : Type 0
Checked = Result (Unit {0}) Fault

-- low ≤ x ≤ high.
abbrev pub between : ℕ → ℕ → ℕ → Bool
between low high x = nat_le low x && nat_le x high

abbrev pub need : Bool → Fault → Checked
need true e = Ok tt
need false e = Err e

-- A reading and then another that goes on from it, as `?` does; what a `do` block of readings and checks means.
infixl 10 ◌>>=◌
abbrev pub ◌>>=◌ : {A B : Type 0} → Result A Fault → (A → Result B Fault) → Result B Fault
Ok x >>= next = next x
Err e >>= next = Err e

infixl 10 ◌>>◌
abbrev pub ◌>>◌ : {A B : Type 0} → Result A Fault → Result B Fault → Result B Fault
Ok x >> next = next
Err e >> next = Err e

-- One check and then another; the first fault of a row of checks.
abbrev pub then : Checked → Checked → Checked
then c next = c >> next

abbrev pub first_of : List Checked → Checked
first_of [] = Ok tt
first_of (c ∷ cs) = then c (first_of cs)

-- Where the first number of a row that is not below the limit stands, from 0; and the check that there is none, for a row
-- that begins at `from`.
abbrev pub first_past : ℕ → List ℕ → Option ℕ
first_past limit xs = position (λ x. nat_le limit x) xs

abbrev pub none_past : Cause → ℕ → Option ℕ → Checked
none_past c from None = Ok tt
none_past c from (Some i) = Err (fault c (from + i))

abbrev pub is_ok : Checked → Bool
is_ok (Ok u) = true
is_ok (Err e) = false

-- What is read, where the checks are passed.
abbrev pub given : {A : Type 0} → Checked → A → Result A Fault
given (Ok u) x = Ok x
given (Err e) x = Err e

-- What a reading told: with another view of its value; without its value; its value, or `other` where it was refused; and
-- its fault, where it was.
abbrev pub mapped : {A B : Type 0} → (A → B) → Result A Fault → Result B Fault
mapped f (Ok x) = Ok (f x)
mapped f (Err e) = Err e

abbrev pub passed : {A : Type 0} → Result A Fault → Checked
passed (Ok x) = Ok tt
passed (Err e) = Err e

abbrev pub or_else : {A : Type 0} → A → Result A Fault → A
or_else other (Ok x) = x
or_else other (Err e) = other

abbrev pub fault_in : {A : Type 0} → Result A Fault → Option Fault
fault_in (Ok x) = None
fault_in (Err e) = Some e

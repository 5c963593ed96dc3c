-- Rows of checks, passed and not passed.
use Rattle.std.proofs.Common.{◌≡◌, ℕ, Bool, true, false, cond, List, [], ◌∷◌, ◌++◌, Ok, Err, Result, refl, ap, ◌∙◌, arith}
use Rattle.fault.specs.declared.Fault.{Fault}
use Rattle.fault.specs.Checks.{Checked, need, then, first_of, is_ok}

pub was_ok : (r : Checked) → is_ok r ≡ true → r ≡ Ok tt
was_ok (Ok tt) e = refl
was_ok (Err f) e = let z : ◌≡◌ {A = ℕ} 0 1 = cc in absurd (omega arith)

pub then_ok : (r s : Checked) → then r s ≡ Ok tt → (r ≡ Ok tt) × (s ≡ Ok tt)
then_ok (Ok tt) s e = (refl, e)
then_ok (Err f) s e = let z : ◌≡◌ {A = ℕ} 0 1 = cc in absurd (omega arith)

pub need_true : (b : Bool) (f : Fault) → need b f ≡ Ok tt → b ≡ true
need_true true f e = refl
need_true false f e = let z : ◌≡◌ {A = ℕ} 0 1 = cc in absurd (omega arith)

pub need_from : (b : Bool) (f : Fault) → b ≡ true → need b f ≡ Ok tt
need_from b f e = ap (λ x. need x f) e

pub cond_ok : {X : Type 0} (b : Bool) (r : Result X Fault) (e : Fault) (x : X) → cond b r (Err e) ≡ Ok x → (b ≡ true) × (r ≡ Ok x)
cond_ok true r e x h = (refl, h)
cond_ok false r e x h = let z : ◌≡◌ {A = ℕ} 0 1 = cc in absurd (omega arith)

-- Each check passed.
abbrev pub AllOk : List Checked → Type 0
AllOk [] = Unit {0}
AllOk (r ∷ rs) = (r ≡ Ok tt) × AllOk rs

pub all_from : (rs : List Checked) → first_of rs ≡ Ok tt → AllOk rs
all_from [] e = tt
all_from (r ∷ rs) e = let p = then_ok r (first_of rs) e in (p.0, all_from rs p.1)

pub from_all : (rs : List Checked) → AllOk rs → first_of rs ≡ Ok tt
from_all [] e = refl
from_all (r ∷ rs) (e, es) = ap (λ x. then x (first_of rs)) e ∙ from_all rs es

pub first_append : (cs ds : List Checked) → first_of (cs ++ ds) ≡ then (first_of cs) (first_of ds)
first_append [] ds = refl
first_append (Ok u ∷ cs) ds = first_append cs ds
first_append (Err e ∷ cs) ds = refl

-- A check that lets the next go on.
pub go : (r s : Checked) → r ≡ Ok tt → then r s ≡ s
go r s e = ap (λ x. then x s) e

-- Checks whose faults, if they have one, are at places within the longest file.
use Rattle.std.proofs.Common.{◌≡◌, ◌≤◌, Bool, true, false, cond, List, [], ◌∷◌, Ok, Err, IfErr, Result, sym, refl, subst}
use Rattle.fault.specs.declared.Fault.{Fault}
use Rattle.fault.specs.Checks.{Checked, need, then, first_of, given, mapped}

abbrev pub Near : {A : Type 0} → Result A Fault → Type 0
Near r = IfErr r (λ e. e.place ≤ 65536)

-- A row of them, each asked for only where those before it are passed.
abbrev pub AllNear : List Checked → Type 0
AllNear [] = Unit {0}
AllNear (r ∷ rs) = Near r × (r ≡ Ok tt → AllNear rs)

pub need_near : (b : Bool) (e : Fault) → e.place ≤ 65536 → Near (need b e)
need_near true e h = tt
need_near false e h = h

pub cond_near : {A : Type 0} (b : Bool) (r : Result A Fault) (e : Fault) → Near r → e.place ≤ 65536 → Near (cond b r (Err e))
cond_near true r e near h = near
cond_near false r e near h = h

pub then_near : (r s : Checked) → Near r → (r ≡ Ok tt → Near s) → Near (then r s)
then_near (Ok tt) s h more = more refl
then_near (Err e) s h more = h

pub first_near : (rs : List Checked) → AllNear rs → Near (first_of rs)
first_near [] h = tt
first_near (r ∷ rs) (h, hs) = then_near r (first_of rs) h (λ ok. first_near rs (hs ok))

pub given_near : {A : Type 0} (r : Checked) (x : A) → Near r → Near (given r x)
given_near (Ok tt) x h = tt
given_near (Err e) x h = h

-- What a reading told, seen otherwise, has the same fault.
pub mapped_near : {A B : Type 0} (f : A → B) (r : Result A Fault) (s : Result B Fault) → mapped f r ≡ s → Near s → Near r
mapped_near f (Ok x) s e h = tt
mapped_near f (Err b) s e h = subst Near (sym e) h

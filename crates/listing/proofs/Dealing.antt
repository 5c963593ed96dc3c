-- The targets dealt out to the states, row by row.
use Rattle.std.proofs.Common.{◌≡◌, ℕ, ◌+◌, ◌-◌, ◌*◌, ◌<◌, ◌≤◌, List, [], ◌∷◌, length, get_or, Ok, arith}
use Rattle.std.proofs.lemmas.List.{get_or-map}
use lib.ListN.{length-map}
use Rattle.std.proofs.lemmas.Bool.{and_parts, leb-true}
use Rattle.listing.specs.Numbers.{u16s, numbers}
use Rattle.listing.specs.Rows.{last_of, Rises}
use Rattle.fault.proofs.Order.{cond_ok}
use Rattle.listing.specs.Check.{counts_check}

-- Two bytes a number.
pub length_u16s : (bs : List ℕ) (m : ℕ) → length bs ≡ 2 * m → length (u16s bs) ≡ m
length_u16s [] m h = omega arith
length_u16s (x ∷ []) m h = absurd (omega arith)
length_u16s (x ∷ y ∷ bs) m h = let more = length_u16s bs (m - 1) (omega arith) in omega arith

pub length_numbers : (xs : List (List ℕ)) → length (numbers xs) ≡ length xs
length_numbers xs = length-map xs _

pub number_at : (xs : List (List ℕ)) (i : ℕ) → i < length xs → get_or (numbers xs) i 0 ≡ get_or (get_or xs i []) 0 0 + get_or (get_or xs i []) 1 0 * 256
number_at xs i h = get_or-map _ xs i [] 0 h

-- Counts that pass rise strictly, up to the last of them.
pub counts_rise : (last place : ℕ) (cs : List ℕ) → counts_check last place cs ≡ Ok tt → Rises last cs
counts_rise last place [] e = tt
counts_rise last place (c ∷ cs) e =
    let p = cond_ok _ _ _ _ e in
    let l = leb-true (last + 1) c (and_parts _ _ p.0).0 in
    (omega arith, counts_rise c (place + 2) cs p.1)

pub counts_few : (last place : ℕ) (cs : List ℕ) → last ≤ 16384 → counts_check last place cs ≡ Ok tt → last_of last cs ≤ 16384
counts_few last place [] h e = h
counts_few last place (c ∷ cs) h e =
    let p = cond_ok _ _ _ _ e in
    counts_few c (place + 2) cs (leb-true c 16384 (and_parts _ _ p.0).1) p.1

pub rises_to : (last : ℕ) (cs : List ℕ) → Rises last cs → last ≤ last_of last cs
rises_to last [] r = omega arith
rises_to last (c ∷ cs) (l, r) = let more = rises_to c cs r in omega arith

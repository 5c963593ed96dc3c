-- Where in the bytes a listed table's sets, counts and targets lie.
use Rattle.std.proofs.Common.{◌≡◌, ℕ, zero, suc, ◌+◌, ◌-◌, ◌*◌, ◌<◌, ◌≤◌, false, List, [], ◌∷◌, length, get_or, take, drop, ap, ◌∙◌, suc-mul, arith}
use Rattle.std.proofs.lemmas.List.{get_or-take, get_or_past, drop-drop, length-take}
use Rattle.stateset.specs.Sets.{unpack, set_of}
use Rattle.listing.specs.Sets.{sets_of}
use Rattle.listing.specs.Rows.{dealt, last_of, Rises}
use Rattle.listing.proofs.Dealing.{rises_to}

-- Set j lies j widths on.
pub set_at : (n k m j : ℕ) (bs : List ℕ) → j < m → get_or (sets_of n k m bs) j [] ≡ set_of n (take k (drop (j * k) bs))
set_at n k zero j bs h = absurd (omega arith)
set_at n k (suc m) zero bs h = ap (λ i. set_of n (take k (drop i bs))) {x = 0} {y = 0 * k} (omega arith)
set_at n k (suc m) (suc j) bs h =
    set_at n k m j (drop k bs) (omega arith)
    ∙ ap (λ xs. set_of n (take k xs)) (drop-drop (j * k) k bs ∙ ap (λ i. drop i bs) (omega (arith, suc-mul j k)))

-- A flag of a set of n states.
pub flag_below : (n s : ℕ) (bs : List ℕ) → s < n → get_or (set_of n bs) s false ≡ get_or (unpack bs) s false
flag_below n s bs h = get_or-take n (unpack bs) s false h

pub flag_past : (n s : ℕ) (bs : List ℕ) → n ≤ s → get_or (set_of n bs) s false ≡ false
flag_past n s bs h = get_or_past (take n (unpack bs)) s false (omega (arith, length-take n (unpack bs)))

-- The moves of s begin where those of the state before end, and end at its own count.
pub row_bounds : (last : ℕ) (cs : List ℕ) (s : ℕ) → Rises last cs → s < length cs → (last ≤ get_or (last ∷ cs) s 0) × (get_or (last ∷ cs) s 0 ≤ get_or cs s 0) × (get_or cs s 0 ≤ last_of last cs)
row_bounds last [] s r h = absurd (omega arith)
row_bounds last (c ∷ cs) zero (l, r) h = (omega arith, omega arith, rises_to c cs r)
row_bounds last (c ∷ cs) (suc s) (l, r) h = let more = row_bounds c cs s r (omega arith) in (omega (arith, more.0), more.1, more.2)

pub row_at : (last : ℕ) (cs ts : List ℕ) (s : ℕ) → Rises last cs → s < length cs → get_or (dealt last cs ts) s [] ≡ take (get_or cs s 0 - get_or (last ∷ cs) s 0) (drop (get_or (last ∷ cs) s 0 - last) ts)
row_at last [] ts s r h = absurd (omega arith)
row_at last (c ∷ cs) ts zero (l, r) h = ap (λ i. take (c - last) (drop i ts)) {x = 0} {y = last - last} (omega arith)
row_at last (c ∷ cs) ts (suc s) (l, r) h =
    let b = row_bounds c cs s r (omega arith) in
    let e : (c - last) + (get_or (c ∷ cs) s 0 - c) ≡ get_or (c ∷ cs) s 0 - last = omega (arith, b.0) in
    row_at c cs (drop (c - last) ts) s r (omega arith)
    ∙ ap (take (get_or cs s 0 - get_or (c ∷ cs) s 0)) (drop-drop (get_or (c ∷ cs) s 0 - c) (c - last) ts ∙ ap (λ i. drop i ts) e)

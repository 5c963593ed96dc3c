-- Each reader of a part is the inverse of its writer.
use Rattle.std.proofs.Common.{◌≡◌, ℕ, zero, suc, ◌+◌, ◌-◌, ◌*◌, ◌/◌, ◌%◌, ◌<◌, ◌≤◌, Bool, true, false, cond, not, ◌&&◌, eqb, List, [], ◌∷◌, ◌++◌, length, take, drop, sym, refl, ap, ◌∙◌, ap₂, ⊎_elim, suc-mul, arith}
use Rattle.std.proofs.lemmas.List.{append_assoc, take-append-drop, take_at, drop_at, length-take-le, length-drop, drop_all, nil_from_length, take_all}
use Rattle.std.proofs.lemmas.Bool.{and_parts, cases_lt}
use Rattle.std.proofs.lemmas.Bool.Decides.{nat_tests}
use Rattle.stateset.specs.Sets.{Bytes, bits, number, unpack, none, set_of, clear}
use Rattle.stateset.proofs.Flags.{length_bits}
use Rattle.stateset.proofs.Numbers.{number_bits, bits_number}
use Rattle.listing.specs.Numbers.{put16s, u16s}
use Rattle.listing.specs.Sets.{pack, put_sets, sets_of, past}
use Rattle.listing.specs.Rows.{counts, all_of, dealt, last_of, Rises}
use Rattle.listing.specs.Listed.{Sized}
use Rattle.listing.proofs.Dealing.{rises_to}

-- Each of the first m sets has no bit at n or above.
abbrev pub clears : (n k m : ℕ) → List ℕ → Bool
clears n k zero bytes = true
clears n k (suc m) bytes = clear n (take k bytes) && clears n k m (drop k bytes)

-- numbers of 16 bits
pub u16s_put : (xs : List ℕ) → u16s (put16s xs) ≡ xs
u16s_put [] = refl
u16s_put (x ∷ xs) = ap₂ (λ y ys. y ∷ ys) (omega arith) (u16s_put xs)

pub put_u16s : (bs : List ℕ) (m : ℕ) → length bs ≡ 2 * m → Bytes bs → put16s (u16s bs) ≡ bs
put_u16s [] m h b = refl
put_u16s (x ∷ []) m h b = absurd (omega arith)
put_u16s (x ∷ y ∷ bs) m h (lo, (hi, more)) =
    let p : (x + y * 256) % 256 ≡ x = omega arith in
    let q : (x + y * 256) / 256 ≡ y = omega arith in
    ap₂ (λ u us. u ∷ us) p (ap₂ (λ u us. u ∷ us) q (put_u16s bs (m - 1) (omega arith) more))

pub length_pack : (k : ℕ) (s : List Bool) → length (pack k s) ≡ k
length_pack zero s = refl
length_pack (suc k) s = ap suc (length_pack k (drop 8 s))

-- what is false at the end leaves the bytes as they are
none_drop : (j : ℕ) (zs : List Bool) → none zs ≡ true → none (drop j zs) ≡ true
none_drop zero zs e = e
none_drop (suc j) [] e = refl
none_drop (suc j) (z ∷ zs) e = none_drop j zs (and_parts (not z) (none zs) e).1

none_append : (xs zs : List Bool) → none xs ≡ true → none zs ≡ true → none (xs ++ zs) ≡ true
none_append [] zs e f = f
none_append (true ∷ xs) zs e f = let z : ◌≡◌ {A = ℕ} 0 1 = cc in absurd (omega arith)
none_append (false ∷ xs) zs e f = none_append xs zs e f

number_none : (j : ℕ) (zs : List Bool) → none zs ≡ true → number (take j zs) ≡ 0
number_none zero zs e = refl
number_none (suc j) [] e = refl
number_none (suc j) (true ∷ zs) e = let z : ◌≡◌ {A = ℕ} 0 1 = cc in absurd (omega arith)
number_none (suc j) (false ∷ zs) e = let more = number_none j zs e in omega arith

number_pad : (j : ℕ) (xs zs : List Bool) → none zs ≡ true → number (take j (xs ++ zs)) ≡ number (take j xs)
number_pad zero xs zs e = refl
number_pad (suc j) [] zs e = number_none (suc j) zs e
number_pad (suc j) (x ∷ xs) zs e = ap (λ v. cond x 1 0 + 2 * v) (number_pad j xs zs e)

drop_pad : (j : ℕ) (xs zs : List Bool) → none zs ≡ true → (ws : List Bool) × (drop j (xs ++ zs) ≡ drop j xs ++ ws) × (none ws ≡ true)
drop_pad zero xs zs e = (zs, refl, e)
drop_pad (suc j) [] zs e = (drop (suc j) zs, refl, none_drop (suc j) zs e)
drop_pad (suc j) (x ∷ xs) zs e = drop_pad j xs zs e

pack_pad : (k : ℕ) (xs zs : List Bool) → none zs ≡ true → pack k (xs ++ zs) ≡ pack k xs
pack_pad zero xs zs e = refl
pack_pad (suc k) xs zs e =
    let d = drop_pad 8 xs zs e in
    ap₂ (λ u us. u ∷ us) (number_pad 8 xs zs e) (ap (pack k) d.1 ∙ pack_pad k (drop 8 xs) d.0 d.2)

pack_unpack : (k : ℕ) (bs : List ℕ) → length bs ≡ k → Bytes bs → pack k (unpack bs) ≡ bs
pack_unpack zero [] h b = refl
pack_unpack zero (x ∷ bs) h b = absurd (omega arith)
pack_unpack (suc k) [] h b = absurd (omega arith)
pack_unpack (suc k) (x ∷ bs) h (low, more) =
    ap₂ (λ u us. u ∷ us)
    (ap number (take_at (bits 8 x) (unpack bs) 8 (length_bits 8 x)) ∙ number_bits 8 x low)
    (ap (pack k) (drop_at (bits 8 x) (unpack bs) 8 (length_bits 8 x)) ∙ pack_unpack k bs (omega arith) more)

pub pack_set : (n k : ℕ) (bs : List ℕ) → length bs ≡ k → Bytes bs → clear n bs ≡ true → pack k (set_of n bs) ≡ bs
pack_set n k bs h b e = sym (pack_pad k (take n (unpack bs)) (drop n (unpack bs)) e) ∙ ap (pack k) (take-append-drop n (unpack bs)) ∙ pack_unpack k bs h b

-- the bits of packed bytes are those that were packed, and then none
abbrev Padded : List Bool → List Bool → Type 0
Padded x s = (zs : List Bool) × (x ≡ s ++ zs) × (none zs ≡ true)

bits_short : (s : List Bool) (m : ℕ) → length s ≤ m → Padded (bits m (number s)) s
bits_short [] zero h = ([], refl, refl)
bits_short [] (suc m) h = let more = bits_short [] m (omega arith) in (false ∷ more.0, ap (λ us. false ∷ us) more.1, more.2)
bits_short (b ∷ s) zero h = absurd (omega arith)
bits_short (true ∷ s) (suc m) h =
    let more = bits_short s m (omega arith) in
    let p : eqb ((1 + 2 * number s) % 2) 1 ≡ true = grind (arith, nat_tests) in
    let q : (1 + 2 * number s) / 2 ≡ number s = omega arith in
    (more.0, ap₂ (λ u us. u ∷ us) p (ap (bits m) q ∙ more.1), more.2)
bits_short (false ∷ s) (suc m) h =
    let more = bits_short s m (omega arith) in
    let p : eqb ((0 + 2 * number s) % 2) 1 ≡ false = grind (arith, nat_tests) in
    let q : (0 + 2 * number s) / 2 ≡ number s = omega arith in
    (more.0, ap₂ (λ u us. u ∷ us) p (ap (bits m) q ∙ more.1), more.2)

unpack_pack : (k : ℕ) (s : List Bool) → length s ≤ 8 * k → Padded (unpack (pack k s)) s
unpack_pack zero [] h = ([], refl, refl)
unpack_pack zero (b ∷ s) h = absurd (omega arith)
unpack_pack (suc k) s h =
    let more = unpack_pack k (drop 8 s) (simp length-drop (omega arith)) in
    ⊎_elim (short more) (long more) (cases_lt (length s) 8)
  where
    short : Padded (unpack (pack k (drop 8 s))) (drop 8 s) → length s < 8 → Padded (bits 8 (number (take 8 s)) ++ unpack (pack k (drop 8 s))) s
    short more l =
        let front = bits_short s 8 (omega arith) in
        let t : take 8 s ≡ s = take_all 8 s (omega arith) in
        let d : drop 8 s ≡ [] = drop_all 8 s (omega arith) in (
          front.0 ++ more.0,
          ap₂ (λ x y. bits 8 (number x) ++ y) t (more.1 ∙ ap (λ x. x ++ more.0) d) ∙ ap (λ x. x ++ more.0) front.1 ∙ append_assoc s front.0 more.0,
          none_append front.0 more.0 front.2 more.2,
        )

    long : Padded (unpack (pack k (drop 8 s))) (drop 8 s) → 8 ≤ length s → Padded (bits 8 (number (take 8 s)) ++ unpack (pack k (drop 8 s))) s
    long more l = (
      more.0,
      ap₂ (λ x y. x ++ y) (bits_number (take 8 s) 8 (length-take-le 8 s l)) more.1 ∙ sym (append_assoc (take 8 s) (drop 8 s) more.0) ∙ ap (λ x. x ++ more.0) (take-append-drop 8 s),
      more.2,
    )

pub set_pack : (k : ℕ) (s : List Bool) → length s ≤ 8 * k → set_of (length s) (pack k s) ≡ s
set_pack k s h = let u = unpack_pack k s h in ap (take (length s)) u.1 ∙ take_at s u.0 (length s) refl

pub clear_pack : (k : ℕ) (s : List Bool) → length s ≤ 8 * k → clear (length s) (pack k s) ≡ true
clear_pack k s h = let u = unpack_pack k s h in ap (λ x. none (drop (length s) x)) u.1 ∙ ap none (drop_at s u.0 (length s) refl) ∙ u.2

-- parts of bytes
pub bytes_take : (k : ℕ) (bs : List ℕ) → Bytes bs → Bytes (take k bs)
bytes_take zero bs b = tt
bytes_take (suc k) [] b = tt
bytes_take (suc k) (x ∷ bs) b = (b.0, bytes_take k bs b.1)

pub bytes_drop : (k : ℕ) (bs : List ℕ) → Bytes bs → Bytes (drop k bs)
bytes_drop zero bs b = b
bytes_drop (suc k) [] b = tt
bytes_drop (suc k) (x ∷ bs) b = bytes_drop k bs b.1

-- rows of sets
pub put_sets_of : (n k m : ℕ) (bs : List ℕ) → m * k ≤ length bs → Bytes bs → clears n k m bs ≡ true → put_sets k (sets_of n k m bs) ++ past k m bs ≡ bs
put_sets_of n k zero bs h b e = refl
put_sets_of n k (suc m) bs h b e =
    let both = and_parts (clear n (take k bs)) (clears n k m (drop k bs)) e in
    let room : m * k + k ≤ length bs = omega (arith, suc-mul m k) in
    append_assoc (pack k (set_of n (take k bs))) _ _
    ∙ ap₂ (λ x y. x ++ y) (pack_set n k (take k bs) (length-take-le k bs (omega arith)) (bytes_take k bs b) both.0) (put_sets_of n k m (drop k bs) (simp length-drop (omega arith)) (bytes_drop k bs b) both.1)
    ∙ take-append-drop k bs

pub record SetsRead (n k m : ℕ) (bs : List ℕ) (ss : List (List Bool)) (rest : List ℕ) : Type 0 where
  pub sets : sets_of n k m bs ≡ ss
  pub left : past k m bs ≡ rest
  pub fine : clears n k m bs ≡ true

pub sets_of_put : (n k : ℕ) (ss : List (List Bool)) (rest : List ℕ) → Sized n ss → n ≤ 8 * k → SetsRead n k (length ss) (put_sets k ss ++ rest) ss rest
sets_of_put n k [] rest z h = record { sets = refl; left = refl; fine = refl }
sets_of_put n k (s ∷ ss) rest (e, z) h =
    let more = sets_of_put n k ss rest z h in
    let all : (pack k s ++ put_sets k ss) ++ rest ≡ pack k s ++ (put_sets k ss ++ rest) = append_assoc (pack k s) (put_sets k ss) rest in
    let front : take k ((pack k s ++ put_sets k ss) ++ rest) ≡ pack k s = ap (take k) all ∙ take_at (pack k s) _ k (length_pack k s) in
    let back : drop k ((pack k s ++ put_sets k ss) ++ rest) ≡ put_sets k ss ++ rest = ap (drop k) all ∙ drop_at (pack k s) _ k (length_pack k s) in
    let fit : length s ≤ 8 * k = omega arith in
    record {
      sets = ap₂ (λ x xs. x ∷ xs) (ap (set_of n) front ∙ ap (λ i. set_of i (pack k s)) (sym e) ∙ set_pack k s fit) (ap (sets_of n k (length ss)) back ∙ more.sets);
      left = ap (past k (length ss)) back ∙ more.left;
      fine = ap₂ (λ x y. clear n x && clears n k (length ss) y) front back ∙ ap₂ (λ x y. x && y) (ap (λ i. clear i (pack k s)) (sym e) ∙ clear_pack k s fit) more.fine;
    }

-- rows of moves
pub counts_dealt : (last : ℕ) (cs ts : List ℕ) → Rises last cs → last_of last cs ≤ last + length ts → counts last (dealt last cs ts) ≡ cs
counts_dealt last [] ts r h = refl
counts_dealt last (c ∷ cs) ts (l, r) h =
    let up = rises_to c cs r in
    let long = length-take-le (c - last) ts (omega arith) in
    let e : last + length (take (c - last) ts) ≡ c = omega arith in
    ap₂ (λ x xs. x ∷ xs) e (ap (λ i. counts i (dealt c cs (drop (c - last) ts))) e ∙ counts_dealt c cs (drop (c - last) ts) r (simp length-drop (omega arith)))

pub all_dealt : (last : ℕ) (cs ts : List ℕ) → Rises last cs → last_of last cs ≡ last + length ts → all_of (dealt last cs ts) ≡ ts
all_dealt last [] ts r h = sym (nil_from_length ts (omega arith))
all_dealt last (c ∷ cs) ts (l, r) h =
    let up = rises_to c cs r in
    ap (λ xs. take (c - last) ts ++ xs) (all_dealt c cs (drop (c - last) ts) r (simp length-drop (omega arith))) ∙ take-append-drop (c - last) ts

pub dealt_counts : (last : ℕ) (ms : List (List ℕ)) → dealt last (counts last ms) (all_of ms) ≡ ms
dealt_counts last [] = refl
dealt_counts last (m ∷ ms) =
    let e : last + length m - last ≡ length m = omega arith in
    ap₂ (λ x xs. x ∷ xs)
    (ap (λ i. take i (m ++ all_of ms)) e ∙ take_at m (all_of ms) (length m) refl)
    (ap (dealt (last + length m) (counts (last + length m) ms)) (ap (λ i. drop i (m ++ all_of ms)) e ∙ drop_at m (all_of ms) (length m) refl) ∙ dealt_counts (last + length m) ms)

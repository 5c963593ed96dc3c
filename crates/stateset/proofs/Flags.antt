-- The bits of a row of bytes, as a list and one by one.
use Rattle.std.proofs.Common.{◌≡◌, ℕ, zero, suc, ◌+◌, ◌-◌, ◌*◌, ◌/◌, ◌%◌, ◌^◌, ◌<◌, ◌≤◌, Bool, true, false, not, ◌&&◌, ◌||◌, eqb, List, [], ◌∷◌, ◌++◌, length, get_or, take, drop, sym, refl, ap, ◌∙◌, ap₂, ⊎_elim, arith}
use native.Mathlib.Nat.{zero-div, two-pow-succ}
use Rattle.std.proofs.lemmas.Nat.{shr-shr, shr_below}
use Rattle.std.proofs.lemmas.List.{get_or_append_left, get_or-append_right, length-append, drop-append-le, drop_at, drop-drop, drop_all, get_or-drop, take_rest}
use Rattle.std.proofs.lemmas.Bool.{and_left, ne_eqb, cases_lt, eq-eqb}
use Rattle.std.proofs.lemmas.Bool.Decides.{nat_tests}
use Rattle.std.specs.List.{list_any, list_all, range_with_len}
use Rattle.stateset.specs.Sets.{bit_at, bits, unpack, none, set_of, clear}

pub length_bits : (m x : ℕ) → length (bits m x) ≡ m
length_bits zero x = refl
length_bits (suc m) x = ap suc (length_bits m (x / 2))

pub length_unpack : (bs : List ℕ) → length (unpack bs) ≡ 8 * length bs
length_unpack [] = refl
length_unpack (b ∷ bs) = let more = length_unpack bs in omega (arith, length-append (bits 8 b) (unpack bs), length_bits 8 b)

pub bits_at : (m x s : ℕ) → s < m → get_or (bits m x) s false ≡ eqb (x / 2 ^ s % 2) 1
bits_at zero x s h = absurd (omega arith)
bits_at (suc m) x zero h = ap (λ z. eqb (z % 2) 1) (omega arith)
bits_at (suc m) x (suc s) h =
    let e : 1 + s ≡ suc s = omega arith in
    bits_at m (x / 2) s (omega arith) ∙ ap (λ z. eqb (z % 2) 1) (shr-shr x 1 s ∙ ap (λ i. x / 2 ^ i) e)

-- A bit's place in the list is the number of its state.
pub unpack_bit : (bs : List ℕ) (s : ℕ) → get_or (unpack bs) s false ≡ bit_at bs s
unpack_bit [] s = sym (ap (λ z. eqb (z % 2) 1) (zero-div (2 ^ (s % 8))))
unpack_bit (b ∷ bs) s = ⊎_elim low (high (unpack_bit bs (s - 8))) (cases_lt s 8)
  where
    low : s < 8 → get_or (bits 8 b ++ unpack bs) s false ≡ bit_at (b ∷ bs) s
    low h =
        let d : 0 ≡ s / 8 = omega arith in
        let m : s ≡ s % 8 = omega arith in
        get_or_append_left (bits 8 b) (unpack bs) false s (omega (arith, length_bits 8 b)) ∙ bits_at 8 b s h ∙ ap₂ (λ i j. eqb (get_or (b ∷ bs) i 0 / 2 ^ j % 2) 1) d m

    high : get_or (unpack bs) (s - 8) false ≡ bit_at bs (s - 8) → 8 ≤ s → get_or (bits 8 b ++ unpack bs) s false ≡ bit_at (b ∷ bs) s
    high more h =
        let d : suc ((s - 8) / 8) ≡ s / 8 = omega arith in
        let m : (s - 8) % 8 ≡ s % 8 = omega arith in
        get_or-append_right (bits 8 b) (unpack bs) 8 s false (length_bits 8 b) h ∙ more ∙ ap₂ (λ i j. eqb (get_or (b ∷ bs) i 0 / 2 ^ j % 2) 1) d m

-- No flag is true: of two lists, of a number's bits, of a row of bytes.
none_append : (xs ys : List Bool) → none (xs ++ ys) ≡ (none xs && none ys)
none_append [] ys = refl
none_append (true ∷ xs) ys = refl
none_append (false ∷ xs) ys = none_append xs ys

none_bits : (m x : ℕ) → x < 2 ^ m → none (bits m x) ≡ eqb x 0
none_bits zero x h = sym (eq-eqb x 0 (omega arith))
none_bits (suc m) x h =
    let more = none_bits m (x / 2) (omega (arith, two-pow-succ m)) in
    ap (λ b. not (eqb (x % 2) 1) && b) more ∙ grind (arith, nat_tests)

drop_bits : (m r x : ℕ) → r ≤ m → drop r (bits m x) ≡ bits (m - r) (x / 2 ^ r)
drop_bits m zero x h = ap₂ bits (omega arith) (omega arith)
drop_bits zero (suc r) x h = absurd (omega arith)
drop_bits (suc m) (suc r) x h =
    let e : 1 + r ≡ suc r = omega arith in
    let d : m - r ≡ suc m - suc r = omega arith in
    drop_bits m r (x / 2) (omega arith) ∙ ap₂ bits d (shr-shr x 1 r ∙ ap (λ i. x / 2 ^ i) e)

-- A row of bytes has no flag where every byte is 0.
pub none_unpack : (bs : List ℕ) → ((i : ℕ) → i < length bs → get_or bs i 0 < 256) → none (unpack bs) ≡ list_all (λ b. eqb b 0) bs
none_unpack [] small = refl
none_unpack (b ∷ bs) small =
    none_append (bits 8 b) (unpack bs)
    ∙ ap₂ (λ x y. x && y) (none_bits 8 b (small 0 (omega arith))) (none_unpack bs (λ i h. small (suc i) (omega arith)))

-- From state n on: the bits of its byte from n mod 8 on, then the bytes behind it.
pub clear_split : (n : ℕ) (bs : List ℕ) → n / 8 < length bs → get_or bs (n / 8) 0 < 256 → clear n bs ≡ (eqb (get_or bs (n / 8) 0 / 2 ^ (n % 8)) 0 && none (unpack (drop (n / 8 + 1) bs)))
clear_split n [] h small = absurd (omega arith)
clear_split n (b ∷ bs) h small = ⊎_elim low (λ l. high l (clear_split (n - 8) bs)) (cases_lt n 8)
  where
    low : n < 8 → clear n (b ∷ bs) ≡ (eqb (get_or (b ∷ bs) (n / 8) 0 / 2 ^ (n % 8)) 0 && none (unpack (drop (n / 8 + 1) (b ∷ bs))))
    low l =
        let d : 0 ≡ n / 8 = omega arith in
        let m : n ≡ n % 8 = omega arith in
        let s : 8 ≡ 8 - n + n = omega arith in
        let x : b < 256 = rw (sym d) at small in
        ap none (drop-append-le n (bits 8 b) (unpack bs) (omega (arith, length_bits 8 b)))
        ∙ none_append (drop n (bits 8 b)) (unpack bs)
        ∙ ap (λ f. f && none (unpack bs)) (ap none (drop_bits 8 n b (omega arith)) ∙ none_bits (8 - n) (b / 2 ^ n) (shr_below b (8 - n) n (rw (sym s) x)))
        ∙ ap₂ (λ i j. eqb (get_or (b ∷ bs) i 0 / 2 ^ j) 0 && none (unpack (drop (i + 1) (b ∷ bs)))) d m

    high : 8 ≤ n
        → ((n - 8) / 8 < length bs → get_or bs ((n - 8) / 8) 0 < 256 → clear (n - 8) bs ≡ (eqb (get_or bs ((n - 8) / 8) 0 / 2 ^ ((n - 8) % 8)) 0 && none (unpack (drop ((n - 8) / 8 + 1) bs))))
        → clear n (b ∷ bs) ≡ (eqb (get_or (b ∷ bs) (n / 8) 0 / 2 ^ (n % 8)) 0 && none (unpack (drop (n / 8 + 1) (b ∷ bs))))
    high l more =
        let d : suc ((n - 8) / 8) ≡ n / 8 = omega arith in
        let m : (n - 8) % 8 ≡ n % 8 = omega arith in
        let k : 8 + (n - 8) ≡ n = omega arith in
        let e : suc ((n - 8) / 8 + 1) ≡ n / 8 + 1 = omega arith in
        let past : drop n (bits 8 b ++ unpack bs) ≡ drop (n - 8) (unpack bs) = ap (λ i. drop i (bits 8 b ++ unpack bs)) (sym k) ∙ sym (drop-drop (n - 8) 8 (bits 8 b ++ unpack bs)) ∙ ap (drop (n - 8)) (drop_at (bits 8 b) (unpack bs) 8 (length_bits 8 b)) in
        ap none past
        ∙ more (omega arith) (rw (sym d) at small)
        ∙ ap₂ (λ i j. eqb (get_or (b ∷ bs) i 0 / 2 ^ j) 0 && none (unpack (drop (suc ((n - 8) / 8 + 1)) (b ∷ bs)))) d m
        ∙ ap (λ i. eqb (get_or (b ∷ bs) (n / 8) 0 / 2 ^ (n % 8)) 0 && none (unpack (drop i (b ∷ bs)))) e

-- The two cases: its byte has a bit from n mod 8 on, or the bytes behind it decide.
pub clear_not : (n : ℕ) (bs : List ℕ) → n / 8 < length bs → get_or bs (n / 8) 0 < 256 → (get_or bs (n / 8) 0 / 2 ^ (n % 8) ≡ 0 → ⊥) → clear n bs ≡ false
clear_not n bs h small ne = clear_split n bs h small ∙ and_left _ _ (ne_eqb _ 0 ne)

pub clear_rest : (n : ℕ) (bs : List ℕ) → n / 8 < length bs → ((i : ℕ) → get_or bs i 0 < 256) → get_or bs (n / 8) 0 / 2 ^ (n % 8) ≡ 0
    → clear n bs ≡ list_all (λ b. eqb b 0) (take (length bs - (n / 8 + 1)) (drop (n / 8 + 1) bs))
clear_rest n bs h small e =
    clear_split n bs h (small (n / 8))
    ∙ ap (λ b. b && none (unpack (drop (n / 8 + 1) bs))) (eq-eqb _ 0 e)
    ∙ none_unpack (drop (n / 8 + 1) bs) (λ i l. let d = get_or-drop (n / 8 + 1) bs i 0 in omega (arith, d, small (n / 8 + 1 + i)))
    ∙ ap (list_all (λ b. eqb b 0)) (sym (take_rest bs (n / 8 + 1)))

pub clear_past : (n : ℕ) (bs : List ℕ) → length bs ≤ n / 8 → clear n bs ≡ true
clear_past n bs h = ap none (drop_all n (unpack bs) (omega (arith, length_unpack bs)))

neither : (b c : Bool) → (not b && not c) ≡ not (b || c)
neither true c = refl
neither false c = refl

-- The first n flags, asked for by number.
none_any : (n a : ℕ) (xs : List Bool) (f : ℕ → Bool) → ((i : ℕ) → f (a + i) ≡ get_or xs i false) → none (take n xs) ≡ not (list_any f (range_with_len a n))
none_any zero a xs f h = refl
none_any (suc n) a [] f h =
    sym (none_nil n)
    ∙ ap₂ (λ b c. not b && c) (sym (first (h 0))) (none_any n (a + 1) [] f (λ i. ap f (omega arith) ∙ h (suc i)))
    ∙ neither (f a) _
  where
    first : f (a + 0) ≡ false → f a ≡ false
    first e = ap f (omega arith) ∙ e

    none_nil : (m : ℕ) → none (take m []) ≡ true
    none_nil zero = refl
    none_nil (suc m) = refl
none_any (suc n) a (x ∷ xs) f h =
    ap₂ (λ b c. not b && c) (sym (first (h 0))) (none_any n (a + 1) xs f (λ i. ap f (omega arith) ∙ h (suc i)))
    ∙ neither (f a) _
  where
    first : f (a + 0) ≡ x → f a ≡ x
    first e = ap f (omega arith) ∙ e

-- The states below n one by one.
pub none_below : (n : ℕ) (bs : List ℕ) → none (set_of n bs) ≡ not (list_any (bit_at bs) (range_with_len 0 n))
none_below n bs = none_any n 0 (unpack bs) (bit_at bs) (λ i. ap (bit_at bs) (omega arith) ∙ sym (unpack_bit bs i))

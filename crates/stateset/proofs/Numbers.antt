-- Numbers and their bits.
use Rattle.std.proofs.Common.{◌≡◌, ℕ, zero, suc, ◌+◌, ◌*◌, ◌/◌, ◌%◌, ◌^◌, ◌<◌, Bool, true, false, cond, eqb, List, [], ◌∷◌, length, get_or, sym, refl, ap, ◌∙◌, ap₂, arith}
use native.Mathlib.Nat.{two-pow-succ}
use Rattle.std.proofs.lemmas.Bool.Decides.{nat_tests}
use Rattle.stateset.specs.Sets.{bits, number}
use Rattle.stateset.proofs.Flags.{bits_at}

-- A number is that of its bits, and a row of bits has the bits of its number.
pub number_bits : (m x : ℕ) → x < 2 ^ m → number (bits m x) ≡ x
number_bits zero x h = omega arith
number_bits (suc m) x h =
    let more = number_bits m (x / 2) (omega (arith, two-pow-succ m)) in
    let e : cond (eqb (x % 2) 1) 1 0 ≡ x % 2 = grind (arith, nat_tests) in
    omega arith

pub bits_number : (bs : List Bool) (m : ℕ) → length bs ≡ m → bits m (number bs) ≡ bs
bits_number [] zero h = refl
bits_number [] (suc m) h = absurd (omega arith)
bits_number (b ∷ bs) zero h = absurd (omega arith)
bits_number (true ∷ bs) (suc m) h =
    let p : eqb ((1 + 2 * number bs) % 2) 1 ≡ true = grind (arith, nat_tests) in
    let q : (1 + 2 * number bs) / 2 ≡ number bs = omega arith in
    ap₂ (λ u us. u ∷ us) p (ap (bits m) q ∙ bits_number bs m (omega arith))
bits_number (false ∷ bs) (suc m) h =
    let p : eqb ((0 + 2 * number bs) % 2) 1 ≡ false = grind (arith, nat_tests) in
    let q : (0 + 2 * number bs) / 2 ≡ number bs = omega arith in
    ap₂ (λ u us. u ∷ us) p (ap (bits m) q ∙ bits_number bs m (omega arith))

-- The number of m bits is below 2 to the power m, and its bit q is bit q of the row.
pub number_small : (bs : List Bool) → number bs < 2 ^ length bs
number_small [] = omega arith
number_small (true ∷ bs) = omega (arith, number_small bs, two-pow-succ (length bs))
number_small (false ∷ bs) = omega (arith, number_small bs, two-pow-succ (length bs))

pub number_bit : (bs : List Bool) (q : ℕ) → q < length bs → eqb (number bs / 2 ^ q % 2) 1 ≡ get_or bs q false
number_bit bs q h = sym (bits_at (length bs) (number bs) q h) ∙ ap (λ xs. get_or xs q false) (bits_number bs (length bs) refl)

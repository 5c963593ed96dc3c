-- What one turn of a loop keeps, and sets of lemmas that goals are tried with.
use Rattle.std.proofs.Common.{◌≡◌, ℕ, zero, suc, ◌+◌, ◌*◌, ◌/◌, ◌%◌, ◌^◌, ◌≤◌, ◌<◌, eqb, List, Bool, [], ◌∷◌, ◌++◌, map, drop, length, refl, ap, ◌∙◌, add-one, arith, pow_mono, bit_and, append_assoc, length-append}
use lib.ListN.{length-map}
use Rattle.std.proofs.lemmas.Nat.{shr-shr}
use Rattle.std.proofs.lemmas.Nat.Bits.{shr_and_one}
use Rattle.std.proofs.lemmas.List.{length-drop}
use Rattle.std.proofs.lemmas.Bool.Decides.{nat_tests}
use Rattle.table.proofs.Counted.{counted_length, counted_at}
use Rattle.stateset.specs.Sets.{bits, number}
use Rattle.stateset.proofs.Flags.{length_bits}
use Rattle.stateset.proofs.Numbers.{number_small}

-- One bit more, as the code takes it.
bits_last : (n x : ℕ) → bits (suc n) x ≡ bits n x ++ eqb (x / 2 ^ n % 2) 1 ∷ []
bits_last zero x = ap (λ z. eqb (z % 2) 1 ∷ []) (omega arith)
bits_last (suc n) x =
    let e : 1 + n ≡ suc n = omega arith in
    ap (λ bs. eqb (x % 2) 1 ∷ bs) (bits_last n (x / 2) ∙ ap (λ z. bits n (x / 2) ++ eqb (z % 2) 1 ∷ []) (shr-shr x 1 n ∙ ap (λ i. x / 2 ^ i) e))

pub bits_more : (vs : List Bool) (n x : ℕ) → vs ++ bits (n + 1) x ≡ (vs ++ bits n x) ++ eqb (bit_and (x / 2 ^ n) 1) 1 ∷ []
bits_more vs n x = rw (add-one n, shr_and_one x n, append_assoc) (ap (λ bs. vs ++ bs) (bits_last n x))

-- The number of a few names is far below the largest.
pub number_few : (f : ℕ → Bool) (names : List ℕ) (i : ℕ) → length names ≤ 10 → number (map f (drop i names)) < 1024
number_few f names i h =
    let long : length (map f (drop i names)) ≤ 10 = rw (length-map (drop i names) f) (simp length-drop (omega arith)) in
    omega (arith, number_small (map f (drop i names)), pow_mono {i = length (map f (drop i names))} {j = 10} long)

-- How many values there are before the gates.
pub ruleset lengths = (length-append, length_bits)

-- How many moves there are, and where each goes.
pub ruleset moves = (counted_length, counted_at, nat_tests)

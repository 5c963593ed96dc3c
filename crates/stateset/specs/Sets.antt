-- Sets of states as rows of bytes.
use Rattle.std.specs.Prelude.{◌≡◌, ℕ, zero, suc, ◌+◌, ◌*◌, ◌/◌, ◌%◌, ◌^◌, ◌<◌, Bool, true, false, cond, not, ◌&&◌, List, [], ◌∷◌, ◌++◌, take, drop, ◌==◌, slice_index, slice_index_or}

-- State s is bit s mod 8 of byte s / 8; past the end no bit is set.
abbrev pub bit_at : List ℕ → ℕ → Bool
bit_at bytes s = slice_index bytes (s / 8) / 2 ^ (s % 8) % 2 == 1

-- Each element is a byte.
abbrev pub Bytes : List ℕ → Type 0
Bytes [] = Unit {0}
Bytes (b ∷ bs) = (b < 256) × Bytes bs

-- The lowest m bits of a number, bit 0 first; and the number of a row of bits.
abbrev pub bits : ℕ → ℕ → List Bool
bits zero x = []
bits (suc m) x = (x % 2 == 1) ∷ bits m (x / 2)

abbrev pub number : List Bool → ℕ
number [] = 0
number (b ∷ bs) = cond b 1 0 + 2 * number bs

-- All bits of a row of bytes, in the order of the states.
abbrev pub unpack : List ℕ → List Bool
unpack [] = []
unpack (b ∷ bs) = bits 8 b ++ unpack bs

-- The two ways to see a row agree: the flag of state s is its bit.
abbrev pub FlagsAreBits : Type 0
FlagsAreBits = (bytes : List ℕ) (s : ℕ) → slice_index_or (unpack bytes) s false ≡ bit_at bytes s

-- No flag is true.
abbrev pub none : List Bool → Bool
none [] = true
none (b ∷ bs) = not b && none bs

-- The set of n states that a row of bytes has, flag by flag; and that it has no bit at n or above.
abbrev pub set_of : ℕ → List ℕ → List Bool
set_of n bytes = take n (unpack bytes)

abbrev pub clear : ℕ → List ℕ → Bool
clear n bytes = none (drop n (unpack bytes))

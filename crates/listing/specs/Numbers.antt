-- Numbers of 16 bits, the low byte first.
use Rattle.std.specs.Prelude.{ℕ, ◌+◌, ◌*◌, ◌/◌, ◌%◌, List, [], ◌∷◌, map, length, slice_index}
use Rattle.std.specs.Simd.{first_chunks}

abbrev pub put16s : List ℕ → List ℕ
put16s [] = []
put16s (x ∷ xs) = (x % 256) ∷ (x / 256) ∷ put16s xs

-- Of a row of bytes, two bytes a number; and of a row of pairs of bytes.
abbrev pub u16s : List ℕ → List ℕ
u16s [] = []
u16s (low ∷ []) = []
u16s (low ∷ high ∷ bytes) = (low + high * 256) ∷ u16s bytes

abbrev pub numbers : List (List ℕ) → List ℕ
numbers pairs = map (λ b. slice_index b 0 + slice_index b 1 * 256) pairs

-- A row of bytes, cut into pairs.
abbrev pub pairs : List ℕ → List (List ℕ)
pairs bytes = first_chunks 2 (length bytes / 2) bytes

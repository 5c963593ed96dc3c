-- The line of a case file.
use Rattle.std.specs.Prelude.{ℕ, List, [], ◌++◌, codes, slice_get, unwrap_or}
use Rattle.std.specs.Str.Lines.{lines}

-- The first line of a text, or nothing where it has none.
abbrev pub first_line : List ℕ → List ℕ
first_line text = unwrap_or (slice_get (lines text) 0) []

-- The name, and the first line of the text.
abbrev pub case_line : List ℕ → List ℕ → List ℕ
case_line name text = name ++ (codes ": " ++ (first_line text ++ codes "\n"))

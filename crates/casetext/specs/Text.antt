-- The text that tells a case file's first table.
use Rattle.std.specs.Prelude.{ℕ, cond, List, [], ◌++◌, length, Ok, Err, codes, Result, ◌==◌}
use Rattle.fault.specs.declared.Fault.{Fault}
use Rattle.fault.specs.Faults.{moved_by, refusal_line}
use Rattle.listing.specs.Listed.{Listed, meaning_of, targets_of}
use Rattle.listing.specs.Read.{read_of}
use Rattle.casefile.specs.declared.Kind.{Kind}
use Rattle.casefile.specs.declared.Kind.TheVariants.{ListedTable, RegisterTable}
use Rattle.casefile.specs.Contents.{kind_text, Part, Laid, contents_of}
use Rattle.tabletext.specs.Text.{newline, table_text}

-- What is not shown yet is named; a second table of length 0 is absent.
abbrev pub second_text : Kind → Part → List ℕ
second_text k p = cond (length p.bytes == 0) [] (codes "not shown yet: second table, section " ++ (kind_text k ++ newline))

-- A listed table and what follows it, or its refusal; the section begins at `at`.
abbrev pub listed_text : ℕ → Result Listed Fault → List ℕ → List ℕ
listed_text at (Ok t) more = table_text (meaning_of t) (targets_of t) ++ more
listed_text at (Err e) more = refusal_line (moved_by at e)

abbrev pub first_text : Kind → Part → List ℕ → List ℕ
first_text ListedTable p more = listed_text p.at (read_of p.bytes) more
first_text RegisterTable p more = codes "not shown yet: first table, section R\n"

abbrev pub contents_text : Result Laid Fault → List ℕ
contents_text (Ok l) = first_text l.first_kind l.first (second_text l.second_kind l.second)
contents_text (Err e) = refusal_line e

abbrev pub case_text : List ℕ → List ℕ
case_text file = contents_text (contents_of file)

use Rattle.std.proofs.Common.{◌≡◌, ℕ, List, take, Option, Some, None, IfSome, ap, ◌∙◌, rules}
use Rattle.std.specs.Option.{option_map}
use Rattle.std.proofs.lemmas.List.{take-take}
use Rattle.caseio.proofs.read_case.Goals as goal

-- A reader's bytes up to a limit, cut there once more.
known_cut : (known : Option (List ℕ)) (n : ℕ) (got : List ℕ) → IfSome (option_map (take n) known) (λ xs. got ≡ xs) → IfSome known (λ all. take n got ≡ take n all)
known_cut None n got e = tt
known_cut (Some all) n got e = ap (take n) e ∙ take-take n n all (search rules)

pub returns-clause-bytes : goal.returns-clause-bytes
returns-clause-bytes g c =
    let from_empty = rw c.new-bytes.ensures.items at c.in_ok-read_to_end.ensures.bytes in
    let of_reader = rw c.take.ensures.inner at (rw c.take.ensures.limit at from_empty) in
    rw c.truncate.ensures.items (known_cut (g.R.Read.remaining c.args.reader) 65537 _ of_reader)

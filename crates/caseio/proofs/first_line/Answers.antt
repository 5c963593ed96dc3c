use Rattle.std.proofs.Common.{◌≡◌, List, [], ◌∷◌, Option, Some, None, unwrap_or, slice_get, ap, refl, ◌∙◌}
use Rattle.std.specs.Str.Iter.{lines_steps}
use Rattle.std.proofs.lemmas.Iterator.{YieldsList}
use Rattle.std.proofs.lemmas.Iterator.Splits.{YieldsList-from_lines}
use Rattle.caseio.proofs.first_line.Goals as goal

-- The first call of a run gives the first of what the run gives, or else nothing.
first_given : {S A B : Type 0} (steps : S → Option A → S → Type 0) (v : A → B) (s t : S) (ys : List B) (r : Option A) (other : A) → YieldsList steps v s ys → steps s r t → v (unwrap_or r other) ≡ unwrap_or (slice_get ys 0) (v other)
first_given steps v s t [] None other run step = refl
first_given steps v s t (y ∷ ys) None other run step = absurd (run.runs.0 t step)
first_given steps v s t [] (Some x) other run step = absurd (run.runs x t step)
first_given steps v s t (y ∷ ys) (Some x) other run step = (run.runs.1 x t step).0

pub returns : goal.returns
returns c =
    ap (λ x. x.now) c.unwrap_or.ensures
    ∙ first_given lines_steps (λ x. x.now) c.lines.result c.next.new.self _ c.next.result _ (YieldsList-from_lines c.args.text.now c.lines.ensures.rest) c.next.ensures.steps

use Rattle.std.proofs.Common.{◌≡◌, Ok, Err, sym, refl, ap, ◌∙◌, rules}
use Rattle.fault.specs.declared.Fault.{Fault}
use Rattle.fault.specs.Checks.{is_ok, mapped, given}
use Rattle.listing.specs.Numbers.{pairs}
use Rattle.listing.specs.Read.{table_of, passes}
use Rattle.listing.specs.Parts.{listed_in}
use Rattle.listing.proofs.Order.{moves_made, start_made, made, counts_are, targets_are, told, refused}
use Rattle.listing.proofs.read_body.Goals as goal

pub returns-in_err-check_sets : goal.returns-in_err-check_sets
returns-in_err-check_sets c =
    let n = c.args.n.states in let a = c.args.n.atoms in let b = c.args.n.fairness_sets in let rest = c.args.rest.now in
    let f : Fault = c.in_err-check_sets.field-0.0 in
    let e : c.from_residual-in_err-check_sets.result ≡ Err f = search rules in
    ap (mapped listed_in) e ∙ refused n a b rest f (told n a b rest c.in_ok-check_sizes.ensures.sizes _ _ _ _ (Err f) c.check_sizes.ensures.value c.check_sets.ensures refl refl
    (λ i. made (c.in_ok-check_sizes.was i) (c.in_err-check_sets.was i) (moves_made n a b rest) (start_made n a b rest)))

pub returns-in_err-check_moves : goal.returns-in_err-check_moves
returns-in_err-check_moves c =
    let n = c.args.n.states in let a = c.args.n.atoms in let b = c.args.n.fairness_sets in let rest = c.args.rest.now in
    let f : Fault = c.in_err-check_moves.field-0.0 in
    let e : c.from_residual-in_err-check_moves.result ≡ Err f = search rules in
    let moves : c.check_moves.result ≡ moves_made n a b rest = search rules in
    ap (mapped listed_in) e ∙ refused n a b rest f (told n a b rest c.in_ok-check_sizes.ensures.sizes _ _ _ _ (Err f) c.check_sizes.ensures.value c.check_sets.ensures moves refl
    (λ i. made (c.in_ok-check_sizes.was i) (c.in_ok-check_sets.was i) (c.in_err-check_moves.was i) (start_made n a b rest)))

pub returns-in_err-need : goal.returns-in_err-need
returns-in_err-need c =
    let n = c.args.n.states in let a = c.args.n.atoms in let b = c.args.n.fairness_sets in let rest = c.args.rest.now in
    let f : Fault = c.in_err-need.field-0.0 in
    let e : c.from_residual-in_err-need.result ≡ Err f = search rules in
    let moves : c.check_moves.result ≡ moves_made n a b rest = search rules in
    let start : c.need.result ≡ start_made n a b rest = search rules in
    ap (mapped listed_in) e ∙ refused n a b rest f (told n a b rest c.in_ok-check_sizes.ensures.sizes _ _ _ _ (Err f) c.check_sizes.ensures.value c.check_sets.ensures moves start
    (λ i. made (c.in_ok-check_sizes.was i) (c.in_ok-check_sets.was i) (c.in_ok-check_moves.was i) (c.in_err-need.was i)))

pub invariant_of-result : goal.invariant_of-result
unfolding passes
invariant_of-result c =
    let n = c.args.n.states in let a = c.args.n.atoms in let b = c.args.n.fairness_sets in let rest = c.args.rest.now in
    let moves : c.check_moves.result ≡ moves_made n a b rest = search rules in
    let start : c.need.result ≡ start_made n a b rest = search rules in
    record {
      passed = ap is_ok (told n a b rest c.in_ok-check_sizes.ensures.sizes _ _ _ _ (Ok tt) c.check_sizes.ensures.value c.check_sets.ensures moves start
          (λ i. made (c.in_ok-check_sizes.was i) (c.in_ok-check_sets.was i) (c.in_ok-check_moves.was i) (c.in_ok-need.was i)));
      counted = c.as_chunks.ensures.front ∙ ap pairs (counts_are n a b rest);
      targeted = c.as_chunks-2.ensures.front ∙ ap pairs (targets_are n a b rest);
    }

pub returns : goal.returns
returns c =
    let n = c.args.n.states in let a = c.args.n.atoms in let b = c.args.n.fairness_sets in let rest = c.args.rest.now in
    let moves : c.check_moves.result ≡ moves_made n a b rest = search rules in
    let start : c.need.result ≡ start_made n a b rest = search rules in
    sym (ap (λ r. given r (table_of n a b rest)) (told n a b rest c.in_ok-check_sizes.ensures.sizes _ _ _ _ (Ok tt) c.check_sizes.ensures.value c.check_sets.ensures moves start
    (λ i. made (c.in_ok-check_sizes.was i) (c.in_ok-check_sets.was i) (c.in_ok-check_moves.was i) (c.in_ok-need.was i))))

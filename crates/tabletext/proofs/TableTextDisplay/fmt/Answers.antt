use Rattle.std.proofs.Common.{ap, is_ok, rules}
use Rattle.std.proofs.Output.{writes_on_IsOk-append}
use Rattle.tabletext.specs.declared.Set.TheVariants.{Atom, Fairness}
use Rattle.tabletext.specs.Text.{set_line, row_line}
use Rattle.tabletext.proofs.TableTextDisplay.fmt.Goals as goal

pub returns-clause-writes : goal.returns-clause-writes
returns-clause-writes g c =
    let took = g.W.Write.write_str_gives in
    let table = c.args.self.now.table.now in
    let M = g.T.Table.meaning table in
    let atoms = rw c.atoms.ensures at c.write_each.ensures (λ j. set_line M (Atom j)) (search rules) in
    let fairness = rw c.fairness_sets.ensures at c.write_each-2.ensures (λ i. set_line M (Fairness i)) (search rules) in
    let rows = rw c.states.ensures at c.write_each-3.ensures (row_line (g.T.Table.targets table)) (search rules) in
    writes_on_IsOk-append took _ _ _ _ _ _ _ (λ _. ap is_ok c.in_ok-write_counts.was) c.write_counts.ensures
    (writes_on_IsOk-append took _ _ _ _ _ _ _ (λ _. ap is_ok c.in_ok-write_set.was) c.write_set.ensures
    (writes_on_IsOk-append took _ _ _ _ _ _ _ (λ _. ap is_ok c.in_ok-write_each.was) atoms
    (writes_on_IsOk-append took _ _ _ _ _ _ _ (λ _. ap is_ok c.in_ok-write_each-2.was) fairness rows)))

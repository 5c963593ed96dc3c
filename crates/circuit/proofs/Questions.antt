-- What a circuit answers of what it does not name.
use Rattle.std.proofs.Common.{◌≡◌, ℕ, ◌≤◌, false, ltb, List, length, get_or, ap, ◌∙◌}
use Rattle.std.proofs.lemmas.List.{get_or_past}
use Rattle.std.proofs.lemmas.Bool.{and_right}
use Rattle.circuit.specs.Circuit.{Circuit}
use Rattle.circuit.specs.Values.{value, values}
use Rattle.circuit.specs.Table.{size, holds}
use Rattle.circuit.proofs.Gates.{value_zero}

-- What is not named holds nowhere.
pub holds_nowhere : (c : Circuit) (names : List ℕ) (j s : ℕ) → length names ≤ j → holds c (get_or names j 0) s ≡ false
holds_nowhere c names j s h = and_right (ltb s (size c)) _ (ap (value (values c s 0)) (get_or_past names j 0 h) ∙ value_zero c s 0)

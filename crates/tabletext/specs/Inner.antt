-- What the functions of the crate tell each other; no promise of the crate speaks of it.
use Rattle.std.specs.Prelude.{ℕ, ◌<◌, List, Result}
use Rattle.std.specs.Fmt.{WritesOnOk}
use Rattle.std.specs.declared.fmt.Error.{Error}
use Rattle.std.specs.declared.fmt.Formatter.{Formatter}
use denote.Ref.{MutBor}

-- Each call at a number below n writes the number's text.
abbrev pub WritesEachBelow : {W : Type 0} → (W → List ℕ → W → Type 0) → (ℕ → MutBor (Formatter W) → Result (Unit {0}) Error → MutBor (Formatter W) → Type 0) → ℕ → (ℕ → List ℕ) → Type 0
WritesEachBelow {W} took calls n text = (i : ℕ) (f g : MutBor (Formatter W)) (r : Result (Unit {0}) Error) → i < n → calls i f r g → WritesOnOk took f.now r (text i) g.now

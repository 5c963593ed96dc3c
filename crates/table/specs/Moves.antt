-- Questions about the moves of one state, over the relation alone.
use Rattle.std.specs.Prelude.{ℕ, zero, suc, Bool, true, false, not, ◌&&◌, ◌||◌}
use Rattle.table.specs.Meaning.{Meaning}

-- Some number below n has P; every number below n has P.
unfoldable pub some_below : ℕ → (ℕ → Bool) → Bool
some_below zero P = false
some_below (suc n) P = some_below n P || P n

unfoldable pub every_below : ℕ → (ℕ → Bool) → Bool
every_below zero P = true
every_below (suc n) P = every_below n P && P n

-- s moves to a state with P; every state that s moves to has P.
unfoldable pub some_move : Meaning → ℕ → (ℕ → Bool) → Bool
some_move M s P = some_below M.states (λ t. M.moves s t && P t)

unfoldable pub every_move : Meaning → ℕ → (ℕ → Bool) → Bool
every_move M s P = every_below M.states (λ t. not (M.moves s t) || P t)

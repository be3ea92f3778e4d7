-- `call::put_number` meets its contract. Assumes nothing.
use mathlib.Core.List.{[], ◌∷◌}
use Rattle.blanking.specs.Puts.{puts-both}
use Rattle.blanking.proofs.call.put_number.Goals as goal

pub returns : goal.returns
returns c =
    puts-both (32 ∷ []) _ _ _ _ _ _ _ (λ _. c.put-spaced.ensures)
    (λ _. c.put_decimal.ensures)

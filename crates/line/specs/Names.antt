-- The names of the types that are an Option: what is on the line, and the byte that takes the transmit FIFO below its threshold.
-- Assumes nothing.
use Rattle.std.specs.Prelude.{ℕ, Option}
use Rattle.model.specs.declared.Frame.{Frame}

abbrev pub Receiving : Type 0
Receiving = Option Frame

abbrev pub Below : Type 0
Below = Option ℕ

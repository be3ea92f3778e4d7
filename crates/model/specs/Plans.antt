-- The settling of a call. Assumes nothing.
use Rattle.std.specs.Prelude.{ℕ}
use Rattle.model.specs.State.{Uart}
use Rattle.model.specs.Settle.{Settled, settle}
use Rattle.model.specs.Calls.{dated}

-- the settling of a call that changes nothing before it
abbrev pub settle_at : {H W : Type 0} → ℕ → Uart H W → Settled H W
settle_at now u = settle now (dated now u)

-- When the first host byte that waits may start. Assumes nothing.
use Rattle.std.specs.Prelude.{ℕ, ltb, Some, None}
use Rattle.model.specs.Numbers.{choose}
use Rattle.model.specs.Names.{Date}

-- the date of the first run, where host bytes and runs wait
unfoldable pub waiting_at : ℕ → ℕ → ℕ → Date
waiting_at host runs date = choose (ltb 0 host) (choose (ltb 0 runs) (Some date) None) None

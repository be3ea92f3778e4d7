-- `main` meets its contract: set-up that is ready gives a UART within the limits. Assumes nothing.
use native.Mathlib.Omega.{arith}
use Rattle.bench_mixed.proofs.main.Goals as goal

pub run-requires : goal.run-requires
run-requires c = c.new-made.ensures.good c.in-Ok.is

-- What each loop of `passes::take_all_on_the_line` keeps, and what gets less.
use Prim.Native.Nat.{ℕ, ◌-◌, ◌≤◌}
use Rattle.model.specs.State.{Uart}
use Rattle.model.specs.Settle
use Rattle.model.specs.Events.{passes_in}
use Rattle.device.specs.Receives.{Fit, with}
use Rattle.device.specs.Rounds.{Ran, blank}
use Rattle.device.proofs.passes.take_all_on_the_line.Given as goal

abbrev pub invariant-loop-settings : goal.invariant-loop-settings
invariant-loop-settings l =
    Fit l.at l.host l.run_at l.run_len l.rx
    × ((u : Uart ℕ ℕ)
    → Ran l.settings l.date (with l.at l.host l.run_at l.run_len l.rx u) l.passes l.overflows
    (Settle.passes l.settings l.date (with l.initial.at l.host l.run_at l.initial.run_len l.initial.rx u)))
    × (l.overflows ≤ l.passes)
    × (passes_in (Settle.passes l.settings l.date (with l.initial.at l.host l.run_at l.initial.run_len l.initial.rx blank)).events ≤ 2052)

abbrev pub decreases-loop-settings : goal.decreases-loop-settings
decreases-loop-settings l =
    passes_in (Settle.passes l.settings l.date (with l.initial.at l.host l.run_at l.initial.run_len l.initial.rx blank)).events - l.passes

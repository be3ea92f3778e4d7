-- A Deadline after it is armed, and after a call. Assumes nothing.
use Rattle.std.specs.Prelude.{ℕ, Some}
use Rattle.model.specs.Arm.{armed, called}
use Rattle.deadline.specs.declared.Deadline.{Deadline}

abbrev pub armed_at : Deadline → ℕ → Deadline
armed_at d at = record { due = armed (Some at) d.due }

abbrev pub called_at : Deadline → ℕ → Deadline
called_at d at = record { due = called at d.due }

-- `results::row_reply` meets its contract, case by case. Assumes nothing.
use mathlib.Core.Path.{ap, sym, ◌∙◌}
use Prim.Native.Nat.{ℕ}
use Rattle.ffi.specs.Replies.{plain_row}
use Rattle.ffi.specs.declared.results.PlainRow.{PlainRow}
use Rattle.ffi.proofs.results.row_reply.Goals as goal

abbrev refused : ℕ → PlainRow
refused n = record { number = n; made = 0; first = 0; second = 0 }

pub returns-in-Ok : goal.returns-in-Ok
unfolding plain_row
returns-in-Ok c = sym (ap plain_row c.in-Ok.is)

pub returns-in-Err : goal.returns-in-Err
unfolding plain_row
returns-in-Err c = ap refused c.number_of.ensures ∙ sym (ap plain_row c.in-Err.is)

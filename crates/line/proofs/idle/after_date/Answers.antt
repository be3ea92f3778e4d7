-- `idle::after_date` meets its contract, case by case. Assumes nothing.
use Rattle.model.specs.Line.{after_date}
use Rattle.line.proofs.idle.after_date.Goals as goal

pub enum_told-1 : goal.enum_told-1
enum_told-1 c = c.in-None.in-None-own.keys1

pub enum_known-at : goal.enum_known-at
enum_known-at c = c.in-Some.in-Some-own.keys2

pub returns-in-None : goal.returns-in-None
unfolding after_date
returns-in-None c = rw c.in-None.is

pub returns-in-Some : goal.returns-in-Some
unfolding after_date
returns-in-Some c = rw (c.in-Some.is, c.after.ensures)

-- `next::next_start` meets its contract, case by case. Assumes nothing.
use Rattle.line.specs.Instants.{next_start}
use Rattle.line.proofs.next.next_start.Goals as goal

pub enum_told-1 : goal.enum_told-1
enum_told-1 c = c.in-None.in-None-own.keys1

pub enum_known-waiting : goal.enum_known-waiting
enum_known-waiting c = c.in-Some.in-Some-own.keys2

pub returns-in-None : goal.returns-in-None
unfolding next_start
returns-in-None c = rw c.in-None.is

pub returns-in-Some : goal.returns-in-Some
unfolding next_start
returns-in-Some c = rw (c.in-Some.is, c.later.ensures)

-- `next::next_landing` meets its contract, by cases on what is on the line. Assumes nothing.
use Rattle.line.specs.Instants.{next_landing}
use Rattle.line.proofs.next.next_landing.Goals as goal

pub enum_told-1 : goal.enum_told-1
enum_told-1 c = c.in-None.in-None-own.keys1

pub enum_told-in-Some : goal.enum_told-in-Some
enum_told-in-Some c = c.in-Some.in-Some-own.keys2

pub returns-in-None : goal.returns-in-None
unfolding next_landing
returns-in-None c = rw (c.in-None.is, c.after_date.ensures, c.next_start.ensures)

pub returns-in-Some : goal.returns-in-Some
unfolding next_landing
returns-in-Some c = rw c.in-Some.is

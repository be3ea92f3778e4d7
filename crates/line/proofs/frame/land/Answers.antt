-- `frame::land` meets its contract, case by case. Assumes nothing.
use Rattle.model.specs.Line.{raise_if, land}
use Rattle.line.proofs.frame.land.Goals as goal

pub enum_told-1 : goal.enum_told-1
enum_told-1 c = c.in-Stored.in-Stored-own.keys1

pub enum_told-in-Overflowed : goal.enum_told-in-Overflowed
enum_told-in-Overflowed c = c.in-Overflowed.in-Overflowed-own.keys2

pub enum_told-in-Cleared : goal.enum_told-in-Cleared
enum_told-in-Cleared c = c.in-Cleared.in-Cleared-own.keys3

pub enum_told-in-ClockOff : goal.enum_told-in-ClockOff
enum_told-in-ClockOff c = c.in-ClockOff.in-ClockOff-own.keys4

pub enum_told-in-Unheard : goal.enum_told-in-Unheard
enum_told-in-Unheard c = c.in-Unheard.in-Unheard-own.keys5

pub returns-in-Stored : goal.returns-in-Stored
unfolding land
returns-in-Stored c = rw c.in-Stored.is c.open_idle_line.ensures

pub returns-in-Overflowed : goal.returns-in-Overflowed
unfolding land raise_if
returns-in-Overflowed c = rw (c.in-Overflowed.is, c.open_idle_line-in-Overflowed.ensures, c.raise_if.ensures)

pub returns-in-Cleared : goal.returns-in-Cleared
unfolding land
returns-in-Cleared c = rw c.in-Cleared.is c.open_idle_line-in-Cleared.ensures

pub returns-in-ClockOff : goal.returns-in-ClockOff
unfolding land
returns-in-ClockOff c = rw c.in-ClockOff.is

pub returns-in-Unheard : goal.returns-in-Unheard
unfolding land
returns-in-Unheard c = rw c.in-Unheard.is

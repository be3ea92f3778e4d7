-- `levels::settling_date` meets its contract, by cases on the power-down. Assumes nothing.
use Rattle.model.specs.Numbers.{earliest, instant_of}
use Rattle.line.proofs.levels.settling_date.Goals as goal

pub enum_told-1 : goal.enum_told-1
enum_told-1 c = c.in-None.in-None-own.keys1

pub enum_known-powered_down_at : goal.enum_known-powered_down_at
enum_known-powered_down_at c = c.in-Some.in-Some-own.keys2

pub returns-in-None : goal.returns-in-None
unfolding earliest instant_of
returns-in-None c = rw c.in-None.is c.subcycles-date.ensures

pub returns-in-Some : goal.returns-in-Some
unfolding earliest instant_of
returns-in-Some c =
    rw (c.in-Some.is, ← c.subcycles-date.ensures) c.earlier.ensures

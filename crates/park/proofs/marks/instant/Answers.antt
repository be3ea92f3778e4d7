-- `marks::instant` meets its contract, by its cases. Assumes nothing.
use Rattle.model.specs.Numbers.{instant_of}
use borrow.Author.Rules.{rules}
use Rattle.park.proofs.marks.instant.Goals as goal

pub returns-in-None : goal.returns-in-None
unfolding instant_of
returns-in-None c = search rules

pub returns-in-Some : goal.returns-in-Some
unfolding instant_of
returns-in-Some c = search rules

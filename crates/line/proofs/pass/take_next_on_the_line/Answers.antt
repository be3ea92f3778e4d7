-- `pass::take_next_on_the_line` meets its contract: its two steps are the move. Assumes nothing.
use Rattle.line.specs.Begins.{move_on, moved}
use Rattle.line.proofs.pass.take_next_on_the_line.Goals as goal

pub returns-in-None : goal.returns-in-None
unfolding move_on
returns-in-None c =
    moved c.args.settings c.args.date
    c.args.held c.args.waiting
    c.args.receiving c.args.line
    c.begin-b.ensures c.in-None.is c.idle.ensures

pub returns-in-Some : goal.returns-in-Some
unfolding move_on
returns-in-Some c =
    moved c.args.settings
    c.args.date c.args.held
    c.args.waiting c.args.receiving
    c.args.line c.begin-b.ensures
    c.in-Some.is c.in_frame.ensures

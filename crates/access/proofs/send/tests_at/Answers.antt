-- `send::tests_at` meets its contract. Assumes nothing.
use mathlib.Core.Path.{sym, ap, ◌∙◌}
use mathlib.Core.Bool.{Bool}
use Rattle.access.specs.ByPlace.{tests_at}
use Rattle.access.proofs.send.tests_at.Goals as goal

pub returns-then-fifo : goal.returns-then-fifo
unfolding tests_at
returns-then-fifo c =
    let o = c.args in
    c.send_refusal.ensures ∙ sym (ap (λ (f : Bool). tests_at f o.cycle o.last o.left o.flying) c.if-fifo.true)

pub returns-else-fifo : goal.returns-else-fifo
unfolding tests_at
returns-else-fifo c =
    let o = c.args in
    c.date_refusal.ensures ∙ sym (ap (λ (f : Bool). tests_at f o.cycle o.last o.left o.flying) c.if-fifo.false)

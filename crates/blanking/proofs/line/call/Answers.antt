-- `line::call` meets its contract: a set-up, figures, a call after a set-up, or one before. Assumes nothing.
use mathlib.Core.Path.{refl, sym, ◌∙◌}
use Rattle.blanking.specs.LineLaws.{call-room, blanks-set-up, blanks-figures, blanks-call, blanks-none, map_same}
use Rattle.blanking.proofs.line.call.Goals as goal

pub put_call-end-requires-clause-s_in_bounds : goal.put_call-end-requires-clause-s_in_bounds
put_call-end-requires-clause-s_in_bounds c =
    let a = c.args in
    (call-room a.out.now a.at _ a.name a.all a.last a.bytes.now a.s.now
    (c.requires.bytes_len_bound, c.requires.longest_in_bounds)).1

pub returns-in-SetUp : goal.returns-in-SetUp
returns-in-SetUp c =
    let a = c.args in
    let told = sym c.asks_of-asks.ensures ∙ c.in-SetUp.is in
    blanks-set-up a.trace a.name a.all a.last a.bytes.now a.s.now _ _ _ _ told
    (rw c.unwrap_or-offsets.ensures at c.put_call-end.ensures) (c.set_map.ensures ∙ map_same a.trace _ _ c.sixteen.ensures)

pub put_call-end-requires-in-Figures-clause-s_in_bounds : goal.put_call-end-requires-in-Figures-clause-s_in_bounds
put_call-end-requires-in-Figures-clause-s_in_bounds c =
    let a = c.args in
    (call-room a.out.now a.at _ a.name a.all a.last a.bytes.now a.s.now
    (c.requires.bytes_len_bound, c.requires.longest_in_bounds)).1

pub returns-in-Figures : goal.returns-in-Figures
returns-in-Figures c =
    let a = c.args in
    let told = sym c.asks_of-asks.ensures ∙ c.in-Figures.is in
    blanks-figures a.trace a.name a.all a.last a.bytes.now a.s.now _ _ _ _ told
    (rw c.unwrap_or-offsets.ensures at c.put_call-end-in-Figures.ensures) refl

pub put_call-end-requires-then-is_some-clause-s_in_bounds : goal.put_call-end-requires-then-is_some-clause-s_in_bounds
put_call-end-requires-then-is_some-clause-s_in_bounds c =
    let a = c.args in
    (call-room a.out.now a.at _ a.name a.all a.last a.bytes.now a.s.now
    (c.requires.bytes_len_bound, c.requires.longest_in_bounds)).1

pub returns-then-is_some : goal.returns-then-is_some
returns-then-is_some c =
    let a = c.args in
    let told = sym c.asks_of-asks.ensures ∙ c.in-Uart.is in
    blanks-call a.trace a.name a.all a.last a.bytes.now a.s.now _ _ _ _ told
    (sym c.is_some.ensures ∙ c.if-is_some.true)
    (rw c.unwrap_or-offsets.ensures at c.put_call-end-then-is_some.ensures) refl

pub returns-else-is_some : goal.returns-else-is_some
returns-else-is_some c =
    let a = c.args in
    let told = sym c.asks_of-asks.ensures ∙ c.in-Uart.is in
    blanks-none a.trace a.name a.all a.last a.bytes.now a.s.now _ _ _ _ told
    (sym c.is_some.ensures ∙ c.if-is_some.false)
    c.leave_out.ensures

-- `lines::first_call` meets its contract: what needs no UART, or the fault of a call that needs one. Assumes nothing.
use mathlib.Core.Path.{ap, sym, ◌∙◌}
use mathlib.Core.List.{map}
use lib.ListN.{take, drop}
use Rattle.trace.specs.Low.{low_of}
use Rattle.trace.specs.Pairs.{firsts_in, seconds_in}
use Rattle.trace.specs.Steps.{fault}
use Rattle.trace.specs.declared.faults.Fault.{Fault}
use Rattle.trace.specs.declared.faults.Reason.{Reason}
use Rattle.answers.specs.Faults.{fault_text}
use Rattle.trace.specs.declared.asks.Asks.{Asks}
use Rattle.session.specs.Requests.{sets_up, tells}
use Rattle.session.specs.Sessions.{stands_for}
use Rattle.session.specs.Lines.{says, no_uart, by_first, first_gives}
use Rattle.session.specs.Answers.{gives_as, not-ready}
use Rattle.session.proofs.lines.first_call.Goals as goal

pub returns-in-SetUp : goal.returns-in-SetUp
returns-in-SetUp c =
    let far = c in
    λ last bytes.
    let a = c.args in
    let ns = a.numbers in
    gives_as (ap (sets_up (take 16 (map low_of (drop 0 ns))) (take 16 (map low_of (drop 16 ns)))) (not-ready a.session
    c.requires.ready_value)
    ∙ ap (λ (f : Asks). by_first f ns a.s.now) (sym c.in-SetUp.is ∙ c.asks_of-asks.ensures)
    ∙ first_gives a.name ns last bytes a.s.now)
    c.set_up.ensures

pub returns-in-Figures : goal.returns-in-Figures
returns-in-Figures c =
    let far = c in
    λ last bytes.
    let a = c.args in
    let s = a.s.now in
    gives_as (ap (tells (firsts_in s) (seconds_in s)) (not-ready a.session c.requires.ready_value)
    ∙ ap (λ (f : Asks). by_first f a.numbers s) (sym c.in-Figures.is ∙ c.asks_of-asks.ensures)
    ∙ first_gives a.name a.numbers last bytes s)
    c.line_figures.ensures

pub returns-in-Uart : goal.returns-in-Uart
returns-in-Uart c =
    let far = c in
    λ last bytes.
    let a = c.args in
    let s = a.s.now in
    gives_as (ap (λ (f : Fault). says (fault_text s f) (stands_for a.session))
    (c.of-fault.ensures ∙ ap (fault Reason.NoUart) c.next_word.ensures.next)
    ∙ ap (says (no_uart s)) (not-ready a.session c.requires.ready_value)
    ∙ ap (λ (f : Asks). by_first f a.numbers s) (sym c.in-Uart.is
    ∙ c.asks_of-asks.ensures)
    ∙ first_gives a.name a.numbers last bytes s)
    c.wrong.ensures

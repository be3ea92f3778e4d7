-- `runs::join` meets its contract, by whether the last run is joined. Assumes nothing.
use native.Mathlib.Omega.{arith}
use mathlib.Core.Path.{sym, ◌∙◌}
use Rattle.device.specs.Joins.{joins_true, joins_false, grows, adds}
use Rattle.device.proofs.runs.join.Goals as goal

pub bounds-run_at-last : goal.bounds-run_at-last
bounds-run_at-last c = omega (arith, c.last-last.ensures.1, c.requires.1, c.requires.2)

pub bounds-run_len-last : goal.bounds-run_len-last
bounds-run_len-last c =
    omega (
      arith,
      c.last-last.ensures.1,
      c.requires.1,
      c.requires.2,
    )

pub overflow_add-run_len : goal.overflow_add-run_len
overflow_add-run_len c =
    let p = c.requires in
    let o = c.args in
    let test = sym c.joins_last.ensures ∙ c.if-joins_last.true in
    let early = rw c.last-last.ensures.0 at (joins_true _ _ _ test) in
    rw c.last-last.ensures.0 (omega (arith, p.3.fits early.0))

pub bounds-run_len-last-then-joins_last : goal.bounds-run_len-last-then-joins_last
bounds-run_len-last-then-joins_last c =
    omega (
      arith,
      c.last-last.ensures.1,
      c.requires.1,
      c.requires.2,
    )

pub bounds-run_at-at : goal.bounds-run_at-at
bounds-run_at-at c =
    omega (arith, c.back-at.ensures.1, c.requires.1, c.requires.2)

pub bounds-run_len-at : goal.bounds-run_len-at
bounds-run_len-at c =
    omega (arith, c.back-at.ensures.1, c.requires.1, c.requires.2)

pub pushed-requires : goal.pushed-requires
pushed-requires c = omega (arith, c.requires.0.few)

pub returns-then-joins_last : goal.returns-then-joins_last
returns-then-joins_last c =
    let p = c.requires in
    let o = c.args in
    let test = sym c.joins_last.ensures ∙ c.if-joins_last.true in
    let early = rw c.last-last.ensures.0 at (joins_true _ _ _ test) in
    rw c.last-last.ensures.0
    (grows o.date o.n o.runs o.run_at.now o.run_len.now p.0 p.1 p.2 early.0 early.1)

pub returns-else-joins_last : goal.returns-else-joins_last
returns-else-joins_last c =
    let p = c.requires in
    let o = c.args in
    let test = sym c.joins_last.ensures ∙ c.if-joins_last.false in
    let late = rw c.last-last.ensures.0 at (joins_false _ _ _ test) in
    rw (c.back-at.ensures.0, c.pushed.ensures)
    (adds o.date o.n o.runs o.run_at.now o.run_len.now p.0 p.1 p.2 (p.3.slot late) late)

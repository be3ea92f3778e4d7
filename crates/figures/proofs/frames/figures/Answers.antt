-- `frames::figures` meets its contract. The loop's invariant: the frames before the i-th are passed, in order, and what is left gives the
-- figures of all. Assumes nothing.
use mathlib.Core.Path.{ap, ◌∙◌}
use native.Mathlib.Omega.{arith}
use borrow.Author.Rules.{rules}
use Rattle.std.specs.Prelude.{Ok}
use Rattle.std.proofs.Common.{length-append}
use Rattle.std.proofs.lemmas.Slice.Zip.{zip_turn, zip_end}
use Rattle.figures.proofs.OnePass.{part_same, part-begins, other-lengths, too_many, part-ends, starts-early, ends-early}
use Rattle.figures.proofs.OnePass.{part-on}
use Rattle.figures.proofs.frames.figures.Goals.{then-starts-ends-via-then-starts-ends}
use Rattle.figures.proofs.frames.figures.Goals.{then-starts-ends-via-else-starts-ends+then-starts-gt-FRAMES}
use Rattle.figures.proofs.frames.figures.Goals.{then-start-so_far-via-then-start-so_far}
use Rattle.figures.proofs.frames.figures.Goals.{then-start-so_far-via-else-start-so_far+then-end-start}
use Rattle.figures.proofs.frames.figures.Goals as goal

pub returns-then-starts-ends : goal.returns-then-starts-ends
returns-then-starts-ends c =
    elim c.then-starts-ends.branch [
      | then-starts-ends-via-then-starts-ends w ↦ other-lengths _ _ w.if-starts-ends.true
      | then-starts-ends-via-else-starts-ends+then-starts-gt-FRAMES w ↦ too_many _ _ w.if-starts-ends.false w.if-starts-gt-FRAMES.true
    ]

pub loop-start-init : goal.loop-start-init
loop-start-init c = part_same c.begin-so_far.ensures (part-begins _ _)

pub returns-then-start-so_far : goal.returns-then-start-so_far
returns-then-start-so_far c =
    let past = c in
    let a = c.args in
    let t = zip_turn a.starts.now a.ends.now _ _ _ c.next.new.self _ (search rules) (search rules) c.loop-start.yielded_by _ c.in-Some.is
    c.next.ensures.steps in
    let same = c.if-starts-ends.false in
    let few = c.if-starts-gt-FRAMES.false in
    let part = c.loop-start.invariant in
    elim c.then-start-so_far.branch [
      | then-start-so_far-via-then-start-so_far w ↦
          starts-early _ _ same few _ _ part t.0 (omega (arith, t.2 0, w.if-start-so_far.true))
      | then-start-so_far-via-else-start-so_far+then-end-start w ↦
          ends-early _ _ same few _ _ part t.0 (omega (arith, t.2 0, w.if-start-so_far.false))
          (omega (arith, t.2 0, t.3 0, w.if-end-start.true))
    ]

pub loop-start-preserved : goal.loop-start-preserved
loop-start-preserved c =
    let past = c in
    let a = c.args in
    let t = zip_turn a.starts.now a.ends.now _ _ _ c.next.new.self _ (search rules) (search rules) c.loop-start.yielded_by _ c.in-Some.is
    c.next.ensures.steps in
    rw (length-append, c.next-so_far.ensures, t.2 0, t.3 0)
    (part-on _ _ c.if-starts-ends.false c.if-starts-gt-FRAMES.false _ _ c.loop-start.invariant
    t.0 (omega (arith, t.2 0, c.if-start-so_far.false)) (omega (arith, t.2 0, t.3 0, c.if-end-start.false)))

pub returns : goal.returns
returns c =
    let past = c in
    let a = c.args in
    let n = zip_end a.starts.now a.ends.now _ _ _ c.next.new.self _ (search rules) (search rules) c.loop-start.yielded_by c.in-None.is
    c.next.ensures.steps in
    ap Ok c.finish.ensures
    ∙ part-ends _ _ c.if-starts-ends.false c.if-starts-gt-FRAMES.false _ _ c.loop-start.invariant (omega (arith, n))

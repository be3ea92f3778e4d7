-- `frames::put_pairs` meets its contract. The loop's invariant: the pairs so far are put. Assumes nothing.
use mathlib.Core.Path.{refl, ap₂}
use lib.ListN.{length}
use lib.Seq.{take_all}
use native.Mathlib.Omega.{arith}
use borrow.Author.Rules.{rules}
use Rattle.std.proofs.Common.{length-append}
use Rattle.std.proofs.lemmas.Slice.Zip.{zip_turn, zip_end}
use Rattle.blanking.specs.Entries.{pairs}
use Rattle.blanking.specs.EntryLaws.{pairs-more}
use Rattle.blanking.specs.Puts.{puts-same, put-nothing, puts-both}
use Rattle.blanking.proofs.frames.put_pairs.Goals as goal

pub loop-start-init : goal.loop-start-init
unfolding pairs
loop-start-init c = (refl, λ _. put-nothing _ _)

pub loop-start-preserved : goal.loop-start-preserved
loop-start-preserved c =
    let past = c in
    let a = c.args in
    let w = c.loop-start in
    let t = zip_turn a.starts.now a.ends.now _ _ _ c.next.new.self _ (search rules) (search rules) w.yielded_by _ c.in-Some.is
    c.next.ensures.steps in (
      search rules,
      rw length-append
          (puts-same _ _ _ _ _ _ (pairs-more a.starts.now a.ends.now (length w.yielded) t.0 t.1)
          (puts-both _ _ _ _ _ _ _ _ w.invariant.1 (rw (t.2 0, t.3 0) at c.put_two-place.ensures))),
    )

pub returns : goal.returns
returns c =
    let past = c in
    let a = c.args in
    let w = c.loop-start in
    let n = zip_end a.starts.now a.ends.now _ _ _ c.next.new.self _ (search rules) (search rules) w.yielded_by c.in-None.is
    c.next.ensures.steps in
    puts-same _ _ _ _ _ _ (ap₂ pairs (take_all (length w.yielded) a.starts.now (omega (arith, n, c.requires)))
    (take_all (length w.yielded) a.ends.now (omega (arith, n, c.requires)))) w.invariant.1

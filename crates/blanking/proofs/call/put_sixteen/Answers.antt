-- `call::put_sixteen` meets its contract. The loop's invariant: the words so far are put. Assumes nothing.
use mathlib.Core.Path.{refl, ap}
use lib.Seq.{take_all}
use Rattle.blanking.specs.Entries.{numbers}
use Rattle.blanking.specs.EntryLaws.{numbers_more}
use Rattle.blanking.specs.Puts.{puts-same, put-nothing, puts-both}
use native.Mathlib.Omega.{arith}
use borrow.Author.Rules.{rules}
use Rattle.blanking.proofs.call.put_sixteen.Goals as goal

pub loop-word-init : goal.loop-word-init
unfolding numbers
loop-word-init c = (refl, λ _. put-nothing _ _)

pub loop-word-preserved : goal.loop-word-preserved
loop-word-preserved c =
    let w = c.loop-word in
    let words = c.args.words in (
      search rules,
      puts-same _ _ _ _ _ _ (numbers_more words w.word-index (omega arith))
          (puts-both _ _ _ _ _ _ _ _ w.invariant.1 c.put_number-place.ensures),
    )

pub returns : goal.returns
returns c =
    let w = c.loop-word in
    puts-same _ _ _ _ _ _ (ap numbers (take_all w.word-index c.args.words (omega arith))) w.invariant.1

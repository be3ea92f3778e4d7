-- `take::take_written` meets its contract: the buffer that is lent holds the marks. Assumes nothing.
use mathlib.Core.Path.{ap}
use mathlib.Core.Option.{some}
use mathlib.Core.List.{List, []}
use Prim.Native.Nat.{ℕ}
use Rattle.model.specs.Call.{Undated, Call, Asked}
use Rattle.uart.specs.Whole.{meaning}
use Rattle.session.specs.Requests.{calls}
use Rattle.session.specs.Answers.{gives_as}
use Rattle.session.specs.Taken.{lent-of, lent-marks, lent-few}
use Rattle.session.proofs.take.take_written.Goals as goal

pub lend_written-requires : goal.lend_written-requires
lend_written-requires c =
    let far = c in
    let m = c.marks-lent.ensures.value_2 in
    let n = c.within-m.ensures.value in
    record {
      good = c.requires.good;
      wide = c.requires.wide;
      lent_value = lent-marks c.args.size m n;
      lent_len_bound = lent-few c.args.size
          m n;
    }

pub returns : goal.returns
returns c =
    let far = c in
    gives_as (ap (λ (l : List ℕ). calls (Asked.call (Call.undated (Undated.take_written l))) []
    (some (meaning c.args.uart)))
    (lent-of c.args.size c.marks-lent.ensures.value_2
    c.within-m.ensures.value)) c.lend_written.ensures

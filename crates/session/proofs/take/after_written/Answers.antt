-- `take::after_written` meets its contract. Assumes nothing.
use mathlib.Core.Path.{sym}
use mathlib.Core.Bool.{Bool}
use mathlib.Core.List.{◌++◌}
use lib.ListN.{take, length-take}
use native.Mathlib.Omega.{arith}
use Rattle.text.specs.Ascii.{ascii}
use Rattle.text.specs.Chains.{put_of}
use Rattle.answers.specs.Replies.{hand_out_text}
use Rattle.answers.specs.Lengths.{refusal-short, written-short}
use Rattle.session.specs.HandOuts.{hand_out_of, written_line}
use Rattle.session.specs.Answers.{used}
use Rattle.session.proofs.take.after_written.Goals as goal

pub put_refusal-requires : goal.put_refusal-requires
put_refusal-requires c =
    let far = c in
    record { fits = omega (arith, c.requires.wide, refusal-short c.in-Err.refusal) }

pub put_written-requires : goal.put_written-requires
put_written-requires c =
    let a = c.args in
    let n = c.within-n.result in
    record {
      fits = omega (
        arith,
        c.requires.wide,
        c.requires.lent_len_bound,
        written-short (take n a.lent.now) c.same_marks-kept.result,
        length-take n a.lent.now,
      );
    }

pub returns-in-Err : goal.returns-in-Err
returns-in-Err c =
    let far = c in
    used (put_of (written_line c.args.lent.now)
    c.in-Err.is c.put_refusal.ensures)
    c.in_use.ensures

pub returns-in-Ok : goal.returns-in-Ok
returns-in-Ok c =
    let far = c in
    let a = c.args in
    let n = c.within-n.result in
    let end = ascii "\n" in
    used (put_of (written_line a.lent.now) c.in-Ok.is
    (put_of (hand_out_of end a.lent.now) (sym c.within-n.ensures.value)
    (put_of (λ (kept : Bool). hand_out_text (take n a.lent.now) kept ++ end)
    (sym c.same_marks-kept.ensures) c.put_written.ensures)))
    c.in_use-in-Ok.ensures

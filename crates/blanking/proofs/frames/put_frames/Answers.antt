-- `frames::put_frames` meets its contract. Assumes nothing.
use Rattle.blanking.specs.FrameLaws.{refused-frames, figured-frames}
use Rattle.blanking.specs.Puts.{puts-same}
use Rattle.blanking.proofs.frames.put_frames.Goals as goal

pub returns-in-Err : goal.returns-in-Err
returns-in-Err c =
    let kept = c.pairs_of-n.ensures in
    puts-same _ _ _ _ _ _ (refused-frames kept c.figures-answer.ensures c.in-Err.is)
    c.put_two.ensures

pub returns-in-Ok : goal.returns-in-Ok
returns-in-Ok c =
    let kept = c.pairs_of-n.ensures in
    puts-same _ _ _ _ _ _ (figured-frames kept c.figures-answer.ensures _ c.in-Ok.is)
    c.put_pairs.ensures

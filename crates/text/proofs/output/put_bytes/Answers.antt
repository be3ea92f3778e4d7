-- `output::put_bytes` meets its contract: `-` for none, and else two digits a byte where there is room. Assumes nothing.
use native.Mathlib.Omega.{arith}
use Rattle.text.specs.Output.{put-none, put_all}
use Rattle.text.specs.HexText.{pairs-length, text-some, text-none}
use Rattle.text.proofs.output.put_bytes.Goals as goal

pub returns-then-s-eq0 : goal.returns-then-s-eq0
returns-then-s-eq0 c = rw (text-none _ c.if-s-eq0.true) c.put.ensures

pub returns-then-room-s : goal.returns-then-room-s
returns-then-room-s c =
    let s = c.args.s.now in
    rw (text-some s (omega arith)) (put-none _ _ _ (omega (arith, pairs-length s)))

pub returns : goal.returns
returns c =
    let s = c.args.s.now in
    rw (text-some s (omega arith)) (put_all _ _ _ _ _ (omega (arith, pairs-length s)) c.spell_pairs.ensures
    (omega (arith, pairs-length s)))

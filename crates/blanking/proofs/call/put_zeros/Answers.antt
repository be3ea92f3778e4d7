-- `call::put_zeros` meets its contract. Assumes nothing.
use mathlib.Core.Path.{ap}
use Rattle.text.specs.HexText.{hex_text}
use Rattle.blanking.specs.EntryLaws.{zeros-front}
use Rattle.blanking.specs.Puts.{put_same}
use Rattle.blanking.proofs.call.put_zeros.Goals as goal

pub returns : goal.returns
returns c =
    let count = c.args.count in
    let room = c.requires in
    put_same _ _ _ _ _ _ (ap hex_text (zeros-front 32768 count room)) c.put_bytes.ensures

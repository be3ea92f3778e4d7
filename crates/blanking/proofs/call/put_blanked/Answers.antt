-- `call::put_blanked` meets its contract. Assumes nothing.
use mathlib.Core.Path.{ap}
use mathlib.Core.List.{[], ◌∷◌}
use Rattle.text.specs.HexText.{hex_text}
use Rattle.blanking.specs.EntryLaws.{zeros-for}
use Rattle.blanking.specs.Puts.{put_same, puts-both}
use Rattle.blanking.proofs.call.put_blanked.Goals as goal

pub returns : goal.returns
returns c =
    let a = c.args in
    puts-both (32 ∷ []) _ _ _ _ _ _ _ (λ _. c.put-spaced.ensures)
    (λ _. put_same _ _ _ _ _ _ (ap hex_text (zeros-for a.bytes.now a.count c.within-n.result c.within-n.ensures.value))
    c.put_zeros.ensures)

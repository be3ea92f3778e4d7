-- What the loop of `output::spell_pairs` keeps: the digits of the bytes so far are stored.
use Rattle.std.proofs.Common.{◌≡◌, ◌*◌}
use lib.Seq.{paste}
use Rattle.text.specs.HexText.{hex_pairs}
use Rattle.text.proofs.output.spell_pairs.Given as goal

abbrev pub invariant-loop-i : goal.invariant-loop-i
invariant-loop-i l = l.out ≡ paste l.initial.out l.at (hex_pairs l.s) (2 * l.i)

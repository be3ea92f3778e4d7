-- `fields::bit_at` meets its contract: a shift and a mask of one bit. Assumes nothing.
use Rattle.registers.specs.Masks.{shift-bit}
use Rattle.registers.proofs.fields.bit_at.Goals as goal

pub returns : goal.returns
returns c = shift-bit c.args.n c.args.word

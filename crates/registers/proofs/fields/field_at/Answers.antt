-- `fields::field_at` meets its contract: a shift and a mask. Assumes nothing.
use Rattle.registers.specs.Masks.{one-shifted-pos, shift-mask}
use Rattle.registers.proofs.fields.field_at.Goals as goal

pub overflow_sub-result : goal.overflow_sub-result
overflow_sub-result c = one-shifted-pos c.args.width c.requires.1

pub returns : goal.returns
returns c = shift-mask c.args.low c.args.width c.args.word c.requires.1

-- `new::made` meets its contract: the core that set-up makes, and its reply, in plain numbers. Assumes nothing.
use native.Mathlib.Omega.{arith}
use mathlib.Core.Path.{ap, ◌∙◌}
use Rattle.ffi.specs.Plain.{plain_core}
use Rattle.ffi.specs.Replies.{plain_set_up}
use Rattle.exports.specs.SetsUp.{sets-up}
use Rattle.exports.proofs.new.made.Goals as goal

pub returns : goal.returns
returns c = sets-up _ _ (omega arith)
    (c.plain_core-core.ensures ∙ ap plain_core c.new_core-new.ensures)
    (c.set_up_reply-reply.ensures ∙ ap plain_set_up c.set_up_reply-answer.ensures)

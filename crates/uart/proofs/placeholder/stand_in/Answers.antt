-- `placeholder::stand_in` meets its contract: its offsets all differ, so set-up is not refused. Assumes nothing.
use Rattle.model.specs.SetUp.{set_up_reply}
use Rattle.model.specs.Tests.{among, repeated}
use Rattle.model.specs.Numbers.{choose}
use Rattle.uart.proofs.placeholder.stand_in.Goals as goal

pub returns : goal.returns
unfolding set_up_reply repeated among choose
returns c = record { state = c.new-new.ensures.state; good = c.new-new.ensures.good c.new-new.ensures.replies }

-- `notices::plain_notice` meets its contract, case by case. Assumes nothing.
use mathlib.Core.Path.{ap, sym}
use Rattle.model.specs.Replies.{notice_numbers}
use Rattle.ffi.specs.Notes.{plain_unsupported}
use Rattle.ffi.proofs.notices.plain_notice.Goals as goal

pub returns-in-UartOverflow : goal.returns-in-UartOverflow
unfolding plain_unsupported notice_numbers
returns-in-UartOverflow c = sym (ap plain_unsupported c.in-UartOverflow.is)

pub returns-in-UartEmptyRead : goal.returns-in-UartEmptyRead
unfolding plain_unsupported notice_numbers
returns-in-UartEmptyRead c = sym (ap plain_unsupported c.in-UartEmptyRead.is)

pub returns-in-UartClock : goal.returns-in-UartClock
unfolding plain_unsupported notice_numbers
returns-in-UartClock c = sym (ap plain_unsupported c.in-UartClock.is)

pub returns-in-UartReceiveClock : goal.returns-in-UartReceiveClock
unfolding plain_unsupported notice_numbers
returns-in-UartReceiveClock c = sym (ap plain_unsupported c.in-UartReceiveClock.is)

pub returns-in-UartFeature : goal.returns-in-UartFeature
unfolding plain_unsupported notice_numbers
returns-in-UartFeature c = rw c.mode_number.ensures (sym (ap plain_unsupported c.in-UartFeature.is))

-- Replies and reports in plain numbers. Assumes nothing.
use Rattle.std.specs.Prelude.{Bool, true, false, ℕ, Some, None, Ok, Err}
use Rattle.model.specs.Replies.{number}
use Rattle.model.specs.declared.Refusal.{Refusal}
use Rattle.model.specs.declared.Report.{Report}
use Rattle.model.specs.Names.{SetUp, Read, Write, Done, Taken, Row}
use Rattle.calls.specs.declared.queries.HasLeft.{HasLeft}
use Rattle.calls.specs.declared.queries.HostPending.{HostPending}
use Rattle.ffi.specs.Plain.{plain_date}
use Rattle.ffi.specs.Notes.{plain_notices}
use Rattle.ffi.specs.declared.results.PlainReply.{PlainReply}
use Rattle.ffi.specs.declared.results.PlainReport.{PlainReport}
use Rattle.ffi.specs.declared.results.PlainRow.{PlainRow}

abbrev pub refused_reply : Refusal → PlainReply
refused_reply r = record { number = number r; holds = false; value = 0 }

abbrev pub carried_out : Bool → ℕ → PlainReply
carried_out holds value = record { number = 0; holds = holds; value = value }

unfoldable pub plain_read : Read → PlainReply
plain_read (Ok (Some n)) = carried_out true n
plain_read (Ok None) = carried_out false 0
plain_read (Err r) = refused_reply r

unfoldable pub plain_write : Write → PlainReply
plain_write (Ok accepted) = carried_out accepted 0
plain_write (Err r) = refused_reply r

unfoldable pub plain_done : Done → PlainReply
plain_done (Ok _) = carried_out true 0
plain_done (Err r) = refused_reply r

abbrev pub plain_set_up : SetUp → PlainReply
plain_set_up = plain_done

unfoldable pub plain_taken : Taken → PlainReply
plain_taken (Ok n) = carried_out true n
plain_taken (Err r) = refused_reply r

unfoldable pub plain_row : Row → PlainRow
plain_row (Ok m) = record { number = 0; made = m.count; first = m.first; second = m.second }
plain_row (Err r) = record { number = number r; made = 0; first = 0; second = 0 }

-- has_left and host_pending bring their number with them
abbrev pub plain_left : HasLeft → PlainReply
plain_left r = record { number = r.number; holds = r.has_left; value = 0 }

abbrev pub plain_pending : HostPending → PlainReply
plain_pending r = record { number = r.number; holds = true; value = r.count }

unfoldable pub plain_report : Report → PlainReport
plain_report r = record {
  level = r.level;
  wake = plain_date r.wake;
  overflows = r.overflows;
  passes = r.passes;
  noted = r.noted;
  notices = plain_notices r.notices r.noted;
}

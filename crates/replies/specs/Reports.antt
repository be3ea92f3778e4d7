-- The report of a dated call from its parts. Assumes nothing.
use Rattle.std.specs.Prelude.{◌≡◌, refl, ℕ, Bool, false, List, [], None}
use Rattle.model.specs.State.{Uart}
use Rattle.model.specs.Replies.{notices, report, no_report}
use Rattle.model.specs.Names.{Date}
use Rattle.model.specs.declared.Unsupported.{Unsupported}
use Rattle.model.specs.declared.Report.{Report}
use Rattle.replies.specs.Notices.{noted}
use Rattle.replies.specs.declared.notices.Notices.{Notices}

unfoldable pub reported : Bool → Date → ℕ → ℕ → Notices → Report
reported level wake overflows passes n =
    record { level = level; wake = wake; overflows = overflows; passes = passes; notices = n.list; noted = n.count }

-- the definition reads level and wake from the state that the call leaves
pub report-of : {H W : Type 0} (passes overflows : ℕ) (ns : List Unsupported) (u : Uart H W)
    → reported u.control.level u.control.wake overflows passes (noted ns) ≡ report passes overflows ns u
unfolding reported noted report
report-of passes overflows ns u = refl

-- the fixed report has no notice
pub reported_none : reported false None 0 0 (noted []) ≡ no_report
unfolding reported noted notices no_report
reported_none = refl

-- The text of a dated call's report, which ends its line. Assumes nothing.
use Rattle.std.specs.Prelude.{Bool, true, false, List, ◌++◌, ℕ, min, take, Some, None}
use Rattle.text.specs.Ascii.{ascii}
use Rattle.text.specs.Decimal.{decimal}
use Rattle.model.specs.Replies.{notice_places}
use Rattle.model.specs.Names.{Date}
use Rattle.model.specs.declared.Made.{Made}
use Rattle.model.specs.declared.Report.{Report}
use Rattle.answers.specs.Notices.{notices_text, counts_text}

abbrev pub level_text : Bool → List ℕ
level_text true = ascii " level=1"
level_text false = ascii " level=0"

-- the cycle, or `-`
abbrev pub wake_text : Date → List ℕ
wake_text None = ascii " wake=-"
wake_text (Some cycle) = ascii " wake=" ++ decimal cycle

-- what stands before its notices, and after them
abbrev pub front_text : Report → List ℕ
front_text r = level_text r.level ++ wake_text r.wake ++ (ascii " overflows=" ++ decimal r.overflows) ++ ascii " notices="

abbrev pub passes_text : ℕ → List ℕ
passes_text passes = ascii " passes=" ++ decimal passes ++ ascii "\n"

unfoldable pub report_text : Report → List ℕ
report_text r = front_text r ++ notices_text (take (min r.noted notice_places) r.notices) ++ passes_text r.passes

-- the report of a row, each notice with how often it came
unfoldable pub row_report_text : Made → Report → List ℕ
row_report_text made r =
    front_text r ++ counts_text made.first made.second (take (min r.noted 2) r.notices) ++ passes_text r.passes

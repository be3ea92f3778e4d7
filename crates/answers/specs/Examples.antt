-- The answer lines of two rows, computed. Assumes nothing.
use Rattle.std.specs.Prelude.{◌≡◌, refl, false, [], ◌∷◌, Some, None, Ok}
use Rattle.text.specs.Ascii.{ascii}
use Rattle.text.specs.Digits.{letter}
use Rattle.text.specs.Decimal.{decimal_up_to}
use Rattle.model.specs.Replies.{notices}
use Rattle.model.specs.declared.Report.{Report}
use Rattle.model.specs.declared.Unsupported.TheVariants.{UartOverflow, UartClock}
use Rattle.answers.specs.Notices.{counts_text}
use Rattle.answers.specs.Reports.{row_report_text}
use Rattle.answers.specs.Replies.{row_text}

-- more bytes than the FIFO holds, on a clock without a frequency
abbrev full : Report
full = record {
  level = false;
  wake = Some 420;
  overflows = 0;
  passes = 131;
  notices = notices (UartClock 0 ∷ UartOverflow ∷ []);
  noted = 2;
}

full-row : row_text full (Ok (record { count = 131; first = 129; second = 2 }))
    ≡ ascii "0 made=131 level=0 wake=420 overflows=0 notices=UartClock(0)*129,UartOverflow*2 passes=131\n"
unfolding row_report_text counts_text decimal_up_to letter notices
full-row = refl

-- no byte
abbrev empty : Report
empty = record { level = false; wake = None; overflows = 0; passes = 0; notices = notices []; noted = 0 }

empty-row : row_text empty (Ok (record { count = 0; first = 0; second = 0 }))
    ≡ ascii "0 made=0 level=0 wake=- overflows=0 notices=- passes=0\n"
unfolding row_report_text counts_text decimal_up_to letter notices
empty-row = refl

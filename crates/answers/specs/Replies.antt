-- The answer line of each call. Assumes nothing.
use Rattle.std.specs.Prelude.{Bool, true, false, List, ◌++◌, ℕ, Some, None, Ok, Err}
use Rattle.text.specs.Ascii.{ascii}
use Rattle.text.specs.Decimal.{decimal}
use Rattle.text.specs.HexText.{hex_text, hex_word}
use Rattle.model.specs.Replies.{number}
use Rattle.model.specs.declared.Refusal.{Refusal}
use Rattle.model.specs.declared.Report.{Report}
use Rattle.model.specs.Names.{SetUp, Read, Write, Done, Row}
use Rattle.answers.specs.Reports.{report_text, row_report_text}

-- a refusal is its number alone
abbrev pub refusal_text : Refusal → List ℕ
refusal_text r = decimal (number r) ++ ascii "\n"

abbrev pub set_up_text : SetUp → List ℕ
set_up_text (Ok _) = ascii "0\n"
set_up_text (Err r) = refusal_text r

abbrev pub read_text : Report → Read → List ℕ
read_text report (Ok (Some word)) = ascii "0 value=" ++ hex_word word ++ report_text report
read_text report (Ok None) = ascii "0 value=none" ++ report_text report
read_text report (Err r) = refusal_text r

abbrev pub write_text : Report → Write → List ℕ
write_text report (Ok true) = ascii "0 accepted=1" ++ report_text report
write_text report (Ok false) = ascii "0 accepted=0" ++ report_text report
write_text report (Err r) = refusal_text r

abbrev pub done_text : Report → Done → List ℕ
done_text report (Ok _) = ascii "0 done" ++ report_text report
done_text report (Err r) = refusal_text r

-- how many bytes of a row were written
abbrev pub row_text : Report → Row → List ℕ
row_text report (Ok made) = ascii "0 made=" ++ decimal made.count ++ row_report_text made report
row_text report (Err r) = refusal_text r

-- whether what was lent after the bytes is as it was
abbrev pub rest_text : Bool → List ℕ
rest_text true = ascii " rest=kept"
rest_text false = ascii " rest=changed"

abbrev pub hand_out_text : List ℕ → Bool → List ℕ
hand_out_text bytes kept = ascii "0 bytes=" ++ hex_text bytes ++ rest_text kept

-- take_tx is dated, and take_written is not
abbrev pub taken_text : List ℕ → Bool → Report → List ℕ
taken_text bytes kept report = hand_out_text bytes kept ++ report_text report

abbrev pub written_text : List ℕ → Bool → List ℕ
written_text bytes kept = hand_out_text bytes kept ++ ascii "\n"

abbrev pub has_left_text : Bool → List ℕ
has_left_text true = ascii "0 has_left=1\n"
has_left_text false = ascii "0 has_left=0\n"

abbrev pub host_pending_text : ℕ → List ℕ
host_pending_text count = ascii "0 host_pending=" ++ decimal count ++ ascii "\n"

-- A call or a row that a line names, and its answer by the definition: the text, and the UART after it. Assumes nothing.
use Rattle.std.specs.Prelude.{ℕ, zero, suc, ◌%◌, min, true, List, [], ◌∷◌, ◌++◌, map, eqb, take, drop, get_or, Ok, Err}
use Rattle.std.proofs.Math.Option.{Option, none, some}
use Rattle.std.specs.Int.Bits.{bit_xor}
use Rattle.text.specs.Ascii.{ascii}
use Rattle.trace.specs.Low.{low_of}
use Rattle.trace.specs.Pairs.{firsts_in, seconds_in}
use Rattle.trace.specs.declared.names.Name.{Name}
use Rattle.trace.specs.declared.names.Name.TheVariants.{Setup, Read, Write, WriteRow, Receive, Wake, Watch, Reset, PowerDown, Clock}
use Rattle.trace.specs.declared.names.Name.TheVariants.{TakeTx, TakeWritten, HasLeft, HostPending, Figures}
use Rattle.model.specs.State.{Uart}
use Rattle.model.specs.SetUp.{new, set_up_reply}
use Rattle.model.specs.Call.{Machine, Dated, Undated, Call, Request, Asked, Ask, Reply, reads, writes, does, takes, left}
use Rattle.model.specs.Call.{pends, rows, Answer}
use Rattle.model.specs.Replies.{as_read}
use Rattle.model.specs.Run.{asked}
use Rattle.model.specs.declared.Report.{Report}
use Rattle.model.specs.Names.{SetUp, Taken}
use Rattle.answers.specs.Reports.{report_text}
use Rattle.answers.specs.Replies.{refusal_text, set_up_text, read_text, write_text, row_text, done_text, hand_out_text, has_left_text}
use Rattle.answers.specs.Replies.{host_pending_text}
use Rattle.answers.specs.LineFigures.{figures_text}
use Rattle.figures.specs.Figures.{figures_of}

-- ---- the lent buffer of a hand-out

-- the mark at a place: another one at the next
abbrev pub mark_at : ℕ → ℕ
mark_at i = bit_xor (i % 256) 90

-- so many marks from a place on
unfoldable pub marks_from : ℕ → ℕ → List ℕ
marks_from i zero = []
marks_from i (suc n) = mark_at i ∷ marks_from (suc i) n

-- a buffer to lend, of at most 8192 bytes
abbrev pub lent_of : ℕ → List ℕ
lent_of n = marks_from 0 (min n 8192)

-- ---- what a line asks for

pub data Command : Type 0 where
  -- sixteen offsets and sixteen reset words
  set_up : List ℕ → List ℕ → Command
  asks : Ask → Command
  -- the starts and the ends of frames
  figures : List ℕ → List ℕ → Command

abbrev pub call : Request → Command
call c = asks (Asked.call c)

-- the numbers of the line, its last word where that is a number, its bytes, and the line itself, of which pairs are read
abbrev pub command_of : Name → List ℕ → ℕ → List ℕ → List ℕ → Command
command_of Setup ns last bytes s = set_up (take 16 (map low_of (drop 0 ns))) (take 16 (map low_of (drop 16 ns)))
command_of Read ns last bytes s = call (Call.at (get_or ns 0 0) (Dated.read (low_of (get_or ns 1 0))))
command_of Write ns last bytes s =
    call (Call.at (get_or ns 0 0) (Dated.write (record { offset = low_of (get_or ns 1 0); value = low_of (get_or ns 2 0) })))
command_of WriteRow ns last bytes s = asks (Asked.row (get_or ns 0 0) (take last bytes))
command_of Receive ns last bytes s = call (Call.at (get_or ns 0 0) (Dated.receive (get_or ns 1 0) (take last bytes)))
command_of Wake ns last bytes s = call (Call.at (get_or ns 0 0) (Dated.machine Machine.wake))
command_of Watch ns last bytes s = call (Call.at (get_or ns 0 0) (Dated.machine (Machine.watch (eqb last 1))))
command_of Reset ns last bytes s = call (Call.at (get_or ns 0 0) (Dated.machine Machine.reset))
command_of PowerDown ns last bytes s = call (Call.at (get_or ns 0 0) (Dated.machine Machine.power_down))
command_of Clock ns last bytes s = call (Call.at (get_or ns 0 0) (Dated.machine (Machine.clock_change (get_or ns 1 0))))
command_of TakeTx ns last bytes s = call (Call.at (get_or ns 0 0) (Dated.take_tx (lent_of last)))
command_of TakeWritten ns last bytes s = call (Call.undated (Undated.take_written (lent_of last)))
command_of HasLeft ns last bytes s = call (Call.undated Undated.has_left)
command_of HostPending ns last bytes s = call (Call.undated Undated.host_pending)
command_of Figures ns last bytes s = figures (firsts_in s) (seconds_in s)

-- ---- the text of an answer

-- a hand-out, and the end of its line: nothing after the bytes is changed
abbrev pub handed_text : List ℕ → List ℕ → Taken → List ℕ
handed_text end bytes (Ok n) = hand_out_text bytes true ++ end
handed_text end bytes (Err q) = refusal_text q

-- what ends the line of a hand-out: the report of take_tx; take_written is not dated, and a row hands nothing out
abbrev pub end_text : Ask → Report → List ℕ
end_text (Asked.call (Call.at now c)) report = report_text report
end_text (Asked.call (Call.undated c)) report = ascii "\n"
end_text (Asked.row now bs) report = report_text report

abbrev pub reply_text : List ℕ → Report → Reply ℕ ℕ ℕ → List ℕ
reply_text end report (reads r) = read_text report (as_read r)
reply_text end report (writes r) = write_text report r
reply_text end report (does r) = done_text report r
reply_text end report (takes t) = handed_text end t.front t.taken
reply_text end report (left b) = has_left_text b
reply_text end report (pends n) = host_pending_text n
reply_text end report (rows r) = row_text report r

abbrev pub answer_text : Ask → Answer ℕ ℕ ℕ → List ℕ
answer_text q a = reply_text (end_text q a.report) a.report a.reply

-- ---- what a command gives: its text, and the UART that is set up then

pub record Next : Type 0 where
  pub text : List ℕ
  pub device : Option (Uart ℕ ℕ)

-- a new UART; a refused set-up leaves the one before in place
abbrev pub settled : SetUp → Uart ℕ ℕ → Option (Uart ℕ ℕ) → Option (Uart ℕ ℕ)
settled (Ok _) u before = some u
settled (Err q) u before = before

abbrev pub sets_up : List ℕ → List ℕ → Option (Uart ℕ ℕ) → Next
sets_up offsets resets before = record {
  text = set_up_text (set_up_reply offsets);
  device = settled (set_up_reply offsets) (new offsets resets) before;
}

-- what the definition answers; with no UART set up it is a fault
abbrev pub calls : Ask → List ℕ → Option (Uart ℕ ℕ) → Next
calls q fault none = record { text = fault; device = none }
calls q fault (some u) = record { text = answer_text q (asked q u).answer; device = some (asked q u).state }

-- figures need no UART
abbrev pub tells : List ℕ → List ℕ → Option (Uart ℕ ℕ) → Next
tells starts ends before = record { text = figures_text (figures_of starts ends); device = before }

abbrev pub carried_out : Command → List ℕ → Option (Uart ℕ ℕ) → Next
carried_out (set_up offsets resets) fault before = sets_up offsets resets before
carried_out (asks q) fault before = calls q fault before
carried_out (figures starts ends) fault before = tells starts ends before

-- How long the texts are at most, whatever they tell. Assumes nothing.
use Rattle.std.specs.Prelude.{Bool, true, false, List, [], ◌∷◌, ◌++◌, map, ℕ, zero, suc, ◌+◌, ◌-◌, ◌*◌, ◌/◌, ◌%◌, ◌≤◌, min, ltb, length}
use Rattle.std.specs.Prelude.{Some, None, Ok, Err}
use Rattle.std.specs.Prelude.{take, drop}
use Rattle.std.proofs.Common.{arith, length-append, length-take}
use Rattle.std.proofs.lemmas.List.{length-map}
use Rattle.text.specs.Ascii.{ascii}
use Rattle.text.specs.Pick.{pick}
use Rattle.text.specs.Digits.{letter}
use Rattle.text.specs.Decimal.{decimal, decimal_up_to}
use Rattle.text.specs.HexText.{hex_text, pairs-length}
use Rattle.model.specs.Replies.{number, notice_places}
use Rattle.model.specs.Names.{Date, SetUp, Read, Write, Done, Row}
use Rattle.model.specs.declared.Feature.{Feature}
use Rattle.model.specs.declared.Feature.TheVariants.{Loopback, InvertedRx, Autobaud, NoStopBit, FifoSize, Rs485, TxFlowControl}
use Rattle.model.specs.declared.Feature.TheVariants.{RxFlowControl, InvertedTx, Irda, TxBreak}
use Rattle.model.specs.declared.Unsupported.{Unsupported}
use Rattle.model.specs.declared.Unsupported.TheVariants.{UartOverflow, UartEmptyRead, UartClock, UartReceiveClock, UartFeature}
use Rattle.model.specs.declared.Notice.{Notice}
use Rattle.model.specs.declared.Refusal.{Refusal}
use Rattle.model.specs.declared.Report.{Report}
use Rattle.model.specs.declared.Made.{Made}
use Rattle.trace.specs.declared.faults.Reason.{Reason}
use Rattle.trace.specs.declared.faults.Reason.TheVariants.{UnknownName, MissingWord, ExtraWord, NoNumber, NoNumber32, NoBit, NoLength}
use Rattle.trace.specs.declared.faults.Reason.TheVariants.{NoBytes, NoUart}
use Rattle.trace.specs.declared.faults.Fault.{Fault}
use Rattle.answers.specs.Notices.{feature_text, notice_text, next_texts, notices_text, count_text, counts_text}
use Rattle.answers.specs.Reports.{level_text, wake_text, front_text, passes_text, report_text, row_report_text}
use Rattle.answers.specs.Replies.{refusal_text, set_up_text, read_text, write_text, done_text, rest_text, hand_out_text, taken_text}
use Rattle.answers.specs.Replies.{row_text, written_text, host_pending_text}
use Rattle.answers.specs.Faults.{reason_text, shown, shown_text, fault_text}

-- ---- the parts

digits-few : (more n : ℕ) → length (decimal_up_to more n) ≤ suc more
unfolding decimal_up_to
digits-few zero n = omega arith
digits-few (suc more) n = by-test (ltb 9 n) (digits-few more (n / 10))
  where
    by-test : (t : Bool) → length (decimal_up_to more (n / 10)) ≤ suc more
        → length (pick t (decimal_up_to more (n / 10) ++ (letter (n % 10) ∷ [])) (letter (n % 10) ∷ [])) ≤ suc (suc more)
    by-test true h = simp length-append (omega arith)
    by-test false h = omega arith

pub decimal-short : (n : ℕ) → length (decimal n) ≤ 20
decimal-short n = digits-few 19 n

feature-short : (f : Feature) → length (feature_text f) ≤ 38
feature-short Loopback = omega arith
feature-short InvertedRx = omega arith
feature-short Autobaud = omega arith
feature-short NoStopBit = omega arith
feature-short FifoSize = omega arith
feature-short Rs485 = omega arith
feature-short TxFlowControl = omega arith
feature-short RxFlowControl = omega arith
feature-short InvertedTx = omega arith
feature-short Irda = omega arith
feature-short TxBreak = omega arith

notice-short : (n : Unsupported) → length (notice_text n) ≤ 38
notice-short UartOverflow = omega arith
notice-short UartEmptyRead = omega arith
notice-short (UartClock sel) = simp length-append (omega (arith, decimal-short sel))
notice-short (UartReceiveClock sel) = simp length-append (omega (arith, decimal-short sel))
notice-short (UartFeature f) = feature-short f

next-short : (ns : List Notice) → length (next_texts ns) ≤ 39 * length ns
unfolding next_texts
next-short [] = omega arith
next-short (n ∷ ns) = simp length-append (omega (arith, notice-short n.what, next-short ns))

notices-short : (ns : List Notice) → length (notices_text ns) ≤ 1 + 39 * length ns
unfolding notices_text
notices-short [] = omega arith
notices-short (n ∷ ns) = simp length-append (omega (arith, notice-short n.what, next-short ns))

count-short : (n : Unsupported) (times : ℕ) → length (count_text n times) ≤ 59
count-short n times = simp length-append (omega (arith, notice-short n, decimal-short times))

counts-short : (first second : ℕ) (ns : List Notice) → length (counts_text first second ns) ≤ 119
unfolding counts_text
counts-short first second [] = omega arith
counts-short first second (n ∷ []) = omega (arith, count-short n.what first)
counts-short first second (n ∷ m ∷ ns) =
    let one = count_text n.what first in
    let two = count_text m.what second in
    omega (
      arith,
      length-append (one ++ ascii ",") two,
      length-append one (ascii ","),
      count-short n.what first,
      count-short m.what second,
    )

level-short : (level : Bool) → length (level_text level) ≤ 8
level-short true = omega arith
level-short false = omega arith

wake-short : (wake : Date) → length (wake_text wake) ≤ 26
wake-short None = omega arith
wake-short (Some cycle) = simp length-append (omega (arith, decimal-short cycle))

rest-short : (kept : Bool) → length (rest_text kept) ≤ 13
rest-short true = omega arith
rest-short false = omega arith

hex-short : (bytes : List ℕ) → length (hex_text bytes) ≤ 1 + 2 * length bytes
unfolding hex_text
hex-short [] = omega arith
hex-short (b ∷ s) = omega (arith, pairs-length (b ∷ s))

reason-short : (r : Reason) → length (reason_text r) ≤ 40
reason-short UnknownName = omega arith
reason-short MissingWord = omega arith
reason-short ExtraWord = omega arith
reason-short NoNumber = omega arith
reason-short NoNumber32 = omega arith
reason-short NoBit = omega arith
reason-short NoLength = omega arith
reason-short NoBytes = omega arith
reason-short NoUart = omega arith

shown-short : (word : List ℕ) → length (shown_text word) ≤ 42
unfolding shown_text
shown-short word = by-test (ltb 40 (length word))
  where
    by-test : (t : Bool) → length (map shown (take 40 word) ++ pick t (ascii "..") []) ≤ 42
    by-test true = simp (length-append, length-map, length-take) (omega arith)
    by-test false = simp (length-append, length-map, length-take) (omega arith)

-- ---- the lines

front-short : (r : Report) → length (front_text r) ≤ 80
front-short r = simp length-append (omega (arith, level-short r.level, wake-short r.wake, decimal-short r.overflows))

passes-short : (passes : ℕ) → length (passes_text passes) ≤ 40
passes-short passes = simp length-append (omega (arith, decimal-short passes))

-- with some notices between
around-short : (r : Report) (list : List ℕ) → length (front_text r ++ list ++ passes_text r.passes) ≤ 120 + length list
around-short r list =
    omega (
      arith,
      length-append (front_text r ++ list) (passes_text r.passes),
      length-append (front_text r) list,
      front-short r,
      passes-short r.passes,
    )

-- a report has places for eight notices
report-short : (r : Report) → length (report_text r) ≤ 600
unfolding report_text
report-short r =
    let ns = take (min r.noted notice_places) r.notices in
    omega (arith, around-short r (notices_text ns), notices-short ns, length-take (min r.noted notice_places) r.notices)

-- and a row has two at most
row-report-short : (made : Made) (r : Report) → length (row_report_text made r) ≤ 600
unfolding row_report_text
row-report-short made r =
    let ns = take (min r.noted 2) r.notices in
    omega (arith, around-short r (counts_text made.first made.second ns), counts-short made.first made.second ns)

pub refusal-short : (q : Refusal) → length (refusal_text q) ≤ 1024
refusal-short q = simp length-append (omega (arith, decimal-short (number q)))

pub set-up-short : (s : SetUp) → length (set_up_text s) ≤ 1024
set-up-short (Ok _) = omega arith
set-up-short (Err q) = refusal-short q

module _ (r : Report) where
  pub read_short : (reply : Read) → length (read_text r reply) ≤ 1024
  read_short (Ok (Some word)) = simp length-append (omega (arith, report-short r))
  read_short (Ok None) = simp length-append (omega (arith, report-short r))
  read_short (Err q) = refusal-short q

  pub write-short : (reply : Write) → length (write_text r reply) ≤ 1024
  write-short (Ok true) = simp length-append (omega (arith, report-short r))
  write-short (Ok false) = simp length-append (omega (arith, report-short r))
  write-short (Err q) = refusal-short q

  pub done-short : (reply : Done) → length (done_text r reply) ≤ 1024
  done-short (Ok _) = simp length-append (omega (arith, report-short r))
  done-short (Err q) = refusal-short q

  pub row-short : (reply : Row) → length (row_text r reply) ≤ 1024
  row-short (Ok made) = simp length-append (omega (arith, decimal-short made.count, row-report-short made r))
  row-short (Err q) = refusal-short q

hand-out-short : (bytes : List ℕ) (kept : Bool) → length (hand_out_text bytes kept) ≤ 22 + 2 * length bytes
hand-out-short bytes kept = simp length-append (omega (arith, hex-short bytes, rest-short kept))

-- two digits for each byte
pub taken-short : (bytes : List ℕ) (kept : Bool) (r : Report) → length (taken_text bytes kept r) ≤ 1024 + 2 * length bytes
taken-short bytes kept r =
    omega (arith, length-append (hand_out_text bytes kept) (report_text r), hand-out-short bytes kept, report-short r)

pub written-short : (bytes : List ℕ) (kept : Bool) → length (written_text bytes kept) ≤ 1024 + 2 * length bytes
written-short bytes kept = omega (arith, length-append (hand_out_text bytes kept) (ascii "\n"), hand-out-short bytes kept)

pub host-pending-short : (n : ℕ) → length (host_pending_text n) ≤ 1024
host-pending-short n = simp length-append (omega (arith, decimal-short n))

pub fault-short : (s : List ℕ) (f : Fault) → length (fault_text s f) ≤ 1024
fault-short s f =
    simp length-append (omega (arith, reason-short f.reason, shown-short (take (f.end - f.start) (drop f.start s))))

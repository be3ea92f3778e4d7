-- `line::blank_line` meets its contract: a line that is too long, none, one with a fault, and a call. Assumes nothing.
use mathlib.Core.Path.{refl, ap, sym, ◌∙◌}
use Rattle.std.proofs.Common.{Ok}
use Rattle.blanking.specs.LineLaws.{blanks-nothing, kind-long, kind-read, zeros-room, line-blanks}
use Rattle.blanking.proofs.line.blank_line.Goals as goal

pub returns-then-long : goal.returns-then-long
returns-then-long c =
    let a = c.args in
    let b = line-blanks a.from _ a.long a.s.now _ _ _ _ _ c.counted-trace.ensures
    (kind-long _ a.long a.s.now c.if-long.true) c.leave_out.ensures in
    record { put = b.0; trace_value = b.1 }

pub returns-in-Ok-None : goal.returns-in-Ok-None
returns-in-Ok-None c =
    let a = c.args in
    let read = c.read_line.ensures in
    let line = ap Ok (sym c.in-Ok-None.field-0-is) ∙ sym c.in-Ok-None.is ∙ read.value in
    let b = line-blanks a.from _ a.long a.s.now _ _ _ _ _ c.counted-trace.ensures
    (kind-read _ a.long a.s.now _ _ _ _ c.if-long.false zeros-room line
    read.numbers_after read.bytes_after)
    (blanks-nothing _ _ _ _ refl refl) in
    record { put = b.0; trace_value = b.1 }

pub returns-in-Err : goal.returns-in-Err
returns-in-Err c =
    let a = c.args in
    let read = c.read_line.ensures in
    let line = sym c.in-Err.is ∙ read.value in
    let b = line-blanks a.from _ a.long a.s.now _ _ _ _ _ c.counted-trace.ensures
    (kind-read _ a.long a.s.now _ _ _ _ c.if-long.false zeros-room line read.numbers_after read.bytes_after)
    c.leave_out-in-Err.ensures in
    record { put = b.0; trace_value = b.1 }

pub returns-in-Ok-Some : goal.returns-in-Ok-Some
returns-in-Ok-Some c =
    let a = c.args in
    let read = c.read_line.ensures in
    let line = ap Ok (sym c.in-Ok-Some.field-0-is) ∙ sym c.in-Ok-Some.is ∙ read.value in
    let b = line-blanks a.from _ a.long a.s.now _ _ _ _ _ c.counted-trace.ensures
    (kind-read _ a.long a.s.now _ _ _ _ c.if-long.false zeros-room line read.numbers_after read.bytes_after)
    c.call.ensures in
    record { put = b.0; trace_value = b.1 }

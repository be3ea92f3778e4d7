-- `lines::answer_line` meets its contract: what was read is answered. Assumes nothing.
use mathlib.Core.Path.{refl, ap, ap₂, sym, ◌∙◌}
use mathlib.Core.Option.{none, some}
use Rattle.std.proofs.Common.{Ok}
use mathlib.Core.List.{List, []}
use Prim.Native.Nat.{ℕ}
use native.Mathlib.Omega.{arith}
use lib.ListN.{take}
use Rattle.text.specs.Chains.{Room, put-nothing}
use Rattle.trace.specs.Lines.{bytes_after}
use Rattle.uart.specs.Whole.{meaning}
use Rattle.answers.specs.Faults.{long_text}
use Rattle.session.specs.Requests.{command_of, carried_out}
use Rattle.session.specs.Sessions.{stands_for}
use Rattle.session.specs.Lines.{says, no_uart, numbers_in, carried-any, too_long, bytes-kept, read_as-told, bytes-as}
use Rattle.session.specs.Answers.{moved, gives_as, is-ready, not-ready}
use Rattle.session.proofs.lines.answer_line.Goals as goal

pub returns-then-input : goal.returns-then-input
returns-then-input c =
    let far = c in
    let a = c.args in
    let d = stands_for a.session in
    let long = c.if-input.true in record {
      gives = gives_as (too_long a.input a.line.now a.bytes.now d long)
          (moved c.put_long-at.ensures (says long_text d) a.session refl refl
          c.requires.good c.with_output.ensures);
      bytes_after = bytes-kept a.input a.line.now a.bytes.now d long;
    }

pub returns-in-Ok-None : goal.returns-in-Ok-None
returns-in-Ok-None c =
    let far = c in
    let a = c.args in
    let d = stands_for a.session in
    let short = c.if-input.false in
    let count = c.within-n.ensures.value in
    let s = take c.within-n.result a.line.now in
    let got = c.read_line.ensures in
    let same = read_as-told a.input a.line.now a.bytes.now d short count got.value (c.in-Ok-None.is ∙ ap Ok c.in-Ok-None.field-0-is) in
    let kept = got.bytes_after ∙ bytes-as a.input a.line.now a.bytes.now d short count in
    let room : Room [] a.out.now a.session.at = record { fits = omega (arith, c.requires.wide) } in record {
      gives = gives_as same (moved (put-nothing a.out.now a.session.at room) (says [] d) a.session refl refl
          c.requires.good refl);
      bytes_after = kept;
    }

pub returns-in-Err : goal.returns-in-Err
returns-in-Err c =
    let far = c in
    let a = c.args in
    let d = stands_for a.session in
    let short = c.if-input.false in
    let count = c.within-n.ensures.value in
    let s = take c.within-n.result a.line.now in
    let got = c.read_line.ensures in
    let same = read_as-told a.input a.line.now a.bytes.now d short count got.value
    c.in-Err.is in
    let kept = got.bytes_after ∙ bytes-as a.input a.line.now a.bytes.now d short count in
    record { gives = gives_as same c.wrong.ensures; bytes_after = kept }

pub returns-then-session : goal.returns-then-session
returns-then-session c =
    let far = c in
    let a = c.args in
    let d = stands_for a.session in
    let short = c.if-input.false in
    let count = c.within-n.ensures.value in
    let s = take c.within-n.result a.line.now in
    let got = c.read_line.ensures in
    let same = read_as-told a.input a.line.now a.bytes.now d short count got.value
    (c.in-Ok-Some.is ∙ ap Ok c.in-Ok-Some.field-0-is) in
    let kept = got.bytes_after ∙ bytes-as a.input a.line.now a.bytes.now d short count in
    let name = c.in-Ok-Some.field-0-0.name in
    let last = c.in-Ok-Some.field-0-0.last in
    let cmd = command_of name (numbers_in s) last (bytes_after s a.bytes.now) s in
    let u = meaning a.session.uart in record {
      gives = gives_as (ap₂ (λ (ns : List ℕ) (bs : List ℕ). carried_out (command_of name ns last bs s) [] (some u)) got.numbers_after
          got.bytes_after
          ∙ carried-any cmd [] (no_uart s) u
          ∙ ap (carried_out cmd (no_uart s)) (sym (is-ready a.session c.if-session.true))
          ∙ same)
          c.carry_out.ensures;
      bytes_after = kept;
    }

pub returns-else-session : goal.returns-else-session
returns-else-session c =
    let far = c in
    let a = c.args in
    let d = stands_for a.session in
    let short = c.if-input.false in
    let count = c.within-n.ensures.value in
    let s = take c.within-n.result a.line.now in
    let got = c.read_line.ensures in
    let same = read_as-told a.input a.line.now a.bytes.now d short count got.value
    (c.in-Ok-Some.is ∙ ap Ok c.in-Ok-Some.field-0-is) in
    let kept = got.bytes_after ∙ bytes-as a.input a.line.now a.bytes.now d short count in
    let name = c.in-Ok-Some.field-0-0.name in
    let last = c.in-Ok-Some.field-0-0.last in
    let cmd = command_of name (numbers_in s) last (bytes_after s a.bytes.now) s in record {
      gives = gives_as (ap (λ (ns : List ℕ). carried_out (command_of name ns last (bytes_after s a.bytes.now) s) (no_uart s) none)
          got.numbers_after
          ∙ ap (carried_out cmd (no_uart s)) (sym (not-ready a.session c.if-session.false))
          ∙ same)
          (c.first_call.ensures last (bytes_after s a.bytes.now));
      bytes_after = kept;
    }

-- `input::run` is safe: any answer fits behind what is put out. Assumes nothing.
use Rattle.std.proofs.Common.{◌≡◌, refl, ap, subst, sym, ◌∙◌, Bool, true, false, length, arith}
use Rattle.text.specs.Pick.{pick}
use Rattle.streams.proofs.OutputLaws.{kept-room}
use Rattle.uart.specs.Whole.{Good}
use Rattle.session.specs.declared.Session.{Session}
use Rattle.replay.proofs.input.run.Goals.{then-is_answered, else-is_answered}
use Rattle.replay.proofs.input.run.Goals as goal

-- what is answered, is after no failure
no-failure : (failed line : Bool) → pick failed false line ≡ true → failed ≡ false
no-failure true line e = sym e
no-failure false line e = refl

pub answer-session-requires : goal.answer-session-requires
answer-session-requires c =
    let room = kept-room c.keep_up-kept.ensures (no-failure _ _
    (sym c.is_answered.ensures ∙ c.if-is_answered.true)) in
    let i = c.loop-turns.invariant in
    record { good = i.0; wide = omega (arith, room, i.1) }

pub loop-turns-preserved : goal.loop-turns-preserved
loop-turns-preserved c =
    let i = c.loop-turns.invariant in
    elim c.if-is_answered.branch [
      | then-is_answered w ↦ (
        subst (λ (s : Session). Good s.uart) (sym w.session-is) w.answer-session.ensures.gives.good,
        ap length w.out-is ∙ w.answer-session.ensures.out_len_unchanged ∙ i.1,
      )
      | else-is_answered w ↦
          (subst (λ (s : Session). Good s.uart) (sym w.session-is) i.0, ap length w.out-is ∙ i.1)
    ]

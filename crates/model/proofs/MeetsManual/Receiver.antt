-- The receiver meets the manual, seen through `step`: whatever call settles, host bytes land and the receive timeout comes when the manual
-- says. From every state within the limits. Assumes nothing.
use Rattle.std.specs.Prelude.{◌≡◌, refl, ℕ, ◌+◌, ◌≤◌, ◌<◌, Bool, true, false, ◌++◌, leb}
use Rattle.std.proofs.Common.{sym, subst, arith, leb-true, leb-false}
use Rattle.std.proofs.Math.Option.{some}
use Rattle.model.specs.Manual.{by}
use Rattle.model.specs.Numbers.{bit}
use Rattle.model.specs.State.{OnTheLine, Uart}
use Rattle.model.specs.Timing.{byte_time, timeout_time, settings}
use Rattle.model.specs.Settle.{settings_of, settling_date, settle}
use Rattle.model.specs.Tests.{date_end, period_limit}
use Rattle.model.specs.Call.{Machine, Dated, Call, date_of, Written, Request, Asked, asked_date}
use Rattle.model.specs.Run.{number_of, plan, step}
use Rattle.model.specs.Limits.{All, nil, Within}
use Rattle.model.proofs.Laws.Lists.{all_head, all_drop}
use Rattle.model.proofs.Keeps.Parts.{put_clock, through}
use Rattle.model.proofs.Keeps.Wake.{called-within}
use Rattle.model.proofs.Keeps.Settling.{settle-parts}
use Rattle.model.proofs.Keeps.Dated.{moved-parts}
use Rattle.model.proofs.Keeps.EachCall.{clocked-parts}
use Rattle.model.proofs.Refuses.Conditions.{Condition, number2, number7}
use Rattle.model.proofs.Refuses.Exactly.{call-done}
use Rattle.model.proofs.Ends.Settlings.{Settling, settles, settlings, call-changes, begins-all, all_map}
use Rattle.model.proofs.MeetsManual.Timing.{Meant, FrameTime, TimeoutTime, byte-lasts, timeout-lasts}
use Rattle.model.proofs.MeetsManual.Reception.{comes, arrivals_in, settling-receives}
use Rattle.model.proofs.MeetsManual.ReceiveTimeout.{shows_in, shown_in, settling-shows}
use Rattle.model.specs.declared.Refusal.TheVariants.{PeriodTooLong}

-- ---- the settlings of a call begin within the limits

-- a number is below another unless it reaches it
below : (n m : ℕ) → ¬ (m ≤ n) → n < m
below n m not = by-test (leb m n) refl
  where
    by-test : (t : Bool) → leb m n ≡ t → n < m
    by-test true e = absurd (not (leb-true m n e))
    by-test false e = leb-false m n e

-- of a call that is carried out
module _ (c : Request) (u : Uart ℕ ℕ) (done : number_of (step c u).answer.reply ≡ 0) where
  early : (now : ℕ) → date_of c ≡ some now → now < date_end
  unfolding asked_date
  early now e = below now date_end (λ h. all_head (call-done c u done) (number2 e h))

clock-low : (now period : ℕ) (c : Dated ℕ Written ℕ ℕ) (u : Uart ℕ ℕ) → c ≡ Dated.machine (Machine.clock_change period)
    → number_of (step (Call.at now c) u).answer.reply ≡ 0 → period ≤ period_limit
clock-low now period c u is done =
    let h : period < period_limit + 1 =
    below period (period_limit + 1)
    (λ h. all_head (all_drop 2 _ (call-done (Call.at now c) u done))
    (subst (λ x. Condition u PeriodTooLong (Asked.call (Call.at now x))) (sym is) (number7 (omega arith))))
    in omega arith

changes-within : (now : ℕ) (c : Dated ℕ Written ℕ ℕ) (u : Uart ℕ ℕ) → number_of (step (Call.at now c) u).answer.reply ≡ 0
    → All (λ f. (v : Uart ℕ ℕ) → Within v → Within (f v)) (plan (Call.at now c) u).changes
changes-within now c u done =
    call-changes (λ f. (v : Uart ℕ ℕ) → Within v → Within (f v)) now (λ v w. w)
    (λ v. through v _ (λ p. put_clock p (record {
      low = p.clock.low;
      high = p.clock.high;
      last = p.clock.last;
      wake = called-within now v.control.wake p.clock.wake;
    })))
    (λ v. through v _ (λ p. put_clock p p.clock)) c u
    (λ period is v. through v _ (clocked-parts period v (clock-low now period c u is done)))

begins-within : (c : Request) (u : Uart ℕ ℕ) → Within u → number_of (step c u).answer.reply ≡ 0
    → All (λ s. Within s.begins) (settlings c u)
unfolding date_of
begins-within (Call.at now c) u w done =
    begins-all Within now (λ v. through v _ (settle-parts now v)) _ _
    (through u _ (moved-parts now u (early (Call.at now c) u done now refl)) w) (changes-within now c u done)
begins-within (Call.undated c) u w done = nil

-- ---- what the manual says of a settling

module _ (s : Settling) where
  abbrev date : ℕ
  date = settling_date s.now s.begins.control

  -- each host byte lands a frame's time after its start, the later of its date and the line's being free: those that so come by the date
  -- of the settling have landed, in order, and the others are still to come
  pub record Lands : Type 0 where
    pub time : ℕ
    pub frame : (m : Meant s.begins.control) → FrameTime s.begins.control m time
    pub lands : arrivals_in (settles s).events ≡ by date (comes time s.begins)
    pub rest : comes time s.begins ≡ arrivals_in (settles s).events ++ comes time (settles s).state

  -- with the receiver's clock on and no byte on the line that started unheard: all that the receiver shows, landings and timeouts with
  -- their
  -- dates, a timeout coming RX_TOUT_THRHD bit times after the last landing unless a byte starts before it
  pub record Shows : Type 0 where
    pub time : ℕ
    pub span : ℕ
    pub frame : (m : Meant s.begins.control) → FrameTime s.begins.control m time
    pub timeout : (m : Meant s.begins.control) → TimeoutTime s.begins.control m span
    pub shown : shown_in (settles s).events ≡ by date (shows_in time span s.begins)
    pub rest : shows_in time span s.begins ≡ shown_in (settles s).events ++ shows_in time span (settles s).state

  settled-lands : Within s.begins → Lands
  unfolding settle settings_of settings
  settled-lands w =
      let r = settling-receives date s.begins w in
      record {
        time = byte_time s.begins.control.words s.begins.control.period;
        frame = byte-lasts
            s.begins.control;
        lands = r.lands;
        rest = r.rest;
      }

  abbrev pub ClockOn : Type 0
  ClockOn =
      (bit 25 s.begins.control.words.clk_conf ≡ true) × ((l : OnTheLine ℕ) → s.begins.receiving ≡ some l → l.frame.heard ≡ true)

  settled-shows : Within s.begins → ClockOn → Shows
  unfolding settle settings_of settings
  settled-shows w (clock, heard) =
      let r = settling-shows date s.begins w clock heard in
      record {
        time = byte_time s.begins.control.words s.begins.control.period;
        span = timeout_time s.begins.control.words s.begins.control.period;
        frame = byte-lasts s.begins.control;
        timeout = timeout-lasts s.begins.control;
        shown = r.shown;
        rest = r.rest;
      }

-- of every call that is carried out, whatever it is
pub call_lands : (c : Request) (u : Uart ℕ ℕ) → Within u → number_of (step c u).answer.reply ≡ 0 → All Lands (settlings c u)
call_lands c u w d = all_map (settlings c u) settled-lands (begins-within c u w d)

pub call-shows : (c : Request) (u : Uart ℕ ℕ) → Within u → number_of (step c u).answer.reply ≡ 0
    → All (λ s. ClockOn s → Shows s) (settlings c u)
call-shows c u w d = all_map (settlings c u) settled-shows (begins-within c u w d)

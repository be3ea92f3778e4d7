-- More laws that shut out wrong definitions: 129 bytes may be in flight; bytes land and leave; a new UART takes bytes from both
-- sides. Assumes nothing.
use Rattle.std.specs.Prelude.{◌≡◌, Bool, true, false, ltb, take, drop, Ok}
use Rattle.std.proofs.Common.{sym, ap₂, ◌∙◌, length-append, le-ltb, le-leb}
use Rattle.std.proofs.Math.Path.{ap}
use Prim.Native.Nat.{ℕ, zero, suc, ◌+◌, ◌%◌, ◌<◌, ◌≤◌}
use native.Mathlib.Omega.{arith}
use Rattle.std.proofs.Math.Bool.{and-false}
use Rattle.std.proofs.Math.Option.{none}
use mathlib.Core.List.{List, [], ◌∷◌, ◌++◌, map}
use Rattle.std.proofs.Math.ListN.{length}
use Rattle.model.specs.State.{Sent, Uart}
use Rattle.model.specs.Timing.{unmodelled_source}
use Rattle.model.specs.Events.{passes_in, overflows_in}
use Rattle.model.specs.Settle.{gone, leave, depart, levels, settle_to, settle, settling_date}
use Rattle.model.specs.Arm.{arm}
use Rattle.model.specs.Replies.{report}
use Rattle.model.specs.Map.{Register, register_of}
use Rattle.model.specs.Registers.{Access, source_notes, gone_at, sent, dropped, send_byte, concluded}
use Rattle.model.specs.Tests.{date_end, sent_limit, host_limit, host_full, runs_full, refuse_if}
use Rattle.model.specs.Calls
use Rattle.model.specs.Calls.{after_settling, quiet, dated, filled, host_date, last_date, send, carried}
use Rattle.model.specs.Plans.{settle_at}
use Rattle.model.specs.Call.{Dated, Call, date_of, Written, writes, does, takes}
use Rattle.model.specs.Run.{Step, plan_by, plan, step}
use Rattle.model.specs.Run.{answering}
use Rattle.model.specs.SetUp.{map_of, new_control, new}
use Rattle.model.proofs.Keeps.Rest.{settle_to-in_flight, settle_to-tx}
use Rattle.model.proofs.MeetsManual.Answers.{settled, InTime, carried-answer, fifo-answer, byte-taken, byte-dropped}
use Rattle.model.specs.declared.Refusal.TheVariants.{HostFull, RunsFull, BufferTooShort}
use Rattle.model.specs.declared.Report.{Report}
use Rattle.model.specs.declared.Unsupported.{Unsupported}
use Rattle.model.specs.declared.Unsupported.TheVariants.{UartOverflow, UartClock}
use Rattle.model.specs.Names.{Write}

-- ---- a FIFO write

module _ (now : ℕ) (u : Uart ℕ ℕ) (x : Written) (t : InTime now u) (e : register_of u.map.offsets x.offset ≡ Register.fifo)
    (room : length u.tx + length u.in_flight < sent_limit) where
  -- what the write gives
  abbrev given : Step ℕ ℕ ℕ
  given = step (Call.at now (Dated.write x)) u

  -- its report with these notices
  abbrev reported : List Unsupported → Report
  reported ns = report (passes_in (settle_at now u).events) (overflows_in (settle_at now u).events) ns given.state

  send-answer : (a : Access Write ℕ ℕ) → send_byte now (x.value % 256) (settled now u) ≡ a
      → (given.answer.reply ≡ writes a.reply) × (given.state.in_flight ≡ a.state.in_flight)
      × (given.answer.report ≡ reported a.notes)
  unfolding answering carried send after_settling concluded arm levels
  send-answer a h =
      let q : given ≡ answering writes (after_settling (settle_at now u) (λ _. concluded a)) =
      fifo-answer t x e room ∙ ap (λ (b : Access Write ℕ ℕ). answering writes (after_settling (settle_at now u) (λ _. concluded b))) h in (
        ap (λ (z : Step ℕ ℕ ℕ). z.answer.reply) q,
        ap (λ (z : Step ℕ ℕ ℕ). z.state.in_flight) q,
        ap (λ (z : Step ℕ ℕ ℕ). z.answer.report) q
            ∙ ap (λ (z : Step ℕ ℕ ℕ). report (passes_in (settle_at now u).events) (overflows_in (settle_at now u).events) a.notes
            z.state) (sym q),
      )

  -- with 128 bytes in flight, and with fewer, the byte joins them, and no notice but the clock's is given
  pub write-taken : length (settled now u).in_flight ≤ 128 → let s : Step ℕ ℕ ℕ = step (Call.at now (Dated.write x)) u in
      (s.answer.reply ≡ writes (Ok true))
      × (s.state.in_flight ≡ (settled now u).in_flight ++ (record { gone_at = gone_at now (settled now u); byte = x.value % 256 } ∷ []))
      × (s.answer.report ≡ report (passes_in (settle_at now u).events) (overflows_in (settle_at now u).events)
      (source_notes UartClock (unmodelled_source (settled now u).control.words.clk_conf)) s.state)
  unfolding sent
  write-taken h = send-answer (sent now (x.value % 256) (settled now u)) (byte-taken now (x.value % 256) (settled now u) h)

  -- so 129 may be in flight
  pub write-at-128 : length (settled now u).in_flight ≡ 128 → length (step (Call.at now (Dated.write x)) u).state.in_flight ≡ 129
  write-at-128 h =
      ap length (write-taken (rw h (omega arith))).1 ∙ length-append (settled now u).in_flight _ ∙ ap (λ (k : ℕ). k + 1) h

  -- with 129 it is dropped, with UartOverflow
  pub write-dropped : 128 < length (settled now u).in_flight → let s : Step ℕ ℕ ℕ = step (Call.at now (Dated.write x)) u in
      (s.answer.reply ≡ writes (Ok true)) × (s.state.in_flight ≡ (settled now u).in_flight)
      × (s.answer.report
      ≡ report (passes_in (settle_at now u).events) (overflows_in (settle_at now u).events) (UartOverflow ∷ []) s.state)
  unfolding dropped
  write-dropped h = send-answer (dropped (settled now u)) (byte-dropped now (x.value % 256) (settled now u) h)

-- ---- a byte leaves

gone-first : {W : Type 0} (date : ℕ) (s : Sent W) (ss : List (Sent W)) → s.gone_at ≤ date → gone date (s ∷ ss) ≡ suc (gone date ss)
unfolding gone
gone-first date s ss h = ap (λ (b : Bool). elim b as (λ _. ℕ) [ true ↦ suc (gone date ss) | false ↦ zero ]) (le-leb s.gone_at date h)

-- the bytes in flight leave in order: the first, once its date has come, is the next of those that have left
pub byte-leaves : {H W : Type 0} (date : ℕ) (u : Uart H W) (s : Sent W) (ss : List (Sent W)) → u.in_flight ≡ s ∷ ss → s.gone_at ≤ date
    → ((settle_to date u).state.tx ≡ u.tx ++ (s.byte ∷ map (λ x. x.byte) (take (gone date ss) ss)))
    × ((settle_to date u).state.in_flight ≡ drop (gone date ss) ss)
unfolding depart leave
byte-leaves date u s ss e h = (
  settle_to-tx date u
      ∙ ap (λ (l : List (Sent _)). u.tx ++ map (λ x. x.byte) (take (gone date l) l)) e
      ∙ ap (λ (n : ℕ). u.tx ++ map (λ x. x.byte) (take n (s ∷ ss))) (gone-first date s ss h),
  settle_to-in_flight date u ∙ ap (λ (l : List (Sent _)). drop (gone date l) l) e
      ∙ ap (λ (n : ℕ). drop n (s ∷ ss)) (gone-first date s ss h),
)

-- take_tx hands it out
pub byte-handed-out : (now : ℕ) (u : Uart ℕ ℕ) (lent : List ℕ) (s : Sent ℕ) (ss : List (Sent ℕ)) → InTime now u → sent_limit ≤ length lent
    → u.in_flight ≡ s ∷ ss
    → s.gone_at ≤ settling_date now u.control
    → (step (Call.at now (Dated.take_tx lent)) u).answer.reply
    ≡ takes (filled (u.tx ++ (s.byte ∷ map (λ x. x.byte) (take (gone (settling_date now u.control) ss) ss))) lent)
unfolding step plan plan_by date_of answering Calls.take_tx carried after_settling quiet settle settling_date dated refuse_if
byte-handed-out now u lent s ss t long e h =
    ap (λ (z : Step ℕ ℕ ℕ). z.answer.reply)
    (carried-answer t takes (Calls.take_tx now lent u)
    (ap (λ (b : Bool). refuse_if b BufferTooShort none) (le-ltb (length lent) sent_limit long)))
    ∙ ap (λ (l : List ℕ). takes (filled l lent)) (byte-leaves _ (dated now u) s ss e h).0

-- ---- a new UART takes bytes

module _ (offsets ws : List ℕ) (now : ℕ) (early : now < date_end) where
  abbrev fresh : Uart ℕ ℕ
  fresh = new offsets ws

  new-in-time : InTime now fresh
  unfolding new new_control
  new-in-time = record { before_end = early; not_back = omega arith }

  none-flying : (settled now fresh).in_flight ≡ []
  unfolding settle dated new depart leave gone
  none-flying = settle_to-in_flight _ (dated now fresh)

  -- neither 4 nor any other number at a first write to FIFO: the byte is in flight
  pub first-write : (x : Written) → register_of offsets x.offset ≡ Register.fifo
      → ((step (Call.at now (Dated.write x)) (new offsets ws)).answer.reply ≡ writes (Ok true))
      × ((step (Call.at now (Dated.write x)) (new offsets ws)).state.in_flight
      ≡ record { gone_at = gone_at now (settled now (new offsets ws)); byte = x.value % 256 } ∷ [])
  unfolding new map_of
  first-write x e =
      let w = write-taken now fresh x new-in-time e (omega arith) (rw none-flying (omega arith)) in (
        w.0,
        w.1 ∙ ap (λ (l : List (Sent ℕ)). l ++ (record { gone_at = gone_at now (settled now fresh); byte = x.value % 256 } ∷ []))
            none-flying,
      )

  no_run : (n d : ℕ) → runs_full n 0 0 d ≡ false
  unfolding runs_full
  no_run n d = and-false (ltb 0 n)

  -- neither 5 nor any other number at a first hand-over of up to 1,024 bytes
  pub first-hand-over : (at : ℕ) (bs : List ℕ) → length bs ≤ host_limit
      → (step (Call.at now (Dated.receive at bs)) (new offsets ws)).answer.reply ≡ does (Ok tt)
  unfolding step plan plan_by date_of answering Calls.receive carried after_settling quiet new refuse_if host_full last_date
  first-hand-over at bs h =
      ap (λ (z : Step ℕ ℕ ℕ). z.answer.reply)
      (carried-answer new-in-time does (Calls.receive now at bs fresh)
      (ap₂ (λ (a b : Bool). refuse_if a HostFull (refuse_if b RunsFull none)) (le-ltb host_limit (0 + length bs) (omega arith))
      (no_run (length bs) (host_date now at))))

-- What becomes of a host byte: a heard byte with room is stored, and the firmware then reads it. Assumes nothing.
use Rattle.std.specs.Prelude.{◌≡◌, refl, ℕ, suc, ◌*◌, ◌<◌, ◌≤◌, Bool, true, false, length, None}
use Rattle.std.proofs.Common.{sym, ◌∙◌, arith, le-ltb, lt-ltb}
use Rattle.std.proofs.Math.Path.{ap, ap₂}
use Rattle.std.proofs.Math.Numerals.{add-two}
use Rattle.std.proofs.Math.Bool.{decide}
use Rattle.std.proofs.Math.Option.{Option, none, some}
use mathlib.Core.List.{List, [], ◌∷◌, ◌++◌, append-nil, append_assoc}
use Rattle.model.specs.Numbers.{choose, bit, due_by}
use Rattle.model.specs.State.{OnTheLine, Uart, line_of}
use Rattle.model.specs.Timing.{settings}
use Rattle.model.specs.Events.{goes_on}
use Rattle.model.specs.Line.{raise_if, fifo_bytes, after_date, timeout_at, fate}
use Rattle.model.specs.Settle.{Pass, tx_done, leave, depart, received, nothing_due, timed_out, landed, in_frame, begun, pass_on, pass}
use Rattle.model.specs.Settle.{passes_from, pending, passes, levels, leveled, settings_of, settle_to}
use Rattle.model.specs.Settle.{settle, settling_date}
use Rattle.model.specs.Replies.{byte}
use Rattle.model.specs.Map.{Register, register_of}
use Rattle.model.specs.Registers.{pop, looks, read_register, read_looking, read_at}
use Rattle.model.specs.Calls.{dated, after_settling, read_placed, carried}
use Rattle.model.specs.Call.{Dated, Call, reads}
use Rattle.model.specs.Run.{Step, step}
use Rattle.model.specs.Run.{answering}
use Rattle.model.specs.Limits.{Within}
use Rattle.model.proofs.Laws.Cases.{pass-cases, passes_on}
use Rattle.model.proofs.MeetsManual.Answers.{InTime, read_answer}
use Rattle.model.specs.Names.{Date}
use Rattle.model.specs.declared.Settings.{Settings}
use Rattle.model.specs.declared.Fate.{Fate}
use Rattle.model.specs.declared.Fate.TheVariants.{Stored, Overflowed, Cleared, ClockOff, Unheard}
use Rattle.model.specs.declared.Unsupported.{Unsupported}

-- ---- a heard byte with room

module _ {H W : Type 0} (s : Settings) (date : ℕ) (u : Uart H W) (l : OnTheLine H) where
  room-stores : l.frame.heard ≡ true → s.rx_sclk_en ≡ true → s.rxfifo_rst ≡ false → length u.rx < 128
      → fate s (length u.rx) l.frame ≡ Stored
  unfolding fate choose
  room-stores a b c d =
      (λ i. choose (a i) (choose (b i) (choose (c i) Cleared (choose (lt-ltb (length u.rx) fifo_bytes d i) Stored Overflowed))
      ClockOff) Unheard)

  no-timeout : (line_of u).idle_since ≡ None → due_by date (timeout_at s (line_of u)) ≡ false
  unfolding timeout_at after_date due_by
  no-timeout h = ap (λ (d : Date). due_by date (after_date s.timeout_time d)) h

  -- a heard byte whose landing date has come, with room, the clock on and RXFIFO_RST clear, is the last in the receive FIFO
  -- after the pass, and the line is free. Within the limits no idle line is open beside it
  pub byte-lands : (line_of u).idle_since ≡ None → u.receiving ≡ some l → l.frame.heard ≡ true → s.rx_sclk_en ≡ true
      → s.rxfifo_rst ≡ false
      → length u.rx < 128 → (line_of u).line_free_at ≤ date
      → ((pass s date u).state.rx ≡ u.rx ++ (l.byte ∷ [])) × ((pass s date u).state.receiving ≡ none)
  unfolding pass pass_on in_frame landed received choose
  byte-lands closed on heard clock rst room come =
      let q : pass s date u ≡ landed s Stored l u =
      ap (λ (o : Option (OnTheLine H)). pass_on s date o u) on
      ∙ ap₂ (λ (a b : Bool). choose a (timed_out s u) (choose b (nothing_due date u) (landed s (fate s (length u.rx) l.frame) l u)))
      (no-timeout closed) (le-ltb date (line_of u).line_free_at come)
      ∙ ap (λ (f : Fate). landed s f l u) (room-stores heard clock rst room) in
      (ap (λ (p : Pass H W). p.state.rx) q, ap (λ (p : Pass H W). p.state.receiving) q)

-- ---- the receive FIFO only grows in a settling

-- the second list is the first with more behind it
abbrev Grown : {H : Type 0} → List H → List H → Type 0
Grown {H} a b = (more : List H) × (b ≡ a ++ more)

module _ {H : Type 0} where
  as_it_was : (a : List H) → Grown a a
  as_it_was a = ([], sym (append-nil a))

  and-on : (a b c : List H) → Grown a b → Grown b c → Grown a c
  and-on a b c (m, p) (n, q) = (m ++ n, q ∙ ap (λ (x : List H). x ++ n) p ∙ append_assoc a m n)

  received-grows : (f : Fate) (b : H) (held : List H) → Grown held (received f b held)
  unfolding received
  received-grows Stored b held = (b ∷ [], refl)
  received-grows Overflowed b held = as_it_was held
  received-grows Cleared b held = as_it_was held
  received-grows ClockOff b held = as_it_was held
  received-grows Unheard b held = as_it_was held

pub pass-grows : {H W : Type 0} (s : Settings) (date : ℕ) (u : Uart H W) → Grown u.rx (pass s date u).state.rx
unfolding timed_out nothing_due landed begun
pass-grows s date =
    pass-cases s date (λ (u : Uart _ _) (p : Pass _ _). Grown u.rx p.state.rx) (λ u _. as_it_was u.rx) (λ u. as_it_was u.rx)
    (λ u l _. received-grows _ l.byte u.rx) (λ u r rs b bs p _ _ _ h. h)

-- the byte that is due is stored before whatever the later passes store
landing-settled : {H W : Type 0} (date : ℕ) (u : Uart H W) (l : OnTheLine H) → (line_of u).idle_since ≡ None → u.receiving ≡ some l
    → l.frame.heard ≡ true
    → bit 25 u.control.words.clk_conf ≡ true → bit 17 u.control.words.conf0 ≡ false → length u.rx < 128
    → (line_of u).line_free_at ≤ date
    → Grown (u.rx ++ (l.byte ∷ [])) (settle_to date u).state.rx
unfolding settle_to leveled levels passes passes_from depart leave tx_done raise_if settings_of settings
landing-settled {H} {W} date u l closed on heard clock rst room come =
    let s : Settings = settings_of u in
    let v : Uart H W = depart date u in
    let p : Pass H W = pass s date v in
    let k : ℕ = 2 * pending v in
    let first : p.state.rx ≡ u.rx ++ (l.byte ∷ []) = (byte-lands s date v l closed on heard clock rst room come).0 in
    let more : Grown p.state.rx (passes_from s date (suc k) (goes_on p.event) p.state).state.rx =
    passes_on (λ (a b : Uart H W). Grown a.rx b.rx) s date (λ a. as_it_was a.rx) (λ a b c. and-on a.rx b.rx c.rx)
    (pass-grows s date)
    (suc k) (goes_on p.event) p.state in (
      more.0,
      ap (λ (n : ℕ). (passes_from s date n true v).state.rx) (add-two k) ∙ more.1 ∙ ap (λ (x : List H). x ++ more.0) first,
    )

pop-first : {H W : Type 0} (ns : List Unsupported) (bs : List H) (u : Uart H W) (b : H) (more : List H) → bs ≡ b ∷ more
    → (pop ns bs u).reply ≡ byte b
unfolding pop
pop-first ns bs u b more e = ap (λ (x : List _). (pop ns x u).reply) e

-- a byte on the line is what the firmware reads once its landing date has come: heard, with the clock on, RXFIFO_RST clear and
-- no byte held before it
pub byte-read : (now offset : ℕ) (u : Uart ℕ ℕ) (l : OnTheLine ℕ) → InTime now u → Within u
    → register_of u.map.offsets offset ≡ Register.fifo → u.receiving ≡ some l
    → l.frame.heard ≡ true → bit 25 u.control.words.clk_conf ≡ true → bit 17 u.control.words.conf0 ≡ false → u.rx ≡ []
    → (line_of u).line_free_at ≤ settling_date now u.control
    → (step (Call.at now (Dated.read offset)) u).answer.reply ≡ reads (byte l.byte)
unfolding answering carried read_placed after_settling read_at looks decide read_looking read_register settle settling_date dated
byte-read now offset u l t limits e on heard clock rst empty come =
    let closed : (line_of u).idle_since ≡ None = limits.idle_line l on heard in
    let stored = landing-settled (settling_date now u.control) (dated now u) l closed on heard clock rst (rw empty (omega arith)) come in
    ap (λ (x : Step ℕ ℕ ℕ). x.answer.reply) (read_answer t offset Register.fifo e)
    ∙ ap reads (pop-first _ _ _ l.byte stored.0 (stored.1 ∙ ap (λ (r : List ℕ). r ++ (l.byte ∷ []) ++ stored.0) empty))

-- One write more of a row: on a still state the byte joins those in flight or is dropped; else it settles first. Assumes nothing.
use Rattle.std.specs.Prelude.{◌≡◌, true, false, List, [], ◌∷◌, ltb, drop, get_or}
use Rattle.std.proofs.Math.Path.{refl, ap, subst}
use Rattle.std.proofs.Common.{sym, ◌∙◌, ltb-true}
use Prim.Native.Nat.{ℕ, zero, suc, ◌+◌, ◌<◌, ◌≤◌}
use native.Mathlib.Omega.{arith}
use Rattle.std.proofs.Math.ListN.{length}
use Rattle.model.specs.State
use Rattle.model.specs.State.{Sent}
use Rattle.model.specs.Events.{passes_in, overflows_in}
use Rattle.model.specs.Timing.{unmodelled_source}
use Rattle.model.specs.Line.{fifo_bytes, raise_if}
use Rattle.model.specs.Settle.{assert_levels, drive, levels}
use Rattle.model.specs.Arm.{arm}
use Rattle.model.specs.Replies.{report, write_number}
use Rattle.model.specs.Registers.{Access, source_notes, sent, dropped, send_byte, concluded}
use Rattle.model.specs.Tests.{date_end, transmit_full}
use Rattle.model.specs.Calls.{Outcome, after_settling, carried, send, dated}
use Rattle.model.specs.Row.{notes_of, fifo_write}
use Rattle.model.specs.Limits.{Within}
use Rattle.model.specs.Plans.{settle_at}
use Rattle.model.proofs.Laws.Choose.{choose-true, choose-false}
use Rattle.model.proofs.Keeps.Kept.{settle-keeps}
use Rattle.model.proofs.Keeps.EachCall.{send-within}
use Rattle.theorems.specs.Rows.Still.{Still}
use Rattle.theorems.specs.Rows.Next
use Rattle.model.proofs.Rows.Notices.{report-notes}
use Rattle.theorems.specs.Rows.Next.{written-carried, written-dropped, written_next, next-still}
use Rattle.model.specs.declared.Unsupported.{Unsupported}
use Rattle.model.specs.declared.Unsupported.TheVariants.{UartOverflow, UartClock}
use Rattle.model.specs.declared.Words.{Words}
use Rattle.model.specs.Names.{Write}
use Rattle.access.specs.Row.{source_of, Wrote, wrote_at, wrote-sent, wrote-dropped}

-- ---- the next byte of a list

pub drop-next : (n : ℕ) (l : List ℕ) → n < length l → drop n l ≡ get_or l n 0 ∷ drop (suc n) l
drop-next zero [] h = absurd (omega arith)
drop-next zero (b ∷ l) h = refl
drop-next (suc n) [] h = absurd (omega arith)
drop-next (suc n) (b ∷ l) h = drop-next n l (omega arith)

some_first : (l : List (Sent ℕ)) → 1 ≤ length l → (s : Sent ℕ) × (ss : List (Sent ℕ)) × (l ≡ s ∷ ss)
some_first [] h = absurd (omega arith)
some_first (s ∷ ss) h = (s, ss, refl)

module _ (now : ℕ) (b : ℕ) (u : State.Uart ℕ ℕ) (early : now < date_end)
    (room : transmit_full (length u.tx) (length u.in_flight) ≡ false) (still : Still now u) (w : Within u)
    (flying : 1 ≤ length u.in_flight) where
  pub quick-still : Still now (Next.next now b u)
  quick-still = let (s, ss, f) = some_first u.in_flight flying in next-still now b u still early room s ss f w.flying_fits

  pub quick-within : length u.in_flight ≤ fifo_bytes → Within (Next.next now b u)
  quick-within few =
      let (s, ss, f) = some_first u.in_flight flying in
      subst Within (ap (λ (x : Outcome Write ℕ ℕ). x.state) (written_next now b u still early room s ss f w.flying_fits few))
      (send-within now b u w)

module _ (now : ℕ) (bs : List ℕ) {u₀ : State.Uart ℕ ℕ} (early : now < date_end) where
  -- ---- on a still state

  module _ {u : State.Uart ℕ ℕ} {made p o d : ℕ} (k : Wrote now bs u₀ u made p o d)
      (room : transmit_full (length u.tx) (length u.in_flight) ≡ false) (still : Still now u) {b : ℕ}
      (next : drop made bs ≡ b ∷ drop (suc made) bs) where
    quick-dropped : fifo_bytes < length u.in_flight → Wrote now bs u₀ u (suc made) (p + 1) o (suc d)
    unfolding report write_number
    quick-dropped full =
        wrote_at now bs refl refl (let e : o + 0 ≡ o = omega arith in e) refl
        (wrote-dropped now bs k next (written-dropped now b u still early room full) refl refl
        (report-notes 1 0 (UartOverflow ∷ []) u) full)

    module _ (w : Within u) (flying : 1 ≤ length u.in_flight) (few : length u.in_flight ≤ fifo_bytes) where
      pub quick-sent : Wrote now bs u₀ (Next.next now b u) (suc made) (p + 1) o d
      unfolding report write_number
      quick-sent =
          let (s, ss, f) = some_first u.in_flight flying in
          wrote_at now bs refl refl (let e : o + 0 ≡ o = omega arith in e) refl
          (wrote-sent now bs k next (written_next now b u still early room s ss f w.flying_fits few) refl refl
          (none_over d k.over) (report-notes 1 0 (source_notes UartClock (source_of u)) (Next.next now b u)))
        where
          none_over : (n : ℕ) → (1 ≤ n → fifo_bytes < length u.in_flight) → n ≡ 0
          none_over zero h = refl
          none_over (suc n) h = absurd (omega (arith, few, h (omega arith)))

  -- once over 128 are in flight all the others are dropped
  pub drops : {u : State.Uart ℕ ℕ} → transmit_full (length u.tx) (length u.in_flight) ≡ false → Still now u
      → fifo_bytes < length u.in_flight → (n : ℕ) {made p o d : ℕ} → made + n ≤ length bs → Wrote now bs u₀ u made p o d
      → Wrote now bs u₀ u (made + n) (p + n) o (d + n)
  drops room still full zero {made} {p} {o} {d} le k =
      wrote_at now bs (let e : made ≡ made + 0 = omega arith in e) (let e : p ≡ p + 0 = omega arith in e) refl
      (let e : d ≡ d + 0 = omega arith in e) k
  drops room still full (suc n) {made} {p} {o} {d} le k =
      wrote_at now bs (let e : suc made + n ≡ made + suc n = omega arith in e) (let e : p + 1 + n ≡ p + suc n = omega arith in e) refl
      (let e : suc d + n ≡ d + suc n = omega arith in e)
      (drops room still full n (omega arith) (quick-dropped k room still (drop-next made bs (omega arith)) full))

-- ---- settled first

pub settled-within : (now b : ℕ) (u : State.Uart ℕ ℕ) → now < date_end → u.control.last ≤ now
    → transmit_full (length u.tx) (length u.in_flight) ≡ false → Within u
    → Within (concluded (send_byte now b (settle_at now u).state)).state
unfolding carried after_settling send
settled-within now b u early in_order room w =
    subst Within (ap (λ (x : Outcome Write ℕ ℕ). x.state) (written-carried now b u early in_order room)) (send-within now b u w)

module _ (now : ℕ) (bs : List ℕ) {u₀ : State.Uart ℕ ℕ} (early : now < date_end) where
  module _ {u : State.Uart ℕ ℕ} {made p o : ℕ} (k : Wrote now bs u₀ u made p o 0) (in_order : u.control.last ≤ now)
      (room : transmit_full (length u.tx) (length u.in_flight) ≡ false) {b : ℕ} (next : drop made bs ≡ b ∷ drop (suc made) bs) where
    abbrev settled : State.Uart ℕ ℕ
    settled = (settle_at now u).state

    abbrev outcome_of : Access Write ℕ ℕ → Outcome Write ℕ ℕ
    outcome_of a = record {
      reply = (concluded a).reply;
      report = report (passes_in (settle_at now u).events) (overflows_in (settle_at now u).events) a.notes (concluded a).state;
      state = (concluded a).state;
      events = (settle_at now u).events;
    }

    written-settling : fifo_write now u b ≡ outcome_of (send_byte now b settled)
    unfolding carried after_settling send concluded
    written-settling = written-carried now b u early in_order room

    source-kept : source_of settled ≡ source_of u
    unfolding dated
    source-kept = ap (λ (w : Words). unmodelled_source w.clk_conf) (settle-keeps now (dated now u)).words

    drops-it : ltb fifo_bytes (length settled.in_flight) ≡ true → send_byte now b settled ≡ dropped settled
    unfolding send_byte
    drops-it full = choose-true (dropped settled) (sent now b settled) full

    sends-it : ltb fifo_bytes (length settled.in_flight) ≡ false → send_byte now b settled ≡ sent now b settled
    unfolding send_byte
    sends-it some = choose-false (dropped settled) (sent now b settled) some

    noted-so : (ns : List Unsupported) (v : State.Uart ℕ ℕ)
        → notes_of (report (passes_in (settle_at now u).events) (overflows_in (settle_at now u).events) ns v) ≡ ns
    noted-so ns v = report-notes (passes_in (settle_at now u).events) (overflows_in (settle_at now u).events) ns v

    After : Access Write ℕ ℕ → ℕ → Type 0
    After a d =
        Wrote now bs u₀ (concluded a).state (suc made) (p + passes_in (settle_at now u).events) (o + overflows_in (settle_at now u).events)
        d

    pub settled-dropped : ltb fifo_bytes (length (settle_at now u).state.in_flight) ≡ true
        → Wrote now bs u₀ (concluded (send_byte now b (settle_at now u).state)).state (suc made) (p + passes_in (settle_at now u).events)
        (o + overflows_in (settle_at now u).events) 1
    unfolding After report write_number concluded dropped levels assert_levels drive raise_if arm
    settled-dropped full =
        subst (λ (a : Access Write ℕ ℕ). After a 1) (sym (drops-it full))
        (wrote-dropped now bs k next (written-settling ∙ ap outcome_of (drops-it full)) refl source-kept
        (noted-so (UartOverflow ∷ []) (concluded (dropped settled)).state) (ltb-true _ _ full))

    pub settled-sent : ltb fifo_bytes (length (settle_at now u).state.in_flight) ≡ false
        → Wrote now bs u₀ (concluded (send_byte now b (settle_at now u).state)).state (suc made) (p + passes_in (settle_at now u).events)
        (o + overflows_in (settle_at now u).events) 0
    unfolding After report write_number concluded sent levels assert_levels drive raise_if arm
    settled-sent some =
        subst (λ (a : Access Write ℕ ℕ). After a 0) (sym (sends-it some))
        (wrote-sent now bs k next (written-settling ∙ ap outcome_of (sends-it some)) refl source-kept refl
        (noted-so (source_notes UartClock (source_of settled)) (concluded (sent now b settled)).state ∙ ap (source_notes UartClock)
        source-kept))

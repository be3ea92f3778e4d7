-- A row, write by write: what the writes so far come to, and how one more adds to it. Assumes nothing.
use Rattle.std.specs.Prelude.{◌≡◌, refl, Bool, true, false, ◌&&◌, ltb, length, take, drop, get_or, Some, None}
use Rattle.std.proofs.Math.Path.{sym, ap}
use Rattle.std.proofs.Common.{ap₂, subst, ◌∙◌, length-append, lt-ltb}
use Rattle.std.proofs.Math.Option.{Option, none, some}
use mathlib.Core.List.{List, [], ◌∷◌, ◌++◌, map, flat_map, append_assoc, append-nil, map-append}
use Prim.Native.Nat.{ℕ, zero, suc, ◌+◌, ◌-◌, ◌*◌, ◌<◌, ◌≤◌}
use native.Mathlib.Omega.{arith}
use Rattle.std.proofs.Math.Dec.{eqb}
use Rattle.std.proofs.lemmas.List.{length-map, length-replicate}
use Rattle.model.specs.Numbers.{choose, due_by}
use Rattle.model.specs.State
use Rattle.model.specs.State.{Sent}
use Rattle.model.specs.Events.{total, passes_in, overflows_in}
use Rattle.model.specs.Timing.{unmodelled_source}
use Rattle.model.specs.Line.{fifo_bytes}
use Rattle.model.specs.Settle.{settling_date}
use Rattle.model.specs.Arm.{last_gone}
use Rattle.model.specs.Replies.{notices, notice_places, report, no_report, notice_numbers, write_number}
use Rattle.model.specs.Registers.{source_notes, send_byte, concluded}
use Rattle.model.specs.Tests.{date_end, transmit_full}
use Rattle.model.specs.Calls.{Outcome, after_settling}
use Rattle.model.specs.Row
use Rattle.model.specs.Row.{Count, same_notice, counted, counted_all, notes_of, times_of, fifo_write, writes, left_by, summed, row_limit}
use Rattle.model.proofs.Ends.Passes.{apart}
use Rattle.model.proofs.Laws.Choose.{choose-true, choose-false}
use Rattle.model.specs.declared.Made.{Made}
use Rattle.model.specs.declared.Notice.{Notice}
use Rattle.model.specs.declared.Refusal.{Refusal}
use Rattle.model.specs.declared.Report.{Report}
use Rattle.model.specs.Names.{Write}
use Rattle.model.specs.declared.Source.{Source}
use Rattle.model.specs.declared.Unsupported.{Unsupported}
use Rattle.model.specs.declared.Unsupported.TheVariants.{UartOverflow, UartClock}
use Rattle.replies.specs.Notices.{noted, added, added_if}
use Rattle.replies.specs.NoticeLaws.{added-noted}
use Rattle.replies.specs.declared.notices.Notices.{Notices}

-- ---- notices as counts

unfoldable pub clock_counts : Source → ℕ → List Count
clock_counts s zero = []
clock_counts Source.None (suc k) = []
clock_counts Source.Sel0 (suc k) = record { what = UartClock 0; times = suc k } ∷ []
clock_counts Source.Sel2 (suc k) = record { what = UartClock 2; times = suc k } ∷ []

unfoldable pub overflow_counts : ℕ → List Count
overflow_counts zero = []
overflow_counts (suc d) = record { what = UartOverflow; times = suc d } ∷ []

-- so many sent with the clock's source, and then so many dropped
unfoldable pub counts_of : Source → ℕ → ℕ → List Count
counts_of s sent dropped = clock_counts s sent ++ overflow_counts dropped

pub counts-sent : (s : Source) (k : ℕ) → counted_all (counts_of s k 0) (source_notes UartClock s) ≡ counts_of s (suc k) 0
unfolding counted_all counted counts_of clock_counts overflow_counts source_notes choose notice_numbers
counts-sent Source.None zero = refl
counts-sent Source.None (suc k) = refl
counts-sent Source.Sel0 zero = refl
counts-sent Source.Sel0 (suc k) = refl
counts-sent Source.Sel2 zero = refl
counts-sent Source.Sel2 (suc k) = refl

pub counts-dropped : (s : Source) (k d : ℕ) → counted_all (counts_of s k d) (UartOverflow ∷ []) ≡ counts_of s k (suc d)
unfolding counted_all counted counts_of clock_counts overflow_counts choose notice_numbers
counts-dropped s zero zero = refl
counts-dropped s zero (suc d) = refl
counts-dropped Source.None (suc k) zero = refl
counts-dropped Source.None (suc k) (suc d) = refl
counts-dropped Source.Sel0 (suc k) zero = refl
counts-dropped Source.Sel0 (suc k) (suc d) = refl
counts-dropped Source.Sel2 (suc k) zero = refl
counts-dropped Source.Sel2 (suc k) (suc d) = refl

pub counted_all-append : (cs : List Count) (ms ns : List Unsupported) → counted_all cs (ms ++ ns) ≡ counted_all (counted_all cs ms) ns
unfolding counted_all
counted_all-append cs [] ns = refl
counted_all-append cs (m ∷ ms) ns = counted_all-append (counted m cs) ms ns

-- ---- one more behind

module _ {A : Type 0} where
  total-snoc : (f : A → ℕ) (l : List A) (x : A) → total f (l ++ (x ∷ [])) ≡ total f l + f x
  unfolding total
  total-snoc f [] x = omega arith
  total-snoc f (y ∷ l) x = omega (arith, total-snoc f l x)

  flat-snoc : {B : Type 0} (g : A → List B) (l : List A) (x : A) → flat_map g (l ++ (x ∷ [])) ≡ flat_map g l ++ g x
  unfolding flat_map
  flat-snoc g [] x = append-nil (g x)
  flat-snoc g (y ∷ l) x = ap (λ r. g y ++ r) (flat-snoc g l x) ∙ sym (append_assoc (g y) (flat_map g l) (g x))

left-snoc : (u : State.Uart ℕ ℕ) (os : List (Outcome Write ℕ ℕ)) (x : Outcome Write ℕ ℕ) → left_by u (os ++ (x ∷ [])) ≡ x.state
unfolding left_by
left-snoc u [] x = refl
left-snoc u (o ∷ os) x = left-snoc o.state os x

-- ---- the writes so far

abbrev pub source_of : State.Uart ℕ ℕ → Source
source_of u = unmodelled_source u.control.words.clk_conf

abbrev pub notes_in : List (Outcome Write ℕ ℕ) → List Unsupported
notes_in os = flat_map (λ o. notes_of o.report) os

module _ (now : ℕ) (bs : List ℕ) where
  -- from u₀ so many of the row's bytes are written, u is the state, and the others are written from it
  pub record Wrote (u₀ u : State.Uart ℕ ℕ) (made p o dropped : ℕ) : Type 0 where
    pub so : List (Outcome Write ℕ ℕ)
    pub rest : writes now u₀ bs ≡ so ++ writes now u (drop made bs)
    pub long : length so ≡ made
    pub state : left_by u₀ so ≡ u
    pub passes : total (λ x. x.report.passes) so ≡ p
    pub overflows : total (λ x. x.report.overflows) so ≡ o
    pub counts : counted_all [] (notes_in so) ≡ counts_of (source_of u) (made - dropped) dropped
    pub few : dropped ≤ made
    pub over : 1 ≤ dropped → fifo_bytes < length u.in_flight

  -- the same in other words
  pub wrote_at : {u₀ u : State.Uart ℕ ℕ} {m n p q o r d e : ℕ} → m ≡ n → p ≡ q → o ≡ r → d ≡ e → Wrote u₀ u m p o d → Wrote u₀ u n q r e
  wrote_at {u₀} {u} {n = n} {p = p} {q = q} {o = o} {r = r} {d = d} em ep eo ed k =
      subst (λ (x : ℕ). Wrote u₀ u n q r x) ed (subst (λ (x : ℕ). Wrote u₀ u n q x d) eo
      (subst (λ (x : ℕ). Wrote u₀ u n x o d) ep (subst (λ (x : ℕ). Wrote u₀ u x p o d) em k)))

  pub wrote_none : (u : State.Uart ℕ ℕ) → Wrote u u 0 0 0 0
  unfolding left_by total flat_map counted_all counts_of clock_counts overflow_counts
  wrote_none u = record {
    so = [];
    rest = refl;
    long = refl;
    state = refl;
    passes = refl;
    overflows = refl;
    counts = refl;
    few = omega arith;
    over = λ h. absurd (omega (arith, h));
  }

  writes-made : (u : State.Uart ℕ ℕ) (b : ℕ) (l : List ℕ) {x : Outcome Write ℕ ℕ} → fifo_write now u b ≡ x → write_number x.reply ≡ 0
      → writes now u (b ∷ l) ≡ x ∷ writes now x.state l
  unfolding writes
  writes-made u b l {x} e z =
      choose-true _ _ (ap (λ (o : Outcome Write ℕ ℕ). eqb (write_number o.reply) 0) e ∙ ap (λ (n : ℕ). eqb n 0) z)
      ∙ ap (λ (o : Outcome Write ℕ ℕ). o ∷ writes now o.state l) e

  module _ {u₀ u : State.Uart ℕ ℕ} {made p o d : ℕ} (k : Wrote u₀ u made p o d) {b : ℕ} (next : drop made bs ≡ b ∷ drop (suc made) bs)
      {x : Outcome Write ℕ ℕ} (is : fifo_write now u b ≡ x) (done : write_number x.reply ≡ 0)
      (source : source_of x.state ≡ source_of u) where
    abbrev longer : List (Outcome Write ℕ ℕ)
    longer = k.so ++ (x ∷ [])

    on : writes now u₀ bs ≡ longer ++ writes now x.state (drop (suc made) bs)
    on =
        k.rest
        ∙ ap (λ l. k.so ++ l) (ap (writes now u) next ∙ writes-made u b (drop (suc made) bs) is done)
        ∙ sym (append_assoc k.so (x ∷ []) (writes now x.state (drop (suc made) bs)))

    noted-so : counted_all [] (notes_in longer) ≡ counted_all (counts_of (source_of u) (made - d) d) (notes_of x.report)
    noted-so =
        ap (counted_all []) (flat-snoc (λ y. notes_of y.report) k.so x)
        ∙ counted_all-append [] (notes_in k.so) (notes_of x.report)
        ∙ ap (λ cs. counted_all cs (notes_of x.report)) k.counts

    one_more : length longer ≡ suc made
    one_more = length-append k.so (x ∷ []) ∙ omega (arith, k.long)

    pub wrote-sent : d ≡ 0 → notes_of x.report ≡ source_notes UartClock (source_of u)
        → Wrote u₀ x.state (suc made) (p + x.report.passes) (o + x.report.overflows) d
    wrote-sent zero-so ns = record {
      so = longer;
      rest = on;
      long = one_more;
      state = left-snoc u₀ k.so x;
      passes = total-snoc (λ y. y.report.passes) k.so x ∙ ap (λ (n : ℕ). n + x.report.passes) k.passes;
      overflows = total-snoc (λ y. y.report.overflows) k.so x ∙ ap (λ (n : ℕ). n + x.report.overflows) k.overflows;
      counts =
          noted-so
          ∙ ap₂ (λ (n : ℕ) ns. counted_all (counts_of (source_of u) (made - n) n) ns) zero-so ns
          ∙ counts-sent (source_of u) (made - 0)
          ∙ ap₂ (λ s (n : ℕ). counts_of s n 0) (sym source) (let e : suc (made - 0) ≡ suc made - 0 = omega arith in e)
          ∙ ap (λ (n : ℕ). counts_of (source_of x.state) (suc made - n) n) (sym zero-so);
      few = omega (arith, zero-so);
      over = λ h. absurd (omega (arith, h, zero-so));
    }

    pub wrote-dropped : notes_of x.report ≡ UartOverflow ∷ [] → fifo_bytes < length x.state.in_flight
        → Wrote u₀ x.state (suc made) (p + x.report.passes) (o + x.report.overflows) (suc d)
    wrote-dropped ns full = record {
      so = longer;
      rest = on;
      long = one_more;
      state = left-snoc u₀ k.so x;
      passes = total-snoc (λ y. y.report.passes) k.so x ∙ ap (λ (n : ℕ). n + x.report.passes) k.passes;
      overflows = total-snoc (λ y. y.report.overflows) k.so x ∙ ap (λ (n : ℕ). n + x.report.overflows) k.overflows;
      counts =
          noted-so
          ∙ ap (counted_all (counts_of (source_of u) (made - d) d)) ns
          ∙ counts-dropped (source_of u) (made - d) d
          ∙ ap₂ (λ s (n : ℕ). counts_of s n (suc d)) (sym source) (let e : made - d ≡ suc made - suc d = omega arith in e);
      few = omega (arith, k.few);
      over = λ _. full;
    }

-- ---- the notices as the code makes them

unfoldable pub row_notices : Source → ℕ → ℕ → Notices
row_notices s sent dropped = noted (map (λ c. c.what) (counts_of s sent dropped))

-- the source that is told of
abbrev pub told_of : Source → ℕ → Source
told_of s sent = choose (ltb 0 sent) s Source.None

told-notes : (s : Source) (sent : ℕ) → source_notes UartClock (told_of s sent) ≡ map (λ c. c.what) (clock_counts s sent)
unfolding source_notes clock_counts choose
told-notes s zero = refl
told-notes s (suc k) = ap (λ (b : Bool). source_notes UartClock (choose b s Source.None)) (lt-ltb 0 (suc k) (omega arith)) ∙ by-source s
  where
    by-source : (s : Source) → source_notes UartClock s ≡ map (λ c. c.what) (clock_counts s (suc k))
    by-source Source.None = refl
    by-source Source.Sel0 = refl
    by-source Source.Sel2 = refl

few-notes : (s : Source) → length (source_notes UartClock s) ≤ 1
unfolding source_notes
few-notes Source.None = omega arith
few-notes Source.Sel0 = omega arith
few-notes Source.Sel2 = omega arith

pub row-notices : (s : Source) (sent dropped : ℕ)
    → added_if (ltb 0 dropped) UartOverflow (noted (source_notes UartClock (told_of s sent))) ≡ row_notices s sent dropped
unfolding added_if row_notices counts_of overflow_counts choose
row-notices s sent zero =
    ap noted (told-notes s sent ∙ ap (map (λ c. c.what)) (sym (append-nil (clock_counts s sent))))
row-notices s sent (suc d) =
    ap (λ (b : Bool). choose b (added UartOverflow (noted (source_notes UartClock (told_of s sent))))
    (noted (source_notes UartClock (told_of s sent)))) (lt-ltb 0 (suc d) (omega arith))
    ∙ added-noted UartOverflow (source_notes UartClock (told_of s sent)) (omega (arith, few-notes (told_of s sent)))
    ∙ ap (λ l. noted (l ++ (UartOverflow ∷ []))) (told-notes s sent)
    ∙ ap noted (sym (map-append (λ c. c.what) (clock_counts s sent) (record { what = UartOverflow; times = suc d } ∷ [])))

-- ---- and how often each came

pub times_none : (s : Source) (sent dropped : ℕ) → told_of s sent ≡ Source.None
    → (dropped ≡ times_of 0 (counts_of s sent dropped)) × (0 ≡ times_of 1 (counts_of s sent dropped))
unfolding times_of counts_of clock_counts overflow_counts choose
times_none s zero zero e = (refl, refl)
times_none s zero (suc d) e = (refl, refl)
times_none Source.None (suc k) zero e = (refl, refl)
times_none Source.None (suc k) (suc d) e = (refl, refl)
times_none Source.Sel0 (suc k) d e =
    apart (let f : Source.Sel0 ≡ Source.None = sym (choose-true Source.Sel0 Source.None (lt-ltb 0 (suc k) (omega arith))) ∙ e in cc)
times_none Source.Sel2 (suc k) d e =
    apart (let f : Source.Sel2 ≡ Source.None = sym (choose-true Source.Sel2 Source.None (lt-ltb 0 (suc k) (omega arith))) ∙ e in cc)

pub times-some : (s t : Source) (sent dropped : ℕ) → told_of s sent ≡ t → ¬ (t ≡ Source.None)
    → (sent ≡ times_of 0 (counts_of s sent dropped)) × (dropped ≡ times_of 1 (counts_of s sent dropped))
unfolding times_of counts_of clock_counts overflow_counts choose
times-some s t zero d e n = absurd (n (sym e))
times-some Source.None t (suc k) d e n = absurd (n (sym e ∙ both))
  where
    both : told_of Source.None (suc k) ≡ Source.None
    both = choose-true Source.None Source.None (lt-ltb 0 (suc k) (omega arith))
times-some Source.Sel0 t (suc k) zero e n = (refl, refl)
times-some Source.Sel0 t (suc k) (suc d) e n = (refl, refl)
times-some Source.Sel2 t (suc k) zero e n = (refl, refl)
times-some Source.Sel2 t (suc k) (suc d) e n = (refl, refl)

-- A row has at most two different notices: its clock's, and UartOverflow. Assumes nothing.
use Rattle.std.specs.Prelude.{◌≡◌, refl, ℕ, ◌≤◌, length, take, Some, None, Err}
use Rattle.std.proofs.Common.{sym, ap, subst, ◌∙◌, arith, eq-eqb}
use Rattle.std.proofs.Math.Option.{some}
use mathlib.Core.List.{List, [], ◌∷◌, ◌++◌, map, flat_map}
use Rattle.std.proofs.lemmas.List.{length-map}
use Rattle.model.specs.Numbers.{choose}
use Rattle.model.specs.State.{Uart}
use Rattle.model.specs.Timing.{unmodelled_source}
use Rattle.model.specs.Settle.{assert_levels, drive, levels, settle}
use Rattle.model.specs.Arm.{arm}
use Rattle.model.specs.Replies.{notice_numbers, notices, no_report, report}
use Rattle.model.specs.Registers.{Access, source_notes, sent, dropped, send_byte, concluded}
use Rattle.model.specs.Calls.{Outcome, refusing, after_settling, carried, outcome, send, dated}
use Rattle.model.specs.Row.{Count, counted, counted_all, notes_of, row_limit, fifo_write, writes, summed, row}
use Rattle.model.specs.Limits.{All, nil, cons}
use Rattle.model.proofs.Laws.Choose.{choose-ind}
use Rattle.model.proofs.Laws.Lists.{all_append}
use Rattle.model.proofs.Laws.AccessCases.{unless-ind}
use Rattle.model.proofs.Keeps.Rest.{settle_to-words}
use Rattle.model.specs.declared.Notice.{Notice}
use Rattle.model.specs.declared.Refusal.{Refusal}
use Rattle.model.specs.Names.{Row, Write}
use Rattle.model.specs.declared.Source.{Source}
use Rattle.model.specs.declared.Unsupported.{Unsupported}
use Rattle.model.specs.declared.Unsupported.TheVariants.{UartOverflow, UartClock}
use Rattle.model.specs.declared.Words.{Words}

-- ---- the notices of one write

-- those of a UART with such an SCLK_SEL
data Told (sel : ℕ) : Unsupported → Type 0 where
  over : Told sel UartOverflow
  clock : Told sel (UartClock sel)

sel_of : Source → ℕ
sel_of Source.None = 0
sel_of Source.Sel0 = 0
sel_of Source.Sel2 = 2

source_told : (s : Source) → All (Told (sel_of s)) (source_notes UartClock s)
unfolding source_notes sel_of
source_told Source.None = nil
source_told Source.Sel0 = cons Told.clock nil
source_told Source.Sel2 = cons Told.clock nil

-- the notices of a report are those that it was made of
notes-front : (ns : List Unsupported) (r : List Notice)
    → take (length ns) (map (λ n. n.what) (map (λ n. record { what = n }) ns ++ r)) ≡ ns
notes-front [] r = refl
notes-front (n ∷ ns) r = ap (λ l. n ∷ l) (notes-front ns r)

module _ {H W : Type 0} where
  pub report-notes : (p o : ℕ) (ns : List Unsupported) (u : Uart H W) → notes_of (report p o ns u) ≡ ns
  unfolding report notices
  report-notes p o ns u = notes-front ns _

  abbrev source_of : Uart H W → ℕ
  source_of u = sel_of (unmodelled_source u.control.words.clk_conf)

  -- a write keeps the source, and tells what it may
  record Tells (u : Uart H W) (o : Outcome Write H W) : Type 0 where
    source : source_of o.state ≡ source_of u
    notes : All (Told (source_of u)) (notes_of o.report)

  send-told : (now : ℕ) (b : W) (u : Uart H W) → (source_of (send_byte now b u).state ≡ source_of u)
      × All (Told (source_of u)) (send_byte now b u).notes
  unfolding send_byte sent dropped
  send-told now b u =
      choose-ind (λ (a : Access Write H W). (source_of a.state ≡ source_of u) × All (Told (source_of u)) a.notes) _
      (λ _. (refl, cons Told.over nil)) (λ _. (refl, source_told (unmodelled_source u.control.words.clk_conf)))

  write-tells : (now : ℕ) (b : W) (u : Uart H W) → Tells u (fifo_write now u b)
  unfolding outcome refusing no_report carried after_settling send concluded levels drive assert_levels arm settle dated
  write-tells now b u = unless-ind (Tells u) _ _ _ u (λ r. refused r) made
    where
      refused : (r : Refusal) → Tells u (refusing (Err r) u)
      refused r = record { source = refl; notes = nil }

      settled : Uart H W
      settled = (settle now (dated now u)).state

      same : source_of settled ≡ source_of u
      same = ap (λ (w : Words). sel_of (unmodelled_source w.clk_conf)) (settle_to-words _ (dated now u))

      made : Tells u (carried (some now) (send now b u) u)
      made = record {
        source = (send-told now b settled).0 ∙ same;
        notes = subst (All (Told (source_of u))) (sym (report-notes _ _ (send_byte now b settled).notes _))
            (subst (λ (n : ℕ). All (Told n) (send_byte now b settled).notes) same (send-told now b settled).1);
      }

  all_told : (now s : ℕ) (bs : List W) (u : Uart H W) → source_of u ≡ s
      → All (Told s) (flat_map (λ o. notes_of o.report) (writes now u bs))
  unfolding writes flat_map
  all_told now s [] u e = nil
  all_told now s (b ∷ bs) u e =
      let t = write-tells now b u in
      choose-ind (λ (os : List (Outcome Write H W)). All (Told s) (flat_map (λ o. notes_of o.report) os)) _
      (λ _. all_append _ _ (subst (λ (n : ℕ). All (Told n) (notes_of (fifo_write now u b).report)) e t.notes)
      (all_told now s bs (fifo_write now u b).state (t.source ∙ e)))
      (λ _. nil)

-- ---- as counts

-- none, one of them, or both
data Two (sel : ℕ) : List Count → Type 0 where
  none : Two sel []
  over : {k : ℕ} → Two sel (record { what = UartOverflow; times = k } ∷ [])
  clock : {k : ℕ} → Two sel (record { what = UartClock sel; times = k } ∷ [])
  over_clock : {k l : ℕ} → Two sel (record { what = UartOverflow; times = k } ∷ record { what = UartClock sel; times = l } ∷ [])
  clock_over : {k l : ℕ} → Two sel (record { what = UartClock sel; times = k } ∷ record { what = UartOverflow; times = l } ∷ [])

module _ (sel : ℕ) where
  one-over : {cs : List Count} → Two sel cs → Two sel (counted UartOverflow cs)
  unfolding counted choose notice_numbers
  one-over Two.none = Two.over
  one-over Two.over = Two.over
  one-over Two.clock = Two.clock_over
  one-over Two.over_clock = Two.over_clock
  one-over Two.clock_over = Two.clock_over

  one-clock : {cs : List Count} → Two sel cs → Two sel (counted (UartClock sel) cs)
  unfolding counted choose notice_numbers
  one-clock Two.none = Two.clock
  one-clock Two.over = Two.over_clock
  one-clock Two.clock = rw (eq-eqb sel sel refl) Two.clock
  one-clock Two.over_clock = rw (eq-eqb sel sel refl) Two.over_clock
  one-clock Two.clock_over = rw (eq-eqb sel sel refl) Two.clock_over

  all_two : (ns : List Unsupported) (cs : List Count) → All (Told sel) ns → Two sel cs → Two sel (counted_all cs ns)
  unfolding counted_all
  all_two [] cs nil t = t
  all_two (n ∷ ns) cs (cons Told.over a) t = all_two ns _ a (one-over t)
  all_two (n ∷ ns) cs (cons Told.clock a) t = all_two ns _ a (one-clock t)

  two-few : {cs : List Count} → Two sel cs → length cs ≤ 2
  two-few Two.none = omega arith
  two-few Two.over = omega arith
  two-few Two.clock = omega arith
  two-few Two.over_clock = omega arith
  two-few Two.clock_over = omega arith

-- of the writes that are made, whatever the state
pub made-few : {H W : Type 0} (now : ℕ) (bs : List W) (u : Uart H W)
    → length (map (λ c. c.what) (counted_all [] (flat_map (λ o. notes_of o.report) (writes now u bs)))) ≤ 2
made-few now bs u =
    let counts : List Count = counted_all [] (flat_map (λ o. notes_of o.report) (writes now u bs)) in
    subst (λ (n : ℕ). n ≤ 2) (sym (length-map counts (λ (c : Count). c.what)))
    (two-few (source_of u) (all_two (source_of u) _ [] (all_told now (source_of u) bs u refl) Two.none))

pub row-few : {H W : Type 0} (now : ℕ) (bs : List W) (u : Uart H W) → (row now bs u).report.noted ≤ 2
unfolding row refusing no_report summed report
row-few {H} {W} now bs u =
    let none : 0 ≤ 2 = omega arith in
    unless-ind (λ (o : Outcome Row H W). o.report.noted ≤ 2) _ Err _ u (λ r. none) (made-few now (take row_limit bs) u)

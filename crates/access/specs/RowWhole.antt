-- A whole row: the writes that settle, those that do not and those that are dropped are the definition's. Assumes nothing.
use Rattle.std.specs.Prelude.{◌≡◌, Bool, ℕ, zero, suc, ◌+◌, ◌-◌, ◌<◌, ◌≤◌, min, length, drop, take, Ok}
use Rattle.std.proofs.Math.Path.{refl, sym, ap, ap₂}
use Rattle.std.proofs.Common.{◌∙◌}
use Rattle.std.proofs.Math.Bool.{true, false}
use mathlib.Core.List.{List, [], ◌∷◌, ◌++◌, map, append-nil}
use native.Mathlib.Omega.{arith}
use Rattle.std.proofs.Math.Dec.{ltb}
use Rattle.std.proofs.lemmas.List.{length-replicate}
use borrow.Author.Tests.{leb-false, lt-leb, ltb-true, ltb-false}
use Rattle.model.specs.Numbers.{choose}
use Rattle.model.specs.State
use Rattle.model.specs.Line.{fifo_bytes}
use Rattle.model.specs.Replies
use Rattle.model.specs.Tests.{date_end, transmit_full}
use Rattle.model.specs.Row.{Count, counted_all, times_of, writes, summed, row_limit}
use Rattle.model.proofs.Laws.Choose.{choose-true, choose-false}
use Rattle.model.proofs.Rows.Within.{full-writes}
use Rattle.replies.specs.Reports.{report-of}
use Rattle.device.specs.Holds.{Arrays, abs, Shape}
use Rattle.device.specs.declared.Core.{Core}
use Rattle.calls.specs.Answers.{Works}
use Rattle.access.specs.Row.{counts_of, source_of, notes_in, Wrote, wrote_at, row_notices}
use Rattle.access.specs.RowSteps.{drops}
use Rattle.access.specs.Reads.{flying}
use Rattle.access.specs.RowParts.{left, full_of, room_of, over_of, row_core, row_work, around}
use Rattle.access.specs.RowParts.{Passed, Begins, SoFar, Room, Before, Filled, Totals}
use Rattle.access.specs.RowSettles.{cut, cut-next}
use Rattle.access.specs.declared.row.RowSoFar.{RowSoFar}
use Rattle.calls.specs.declared.answers.CallCore.{CallCore}
use Rattle.model.specs.Names.{Row}

-- ---- lists

drop_all : (k : ℕ) (l : List ℕ) → length l ≤ k → drop k l ≡ []
drop_all zero [] h = refl
drop_all zero (x ∷ l) h = absurd (omega arith)
drop_all (suc k) [] h = refl
drop_all (suc k) (x ∷ l) h = drop_all k l (omega arith)

take-cut : (k : ℕ) (l : List ℕ) → take (min (length l) k) l ≡ take k l
take-cut k [] = ap {B = List ℕ} (λ (n : ℕ). take n []) (let e : min 0 k ≡ 0 = omega arith in e) ∙ by_count k
  where
    by_count : (n : ℕ) → ◌≡◌ {A = List ℕ} [] (take n [])
    by_count zero = refl
    by_count (suc n) = refl
take-cut zero (x ∷ l) = ap (λ (n : ℕ). take n (x ∷ l)) (let e : min (suc (length l)) 0 ≡ 0 = omega arith in e)
take-cut (suc k) (x ∷ l) =
    ap (λ (n : ℕ). take n (x ∷ l)) (let e : min (suc (length l)) (suc k) ≡ suc (min (length l) k) = omega arith in e)
    ∙ ap (λ r. x ∷ r) (take-cut k l)

choose-same : (t : Bool) → ◌≡◌ {A = ℕ} (choose t 0 0) 0
unfolding choose
choose-same true = refl
choose-same false = refl

-- where neither limit is reached all bytes that were left joined
all_join : (made n f t sent : ℕ) → sent ≡ min (n - made) (min (129 - f) (1152 - (t + f))) → f + sent ≤ 128 → t + (f + sent) < 1152
    → sent ≡ n - made
all_join made n f t sent e h g = omega (arith, e, h, g)

few-join : (made n f t sent : ℕ) → sent ≡ min (n - made) (min (129 - f) (1152 - (t + f))) → sent ≤ n - made
few-join made n f t sent e = omega (arith, e)

all-lost : (made n sent lost : ℕ) → made ≤ n → sent ≤ n - made → lost ≡ n - made - sent → made + sent + lost ≡ n
all-lost made n sent lost h g e = omega (arith, h, g, e)

none-lost : (made n sent lost : ℕ) → made ≤ n → sent ≡ n - made → lost ≡ 0 → made + sent + lost ≡ n
none-lost made n sent lost h g e = omega (arith, h, g, e)

sum_low : (f f' t t' sent : ℕ) → f' ≡ f + sent → t' ≡ t → f' ≤ 128 → t' + f' < 1152 → (f + sent ≤ 128) × (t + (f + sent) < 1152)
sum_low f f' t t' sent a b h g = (omega (arith, a, h), omega (arith, a, b, g))

-- ---- what the parts ask

pub row-begins : {cycle : ℕ} {c : Core} {a : Arrays} {bytes : List ℕ} {n : ℕ} → Passed cycle c a bytes → n ≡ min (length bytes) row_limit
    → Begins cycle c a bytes n
row-begins p e = record {
  ok = p.ok;
  early = p.early;
  in_order = p.in_order;
  given = omega (arith, e);
  limit = omega (arith, e);
  room = λ h. p.room (omega (arith, e, h));
}

around-shape : (c : Core) (a : Arrays) → Shape c a → Shape c (around a.gone_at a.flight)
around-shape c a k = record {
  flight = k.flight;
  tx = k.tx;
  host = k.host;
  runs = k.runs;
  rx = k.rx;
  gone_at_slots = k.gone_at_slots;
  flight_slots = k.flight_slots;
  tx_slots = length-replicate {A = ℕ} 1152 0;
  host_slots = length-replicate {A = ℕ} 1024 0;
  run_date_slots = length-replicate {A = ℕ} 64 0;
  run_count_slots = length-replicate {A = ℕ} 64 0;
  rx_slots = length-replicate {A = ℕ} 128 0;
}

module _ {cycle : ℕ} {bytes : List ℕ} {n : ℕ} {u₀ : State.Uart ℕ ℕ} (r : RowSoFar) (a : Arrays) (k : SoFar cycle bytes n u₀ r a) where
  pub sent-fits : r.core.tx.count + r.core.flight.count ≤ 1152
  sent-fits = omega (arith, k.ok.within.sent, left r.core a, flying r.core a)

  module _ (given : n ≤ length bytes) (sent : ℕ) (es : sent ≡ room_of r.core (n - r.made)) where
    pub fill-room : Room r.core a.gone_at a.flight bytes r.made sent
    fill-room = record {
      shape = around-shape r.core a k.ok.shape;
      period = k.ok.within.period_high;
      room = omega (arith, es, k.ok.shape.flight.few);
      given = omega (arith, es, k.fits, given);
    }

    pub fill-before : r.goes_on ≡ false → cycle < date_end → Before cycle sent r.core a
    unfolding transmit_full
    fill-before ends early = record {
      shape = k.ok.shape;
      within = k.ok.within;
      early = early;
      still = λ h. k.rests ends (omega (arith, es, h)) (lt-leb 1152 (r.core.tx.count + r.core.flight.count) (omega (arith, es, h)));
      sent = omega (arith, es, sent-fits);
    }

-- ---- the row

module _ {cycle : ℕ} {bytes : List ℕ} {n : ℕ} {u₀ : State.Uart ℕ ℕ} (early : cycle < date_end) (is : n ≡ min (length bytes) row_limit)
    (r : RowSoFar) (a : Arrays) (k : SoFar cycle bytes n u₀ r a) (ends : r.goes_on ≡ false) (sent : ℕ)
    (es : sent ≡ room_of r.core (n - r.made)) (c' : Core) (a' : Arrays) (f : Filled cycle bytes r.made sent r.core a c' a')
    (lost : ℕ)
    (el : lost ≡ over_of c' (n - r.made - sent)) where
  given : n ≤ length bytes
  given = omega (arith, is)

  filled-wrote : Wrote cycle (take n bytes) u₀ (abs c' a') (r.made + sent) (r.passes + sent) r.overflows r.dropped
  filled-wrote =
      f.wrote (take n bytes) u₀ r.passes r.overflows r.dropped
      (λ i h. cut-next n (r.made + i) bytes given (omega (arith, es, h, k.fits))) k.wrote

  full_is : transmit_full (length (abs c' a').tx) (length (abs c' a').in_flight) ≡ full_of c'
  full_is = ap₂ transmit_full (left c' a') (flying c' a')

  -- how many are dropped
  none_over : ltb fifo_bytes c'.flight.count ≡ false → lost ≡ 0
  unfolding over_of
  none_over t = el ∙ choose-false _ _ t

  none-full : full_of c' ≡ true → lost ≡ 0
  unfolding over_of
  none-full t =
      el
      ∙ ap (λ (m : ℕ). choose (ltb fifo_bytes c'.flight.count) m 0) (choose-true 0 (n - r.made - sent) t)
      ∙ choose-same (ltb fifo_bytes c'.flight.count)

  all-over : ltb fifo_bytes c'.flight.count ≡ true → full_of c' ≡ false → lost ≡ n - r.made - sent
  unfolding over_of
  all-over t u = el ∙ choose-true _ _ t ∙ choose-false _ _ u

  -- no write is left where there is room for one
  made_all : full_of c' ≡ false → r.made + sent + lost ≡ n
  unfolding transmit_full
  made_all free = by-flying (ltb fifo_bytes c'.flight.count) refl
    where
      by-flying : (t : Bool) → ltb fifo_bytes c'.flight.count ≡ t → r.made + sent + lost ≡ n
      by-flying true e =
          all-lost r.made n sent lost k.fits (few-join r.made n r.core.flight.count r.core.tx.count sent es)
          (all-over e free)
      by-flying false e =
          let (low, few) =
          sum_low r.core.flight.count c'.flight.count r.core.tx.count c'.tx.count sent f.flight f.tx
          (ltb-false fifo_bytes c'.flight.count e) (leb-false 1152 (c'.tx.count + c'.flight.count) free) in
          none-lost r.made n sent lost k.fits (all_join r.made n r.core.flight.count r.core.tx.count sent es low few)
          (none_over e)

  abbrev made : ℕ
  made = r.made + sent + lost

  abbrev dropped : ℕ
  dropped = r.dropped + lost

  abbrev Whole : Type 0
  Whole = Wrote cycle (take n bytes) u₀ (abs c' a') made (r.passes + (sent + lost)) r.overflows dropped

  whole-none : lost ≡ 0 → Whole
  whole-none e =
      wrote_at cycle (take n bytes) (let q : r.made + sent ≡ made = omega (arith, e) in q)
      (let q : r.passes + sent ≡ r.passes + (sent + lost) = omega (arith, e) in q) refl
      (let q : r.dropped ≡ dropped = omega (arith, e) in q) filled-wrote

  -- some are dropped, so the state is still
  whole-some : fifo_bytes < c'.flight.count → full_of c' ≡ false → 1 ≤ lost → Whole
  unfolding transmit_full
  whole-some over free some =
      wrote_at cycle (take n bytes) refl (let q : r.passes + sent + lost ≡ r.passes + (sent + lost) = omega arith in q) refl refl
      (drops cycle (take n bytes) early (full_is ∙ free)
      (f.still (k.rests ends (omega (arith, some, made_all free)) (lt-leb 1152 (r.core.tx.count + r.core.flight.count)
      (omega (arith, leb-false 1152 (c'.tx.count + c'.flight.count) free, f.flight, f.tx)))))
      (omega (arith, flying c' a', over)) lost (omega (arith, cut n bytes given, made_all free)) filled-wrote)

  whole : Whole
  whole = by_tests (ltb fifo_bytes c'.flight.count) (full_of c') refl refl
    where
      by_count : (m : ℕ) → lost ≡ m → fifo_bytes < c'.flight.count → full_of c' ≡ false → Whole
      by_count zero e over free = whole-none e
      by_count (suc m) e over free = whole-some over free (omega (arith, e))

      by_tests : (s t : Bool) → ltb fifo_bytes c'.flight.count ≡ s → full_of c' ≡ t → Whole
      by_tests false t e g = whole-none (none_over e)
      by_tests true true e g = whole-none (none-full g)
      by_tests true false e g = by_count lost refl (ltb-true fifo_bytes c'.flight.count e) g

  ended : writes cycle (abs c' a') (drop made (take n bytes)) ≡ []
  unfolding writes
  ended = by-full (full_of c') refl
    where
      by-full : (t : Bool) → full_of c' ≡ t → writes cycle (abs c' a') (drop made (take n bytes)) ≡ []
      by-full true e = full-writes cycle (drop made (take n bytes)) (abs c' a') (full_is ∙ e)
      by-full false e =
          ap (writes cycle (abs c' a')) (drop_all made (take n bytes) (omega (arith, cut n bytes given, made_all e)))

  all-writes : writes cycle u₀ (take row_limit bytes) ≡ whole.so
  all-writes =
      ap (writes cycle u₀) (sym (ap (λ (m : ℕ). take m bytes) is ∙ take-cut row_limit bytes))
      ∙ whole.rest ∙ ap (λ l. whole.so ++ l) ended ∙ append-nil whole.so

  counted-so : counted_all [] (notes_in whole.so) ≡ counts_of (source_of (abs c' a')) (made - dropped) dropped
  counted-so = whole.counts

  pub row-totals : Totals r sent lost
  row-totals = record { made = made-low (full_of c') refl; dropped = k.wrote.few; passes = k.passes }
    where
      made-low : (t : Bool) → full_of c' ≡ t → r.made + sent + lost ≤ row_limit
      made-low true e = omega (arith, none-full e, es, k.fits, is)
      made-low false e = omega (arith, made_all e, is)

  pub row-works : {w : CallCore Row} → w ≡ row_core c' r sent lost → Works (λ x. x) (row_work cycle bytes u₀) w.core a' w.reply w.report
  unfolding summed row_notices
  row-works e =
      rw (e, all-writes) (record {
        shape = f.shape;
        replies = ap₂ (λ (m : ℕ) (cs : List Count). Ok (record { count = m; first = times_of 0 cs; second = times_of 1 cs }))
            (sym whole.long) (sym counted-so);
        reports =
            report-of (r.passes + (sent + lost)) r.overflows
            (map (λ c. c.what) (counts_of (source_of (abs c' a')) (made - dropped) dropped)) (abs c' a')
            ∙ rw (whole.passes, whole.overflows, counted-so, whole.state) refl;
        state = sym whole.state;
      })

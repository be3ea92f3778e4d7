-- The writes of a row that settle, one by one. Assumes nothing.
use Rattle.std.specs.Prelude.{◌≡◌, Bool, ltb, drop, take, get_or, Some}
use Rattle.std.proofs.Math.Path.{refl, sym, ap, subst}
use Rattle.std.proofs.Common.{ap₂, ◌∙◌, true≢false, arith}
use Rattle.std.proofs.Math.Bool.{true, false}
use Rattle.std.proofs.lemmas.Bool.{false≢true}
use mathlib.Core.List.{List, [], ◌∷◌}
use Prim.Native.Nat.{ℕ, zero, suc, ◌+◌, ◌-◌, ◌<◌, ◌≤◌}
use Rattle.std.proofs.Math.ListN.{length, length-append}
use borrow.Author.Tests.{ltb-true, lt-ltb, leb-false}
use Rattle.dates.specs.Dates.{subcycles}
use Rattle.model.specs.Numbers.{choose, due_by, earliest, instant_of}
use Rattle.model.specs.State
use Rattle.model.specs.State.{Sent}
use Rattle.model.specs.Line.{fifo_bytes, raise_if}
use Rattle.model.specs.Settle.{assert_levels, drive, levels, settling_date}
use Rattle.model.specs.Arm.{last_gone, arm}
use Rattle.model.specs.Registers.{Access, gone_at, sent, dropped, send_byte, concluded}
use Rattle.model.specs.Tests.{date_end, transmit_full}
use Rattle.model.specs.Calls.{dated}
use Rattle.model.specs.Limits.{Within}
use Rattle.model.specs.Plans.{settle_at}
use Rattle.model.proofs.Laws.Choose.{choose-true, choose-false, choose-ind}
use Rattle.model.proofs.Keeps.Kept.{settle-keeps}
use Rattle.theorems.specs.Rows.Still.{Still}
use Rattle.theorems.specs.Rows.First.{LastAfter, send-still}
use Rattle.model.specs.declared.Control.{Control}
use Rattle.model.specs.Names.{Date, Write}
use Rattle.replies.specs.declared.notices.Notices.{Notices}
use Rattle.device.specs.Holds.{Arrays, abs}
use Rattle.device.specs.Settles.{Settles}
use Rattle.device.specs.declared.Core.{Core}
use Rattle.calls.specs.Answers.{Accesses}
use Rattle.calls.specs.Concludes.{Concludes}
use Rattle.calls.specs.Sums.{few-at}
use Rattle.access.specs.Row.{Wrote, wrote_none, wrote_at}
use Rattle.access.specs.RowSteps.{drop-next, settled-dropped, settled-sent, settled-within}
use Rattle.access.specs.Reads.{flying}
use Rattle.access.specs.RowParts.{left, due_of, goes_on, one_more, none_yet, full_of, Begins, SoFar}
use Rattle.access.specs.declared.row.RowSoFar.{RowSoFar}

-- a row is cut at its bytes
pub cut : (n : ℕ) (bytes : List ℕ) → n ≤ length bytes → length (take n bytes) ≡ n
cut zero bytes h = refl
cut (suc n) [] h = absurd (omega arith)
cut (suc n) (b ∷ bytes) h = ap suc (cut n bytes (omega arith))

cut-get : (n i : ℕ) (bytes : List ℕ) → i < n → get_or (take n bytes) i 0 ≡ get_or bytes i 0
cut-get zero i bytes h = absurd (omega arith)
cut-get (suc n) i [] h = refl
cut-get (suc n) zero (b ∷ bytes) h = refl
cut-get (suc n) (suc i) (b ∷ bytes) h = cut-get n i bytes (omega arith)

pub cut-next : (n i : ℕ) (bytes : List ℕ) → n ≤ length bytes → i < n
    → drop i (take n bytes) ≡ get_or bytes i 0 ∷ drop (suc i) (take n bytes)
cut-next n i bytes h less =
    drop-next i (take n bytes) (omega (arith, cut n bytes h))
    ∙ ap (λ (b : ℕ). b ∷ drop (suc i) (take n bytes)) (cut-get n i bytes less)

pub so-far-none : {cycle : ℕ} {c : Core} {a : Arrays} {bytes : List ℕ} {n : ℕ} → Begins cycle c a bytes n → {r : RowSoFar} → r
    ≡ none_yet c n
    → SoFar cycle bytes n (abs r.core a) r a
so-far-none {cycle} {c} {a} {bytes} {n} k e = rw e (record {
  ok = k.ok;
  wrote = wrote_none cycle (take n bytes) (abs c a);
  in_order = k.in_order;
  fits = omega arith;
  passes = omega arith;
  overflows = omega arith;
  goes = λ h. (refl, ltb-true 0 n h, k.room (ltb-true 0 n h));
  rests = λ h less _. absurd (false≢true (sym h ∙ lt-ltb 0 n less));
})

-- ---- what the tests say

goes-true : (dropped due more full : Bool) → goes_on dropped due more full ≡ true → (dropped ≡ false) × (more ≡ true) × (full ≡ false)
unfolding goes_on
goes-true true due more full e = absurd (false≢true e)
goes-true false true true true e = absurd (false≢true e)
goes-true false true true false e = (refl, refl, refl)
goes-true false true false full e = absurd (false≢true e)
goes-true false false more full e = absurd (false≢true e)

goes-false : (due : Bool) → goes_on false due true false ≡ false → due ≡ false
unfolding goes_on
goes-false true e = absurd (true≢false e)
goes-false false e = refl

not-due : (date : ℕ) (l : List (Sent ℕ)) → due_by date (last_gone l) ≡ false → LastAfter date l
unfolding due_by
not-due date l e t is = leb-false t date (ap (due_by date) (sym is) ∙ e)

-- ---- one more

module _ (cycle : ℕ) (bytes : List ℕ) (n : ℕ) {u₀ : State.Uart ℕ ℕ} (early : cycle < date_end) (given : n ≤ length bytes) (r : RowSoFar)
    (a : Arrays) (k : SoFar cycle bytes n u₀ r a) (goes : r.goes_on ≡ true) where
  abbrev from : State.Uart ℕ ℕ
  from = abs r.core a

  abbrev b : ℕ
  b = get_or bytes r.made 0

  abbrev settled : State.Uart ℕ ℕ
  settled = (settle_at cycle from).state

  abbrev after : State.Uart ℕ ℕ
  after = (concluded (send_byte cycle b settled)).state

  room : transmit_full (length from.tx) (length from.in_flight) ≡ false
  room = ap₂ transmit_full (left r.core a) (flying r.core a) ∙ (k.goes goes).2

  next : drop r.made (take n bytes) ≡ b ∷ drop (suc r.made) (take n bytes)
  next = cut-next n r.made bytes given (k.goes goes).1

  none_dropped : Wrote cycle (take n bytes) u₀ from r.made r.passes r.overflows 0
  none_dropped = wrote_at cycle (take n bytes) refl refl refl (k.goes goes).0 k.wrote

  -- a write changes of the control only what the levels and the wake are
  same-control : (x : Access Write ℕ ℕ) → x.state.control ≡ settled.control → ((concluded x).state.control.last ≡ cycle)
      × ((concluded x).state.control.powered_down_at ≡ settled.control.powered_down_at)
  unfolding concluded levels assert_levels drive raise_if arm dated
  same-control x e = (
    ap (λ (c : Control). c.last) e ∙ (settle-keeps cycle (dated cycle from)).last,
    ap (λ (c : Control). c.powered_down_at) e,
  )

  control-after : (after.control.last ≡ cycle) × (after.control.powered_down_at ≡ settled.control.powered_down_at)
  unfolding send_byte sent dropped
  control-after =
      choose-ind (λ (x : Access Write ℕ ℕ). ((concluded x).state.control.last ≡ cycle)
      × ((concluded x).state.control.powered_down_at ≡ settled.control.powered_down_at)) _
      (λ _. same-control (dropped settled) refl) (λ _. same-control (sent cycle b settled) refl)

  some-flying : 1 ≤ length after.in_flight
  unfolding send_byte sent dropped concluded levels arm
  some-flying =
      choose-ind (λ (x : Access Write ℕ ℕ). 1 ≤ length (concluded x).state.in_flight) _
      (λ full. omega (arith, ltb-true fifo_bytes (length settled.in_flight) full))
      (λ _. omega (arith, length-append settled.in_flight (record { gone_at = gone_at cycle settled; byte = b } ∷ [])))

  sent-in_flight : after.in_flight ≡ (send_byte cycle b settled).state.in_flight
  unfolding concluded levels arm
  sent-in_flight = refl

  module _ {c₁ : Core} {a₁ : Arrays} {p o : ℕ} (s : Settles (settle_at cycle (abs r.core a)) c₁ a₁ p o) {c₂ : Core} {a₂ : Arrays}
      {reply : Write} {m : Notices} (x : Accesses (λ w. w) (send_byte cycle (get_or bytes r.made 0) (abs c₁ a₁)) c₂ a₂ reply m)
      {c₃ : Core} (y : Concludes c₂ a₂ c₃) {full due : Bool} (ef : full ≡ ltb fifo_bytes c₁.flight.count)
      (ed : (w : List ℕ) → due ≡ due_of cycle c₃ a₂.gone_at w) where
    same : abs c₃ a₂ ≡ after
    unfolding concluded
    same =
        y.same
        ∙ ap (λ (u : State.Uart ℕ ℕ). arm (levels u)) (x.state ∙ ap (λ (u : State.Uart ℕ ℕ). (send_byte cycle b u).state) s.gives.state)

    full-settled : full ≡ ltb fifo_bytes (length settled.in_flight)
    full-settled =
        ef ∙ ap (ltb fifo_bytes) (sym (flying c₁ a₁)) ∙ ap (λ (u : State.Uart ℕ ℕ). ltb fifo_bytes (length u.in_flight)) s.gives.state

    wrote-more : Wrote cycle (take n bytes) u₀ (abs c₃ a₂) (r.made + 1) (r.passes + p) (r.overflows + o) (choose full 1 0)
    wrote-more =
        subst (λ (u : State.Uart ℕ ℕ). Wrote cycle (take n bytes) u₀ u (r.made + 1) (r.passes + p) (r.overflows + o) (choose full 1 0))
        (sym same) (by-full full refl)
      where
        by-full : (t : Bool) → full ≡ t → Wrote cycle (take n bytes) u₀ after (r.made + 1) (r.passes + p) (r.overflows + o)
            (choose full 1 0)
        by-full true e =
            wrote_at cycle (take n bytes) (let q : suc r.made ≡ r.made + 1 = omega arith in q)
            (ap (λ (q : ℕ). r.passes + q) (sym s.gives.passes)) (ap (λ (q : ℕ). r.overflows + q) (sym s.gives.overflows))
            (sym (choose-true 1 0 e))
            (settled-dropped cycle (take n bytes) early none_dropped k.in_order room next (sym full-settled ∙ e))
        by-full false e =
            wrote_at cycle (take n bytes) (let q : suc r.made ≡ r.made + 1 = omega arith in q)
            (ap (λ (q : ℕ). r.passes + q) (sym s.gives.passes)) (ap (λ (q : ℕ). r.overflows + q) (sym s.gives.overflows))
            (sym (choose-false 1 0 e))
            (settled-sent cycle (take n bytes) early none_dropped k.in_order room next (sym full-settled ∙ e))

    -- not due any more: the state is still
    rests-still : (full ≡ false → due ≡ false) → Still cycle (abs c₃ a₂)
    unfolding settling_date
    rests-still h =
        subst (Still cycle) (sym same)
        (send-still cycle b from k.ok.within.flying_dates
        (λ t. subst (λ (l : List (Sent ℕ)). LastAfter (settling_date cycle settled.control) l)
        (ap (λ (u : State.Uart ℕ ℕ). u.in_flight) same ∙ sent-in_flight)
        (not-due _ (abs c₃ a₂).in_flight
        (ap (λ (d : Date). due_by (instant_of (earliest (Some (subcycles cycle)) d)) (last_gone (abs c₃ a₂).in_flight))
        (sym (ap (λ (u : State.Uart ℕ ℕ). u.control.powered_down_at) same ∙ control-after.1))
        ∙ sym (ed a₂.flight) ∙ h (full-settled ∙ t)))))

    pub so_far_more : {r' : RowSoFar} → r' ≡ one_more r c₃ p o full due n → SoFar cycle bytes n u₀ r' a₂
    unfolding choose
    so_far_more e =
        let low = few-at cycle from k.ok.within early s in
        let zero-so = (k.goes goes).0 in
        rw e (record {
          ok = record {
            shape = y.shape;
            within = subst Within (sym same) (settled-within cycle b from early k.in_order room k.ok.within);
          };
          wrote = wrote_at cycle (take n bytes) refl refl refl (by-full full) wrote-more;
          in_order = omega (arith, ap (λ (u : State.Uart ℕ ℕ). u.control.last) same, control-after.0);
          fits = omega (arith, (k.goes goes).1);
          passes = omega (arith, k.passes, low.0);
          overflows = omega (arith, k.overflows, low.1);
          goes = λ h.
              let g = goes-true full due (ltb (r.made + 1) n) (full_of c₃) h in
              (choose-false _ _ g.0 ∙ zero-so, ltb-true _ _ g.1, g.2);
          rests = λ h less free. (
            rests-still (λ f. goes-false due (ap₂ (λ (x y : Bool). goes_on x due y false) (sym f) (sym (lt-ltb _ _ less))
                ∙ ap (goes_on full due (ltb (r.made + 1) n)) (sym free) ∙ h)),
            omega (arith, flying c₃ a₂, ap (λ (u : State.Uart ℕ ℕ). length u.in_flight) same, some-flying),
          );
        })
      where
        by-full : (t : Bool) → choose t 1 0 ≡ choose t (r.dropped + 1) r.dropped
        by-full true = ap (λ (q : ℕ). q + 1) (sym (k.goes goes).0)
        by-full false = sym (k.goes goes).0

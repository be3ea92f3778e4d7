-- An order looks into no byte: the form of a state, a save and a load commute with a change of bytes. Assumes nothing.
use Rattle.std.specs.Prelude.{◌≡◌, Bool, ltb, length, Ok, Err}
use Rattle.std.proofs.Math.Path.{refl, sym, ap, ap₂}
use Rattle.std.proofs.Common.{◌∙◌}
use Prim.Native.Nat.{ℕ, zero, suc}
use Rattle.std.proofs.Math.Option.{Option, none, some}
use mathlib.Core.List.{List, [], ◌∷◌, ◌++◌, map, flat_map, map-append, map-map}
use Rattle.std.proofs.lemmas.List.{length-map}
use Rattle.model.specs.Numbers.{choose}
use Rattle.model.specs.State.{Sent, OnTheLine, Uart, line_bytes}
use Rattle.model.specs.Replies.{Take}
use Rattle.model.specs.Calls.{filled, not_taken, written}
use Rattle.model.proofs.Laws.Choose.{choose-nat}
use Rattle.form.specs.Cells.{Cell, Field, field_bytes, numbers}
use Rattle.form.specs.Form.{frame_mark, frame_source, short, head_length, map_fields, word_fields, date_and_mark_fields, run_fields}
use Rattle.form.specs.Form.{pairs_from, parts_of, laid_out, form}
use Rattle.form.specs.Load.{Loading, loaded, refused, saved}
use Rattle.form.specs.Orders.{Order, Answered, kept_by, loading, order_by}
use Rattle.form.proofs.Laws.Parts.{pairs-mapped, joined-mapped}
use Rattle.form.proofs.Laws.Saves.{saved-is}
use Rattle.theorems.specs.TwoRuns.Renamed.{map_sent, map_receiving, map_uart, map_take}
use Rattle.theorems.specs.TwoRuns.NaturalCalls.{map_step, written-nat, filled-nat, not_taken-nat}
use Rattle.theorems.specs.TwoRuns.NaturalRuns.{asked-nat}
use Rattle.theorems.specs.Orders.Renamed.{map_cell, map_loading, LoadFrom, nth_save, find_state, PlacedOrder, Saves, placed_step, map_from}
use Rattle.theorems.specs.Orders.Renamed.{map_saves, map_order, map_answered, map_order_step}
use Rattle.model.specs.declared.Refusal.TheVariants.{BufferTooShort}
use Rattle.model.specs.Names.{Taken}

module _ {H H' W W' : Type 0} (f : H → H') (g : W → W') where
  -- ---- the form

  abbrev cell : Cell H W → Cell H' W'
  cell c = map_cell f g c

  numbers-nat : (fs : List Field) → map cell (numbers fs) ≡ numbers fs
  unfolding numbers map_cell
  numbers-nat fs = map-map cell Cell.number (field_bytes fs)

  written-cells : (bs : List W) → map cell (map Cell.written bs) ≡ map Cell.written (map g bs)
  unfolding map_cell
  written-cells bs = map-map cell Cell.written bs ∙ sym (map-map Cell.written g bs)

  host-cells : (bs : List H) → map cell (map Cell.host bs) ≡ map Cell.host (map f bs)
  unfolding map_cell
  host-cells bs = map-map cell Cell.host bs ∙ sym (map-map Cell.host f bs)

  mark-nat : (r : Option (OnTheLine H)) → frame_mark (map_receiving f r) ≡ frame_mark r
  unfolding map_receiving
  mark-nat none = refl
  mark-nat (some l) = refl

  source-nat : (r : Option (OnTheLine H)) → frame_source (map_receiving f r) ≡ frame_source r
  unfolding map_receiving
  source-nat none = refl
  source-nat (some l) = refl

  pub line-nat : (r : Option (OnTheLine H)) → line_bytes (map_receiving f r) ≡ map f (line_bytes r)
  unfolding map_receiving
  line-nat none = refl
  line-nat (some l) = refl

  pub dates-nat : (u : Uart H W) → date_and_mark_fields (map_uart f g u) ≡ date_and_mark_fields u
  unfolding date_and_mark_fields
  dates-nat u =
      rw (mark-nat u.receiving, source-nat u.receiving, map-map (λ (s : Sent W'). s.gone_at) (map_sent g) u.in_flight) refl

  parts-nat : (u : Uart H W) → parts_of (map_uart f g u) ≡ map (map cell) (parts_of u)
  unfolding parts_of
  parts-nat u =
      rw (
        numbers-nat (map_fields u.map),
        numbers-nat (word_fields u.control.words),
        numbers-nat (date_and_mark_fields u),
        numbers-nat (run_fields u.host_runs),
        written-cells (written u),
        host-cells (line_bytes u.receiving ++ u.host),
        host-cells u.rx,
        dates-nat u,
        written-nat f g u,
        line-nat u.receiving,
        map-append f (line_bytes u.receiving) u.host,
      ) refl

  pub form-nat : (u : Uart H W) → form (map_uart f g u) ≡ map cell (form u)
  unfolding form laid_out
  form-nat u =
      let ps : List (List (Cell H W)) = parts_of u in
      ap (λ qs. numbers (short (length qs) ∷ pairs_from head_length qs) ++ flat_map (λ q. q) qs) (parts-nat u)
      ∙ ap₂ ◌++◌
      (ap₂ (λ (n : ℕ) fs. numbers (short n ∷ fs)) (length-map ps (map cell)) (pairs-mapped cell ps head_length)
      ∙ sym (numbers-nat (short (length ps) ∷ pairs_from head_length ps)))
      (sym (joined-mapped cell ps))
      ∙ sym (map-append cell (numbers (short (length ps) ∷ pairs_from head_length ps)) (flat_map (λ q. q) ps))

  -- ---- a save

  module _ {L L' : Type 0} (h : L → L') where
    pub saved-nat : (lent : List L) (u : Uart H W) → (saved (map h lent) (map_uart f g u)).reply ≡ map_take cell h (saved lent u).reply
    saved-nat lent u =
        let short : Bool = ltb (length lent) (length (form u)) in
        ap (λ o. o.reply) (saved-is (map h lent) (map_uart f g u))
        ∙ ap₂ (λ (t : Bool) out. choose t (not_taken (map h lent) BufferTooShort) (filled out (map h lent)))
        (ap₂ ltb (length-map lent h) (ap length (form-nat u) ∙ length-map (form u) cell)) (form-nat u)
        ∙ ap₂ (choose short) (not_taken-nat f cell h lent BufferTooShort) (filled-nat f cell h (form u) lent)
        ∙ choose-nat (map_take cell h) short refl refl
        ∙ sym (ap (λ o. map_take cell h o.reply) (saved-is lent u))

  -- ---- an order

  kept-nat : (t : Taken) (u : Uart H W) (us : List (Uart H W))
      → kept_by t (map_uart f g u) (map (map_uart f g) us) ≡ map (map_uart f g) (kept_by t u us)
  unfolding kept_by
  kept-nat (Ok n) u us = sym (map-append (map_uart f g) us (u ∷ []))
  kept-nat (Err r) u us = refl

  nth-nat : (k : ℕ) (us : List (Uart H W)) → nth_save k (map (map_uart f g) us) ≡ map_loading f g (nth_save k us)
  unfolding nth_save map_loading
  nth-nat zero [] = refl
  nth-nat (suc k) [] = refl
  nth-nat zero (u ∷ us) = refl
  nth-nat (suc k) (u ∷ us) = nth-nat k us

  find-nat : (l : LoadFrom H W) (us : List (Uart H W)) → find_state (map_from f g l) (map (map_uart f g) us)
      ≡ map_loading f g (find_state l us)
  unfolding find_state map_from
  find-nat (LoadFrom.given l) us = refl
  find-nat (LoadFrom.save k) us = nth-nat k us

  module _ {L L' : Type 0} (h : L → L') where
    loading-nat : (l : Loading H W) (p : Saves H W)
        → loading {L = L'} (map_loading f g l) (map_saves f g p) ≡ map_order_step f g h (loading l p)
    unfolding loading map_loading map_order_step map_answered
    loading-nat (loaded u) p = refl
    loading-nat (refused r) p = refl

    pub order-nat : (o : PlacedOrder H W L) (p : Saves H W)
        → placed_step (map_order f g h o) (map_saves f g p) ≡ map_order_step f g h (placed_step o p)
    unfolding order_by map_order map_order_step map_answered map_step map_take
    order-nat (Order.ask a) p =
        ap (λ s. record { answer = Answered.answers s.answer; next = record { uart = s.state; kept = map (map_uart f g) p.kept } })
        (asked-nat f g h a p.uart)
    order-nat (Order.to_save lent) p =
        let t : Take (Cell H W) L = (saved lent p.uart).reply in
        ap (λ (r : Take (Cell H' W') L'). record {
          answer = Answered.saves r;
          next = record { uart = map_uart f g p.uart; kept = kept_by r.taken (map_uart f g p.uart) (map (map_uart f g) p.kept) };
        }) (saved-nat h lent p.uart)
        ∙ ap (λ us. record { answer = Answered.saves (map_take cell h t); next = record { uart = map_uart f g p.uart; kept = us } })
        (kept-nat t.taken p.uart p.kept)
    order-nat (Order.to_load l) p =
        ap (λ (x : Loading H' W'). loading x (map_saves f g p)) (find-nat l p.kept) ∙ loading-nat (find_state l p.kept) p

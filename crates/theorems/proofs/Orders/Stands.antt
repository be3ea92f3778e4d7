-- A caller's list is carried out as one over states: the bytes of a save load as the state that was saved. Assumes nothing.
use Rattle.std.specs.Prelude.{◌≡◌, refl, ℕ, zero, suc, List, [], ◌∷◌, map, get_or, Ok, Err}
use Rattle.std.proofs.Common.{sym, ap, subst, ◌∙◌}
use Rattle.std.proofs.lemmas.List.{map-append}
use Rattle.model.specs.State.{Uart}
use Rattle.model.specs.Limits.{All, cons, Within}
use Rattle.model.proofs.Laws.Lists.{all_snoc}
use Rattle.model.proofs.Keeps.MapKept.{asked-placed}
use Rattle.model.proofs.Keeps.Runs.{asked-within}
use Rattle.model.specs.Widths.{Bytes, Widths, AskedGiven}
use Rattle.theorems.specs.Keeps.Widths.{asked-widths}
use Rattle.form.specs.Cells.{bytes_of}
use Rattle.form.specs.Form.{form}
use Rattle.form.specs.Load.{Loading, loaded, refused, load, saved}
use Rattle.form.specs.Orders.{Order, Answered, OrderStep, kept_by, loading, order_by, LoadOf, CallersOrder, Parked}
use Rattle.form.specs.Orders.{find_bytes, order_step}
use Rattle.form.specs.Examples.{no_bytes}
use Rattle.form.proofs.Parked.{saved-loads, loaded-is-form}
use Rattle.theorems.specs.Orders.Renamed.{nth_save, find_state, Saves, placed_step}
use Rattle.theorems.proofs.Orders.Numbering.{placed_order}
use Rattle.model.specs.Names.{Taken}

-- ---- what a caller gives fits its types

abbrev pub OrderFits : CallersOrder → Type 0
OrderFits (Order.ask a) = AskedGiven a
OrderFits (Order.to_save lent) = Unit {0}
OrderFits (Order.to_load (LoadOf.bytes bs)) = Bytes bs
OrderFits (Order.to_load (LoadOf.save k)) = Unit {0}

-- a state whose form loads as it was
abbrev pub Sound : Uart ℕ ℕ → Type 0
Sound u = Within u × Widths u

pub record SoundSaves (q : Saves ℕ ℕ) : Type 0 where
  pub uart : Sound q.uart
  pub kept : All Sound q.kept

-- ---- the same with the bytes of the saved states

abbrev form_bytes : Uart ℕ ℕ → List ℕ
form_bytes u = bytes_of (form u)

abbrev pub parked_as : Saves ℕ ℕ → Parked
parked_as q = record { uart = q.uart; kept = map form_bytes q.kept }

abbrev pub step_as : {L : Type 0} → OrderStep ℕ ℕ L (Uart ℕ ℕ) → OrderStep ℕ ℕ L (List ℕ)
step_as s = record { answer = s.answer; next = parked_as s.next }

nth-load : (k : ℕ) (us : List (Uart ℕ ℕ)) → All Sound us → load (get_or (map form_bytes us) k []) ≡ nth_save k us
unfolding nth_save
nth-load zero [] a = no_bytes
nth-load (suc k) [] a = no_bytes
nth-load zero (u ∷ us) (cons s a) = saved-loads u (form_bytes u) (record { within = s.0; widths = s.1; bytes = refl })
nth-load (suc k) (u ∷ us) (cons s a) = nth-load k us a

loading-as : (l : Loading ℕ ℕ) (q : Saves ℕ ℕ) → loading {L = ℕ} l (parked_as q) ≡ step_as (loading l q)
unfolding loading
loading-as (loaded u) q = refl
loading-as (refused r) q = refl

kept-as : (t : Taken) (u : Uart ℕ ℕ) (us : List (Uart ℕ ℕ)) → kept_by t (form_bytes u) (map form_bytes us) ≡ map form_bytes (kept_by t u us)
unfolding kept_by
kept-as (Ok n) u us = sym (map-append form_bytes us (u ∷ []))
kept-as (Err r) u us = refl

pub order-as : (o : CallersOrder) (q : Saves ℕ ℕ) → SoundSaves q
    → order_step o (parked_as q) ≡ step_as (placed_step (placed_order q.uart.map.offsets o) q)
unfolding order_by placed_order find_bytes find_state
order-as (Order.ask a) q s =
    ap (λ t. record { answer = Answered.answers t.answer; next = record { uart = t.state; kept = map form_bytes q.kept } })
    (asked-placed a q.uart)
order-as (Order.to_save lent) q s =
    let t : Taken = (saved lent q.uart).reply.taken in
    ap (λ bss. record { answer = Answered.saves (saved lent q.uart).reply; next = record { uart = q.uart; kept = bss } })
    (kept-as t q.uart q.kept)
order-as (Order.to_load (LoadOf.bytes bs)) q s = loading-as (load bs) q
order-as (Order.to_load (LoadOf.save k)) q s =
    ap (λ (l : Loading ℕ ℕ). loading l (parked_as q)) (nth-load k q.kept s.kept) ∙ loading-as (nth_save k q.kept) q

-- ---- every order keeps that

SoundLoading : Loading ℕ ℕ → Type 0
SoundLoading (loaded u) = Sound u
SoundLoading (refused r) = Unit {0}

load-sound : (bs : List ℕ) → Bytes bs → (l : Loading ℕ ℕ) → load bs ≡ l → SoundLoading l
unfolding SoundLoading
load-sound bs a (loaded u) e = let f = loaded-is-form bs a u e in (f.within, f.widths)
load-sound bs a (refused r) e = tt

nth-sound : (k : ℕ) (us : List (Uart ℕ ℕ)) → All Sound us → SoundLoading (nth_save k us)
unfolding SoundLoading nth_save
nth-sound k [] a = tt
nth-sound zero (u ∷ us) (cons s a) = s
nth-sound (suc k) (u ∷ us) (cons s a) = nth-sound k us a

loading-sound : (l : Loading ℕ ℕ) (q : Saves ℕ ℕ) → SoundLoading l → SoundSaves q → SoundSaves (loading {L = ℕ} l q).next
unfolding SoundLoading loading
loading-sound (loaded u) q f s = record { uart = f; kept = s.kept }
loading-sound (refused r) q f s = s

kept-sound : (t : Taken) (u : Uart ℕ ℕ) (us : List (Uart ℕ ℕ)) → Sound u → All Sound us → All Sound (kept_by t u us)
unfolding kept_by
kept-sound (Ok n) u us s a = all_snoc u us s a
kept-sound (Err r) u us s a = a

pub order-sound : (o : CallersOrder) (q : Saves ℕ ℕ) → OrderFits o → SoundSaves q
    → SoundSaves (placed_step (placed_order q.uart.map.offsets o) q).next
unfolding order_by placed_order find_state
order-sound (Order.ask a) q f s =
    subst (λ t. SoundSaves (record { uart = t.state; kept = q.kept })) (asked-placed a q.uart)
    (record { uart = (asked-within a q.uart s.uart.0, asked-widths a q.uart f s.uart.1); kept = s.kept })
order-sound (Order.to_save lent) q f s =
    record { uart = s.uart; kept = kept-sound (saved lent q.uart).reply.taken q.uart q.kept s.uart s.kept }
order-sound (Order.to_load (LoadOf.bytes bs)) q f s = loading-sound (load bs) q (load-sound bs f (load bs) refl) s
order-sound (Order.to_load (LoadOf.save k)) q f s = loading-sound (nth_save k q.kept) q (nth-sound k q.kept s.kept) s

-- What a write at a register other than FIFO leaves once the UART is settled, from the core alone. Assumes nothing.
use Rattle.std.specs.Prelude.{◌≡◌, Bool, true, false, ℕ, take, Ok}
use Rattle.std.proofs.Math.Path.{refl, sym, ap₂, subst}
use Rattle.std.proofs.Common.{ap, ◌∙◌, arith}
use Rattle.std.proofs.Math.Bool.{decide}
use Rattle.std.proofs.Math.Option.{Option, none, some}
use mathlib.Core.List.{List, []}
use Rattle.model.specs.Numbers.{choose, bit, without}
use Rattle.model.specs.State
use Rattle.model.specs.State.{Sent}
use Rattle.model.specs.Setters.{with_int_raw, with_words, with_line, with_in_flight, with_rx}
use Rattle.model.specs.Map.{Word, Register, fifo, int_clr, unknown, shown, stored, same_word}
use Rattle.model.specs.Registers.{Access, gives, reset_fifos, storing, clearing, write_register}
use Rattle.model.proofs.Ends.Passes.{apart}
use Rattle.model.proofs.Laws.Choose.{choose-false, choose-ind, choose-nat}
use Rattle.model.proofs.Laws.AccessCases.{write_register-ind}
use Rattle.model.specs.Names.{Write}
use Rattle.queue.specs.Cursors.{Held, slot_of, empty, cut_to_one}
use Rattle.queue.specs.Laws.{empty-held, cut-held, empty-elems, cut-elems}
use Rattle.queue.specs.declared.Cursor.{Cursor}
use Rattle.registers.specs.Storage.{held, holds, written}
use Rattle.replies.specs.Notices.{noted}
use Rattle.replies.specs.Modes.{notes_at}
use Rattle.device.specs.Holds.{Arrays, sent_at, flight_of, rx_of, abs, Shape}
use Rattle.device.specs.declared.Core.{Core}
use Rattle.calls.specs.Changes.{with_control_of, shape_of}
use Rattle.calls.specs.Answers.{Accesses}
use Rattle.calls.specs.Queues.{with_queues_of, queues-shape}
use Rattle.access.specs.declared.store.PlaceWrite.{PlaceWrite}

-- ---- Storage, and INT_CLR

abbrev pub stored_in : Option Word → ℕ → Core → PlaceWrite
stored_in h v c = record {
  core = with_control_of (with_words (written h v c.control.words) c.control) c;
  reply = choose (holds h) (Ok true) (Ok false);
  notices = noted (notes_at h v);
}

abbrev pub cleared_in : ℕ → Core → PlaceWrite
cleared_in v c = record {
  core = with_control_of (with_line (with_int_raw (without v c.control.line.int_raw) c.control.line) c.control) c;
  reply = Ok true;
  notices = noted [];
}

-- a word where one is stored; elsewhere the write is not accepted
unfoldable pub putting : Option Word → ℕ → State.Uart ℕ ℕ → Access Write ℕ ℕ
putting none v u = gives [] u (Ok false)
putting (some x) v u = storing x v u

-- what a write gives is what an access of the definition gives
abbrev pub Puts : Access Write ℕ ℕ → Arrays → PlaceWrite → Type 0
Puts x a r = Accesses (λ w. w) x r.core a r.reply r.notices

module _ (c : Core) (a : Arrays) (k : Shape c a) (v : ℕ) where
  pub stored-puts : (h : Option Word) → {r : PlaceWrite} → r ≡ stored_in h v c → Puts (putting h v (abs c a)) a r
  unfolding putting storing written holds notes_at choose
  stored-puts none e =
      subst (Puts (putting none v (abs c a)) a) (sym e) (record { shape = k; replies = refl; notes = refl; state = refl })
  stored-puts (some x) e =
      subst (Puts (putting (some x) v (abs c a)) a) (sym e)
      (record { shape = shape_of c a _ k; replies = refl; notes = refl; state = refl })

  pub cleared-puts : {r : PlaceWrite} → r ≡ cleared_in v c → Puts (clearing v (abs c a)) a r
  unfolding clearing
  cleared-puts e =
      subst (Puts (clearing v (abs c a)) a) (sym e) (record { shape = shape_of c a _ k; replies = refl; notes = refl; state = refl })

-- ---- the FIFO resets of CONF0

abbrev pub reset_fifos_of : ℕ → Core → Core
reset_fifos_of v c = with_queues_of (choose (bit 18 v) (cut_to_one c.flight) c.flight) (choose (bit 17 v) empty c.rx) c

-- the two cursors as the code finds them
pub resets : (v : ℕ) (c : Core) {tx rx : Bool} {f r : Cursor} → f ≡ choose tx (cut_to_one c.flight) c.flight → tx ≡ bit 18 v
    → r ≡ choose rx empty c.rx → rx ≡ bit 17 v
    → with_queues_of f r c ≡ reset_fifos_of v c
resets v c ef et er ex = rw (ef, et, er, ex)

module _ (v : ℕ) (c : Core) (a : Arrays) where
  reset-shape : Shape c a → Shape (reset_fifos_of v c) a
  reset-shape k =
      queues-shape c a k
      (choose-ind (Held 129) (bit 18 v) (λ _. cut-held 129 c.flight k.flight) (λ _. k.flight))
      (choose-ind (Held 128) (bit 17 v) (λ _. empty-held 128 (omega arith)) (λ _. k.rx))
      k.gone_at_slots k.flight_slots

  reset-abs : abs (reset_fifos_of v c) a ≡ reset_fifos v (abs c a)
  unfolding reset_fifos
  reset-abs =
      let flight : flight_of a.gone_at a.flight (choose (bit 18 v) (cut_to_one c.flight) c.flight)
      ≡ choose (bit 18 v) (take 1 (abs c a).in_flight) (abs c a).in_flight =
      sym (choose-nat (flight_of a.gone_at a.flight) (bit 18 v) (sym (cut-elems (sent_at a.gone_at a.flight) 129 c.flight)) refl)
      in
      let rx : rx_of a.rx (choose (bit 17 v) empty c.rx) ≡ choose (bit 17 v) [] (abs c a).rx =
      sym (choose-nat (rx_of a.rx) (bit 17 v) (sym (empty-elems (slot_of a.rx 0) 128)) refl)
      in
      ap₂ (λ (f : List (Sent ℕ)) (l : List ℕ). with_in_flight f (with_rx l (abs c a))) flight rx

-- CONF0 resets first, and then the word is stored
pub conf0-puts : (c : Core) (a : Arrays) → Shape c a → (v : ℕ) {c' : Core} → c' ≡ reset_fifos_of v c → {r : PlaceWrite}
    → r ≡ stored_in (some Word.conf0) v c'
    → Puts (write_register (stored Word.conf0) v (abs c a)) a r
unfolding write_register putting choose decide
conf0-puts c a k v ec {r} er =
    subst (λ (u : State.Uart ℕ ℕ). Puts (storing Word.conf0 v u) a r) (reset-abs v c a)
    (stored-puts (reset_fifos_of v c) a (reset-shape v c a k) v (some Word.conf0) (er ∙ ap (stored_in (some Word.conf0) v) ec))

-- ---- at the other registers

-- whether a write does more than store: INT_CLR clears, and CONF0 resets the FIFOs first
unfoldable pub does_more : Register → Bool
does_more fifo = false
does_more int_clr = true
does_more unknown = false
does_more (shown s) = false
does_more (stored x) = same_word x Word.conf0

stores : (v : ℕ) (u : State.Uart ℕ ℕ) (p : Register) → does_more p ≡ false → write_register p v u ≡ putting (held p) v u
unfolding does_more write_register putting held
stores v u fifo e = refl
stores v u int_clr e = apart (cc)
stores v u unknown e = refl
stores v u (shown s) e = refl
stores v u (stored x) e = ap (storing x v) (choose-false _ _ e)

pub other-puts : (c : Core) (a : Arrays) → Shape c a → (v : ℕ) (p : Register) → does_more p ≡ false → {r : PlaceWrite}
    → r ≡ stored_in (held p) v c
    → Puts (write_register p v (abs c a)) a r
other-puts c a k v p n {r} e = subst (λ (x : Access Write ℕ ℕ). Puts x a r) (sym (stores v (abs c a) p n)) (stored-puts c a k v (held p) e)

-- ---- the period stays, so that the wake can be armed

pub write-period : (p : Register) (v : ℕ) (u : State.Uart ℕ ℕ) → (write_register p v u).state.control.period ≡ u.control.period
unfolding storing clearing reset_fifos
write-period p v u =
    write_register-ind (λ _ x. x.state.control.period ≡ u.control.period) v u (λ _. refl) refl (λ _. refl) (λ _. refl) p

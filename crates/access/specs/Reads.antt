-- What a read gives once the UART is settled, from the core's numbers and the slots of the receive FIFO. Assumes nothing.
use Rattle.std.specs.Prelude.{◌≡◌, Bool, true, false, ℕ, ◌<◌, ◌≤◌, ltb, length, get_or, Some, None, Ok}
use Rattle.std.proofs.Math.Path.{refl, ap, ap₂, subst}
use Rattle.std.proofs.Common.{sym, ◌∙◌, arith, ltb-true, ltb-false, lt-ltb, le-ltb}
use Rattle.std.proofs.Math.Bool.{decide}
use mathlib.Core.List.{List}
use Rattle.model.specs.Numbers.{choose}
use Rattle.model.specs.Setters.{with_mistimed, with_line}
use Rattle.model.specs.Settle.{int_status}
use Rattle.model.specs.Replies.{ReadOf, word, no_value, as_read}
use Rattle.model.specs.Map.{Shown, Register, fifo, int_clr, unknown, shown, stored, is_fifo, value_of}
use Rattle.model.specs.Registers.{Access, source_notes, status_word, fsm_status, pop, gives, shown_in, read_register, looks, read_looking}
use Rattle.model.specs.Registers.{read_at}
use Rattle.model.proofs.Ends.Passes.{apart}
use Rattle.model.proofs.Laws.Choose.{choose-true, choose-false, choose-ind}
use Rattle.model.specs.Names.{Read}
use Rattle.model.specs.declared.Source.{Source}
use Rattle.model.specs.declared.Unsupported.{Unsupported}
use Rattle.model.specs.declared.Unsupported.TheVariants.{UartEmptyRead, UartReceiveClock}
use Rattle.queue.specs.Cursors
use Rattle.queue.specs.Cursors.{slot_of}
use Rattle.queue.specs.Laws.{elems-length, elems-none, first-elems, pop-held}
use Rattle.queue.specs.declared.Cursor.{Cursor}
use Rattle.line.specs.Levels
use Rattle.replies.specs.Notices.{noted, added}
use Rattle.replies.specs.NoticeLaws.{empty-read-noted}
use Rattle.replies.specs.declared.notices.Notices.{Notices}
use Rattle.device.specs.Holds.{Arrays, sent_at, abs, Shape}
use Rattle.device.specs.declared.Core.{Core}
use Rattle.calls.specs.Changes.{with_control_of, shape_of}
use Rattle.calls.specs.Answers.{Accesses}
use Rattle.calls.specs.Queues.{with_queues_of, queues-shape}
use Rattle.access.specs.declared.load.PlaceRead.{PlaceRead}

-- ---- registers other than FIFO

unfoldable pub shown_of : Core → Shown → ℕ
shown_of c Shown.int_raw = c.control.line.int_raw
shown_of c Shown.int_st = Levels.int_status c.control.words.int_ena c.control.line
shown_of c Shown.status = status_word c.map.idle_status c.flight.count c.rx.count
shown_of c Shown.fsm_status = fsm_status c.flight.count
shown_of c Shown.mem_rx_status = c.map.mem_rx_status

-- what a read gives there; of FIFO nothing is said
unfoldable pub word_at : Core → Register → ReadOf ℕ
word_at c fifo = no_value
word_at c int_clr = no_value
word_at c unknown = no_value
word_at c (shown s) = word (shown_of c s)
word_at c (stored x) = word (value_of c.control.words x)

-- how many are in flight
pub flying : (c : Core) (a : Arrays) → length (abs c a).in_flight ≡ c.flight.count
flying c a = elems-length (sent_at a.gone_at a.flight) 129 c.flight

shown-words : (s : Shown) (c : Core) (a : Arrays) → shown_in (abs c a) s ≡ shown_of c s
unfolding shown_in shown_of int_status
shown-words Shown.int_raw c a = refl
shown-words Shown.int_st c a = refl
shown-words Shown.status c a = ap₂ (status_word c.map.idle_status) (flying c a) (elems-length (slot_of a.rx 0) 128 c.rx)
shown-words Shown.fsm_status c a = ap fsm_status (flying c a)
shown-words Shown.mem_rx_status c a = refl

-- a read there gives the core's word, and nothing else changes
abbrev Words : Register → Type 0
Words r = (ns : List Unsupported) (c : Core) (a : Arrays) → read_register ns r (abs c a) ≡ gives ns (abs c a) (word_at c r)

words : (r : Register) → is_fifo r ≡ false → Words r
unfolding read_register word_at decide
words fifo e ns c a = apart (cc)
words int_clr e ns c a = refl
words unknown e ns c a = refl
words (shown s) e ns c a = ap (λ (n : ℕ). gives ns (abs c a) (word n)) (shown-words s c a)
words (stored x) e ns c a = refl

word-accesses : (r : Register) → Words r → (ns : List Unsupported) (c : Core) (a : Arrays) → Shape c a → {reply : Read}
    → reply ≡ as_read (word_at c r)
    → Accesses as_read (read_register ns r (abs c a)) c a reply (noted ns)
word-accesses r same ns c a k {reply} e =
    subst (λ (x : Access (ReadOf ℕ) ℕ ℕ). Accesses as_read x c a reply (noted ns)) (sym (same ns c a))
    (record { shape = k; replies = e; notes = refl; state = refl })

-- ---- a mistimed reception is told of once

abbrev pub forgotten_core : Core → Core
forgotten_core c = with_control_of (with_line (with_mistimed Source.None c.control.line) c.control) c

-- what the firmware is told of, and the core once it has been
abbrev pub told_of : Bool → Core → Source
told_of looks c = choose looks c.control.line.rx_mistimed Source.None

abbrev pub seen_of : Bool → Core → Core
seen_of looks c = choose looks (forgotten_core c) c

looking : (looks : Bool) (p : Register) (c : Core) (a : Arrays)
    → read_looking looks p (abs c a) ≡ read_register (source_notes UartReceiveClock (told_of looks c)) p (abs (seen_of looks c) a)
unfolding read_looking source_notes choose
looking true p c a = refl
looking false p c a = refl

seen-shape : (looks : Bool) (c : Core) (a : Arrays) → Shape c a → Shape (seen_of looks c) a
seen-shape looks c a k = choose-ind (λ (x : Core). Shape x a) looks (λ _. shape_of c a _ k) (λ _. k)

-- ---- FIFO

-- the oldest byte and the core without it
abbrev pub taken : Core → List ℕ → Notices → PlaceRead
taken c rx m =
    record { core = with_queues_of c.flight (Cursors.popped 128 c.rx) c; reply = Ok (Some (get_or rx c.rx.start 0)); notices = m }

-- from an empty FIFO 0, with a notice behind the others
abbrev pub nothing : Core → Notices → PlaceRead
nothing c m = record { core = c; reply = Ok (Some 0); notices = added UartEmptyRead m }

unfoldable pub popped : Core → List ℕ → Notices → PlaceRead
popped c rx m = choose (ltb 0 c.rx.count) (taken c rx m) (nothing c m)

-- what the code puts together is one of the two
module _ (c : Core) (rx : List ℕ) (m : Notices) where
  pub pop-takes : 0 < c.rx.count → {rest : Cursor} → rest ≡ Cursors.popped 128 c.rx → {b : ℕ} → b ≡ get_or rx c.rx.start 0
      → ◌≡◌ {A = PlaceRead} (record { core = with_queues_of c.flight rest c; reply = Ok (Some b); notices = m }) (popped c rx m)
  unfolding popped
  pop-takes pos er eb = rw (er, eb) (sym (choose-true _ _ (lt-ltb 0 _ pos)))

  pub pop-misses : c.rx.count ≤ 0 → {n : Notices} → n ≡ added UartEmptyRead m
      → ◌≡◌ {A = PlaceRead} (record { core = c; reply = Ok (Some 0); notices = n }) (popped c rx m)
  unfolding popped
  pop-misses none en = rw en (sym (choose-false _ _ (le-ltb 0 _ none)))

module _ (s : Source) (c : Core) (a : Arrays) (k : Shape c a) where
  ns : List Unsupported
  ns = source_notes UartReceiveClock s

  Pops : List ℕ → PlaceRead → Type 0
  Pops l g = Accesses as_read (pop ns l (abs c a)) g.core a g.reply g.notices

  taken-pops : 0 < c.rx.count → Pops (abs c a).rx (taken c a.rx (noted ns))
  unfolding Pops pop as_read
  taken-pops pos =
      subst (λ (l : List ℕ). Pops l (taken c a.rx (noted ns))) (sym (first-elems (slot_of a.rx 0) 128 c.rx k.rx pos))
      (record {
        shape = queues-shape c a k k.flight (pop-held 128 c.rx k.rx) k.gone_at_slots k.flight_slots;
        replies = refl;
        notes = refl;
        state = refl;
      })

  nothing-pops : c.rx.count ≤ 0 → Pops (abs c a).rx (nothing c (noted ns))
  unfolding Pops pop as_read ns
  nothing-pops z =
      subst (λ (l : List ℕ). Pops l (nothing c (noted ns))) (sym (elems-none (slot_of a.rx 0) 128 c.rx (omega arith)))
      (record { shape = k; replies = refl; notes = empty-read-noted s; state = refl })

  pop-accesses : {g : PlaceRead} → g ≡ popped c a.rx (noted (source_notes UartReceiveClock s))
      → Accesses as_read (read_register (source_notes UartReceiveClock s) fifo (abs c a)) g.core a g.reply g.notices
  unfolding popped Pops ns read_register
  pop-accesses e =
      subst (Pops (abs c a).rx) (sym e)
      (choose-ind (Pops (abs c a).rx) (ltb 0 c.rx.count) (λ t. taken-pops (ltb-true _ _ t)) (λ t. nothing-pops (ltb-false _ _ t)))

-- ---- a read, from what the code finds on the way: whether the firmware looks, what it is told of, and the core seen

module _ (p : Register) (c : Core) (a : Arrays) (k : Shape c a) {yes : Bool} {s : Source} {m : Notices} {seen : Core} (el : yes ≡ looks p)
    (es : s ≡ told_of yes c)
    (em : m ≡ noted (source_notes UartReceiveClock s)) (ec : seen ≡ seen_of yes c) where
  seen_read : read_at p (abs c a) ≡ read_register (source_notes UartReceiveClock s) p (abs seen a)
  unfolding read_at
  seen_read =
      ap (λ (b : Bool). read_looking b p (abs c a)) (sym el) ∙ looking yes p c a
      ∙ ap₂ (λ (x : Source) (v : Core). read_register (source_notes UartReceiveClock x) p (abs v a)) (sym es) (sym ec)

  held_in : Shape seen a
  held_in = subst (λ (v : Core). Shape v a) (sym ec) (seen-shape yes c a k)

  pub reads-fifo : p ≡ fifo → {slots : List ℕ} → a.rx ≡ slots → {g : PlaceRead} → g ≡ popped seen slots m
      → Accesses as_read (read_at p (abs c a)) g.core a g.reply g.notices
  reads-fifo ep ea {g} eg =
      subst (λ (x : Access (ReadOf ℕ) ℕ ℕ). Accesses as_read x g.core a g.reply g.notices)
      (sym (seen_read ∙ ap (λ (q : Register). read_register (source_notes UartReceiveClock s) q (abs seen a)) ep))
      (pop-accesses s seen a held_in (eg ∙ ap₂ (popped seen) (sym ea) em))

  pub reads_word : is_fifo p ≡ false → {reply : Read} → reply ≡ as_read (word_at seen p)
      → Accesses as_read (read_at p (abs c a)) seen a reply m
  reads_word ew {reply} er =
      subst (λ (x : Access (ReadOf ℕ) ℕ ℕ). Accesses as_read x seen a reply m) (sym seen_read)
      (subst (λ (n : Notices). Accesses as_read (read_register (source_notes UartReceiveClock s) p (abs seen a)) seen a reply n) (sym em)
      (word-accesses p (words p ew) (source_notes UartReceiveClock s) seen a held_in er))

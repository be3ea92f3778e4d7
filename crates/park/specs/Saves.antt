-- The bytes that are put are the form, and what a save answers. Assumes nothing.
use Rattle.std.specs.Prelude.{◌≡◌, ℕ, ◌+◌, ◌*◌, ◌≤◌, ◌<◌, length, drop, Some, None, Ok, Err}
use Rattle.std.proofs.Math.Path.{refl, ap, ap₂}
use Rattle.std.proofs.Common.{◌∙◌, arith, lt-ltb, le-ltb}
use Rattle.std.proofs.Math.Option.{Option}
use mathlib.Core.List.{List, [], ◌∷◌, ◌++◌, map, flat_map, append-nil, append_assoc}
use Rattle.std.proofs.Math.ListN.{length-append, length-map}
use Rattle.model.specs.State.{Sent, OnTheLine, Uart, line_bytes}
use Rattle.model.specs.Limits.{flight_dates}
use Rattle.model.specs.Replies.{Take}
use Rattle.model.specs.Tests.{refuse_if}
use Rattle.model.specs.Calls.{refusing, unless, carried, outcome, filled, not_taken, quiet, written}
use Rattle.model.specs.Names.{Taken}
use Rattle.model.specs.declared.Refusal.TheVariants.{BufferTooShort}
use Rattle.queue.specs.Cursors.{slot_of, elems}
use Rattle.queue.specs.Laws.{elems-length, map-elems}
use Rattle.device.specs.Holds.{Arrays, sent_at, tx_of, host_of, runs_of, run_in, rx_of, on_the_line, abs}
use Rattle.device.specs.declared.Core.{Core}
use Rattle.line.specs.Names.{Receiving}
use Rattle.form.specs.Cells.{Cell, bytes_of, Field, field_bytes}
use Rattle.form.specs.Form.{short, long, frame_mark, frame_source, map_fields, word_fields, date_and_mark_fields, run_fields}
use Rattle.form.specs.Form.{parts_of, head_length, form}
use Rattle.form.specs.Load.{save, saved}
use Rattle.form.proofs.Laws.Lengths.{map-long, words_long, dates-long, runs-long, form-long}
use Rattle.form.proofs.Laws.Parts.{laid_bytes, numbers-bytes, host-bytes, written-bytes, laid-bytes}
use Rattle.park.specs.Puts.{Puts, puts-front}
use Rattle.park.specs.Fields.{control_fields, line_marked, line_fields, fields-both}
use Rattle.park.specs.Rings.{line_count, line-count}
use Rattle.park.specs.Head.{pairs_of, pairs-are, head_of, length_of}

-- what a save answers, and the buffer then
abbrev pub Saves : Take (Cell ℕ ℕ) ℕ → Taken → List ℕ → Type 0
Saves t r out = (r ≡ t.taken) × (out ≡ bytes_of t.front ++ t.rest)

-- ---- what is put, in the order of the source

-- the numbers: the head and the first three parts
unfoldable pub numbers_in : Core → List ℕ → List ℕ
numbers_in c gone_at =
    field_bytes (map short (head_of c)) ++ (field_bytes (map_fields c.map) ++ (field_bytes (word_fields c.control.words)
    ++ (field_bytes (control_fields c.control) ++ (field_bytes (line_fields c.control.line (on_the_line c.receiving 0))
    ++ field_bytes (map long (elems (slot_of gone_at 0) 129 c.flight))))))

-- what the queues hold: the other four
unfoldable pub queues_in : Core → List ℕ → List ℕ → List ℕ → List ℕ → List ℕ → List ℕ → List ℕ
queues_in c flight tx host run_at run_len rx =
    tx_of tx c.tx ++ (elems (slot_of flight 0) 129 c.flight ++ (line_bytes (on_the_line c.receiving c.byte) ++ (host_of host c.host
    ++ (field_bytes (run_fields (runs_of run_at run_len c.runs)) ++ rx_of rx c.rx))))

-- ---- they are the form

-- a frame's mark and source are the same whatever the byte is
same-frame : (r : Receiving) (b : ℕ)
    → (frame_mark (on_the_line r b) ≡ frame_mark (on_the_line r 0)) × (frame_source (on_the_line r b) ≡ frame_source (on_the_line r 0))
unfolding on_the_line
same-frame None b = (refl, refl)
same-frame (Some f) b = (refl, refl)

regroup : (h m w c l d t f b o r x : List ℕ)
    → h ++ (m ++ (w ++ ((c ++ (l ++ d)) ++ ((t ++ f) ++ ((b ++ o) ++ (r ++ (x ++ []))))))) ≡ (h ++ (m ++ (w ++ (c ++ (l ++ d)))))
    ++ (t ++ (f ++ (b ++ (o ++ (r ++ x)))))
regroup h m w c l d t f b o r x = simp (append-nil, append_assoc)

module _ (c : Core) (a : Arrays) (sixteen : length c.map.offsets ≡ 16) where
  abbrev u : Uart ℕ ℕ
  u = abs c a

  dates : List ℕ
  dates = elems (slot_of a.gone_at 0) 129 c.flight

  flying : List ℕ
  flying = elems (slot_of a.flight 0) 129 c.flight

  -- the parts as bytes
  abbrev parts : List (List ℕ)
  parts =
      field_bytes (map_fields c.map) ∷ field_bytes (word_fields c.control.words) ∷ field_bytes (date_and_mark_fields u)
      ∷ written u ∷ (line_bytes u.receiving ++ u.host) ∷ field_bytes (run_fields u.host_runs) ∷ u.rx ∷ []

  parts-bytes : map bytes_of (parts_of u) ≡ parts
  unfolding parts_of
  parts-bytes =
      rw (
        numbers-bytes (map_fields c.map),
        numbers-bytes (word_fields c.control.words),
        numbers-bytes (date_and_mark_fields u),
        written-bytes (written u),
        host-bytes (line_bytes u.receiving ++ u.host),
        numbers-bytes (run_fields u.host_runs),
        host-bytes u.rx,
      ) refl

  date-parts : field_bytes (date_and_mark_fields u) ≡ field_bytes (control_fields c.control)
      ++ (field_bytes (line_fields c.control.line (on_the_line c.receiving 0)) ++ field_bytes (map long dates))
  unfolding date_and_mark_fields dates
  date-parts =
      let frame = same-frame c.receiving c.byte in
      let line : Option (OnTheLine ℕ) = on_the_line c.receiving c.byte in
      fields-both (control_fields c.control) (line_fields c.control.line line ++ map long (flight_dates u.in_flight))
      ∙ ap (λ (l : List ℕ). field_bytes (control_fields c.control) ++ l)
      (fields-both (line_fields c.control.line line) (map long (flight_dates u.in_flight))
      ∙ ap₂ (λ (l : List ℕ) (ds : List ℕ). l ++ field_bytes (map long ds))
      (ap₂ (λ (m s : ℕ). field_bytes (line_marked c.control.line m s)) frame.0 frame.1)
      (map-elems (λ (s : Sent ℕ). s.gone_at) (sent_at a.gone_at a.flight) 129 c.flight))

  sent-parts : written u ≡ tx_of a.tx c.tx ++ flying
  unfolding written flying
  sent-parts =
      ap (λ (l : List ℕ). tx_of a.tx c.tx ++ l) (map-elems (λ (s : Sent ℕ). s.byte) (sent_at a.gone_at a.flight) 129 c.flight)

  lengths : map length parts ≡ 108 ∷ 36 ∷ (60 + 8 * c.flight.count) ∷ (c.tx.count + c.flight.count)
      ∷ (line_count c.receiving + c.host.count) ∷ (10 * c.runs.count) ∷ c.rx.count ∷ []
  unfolding written
  lengths =
      let e = elems-length (sent_at a.gone_at a.flight) 129 c.flight in
      rw (
        map-long c.map sixteen,
        words_long c.control.words,
        dates-long u,
        runs-long u.host_runs,
        length-append u.tx (map (λ (s : Sent ℕ). s.byte) u.in_flight),
        length-map u.in_flight (λ (s : Sent ℕ). s.byte),
        length-append (line_bytes u.receiving) u.host,
        line-count c.receiving c.byte,
        e,
        elems-length (slot_of a.tx 0) 1152 c.tx,
        elems-length (slot_of a.host 0) 1024 c.host,
        elems-length (run_in a.run_at a.run_len) 64 c.runs,
        elems-length (slot_of a.rx 0) 128 c.rx,
      ) refl

  pub form-bytes : bytes_of (form u) ≡ numbers_in c a.gone_at ++ queues_in c a.flight a.tx a.host a.run_at a.run_len a.rx
  unfolding form numbers_in queues_in laid_bytes flat_map dates flying
  form-bytes =
      laid-bytes (parts_of u) ∙ ap laid_bytes parts-bytes
      ∙ ap₂ (λ (h b : List ℕ). h ++ b)
      (ap (λ (l : List Field). field_bytes (short 7 ∷ l)) (pairs-are parts head_length)
      ∙ ap (λ (ls : List ℕ). field_bytes (map short (7 ∷ pairs_of head_length ls))) lengths)
      (ap₂ (λ (d w : List ℕ). field_bytes (map_fields c.map) ++ (field_bytes (word_fields c.control.words) ++ (d ++ (w
      ++ ((line_bytes u.receiving ++ u.host) ++ (field_bytes (run_fields u.host_runs) ++ (u.rx ++ [])))))))
      date-parts sent-parts)
      ∙ regroup (field_bytes (map short (head_of c))) (field_bytes (map_fields c.map)) (field_bytes (word_fields c.control.words))
      (field_bytes (control_fields c.control)) (field_bytes (line_fields c.control.line (on_the_line c.receiving 0)))
      (field_bytes (map long dates)) (tx_of a.tx c.tx) flying (line_bytes u.receiving) u.host
      (field_bytes (run_fields u.host_runs)) u.rx

  pub form-length : length (form u) ≡ length_of c
  form-length =
      omega (
        arith,
        form-long u sixteen,
        line-count c.receiving c.byte,
        elems-length (sent_at a.gone_at a.flight) 129 c.flight,
        elems-length (slot_of a.tx 0) 1152 c.tx,
        elems-length (slot_of a.host 0) 1024 c.host,
        elems-length (run_in a.run_at a.run_len) 64 c.runs,
        elems-length (slot_of a.rx 0) 128 c.rx,
      )

-- ---- what a save answers

-- shorter than the form: 8, and the buffer stays
pub saves-short : (lent : List ℕ) (u : Uart ℕ ℕ) → length lent < length (form u)
    → Saves (saved lent u).reply (Err BufferTooShort) lent
unfolding saved save outcome unless refuse_if refusing not_taken
saves-short lent u short = rw (lt-ltb (length lent) (length (form u)) short) (refl, refl)

-- else the form stands at the front
pub saves-form : (lent : List ℕ) (u : Uart ℕ ℕ) {n : ℕ} {xs out : List ℕ} {next : ℕ} → length (form u) ≤ length lent → n ≡ length (form u)
    → xs ≡ bytes_of (form u) → Puts n xs lent 0 out next → Saves (saved lent u).reply (Ok next) out
unfolding saved save outcome unless refuse_if carried quiet filled
saves-form lent u {n} {xs} {out} {next} fits long same p =
    rw (le-ltb (length lent) (length (form u)) fits) (
      ap Ok (let e : next ≡ length (form u) = omega (arith, p.place, long) in e),
      puts-front (omega arith) p ∙ ap₂ (λ (l : List ℕ) (k : ℕ). l ++ drop k lent) same long,
    )

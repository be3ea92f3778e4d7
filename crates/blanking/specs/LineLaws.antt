-- What a line leaves, and that its text has room. Assumes nothing.
use Rattle.std.specs.Prelude.{◌≡◌, Bool, is_some, false, List, [], map, ℕ, ◌+◌, ◌≤◌, length, take, drop, replicate}
use Rattle.std.proofs.Math.Path.{refl, ap, sym, subst}
use Rattle.std.proofs.Common.{ap₂, subst₂, ◌∙◌, arith, length-append}
use Rattle.std.proofs.Math.Bool.{true}
use Rattle.std.proofs.lemmas.List.{length-replicate}
use Rattle.text.specs.Output.{Put}
use Rattle.trace.specs.Asks.{asks_of}
use Rattle.trace.specs.declared.asks.Asks.{Asks}
use Rattle.trace.specs.Low.{low_of}
use Rattle.trace.specs.Stored.{stored}
use Rattle.trace.specs.Lines.{Line, line_of, numbers_of, bytes_after}
use Rattle.trace.specs.declared.names.Name.{Name}
use Rattle.trace.specs.declared.names.Name.TheVariants.{Setup, Read, Write, WriteRow, Receive, Wake, Watch, Reset, PowerDown, Clock}
use Rattle.trace.specs.declared.names.Name.TheVariants.{TakeTx, TakeWritten, HasLeft, HostPending, Figures}
use Rattle.model.specs.SetUp.{set_up_reply}
use Rattle.model.specs.Names.{SetUp}
use Rattle.blanking.specs.Entries.{entry_of, blanked_entry, entry_text}
use Rattle.blanking.specs.EntryLaws.{number-few, text-few}
use Rattle.blanking.specs.Puts.{put-nothing}
use Rattle.blanking.specs.Lines.{read_kind, host_room, kind_of, counted, blanked_text, trace_after, map_in}
use Rattle.blanking.specs.Lines.{Kind, kind_by, call_kind, left_out_text, text_of, one_left_out, after_set_up, after_entry, carried}
use Rattle.blanking.specs.declared.line.Trace.{Trace}
use Rattle.blanking.specs.declared.line.Blanked.{Blanked}

-- the longest text of a line: that of a hand-over of 32,768 bytes
abbrev pub longest : ℕ
longest = 65593

-- what a line of a kind leaves, the trace counting it already
pub record Blanks (k : Kind) (t : Trace) (out : List ℕ) (at : ℕ) (after : List ℕ) (r : Blanked) : Type 0 where
  pub text : Put (text_of (map_in t.map) t.number k) out at after r.at
  pub trace : r.trace ≡ carried k t

-- ---- laws

left-out-few : (n : ℕ) → length (left_out_text n) ≤ 37
unfolding left_out_text
left-out-few n = rw (length-append, length-append) (omega (arith, number-few n))

pub left-out-room : (out : List ℕ) (at n : ℕ) → at + longest ≤ length out → at + length (left_out_text n) ≤ length out
left-out-room out at n room = omega (arith, left-out-few n)

-- the text of a call has room where there is room for the longest
pub call-room : (out : List ℕ) (at : ℕ) (offsets : List ℕ) (n : Name) (ns : List ℕ) (last : ℕ) (bs s : List ℕ)
    → (length bs ≤ 32768) × (at + longest ≤ length out)
    → (length bs ≤ 32768) × (at + length (entry_text (blanked_entry offsets (entry_of n ns last bs s))) ≤ length out)
call-room out at offsets n ns last bs s room = (room.0, omega (arith, text-few offsets ns last bs s room.0 n, room.1))

-- what a call leaves of the trace, by what it asks
after_asks : Asks → List ℕ → Trace → Trace
after_asks Asks.SetUp ns t = after_set_up (set_up_reply (take 16 (map low_of (drop 0 ns)))) (take 16 (map low_of (drop 0 ns))) t
after_asks Asks.Figures ns t = t
after_asks Asks.Uart ns t = t

call-carried : (n : Name) (ns : List ℕ) (last : ℕ) (bs s : List ℕ) (t : Trace)
    → carried (Kind.entry (entry_of n ns last bs s)) t ≡ after_asks (asks_of n) ns t
unfolding carried after_entry entry_of after_asks
call-carried Setup ns last bs s t = refl
call-carried Read ns last bs s t = refl
call-carried Write ns last bs s t = refl
call-carried WriteRow ns last bs s t = refl
call-carried Receive ns last bs s t = refl
call-carried Wake ns last bs s t = refl
call-carried Watch ns last bs s t = refl
call-carried Reset ns last bs s t = refl
call-carried PowerDown ns last bs s t = refl
call-carried Clock ns last bs s t = refl
call-carried TakeTx ns last bs s t = refl
call-carried TakeWritten ns last bs s t = refl
call-carried HasLeft ns last bs s t = refl
call-carried HostPending ns last bs s t = refl
call-carried Figures ns last bs s t = refl

module _ (t : Trace) (n : Name) (ns : List ℕ) (last : ℕ) (bs s out : List ℕ) (at : ℕ) (after : List ℕ) (r : Blanked) where
  -- the text of a call is put
  Texts : Type 0
  Texts = Put (entry_text (blanked_entry (map_in t.map) (entry_of n ns last bs s))) out at after r.at

  -- a call that is put out, by what it asks, whether or not a UART is set up
  by-asks : {a : Asks} → asks_of n ≡ a → (ready : Bool) → is_some t.map ≡ ready
      → kind_by a ready (entry_of n ns last bs s) ≡ Kind.entry (entry_of n ns last bs s) → Texts → r.trace ≡ after_asks a ns t
      → Blanks (call_kind (is_some t.map) n ns last bs s) t out at after r
  unfolding text_of Texts
  by-asks e ready f k p q =
      subst (λ (x : Kind). Blanks x t out at after r)
      (sym (ap₂ (λ (x : Asks) (y : Bool). kind_by x y (entry_of n ns last bs s)) e f ∙ k))
      (record { text = p; trace = q ∙ sym (call-carried n ns last bs s t ∙ ap (λ (x : Asks). after_asks x ns t) e) })

  pub blanks-set-up : asks_of n ≡ Asks.SetUp → Put (entry_text (blanked_entry (map_in t.map) (entry_of n ns last bs s))) out at after r.at
      → r.trace ≡ after_set_up (set_up_reply (take 16 (map low_of (drop 0 ns)))) (take 16 (map low_of (drop 0 ns))) t
      → Blanks (call_kind (is_some t.map) n ns last bs s) t out at after r
  unfolding kind_by Texts after_asks
  blanks-set-up e p q = by-asks e (is_some t.map) refl refl p q

  pub blanks-figures : asks_of n ≡ Asks.Figures
      → Put (entry_text (blanked_entry (map_in t.map) (entry_of n ns last bs s))) out at after r.at
      → r.trace ≡ t → Blanks (call_kind (is_some t.map) n ns last bs s) t out at after r
  unfolding kind_by Texts after_asks
  blanks-figures e p q = by-asks e (is_some t.map) refl refl p q

  pub blanks-call : asks_of n ≡ Asks.Uart → is_some t.map ≡ true
      → Put (entry_text (blanked_entry (map_in t.map) (entry_of n ns last bs s))) out at after r.at → r.trace ≡ t
      → Blanks (call_kind (is_some t.map) n ns last bs s) t out at after r
  unfolding kind_by Texts after_asks
  blanks-call e f p q = by-asks e true f refl p q

  pub blanks-none : asks_of n ≡ Asks.Uart → is_some t.map ≡ false → Blanks Kind.left_out t out at after r
      → Blanks (call_kind (is_some t.map) n ns last bs s) t out at after r
  unfolding kind_by
  blanks-none e f b =
      subst (λ (k : Kind). Blanks k t out at after r)
      (sym (ap₂ (λ (x : Asks) (y : Bool). kind_by x y (entry_of n ns last bs s)) e f)) b

-- a line that is left out
pub blanks-left-out : (t : Trace) (out : List ℕ) (at : ℕ) (after : List ℕ) (r : Blanked)
    → Put (left_out_text t.number) out at after r.at
    → r.trace ≡ one_left_out t → Blanks Kind.left_out t out at after r
unfolding text_of carried
blanks-left-out t out at after r p q = record { text = p; trace = q }

-- a reply that is known
pub after_same : (r r' : SetUp) (offsets : List ℕ) (t : Trace) → r ≡ r' → after_set_up r offsets t ≡ after_set_up r' offsets t
after_same r r' offsets t e = ap (λ (x : SetUp). after_set_up x offsets t) e

-- a line that puts nothing out
pub blanks-nothing : (t : Trace) (out : List ℕ) (at : ℕ) (r : Blanked) → r.at ≡ at → r.trace ≡ t → Blanks Kind.nothing t out at out r
unfolding text_of carried
blanks-nothing t out at r e f = record { text = subst (λ (k : ℕ). Put [] out at out k) (sym e) (put-nothing out at); trace = f }

-- the kind of a line: too long, or as it was read
pub kind-long : (ready long : Bool) (s : List ℕ) → long ≡ true → Kind.left_out ≡ kind_of ready long s
unfolding kind_of
kind-long ready long s e = rw e

pub kind-read : (ready long : Bool) (s ns bs : List ℕ) (room : ℕ) (l : Line) → long ≡ false → room ≡ host_room → l ≡ line_of room s
    → ns ≡ stored (numbers_of s) (replicate 32 0) → bs ≡ bytes_after s (replicate host_room 0) → read_kind ready ns bs s l
    ≡ kind_of ready long s
unfolding kind_of
kind-read ready long s ns bs room l e h read n b =
    ap₂ (λ (x y : List ℕ). read_kind ready x y s l) n b
    ∙ ap (read_kind ready (stored (numbers_of s) (replicate 32 0)) (bytes_after s (replicate host_room 0)) s)
    (read ∙ ap (λ (k : ℕ). line_of k s) h)
    ∙ rw e

pub zeros-room : length (replicate {A = ℕ} host_room 0) ≡ host_room
zeros-room = length-replicate {A = ℕ} host_room 0

-- what is left of a line of its kind, the trace having counted it
pub line-blanks : (from t : Trace) (long : Bool) (s : List ℕ) (k : Kind) (out : List ℕ) (at : ℕ) (after : List ℕ) (r : Blanked)
    → t ≡ counted from → k ≡ kind_of (is_some t.map) long s → Blanks k t out at after r
    → Put (blanked_text from long s) out at after r.at × (r.trace ≡ trace_after from long s)
line-blanks from t long s k out at after r e f b =
    let c : Blanks (kind_of (is_some from.map) long s) (counted from) out at after r =
    subst₂ (λ (x : Kind) (y : Trace). Blanks x y out at after r) (f ∙ ap (λ (y : Trace). kind_of (is_some y.map) long s) e) e b in
    (c.text, c.trace)

pub map_same : (t : Trace) (os os' : List ℕ) → os ≡ os' → after_set_up (set_up_reply os) os t ≡ after_set_up (set_up_reply os') os' t
map_same t os os' e = ap (λ (l : List ℕ). after_set_up (set_up_reply l) l t) e

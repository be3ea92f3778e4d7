-- What is put out for a line of a trace, and what is carried to the next line. Assumes nothing.
use Rattle.std.specs.Prelude.{ℕ, ◌+◌, Bool, List, [], ◌∷◌, ◌++◌, ltb, replicate, Ok, Err, Option, Some, None, is_some, unwrap_or}
use Rattle.text.specs.Pick.{pick}
use Rattle.text.specs.Decimal.{decimal}
use Rattle.trace.specs.Asks.{asks_of}
use Rattle.trace.specs.Stored.{stored}
use Rattle.trace.specs.declared.asks.Asks.{Asks}
use Rattle.trace.specs.Lines.{Line, line_of, numbers_of, bytes_after}
use Rattle.trace.specs.declared.names.Name.{Name}
use Rattle.model.specs.SetUp.{set_up_reply}
use Rattle.model.specs.Names.{SetUp}
use Rattle.blanking.specs.Entries.{Entry, entry_of, blanked_entry, entry_text}
use Rattle.blanking.specs.declared.line.Trace.{Trace}

-- the register map that is set up, or, where none is, sixteen zeros
abbrev pub map_in : Option (List ℕ) → List ℕ
map_in map = unwrap_or map (replicate 16 0)

-- ---- what a line is

-- nothing, where it is blank or a comment; a call; or a line that is left out
pub data Kind : Type 0 where
  nothing : Kind
  entry : Entry → Kind
  left_out : Kind

-- before the first set-up there is no call but a set-up, and figures
unfoldable pub kind_by : Asks → Bool → Entry → Kind
kind_by Asks.SetUp ready e = Kind.entry e
kind_by Asks.Figures ready e = Kind.entry e
kind_by Asks.Uart ready e = pick ready (Kind.entry e) Kind.left_out

abbrev pub call_kind : Bool → Name → List ℕ → ℕ → List ℕ → List ℕ → Kind
call_kind ready name ns last bs s = kind_by (asks_of name) ready (entry_of name ns last bs s)

abbrev pub read_kind : Bool → List ℕ → List ℕ → List ℕ → Line → Kind
read_kind ready ns bs s (Ok None) = Kind.nothing
read_kind ready ns bs s (Ok (Some c)) = call_kind ready c.name ns c.last bs s
read_kind ready ns bs s (Err f) = Kind.left_out

-- the bytes of a line that a buffer has room for: it is no longer than 65,536 bytes
abbrev pub host_room : ℕ
host_room = 32768

-- a line that is too long is left out
unfoldable pub kind_of : Bool → Bool → List ℕ → Kind
kind_of ready long s =
    pick long Kind.left_out
    (read_kind ready (stored (numbers_of s) (replicate 32 0)) (bytes_after s (replicate host_room 0)) s (line_of host_room s))

-- ---- what is put out

-- `# line N left out` with its line feed: no word of such a line, for it could hold anything
unfoldable pub left_out_text : ℕ → List ℕ
left_out_text n =
    (35 ∷ 32 ∷ 108 ∷ 105 ∷ 110 ∷ 101 ∷ 32 ∷ []) ++ decimal n ++ (32 ∷ 108 ∷ 101 ∷ 102 ∷ 116 ∷ 32 ∷ 111 ∷ 117 ∷ 116 ∷ 10 ∷ [])

unfoldable pub text_of : List ℕ → ℕ → Kind → List ℕ
text_of offsets n Kind.nothing = []
text_of offsets n (Kind.entry e) = entry_text (blanked_entry offsets e)
text_of offsets n Kind.left_out = left_out_text n

-- ---- what is carried on: the register map, where there is one, the lines so far and those left out

-- a count that has come to its end stays
unfoldable pub one_more : ℕ → ℕ
one_more n = pick (ltb n 18446744073709551615) (n + 1) n

abbrev pub counted : Trace → Trace
counted t = record { map = t.map; number = one_more t.number; left_out = t.left_out }

abbrev pub one_left_out : Trace → Trace
one_left_out t = record { map = t.map; number = t.number; left_out = one_more t.left_out }

-- a set-up that is refused leaves the map before it
abbrev pub after_set_up : SetUp → List ℕ → Trace → Trace
after_set_up (Ok _) offsets t = record { map = Some offsets; number = t.number; left_out = t.left_out }
after_set_up (Err r) offsets t = t

unfoldable pub after_entry : Entry → Trace → Trace
after_entry (Entry.set_up os ws) t = after_set_up (set_up_reply os) os t
after_entry (Entry.asks a) t = t
after_entry (Entry.figures ss es) t = t

unfoldable pub carried : Kind → Trace → Trace
carried Kind.nothing t = t
carried (Kind.entry e) t = after_entry e t
carried Kind.left_out t = one_left_out t

abbrev pub begun : Trace
begun = record { map = None; number = 0; left_out = 0 }

-- ---- the whole of it

abbrev pub blanked_text : Trace → Bool → List ℕ → List ℕ
blanked_text t long s = text_of (map_in t.map) (one_more t.number) (kind_of (is_some t.map) long s)

abbrev pub trace_after : Trace → Bool → List ℕ → Trace
trace_after t long s = carried (kind_of (is_some t.map) long s) (counted t)

-- A line that is a call or a row, as what it asks for, and the one text of it. Assumes nothing.
use Rattle.std.specs.Prelude.{ℕ, Bool, true, false, Ok, Err, List, [], ◌∷◌, ◌++◌, map, ltb, length, get_or, take, drop, replicate}
use Rattle.text.specs.Decimal.{decimal}
use Rattle.text.specs.HexText.{hex_text}
use Rattle.trace.specs.Low.{low_of}
use Rattle.trace.specs.Names.{letters}
use Rattle.trace.specs.declared.names.Name.{Name}
use Rattle.trace.specs.declared.names.Name.TheVariants.{Setup, Read, Write, WriteRow, Receive, Wake, Watch, Reset, PowerDown, Clock}
use Rattle.trace.specs.declared.names.Name.TheVariants.{TakeTx, TakeWritten, HasLeft, HostPending, Figures}
use Rattle.model.specs.Call.{Machine, Dated, Undated, Call, Request, Asked, Ask}
use Rattle.trace.specs.Pairs.{firsts_in, seconds_in}
use Rattle.figures.specs.Figures.{LineFigures, figures_of}
use Rattle.theorems.specs.Blanked.{blank_resets, blanked_asked}

-- a set-up by its offsets and reset words, what is asked of the UART that is set up, or frames
pub data Entry : Type 0 where
  set_up : List ℕ → List ℕ → Entry
  asks : Ask → Entry
  -- the starts and the ends of frames
  figures : List ℕ → List ℕ → Entry

abbrev call : Request → Entry
call c = Entry.asks (Asked.call c)

-- what a line's name, numbers, last word, bytes and, of frames, the line itself say. A lent buffer is known by its length
unfoldable pub entry_of : Name → List ℕ → ℕ → List ℕ → List ℕ → Entry
entry_of Setup ns last bs s = Entry.set_up (take 16 (map low_of (drop 0 ns))) (take 16 (map low_of (drop 16 ns)))
entry_of Read ns last bs s = call (Call.at (get_or ns 0 0) (Dated.read (low_of (get_or ns 1 0))))
entry_of Write ns last bs s =
    call (Call.at (get_or ns 0 0) (Dated.write (record { offset = low_of (get_or ns 1 0); value = low_of (get_or ns 2 0) })))
entry_of WriteRow ns last bs s = Entry.asks (Asked.row (get_or ns 0 0) (take last bs))
entry_of Receive ns last bs s = call (Call.at (get_or ns 0 0) (Dated.receive (get_or ns 1 0) (take last bs)))
entry_of Wake ns last bs s = call (Call.at (get_or ns 0 0) (Dated.machine Machine.wake))
entry_of Watch ns last bs s = call (Call.at (get_or ns 0 0) (Dated.machine (Machine.watch (ltb 0 last))))
entry_of Reset ns last bs s = call (Call.at (get_or ns 0 0) (Dated.machine Machine.reset))
entry_of PowerDown ns last bs s = call (Call.at (get_or ns 0 0) (Dated.machine Machine.power_down))
entry_of Clock ns last bs s = call (Call.at (get_or ns 0 0) (Dated.machine (Machine.clock_change (get_or ns 1 0))))
entry_of TakeTx ns last bs s = call (Call.at (get_or ns 0 0) (Dated.take_tx (replicate last 0)))
entry_of TakeWritten ns last bs s = call (Call.undated (Undated.take_written (replicate last 0)))
entry_of HasLeft ns last bs s = call (Call.undated Undated.has_left)
entry_of HostPending ns last bs s = call (Call.undated Undated.host_pending)
entry_of Figures ns last bs s = Entry.figures (firsts_in s) (seconds_in s)

-- frames are dates, which are kept; of frames that are refused nothing is: one frame that ends before it starts stands for them
unfoldable pub blank_starts : LineFigures → List ℕ → List ℕ
blank_starts (Ok f) starts = starts
blank_starts (Err e) starts = 1 ∷ []

unfoldable pub blank_ends : LineFigures → List ℕ → List ℕ
blank_ends (Ok f) ends = ends
blank_ends (Err e) ends = 0 ∷ []

-- the same without a client's bytes, for the register map that is set up
unfoldable pub blanked_entry : List ℕ → Entry → Entry
blanked_entry offsets (Entry.set_up os ws) = Entry.set_up os (blank_resets ws)
blanked_entry offsets (Entry.asks a) = Entry.asks (blanked_asked offsets a)
blanked_entry offsets (Entry.figures ss es) = Entry.figures (blank_starts (figures_of ss es) ss) (blank_ends (figures_of ss es) es)

-- ---- its text

-- a space, which is 32, and decimal digits
abbrev pub number : ℕ → List ℕ
number n = 32 ∷ decimal n

unfoldable pub numbers : List ℕ → List ℕ
numbers [] = []
numbers (n ∷ ns) = number n ++ numbers ns

-- a start and an end, one pair after another
unfoldable pub pairs : List ℕ → List ℕ → List ℕ
pairs [] es = []
pairs (s ∷ ss) [] = []
pairs (s ∷ ss) (e ∷ es) = number s ++ number e ++ pairs ss es

abbrev pub bit_number : Bool → ℕ
bit_number true = 1
bit_number false = 0

-- what follows the name
unfoldable pub machine_words : ℕ → Machine → List ℕ
machine_words now Machine.wake = number now
machine_words now Machine.reset = number now
machine_words now Machine.power_down = number now
machine_words now (Machine.watch b) = number now ++ number (bit_number b)
machine_words now (Machine.clock_change p) = number now ++ number p

unfoldable pub call_words : Request → List ℕ
call_words (Call.at now (Dated.read r)) = number now ++ number r
call_words (Call.at now (Dated.write x)) = number now ++ number x.offset ++ number x.value
call_words (Call.at now (Dated.receive date bs)) = number now ++ number date ++ (32 ∷ hex_text bs)
call_words (Call.at now (Dated.take_tx lent)) = number now ++ number (length lent)
call_words (Call.at now (Dated.machine m)) = machine_words now m
call_words (Call.undated (Undated.take_written lent)) = number (length lent)
call_words (Call.undated Undated.has_left) = []
call_words (Call.undated Undated.host_pending) = []

unfoldable pub entry_words : Entry → List ℕ
entry_words (Entry.set_up os ws) = numbers os ++ numbers ws
entry_words (Entry.asks (Asked.call c)) = call_words c
entry_words (Entry.asks (Asked.row now bs)) = number now ++ (32 ∷ hex_text bs)
entry_words (Entry.figures ss es) = pairs ss es

unfoldable pub machine_name : Machine → Name
machine_name Machine.wake = Wake
machine_name Machine.reset = Reset
machine_name Machine.power_down = PowerDown
machine_name (Machine.watch b) = Watch
machine_name (Machine.clock_change p) = Clock

unfoldable pub call_name : Request → Name
call_name (Call.at now (Dated.read r)) = Read
call_name (Call.at now (Dated.write x)) = Write
call_name (Call.at now (Dated.receive date bs)) = Receive
call_name (Call.at now (Dated.take_tx lent)) = TakeTx
call_name (Call.at now (Dated.machine m)) = machine_name m
call_name (Call.undated (Undated.take_written lent)) = TakeWritten
call_name (Call.undated Undated.has_left) = HasLeft
call_name (Call.undated Undated.host_pending) = HostPending

unfoldable pub entry_name : Entry → Name
entry_name (Entry.set_up os ws) = Setup
entry_name (Entry.asks (Asked.call c)) = call_name c
entry_name (Entry.asks (Asked.row now bs)) = WriteRow
entry_name (Entry.figures ss es) = Figures

-- the line, with its line feed, which is 10
unfoldable pub entry_text : Entry → List ℕ
entry_text e = letters (entry_name e) ++ entry_words e ++ (10 ∷ [])

-- Calls and rows without a client's bytes: every host byte, every byte of a row, and every word written to a place that takes none or
-- to FIFO, is replaced, and so are the reset words that set-up does not use: what a reader of a blanked run must believe. Assumes nothing.
use Rattle.std.specs.Prelude.{ℕ, List, [], ◌∷◌, map, get_or}
use Rattle.model.specs.Numbers.{choose, without}
use Rattle.model.specs.Map.{register_of}
use Rattle.model.specs.SetUp.{fifo_counts}
use Rattle.model.specs.Call.{Dated, Undated, Call, Written, Request, Asked, Ask}
use Rattle.model.specs.Unused.{takes_word}

-- every byte is replaced by 0
unfoldable pub blank_byte : ℕ → ℕ
blank_byte b = 0

-- a word is kept where it is written to INT_CLR or a stored word of the map, and else replaced by 0, whatever the call answers
unfoldable pub blank_word : List ℕ → ℕ → ℕ → ℕ
blank_word offsets offset value = choose (takes_word (register_of offsets offset)) value 0

unfoldable pub blank_written : List ℕ → Written → Written
blank_written offsets x = record { offset = x.offset; value = blank_word offsets x.offset x.value }

-- of the sixteen reset words, FIFO, INT_RAW, INT_ST, INT_CLR, FSM_STATUS and the counts of STATUS are replaced by 0
unfoldable pub blank_resets : List ℕ → List ℕ
blank_resets ws =
    0 ∷ 0 ∷ 0 ∷ get_or ws 3 0 ∷ 0 ∷ get_or ws 5 0 ∷ without fifo_counts (get_or ws 6 0) ∷ 0 ∷ get_or ws 8 0 ∷ get_or ws 9 0 ∷ get_or ws 10 0
    ∷ get_or ws 11 0 ∷ get_or ws 12 0 ∷ get_or ws 13 0 ∷ get_or ws 14 0 ∷ get_or ws 15 0 ∷ []

-- call, date, length, offset and every other value are kept
unfoldable pub blanked : List ℕ → Request → Request
blanked offsets (Call.at now (Dated.read r)) = Call.at now (Dated.read r)
blanked offsets (Call.at now (Dated.write x)) = Call.at now (Dated.write (blank_written offsets x))
blanked offsets (Call.at now (Dated.receive date bs)) = Call.at now (Dated.receive date (map blank_byte bs))
blanked offsets (Call.at now (Dated.take_tx lent)) = Call.at now (Dated.take_tx (map blank_byte lent))
blanked offsets (Call.at now (Dated.machine m)) = Call.at now (Dated.machine m)
blanked offsets (Call.undated (Undated.take_written lent)) = Call.undated (Undated.take_written (map blank_byte lent))
blanked offsets (Call.undated Undated.has_left) = Call.undated Undated.has_left
blanked offsets (Call.undated Undated.host_pending) = Call.undated Undated.host_pending

-- of a row the count of its bytes stays
unfoldable pub blanked_asked : List ℕ → Ask → Ask
blanked_asked offsets (Asked.call c) = Asked.call (blanked offsets c)
blanked_asked offsets (Asked.row now bs) = Asked.row now (map blank_byte bs)

-- the list that is sent out
abbrev pub blanked_list : List ℕ → List Ask → List Ask
blanked_list offsets cs = map (blanked_asked offsets) cs

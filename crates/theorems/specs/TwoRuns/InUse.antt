-- What two calls may differ in that demand 3 still speaks of: values that the definition does not use. Assumes nothing.
use Rattle.std.specs.Prelude.{◌≡◌, ℕ, List, false}
use Rattle.model.specs.Map.{is_fifo, register_of}
use Rattle.model.specs.Call.{Dated, Call, Request}
use Rattle.model.specs.Unused.{takes_word}
use Rattle.theorems.specs.TwoRuns.Alike.{Alike, fifo_offset}

-- two calls that are alike, or write any two words to a place that is not FIFO and takes none
pub data AlikeInUse (offsets : List ℕ) : Request → Request → Type 0 where
  alike : {c d : Request} → Alike (fifo_offset offsets) c d → AlikeInUse offsets c d
  unused_word : {now offset v v' : ℕ} → is_fifo (register_of offsets offset) ≡ false → takes_word (register_of offsets offset) ≡ false
      → AlikeInUse offsets (Call.at now (Dated.write (record { offset = offset; value = v })))
      (Call.at now (Dated.write (record { offset = offset; value = v' })))

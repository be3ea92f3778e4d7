-- One list of answers with numbers for bytes, which the proof of demand 3 makes: which numbers an answer may hold, and what a
-- read of FIFO gives. Assumes nothing.
use Rattle.std.specs.Prelude.{◌≡◌, ℕ, ◌+◌, ◌<◌, List, [], ◌∷◌, ◌++◌, map, length}
use Rattle.model.specs.Limits.{All}
use Rattle.model.specs.Replies.{ReadOf, word, byte, no_value, refused, Take, Notes}
use Rattle.model.specs.Registers.{source_notes}
use Rattle.model.specs.Call.{Dated, Call, Request, Asked, Ask, Reply, reads, writes, does, takes, left, pends, rows, Answer}
use Rattle.theorems.specs.TwoRuns.Alike.{host_given, fifo_given}
use Rattle.model.specs.declared.Refusal.{Refusal}
use Rattle.model.specs.declared.Report.{Report}
use Rattle.model.specs.Names.{Row}
use Rattle.model.specs.declared.Source.{Source}
use Rattle.model.specs.declared.Unsupported.TheVariants.{UartEmptyRead, UartReceiveClock}

-- ---- the bytes in an answer

-- an answer without the rest of a lent buffer that the call has not written, of which only the length is kept
abbrev pub Bare : Type 0
Bare = Answer ℕ ℕ (Unit {0})

unfoldable pub bare_reply : Reply ℕ ℕ ℕ → Reply ℕ ℕ (Unit {0})
bare_reply (reads r) = reads r
bare_reply (writes r) = writes r
bare_reply (does r) = does r
bare_reply (takes t) = takes (record { taken = t.taken; front = t.front; rest = map (λ b. tt) t.rest })
bare_reply (left b) = left b
bare_reply (pends n) = pends n
bare_reply (rows r) = rows r

unfoldable pub without_rest : Answer ℕ ℕ ℕ → Bare
without_rest a = record { reply = bare_reply a.reply; report = a.report }

-- the byte that a read gives
unfoldable pub byte_read : {H : Type 0} → ReadOf H → List H
byte_read (word n) = []
byte_read (byte b) = b ∷ []
byte_read no_value = []
byte_read (refused r) = []

module _ {H W L : Type 0} where
  unfoldable pub bytes_read : Reply H W L → List H
  bytes_read (reads r) = byte_read r
  bytes_read (writes r) = []
  bytes_read (does r) = []
  bytes_read (takes t) = []
  bytes_read (left b) = []
  bytes_read (pends n) = []
  bytes_read (rows r) = []

  -- the bytes handed out as sent
  unfoldable pub bytes_sent : Reply H W L → List W
  bytes_sent (reads r) = []
  bytes_sent (writes r) = []
  bytes_sent (does r) = []
  bytes_sent (takes t) = t.front
  bytes_sent (left b) = []
  bytes_sent (pends n) = []
  bytes_sent (rows r) = []

-- ---- numbers for bytes

-- the number of a host byte is below h, and that of a written one below w
pub record Below (h w : ℕ) (a : Bare) : Type 0 where
  pub read : All (λ n. n < h) (bytes_read a.reply)
  pub sent : All (λ n. n < w) (bytes_sent a.reply)

-- before the list, h host bytes and w FIFO writes were given: each answer's numbers are below what is given once its own
-- call or row is made
pub data EachBelow (fifo : ℕ) : ℕ → ℕ → List Ask → List Bare → Type 0 where
  nil : {h w : ℕ} → EachBelow fifo h w [] []
  cons : {h w : ℕ} {c : Ask} {cs : List Ask} {a : Bare} {t : List Bare}
      → Below (h + length (host_given c)) (w + length (fifo_given fifo c)) a
      → EachBelow fifo (h + length (host_given c)) (w + length (fifo_given fifo c)) cs t
      → EachBelow fifo h w (c ∷ cs) (a ∷ t)

-- ---- reads of FIFO

abbrev pub NotFifo : ℕ → Request → Type 0
NotFifo fifo c = (now : ℕ) → ¬ (c ≡ Call.at now (Dated.read fifo))

-- a read of FIFO gives a byte without UartEmptyRead, or 0 with UartEmptyRead at the end, or is refused; no other call gives
-- a byte of the host
pub data Shape (fifo : ℕ) : Request → Bare → Type 0 where
  fifo_byte : {now n : ℕ} {r : Report} (s : Source) → Notes r (source_notes UartReceiveClock s)
      → Shape fifo (Call.at now (Dated.read fifo)) (record { reply = reads (byte n); report = r })
  fifo_empty : {now : ℕ} {r : Report} (s : Source) → Notes r (source_notes UartReceiveClock s ++ (UartEmptyRead ∷ []))
      → Shape fifo (Call.at now (Dated.read fifo)) (record { reply = reads (word 0); report = r })
  fifo_refused : {now : ℕ} {x : Refusal} {r : Report}
      → Shape fifo (Call.at now (Dated.read fifo)) (record { reply = reads (refused x); report = r })
  handed_out : {c : Request} {t : Take ℕ (Unit {0})} {r : Report} → NotFifo fifo c → Shape fifo c (record { reply = takes t; report = r })
  no_byte : {c : Request} {a : Bare} → NotFifo fifo c → ((b : ℕ) → ¬ (a.reply ≡ reads (byte b)))
      → ((t : Take ℕ (Unit {0})) → ¬ (a.reply ≡ takes t)) → Shape fifo c a

-- and a row a row's reply
pub data AskedShape (fifo : ℕ) : Ask → Bare → Type 0 where
  call : {c : Request} {a : Bare} → Shape fifo c a → AskedShape fifo (Asked.call c) a
  row : {now : ℕ} {bs : List ℕ} {x : Row} {r : Report} → AskedShape fifo (Asked.row now bs) (record { reply = rows x; report = r })

-- What demand 3 claims of answers: when the answers of two runs agree. Assumes nothing.
use Rattle.std.specs.Prelude.{◌≡◌, ℕ, ◌+◌, ◌<◌, List, [], ◌∷◌, ◌++◌, map, length}
use Rattle.model.specs.Limits.{All}
use Rattle.model.specs.Replies.{word, byte, refused, Take, Notes}
use Rattle.model.specs.Registers.{source_notes}
use Rattle.model.specs.Call.{Dated, Call, Request, host_of, Asked, Ask, Reply, reads, takes, rows, Answer}
use Rattle.theorems.specs.TwoRuns.Alike.{fifo_bytes_of, host_byte, write_byte}
use Rattle.model.specs.declared.Refusal.{Refusal}
use Rattle.model.specs.declared.Report.{Report}
use Rattle.model.specs.Names.{Row, Taken}
use Rattle.model.specs.declared.Source.{Source}
use Rattle.model.specs.declared.Unsupported.TheVariants.{UartEmptyRead, UartReceiveClock}

module _ (fifo : ℕ) (cs ds : List Ask) where
  -- the replies of two lists, cs and ds, to a call with which h host bytes and w FIFO writes have been given; their report is
  -- one and the same. They differ at most in the byte that a read of FIFO gives and in the bytes handed out as sent, which have the same
  -- numbers in both, and in what was lent. A read of FIFO notes a mistimed reception where there was one, and then UartEmptyRead where it
  -- gives 0
  pub data Agree (h w : ℕ) (r : Report) : Request → Reply ℕ ℕ ℕ → Reply ℕ ℕ ℕ → Type 0 where
    fifo_byte : {now n : ℕ} (s : Source) → Notes r (source_notes UartReceiveClock s) → n < h
        → Agree h w r (Call.at now (Dated.read fifo)) (reads (byte (host_byte cs n))) (reads (byte (host_byte ds n)))
    fifo_empty : {now : ℕ} (s : Source) → Notes r (source_notes UartReceiveClock s ++ (UartEmptyRead ∷ []))
        → Agree h w r (Call.at now (Dated.read fifo)) (reads (word 0)) (reads (word 0))
    fifo_refused : {now : ℕ} {x : Refusal} → Agree h w r (Call.at now (Dated.read fifo)) (reads (refused x)) (reads (refused x))
    handed_out : {c : Request} {t : Taken} {ns : List ℕ} {rest rest' : List ℕ} → ((now : ℕ) → ¬ (c ≡ Call.at now (Dated.read fifo)))
        → All (λ n. n < w) ns → length rest ≡ length rest'
        → Agree h w r c (takes (record { taken = t; front = map (write_byte fifo cs) ns; rest = rest }))
        (takes (record { taken = t; front = map (write_byte fifo ds) ns; rest = rest' }))
    no_byte : {c : Request} {x : Reply ℕ ℕ ℕ} → ((now : ℕ) → ¬ (c ≡ Call.at now (Dated.read fifo))) → ((b : ℕ) → ¬ (x ≡ reads (byte b)))
        → ((t : Take ℕ ℕ) → ¬ (x ≡ takes t)) → Agree h w r c x x

  -- one by one, h host bytes and w FIFO writes having been given before; a row is as many writes as it has bytes, and is answered alike
  pub data Agreeing : ℕ → ℕ → List Ask → List (Answer ℕ ℕ ℕ) → List (Answer ℕ ℕ ℕ) → Type 0 where
    nil : {h w : ℕ} → Agreeing h w [] [] []
    call : {h w : ℕ} {c : Request} {rest : List Ask} {r : Report} {x y : Reply ℕ ℕ ℕ} {s t : List (Answer ℕ ℕ ℕ)}
        → Agree (h + length (host_of c)) (w + length (fifo_bytes_of fifo c)) r c x y
        → Agreeing (h + length (host_of c)) (w + length (fifo_bytes_of fifo c)) rest s t
        → Agreeing h w (Asked.call c ∷ rest) (record { reply = x; report = r } ∷ s) (record { reply = y; report = r } ∷ t)
    row : {h w now : ℕ} {bs : List ℕ} {rest : List Ask} {r : Report} {x : Row} {s t : List (Answer ℕ ℕ ℕ)}
        → Agreeing h (w + length bs) rest s t
        → Agreeing h w (Asked.row now bs ∷ rest) (record { reply = rows x; report = r } ∷ s) (record { reply = rows x; report = r } ∷ t)

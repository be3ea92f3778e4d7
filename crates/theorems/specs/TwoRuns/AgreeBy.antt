-- Agree of any two ways to look a byte's number up, and that Agree is this of the bytes of two lists. Assumes nothing.
use Rattle.std.specs.Prelude.{◌≡◌, ℕ, ◌<◌, List, [], ◌∷◌, ◌++◌, map, length}
use Rattle.model.specs.Limits.{All}
use Rattle.model.specs.Replies.{word, byte, refused, Take, Notes}
use Rattle.model.specs.Registers.{source_notes}
use Rattle.model.specs.Call.{Dated, Call, Request, Ask, Reply, reads, takes}
use Rattle.theorems.specs.TwoRuns.Alike.{host_byte, write_byte}
use Rattle.theorems.specs.TwoRuns.Agree.{Agree}
use Rattle.model.specs.declared.Refusal.{Refusal}
use Rattle.model.specs.declared.Report.{Report}
use Rattle.model.specs.Names.{Taken}
use Rattle.model.specs.declared.Source.{Source}
use Rattle.model.specs.declared.Unsupported.TheVariants.{UartEmptyRead, UartReceiveClock}

-- what a number stands for: f and g look up a host byte and a written one of the first list, f' and g' of the second
module _ (fifo : ℕ) (f f' g g' : ℕ → ℕ) where
  -- the replies of two lists to a call with which h host bytes and w FIFO writes have been given; their report is
  -- one and the same. They differ at most in the byte that a read of FIFO gives and in the bytes handed out as sent, which have the same
  -- numbers in both, and in what was lent. A read of FIFO notes a mistimed reception where there was one, and then UartEmptyRead where it
  -- gives 0
  pub data AgreeBy (h w : ℕ) (r : Report) : Request → Reply ℕ ℕ ℕ → Reply ℕ ℕ ℕ → Type 0 where
    fifo_byte : {now n : ℕ} (s : Source) → Notes r (source_notes UartReceiveClock s) → n < h
        → AgreeBy h w r (Call.at now (Dated.read fifo)) (reads (byte (f n))) (reads (byte (f' n)))
    fifo_empty : {now : ℕ} (s : Source) → Notes r (source_notes UartReceiveClock s ++ (UartEmptyRead ∷ []))
        → AgreeBy h w r (Call.at now (Dated.read fifo)) (reads (word 0)) (reads (word 0))
    fifo_refused : {now : ℕ} {x : Refusal} → AgreeBy h w r (Call.at now (Dated.read fifo)) (reads (refused x)) (reads (refused x))
    handed_out : {c : Request} {t : Taken} {ns : List ℕ} {rest rest' : List ℕ} → ((now : ℕ) → ¬ (c ≡ Call.at now (Dated.read fifo)))
        → All (λ n. n < w) ns → length rest ≡ length rest'
        → AgreeBy h w r c (takes (record { taken = t; front = map g ns; rest = rest }))
        (takes (record { taken = t; front = map g' ns; rest = rest' }))
    no_byte : {c : Request} {x : Reply ℕ ℕ ℕ} → ((now : ℕ) → ¬ (c ≡ Call.at now (Dated.read fifo))) → ((b : ℕ) → ¬ (x ≡ reads (byte b)))
        → ((t : Take ℕ ℕ) → ¬ (x ≡ takes t)) → AgreeBy h w r c x x

pub by-lists : (fifo : ℕ) (cs ds : List Ask) {h w : ℕ} {r : Report} {c : Request} {x y : Reply ℕ ℕ ℕ}
    → AgreeBy fifo (host_byte cs) (host_byte ds) (write_byte fifo cs) (write_byte fifo ds) h w r c x y → Agree fifo cs ds h w r c x y
by-lists fifo cs ds (AgreeBy.fifo_byte s p l) = Agree.fifo_byte s p l
by-lists fifo cs ds (AgreeBy.fifo_empty s p) = Agree.fifo_empty s p
by-lists fifo cs ds AgreeBy.fifo_refused = Agree.fifo_refused
by-lists fifo cs ds (AgreeBy.handed_out n a e) = Agree.handed_out n a e
by-lists fifo cs ds (AgreeBy.no_byte n p q) = Agree.no_byte n p q

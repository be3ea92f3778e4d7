-- What each answer holds: a read of FIFO a byte or, from an empty FIFO, 0 with UartEmptyRead; no other call, and no row, a byte of
-- the host. Assumes nothing.
use Rattle.std.specs.Prelude.{◌≡◌, ℕ, Bool, eqb, ◌+◌, length}
use Rattle.std.proofs.Math.Path.{refl, subst}
use Rattle.std.proofs.Common.{sym, eqb-true}
use Rattle.std.proofs.Math.Bool.{true, false, decide}
use Rattle.std.proofs.Math.Option.{Option, none, some}
use mathlib.Core.List.{List, [], ◌∷◌, map}
use Rattle.std.proofs.lemmas.Bool.{eqb-false}
use Rattle.model.specs.State.{Uart, line_of}
use Rattle.model.specs.Replies.{ReadOf, byte, refused, Take, report}
use Rattle.model.specs.Map.{Register, same_register, register_of}
use Rattle.model.specs.Registers.{source_notes, looks, pop, read_register, read_looking, read_at}
use Rattle.model.specs.Tests.{refuse_date}
use Rattle.model.specs.Calls.{Plan, refusing, unless, after_settling, carried, outcome, read_placed}
use Rattle.model.specs.Plans.{settle_at}
use Rattle.model.specs.Call.{Dated, Undated, Call, date_of, Request, Asked, Ask, Reply, reads, writes, does, takes, left, pends}
use Rattle.model.specs.Run.{Step, stepped, replying, plan_by, asked_by, run_by}
use Rattle.model.specs.Run.{answering}
use Rattle.model.proofs.Laws.Plans.{replied}
use Rattle.model.proofs.Ends.Passes.{apart}
use Rattle.model.proofs.Laws.Placed.{changed_dated, changed_undated, changed, changed_asked, placed, placed_asked, step_placed, step_by}
use Rattle.model.proofs.Laws.Placed.{run_placed}
use Rattle.theorems.specs.TwoRuns.Alike.{Each}
use Rattle.theorems.proofs.TwoRuns.Numbering.{host_in, written_in, other_place, fifo-place, numbered, numbered_asked, number}
use Rattle.theorems.specs.TwoRuns.Numbered.{NotFifo, Shape, AskedShape}
use Rattle.model.specs.declared.Refusal.{Refusal}
use Rattle.model.specs.declared.Report.{Report}
use Rattle.model.specs.declared.Source.{Source}
use Rattle.model.specs.declared.Unsupported.{Unsupported}
use Rattle.model.specs.declared.Unsupported.TheVariants.{UartReceiveClock}

-- ---- a read of FIFO

module _ (fifo now : ℕ) where
  pop-shape : (passes overflows : ℕ) (s : Source) (bs : List ℕ) (u : Uart ℕ ℕ)
      → let a = pop (source_notes UartReceiveClock s) bs u in
      Shape fifo (Call.at now (Dated.read fifo))
      (record { reply = reads a.reply; report = report passes overflows a.notes a.state })
  unfolding pop report
  pop-shape passes overflows s [] u = Shape.fifo_empty s (refl, refl)
  pop-shape passes overflows s (b ∷ bs) u = Shape.fifo_byte s (refl, refl)

  fifo-shape : (u : Uart ℕ ℕ) → Shape fifo (Call.at now (Dated.read fifo)) (step_placed (Call.at now (Dated.read Register.fifo)) u).answer
  unfolding step_placed step_by plan_by date_of stepped outcome carried replying read_placed unless refusing after_settling read_at looks
      decide read_looking read_register
  fifo-shape u = go (refuse_date now u.control none)
    where
      go : (o : Option Refusal) → Shape fifo (Call.at now (Dated.read fifo)) (record {
        reply = (unless o (λ r. reads (refused r)) (carried (some now) (replying reads (read_placed now Register.fifo u))) u).reply;
        report = (unless o (λ r. reads (refused r)) (carried (some now) (replying {L = Unit {0}} reads (read_placed now Register.fifo u))) u
            ).report;
      })
      go (some r) = Shape.fifo_refused
      go none = pop-shape _ _ (line_of (settle_at now u).state).rx_mistimed (settle_at now u).state.rx _

-- ---- a read of another register

abbrev NoByte : ReadOf ℕ → Type 0
NoByte r = (b : ℕ) → ¬ (r ≡ byte b)

abbrev NoneAt : Register → Type 0
NoneAt k = (ns : List Unsupported) (u : Uart ℕ ℕ) → NoByte (read_register ns k u).reply

-- only FIFO gives a byte
register-no_byte : (k : Register) → same_register k Register.fifo ≡ false → NoneAt k
unfolding read_register decide
register-no_byte Register.fifo e ns u = apart (cc)
register-no_byte Register.int_clr e ns u = λ b f. apart (cc)
register-no_byte Register.unknown e ns u = λ b f. apart (cc)
register-no_byte (Register.shown s) e ns u = λ b f. apart (cc)
register-no_byte (Register.stored x) e ns u = λ b f. apart (cc)

looking-no_byte : (k : Register) → NoneAt k → (b : Bool) (u : Uart ℕ ℕ) → NoByte (read_looking b k u).reply
unfolding read_looking
looking-no_byte k n true u = n _ _
looking-no_byte k n false u = n _ _

placed-no_byte : (p : Register) → NoneAt p → (now : ℕ) (u : Uart ℕ ℕ) → NoByte (outcome (some now) (read_placed now p u) u).reply
unfolding outcome carried read_placed unless refusing after_settling read_at
placed-no_byte p n now u = go (refuse_date now u.control none)
  where
    go : (o : Option Refusal) → NoByte (unless o refused (carried (some now) (read_placed now p u)) u).reply
    go (some r) = λ b f. apart (cc)
    go none = looking-no_byte p n _ (settle_at now u).state

reads-no_byte : (r : ReadOf ℕ) → NoByte r → (b : ℕ) → ¬ (◌≡◌ {A = Reply ℕ ℕ (Unit {0})} (reads r) (reads (byte b)))
reads-no_byte r n b f = n b (cc)

-- ---- every call

module _ (fifo : ℕ) (others : List ℕ) where
  -- the shape of an answer, from what the call itself gives
  shaped : {R : Type 0} (as-reply : R → Reply ℕ ℕ (Unit {0})) (c : Request) (d : Option ℕ) (p : Plan R ℕ ℕ) (u : Uart ℕ ℕ)
      → Shape fifo c (answering as-reply (outcome d p u)).answer → Shape fifo c (stepped (outcome d (replying as-reply p) u)).answer
  shaped as-reply c d p u a = subst (λ (s : Step ℕ ℕ (Unit {0})). Shape fifo c s.answer) (sym (replied as-reply p u d)) a

  other-no_byte : (o : ℕ) → eqb o fifo ≡ false → NoneAt (register_of (fifo ∷ others) o)
  other-no_byte o e = register-no_byte _ (other_place fifo others o e)

  not-fifo : (now o : ℕ) → eqb o fifo ≡ false → NotFifo fifo (Call.at now (Dated.read o))
  not-fifo now o e n f = eqb-false o fifo e (cc)

  read-shape : (now o : ℕ) (u : Uart ℕ ℕ) (b : Bool) → eqb o fifo ≡ b
      → Shape fifo (Call.at now (Dated.read o)) (step_placed (Call.at now (Dated.read (register_of (fifo ∷ others) o))) u).answer
  unfolding step_placed step_by plan_by date_of answering
  read-shape now o u true e =
      subst (λ p. Shape fifo (Call.at now (Dated.read o)) (step_placed (Call.at now (Dated.read p)) u).answer)
      (sym (fifo-place fifo others o e))
      (subst (λ i. Shape fifo (Call.at now (Dated.read i)) (step_placed (Call.at now (Dated.read Register.fifo)) u).answer)
      (sym (eqb-true o fifo e))
      (fifo-shape fifo now u))
  read-shape now o u false e =
      shaped reads _ _ _ u
      (Shape.no_byte (not-fifo now o e) (reads-no_byte _ (placed-no_byte _ (other-no_byte o e) now u)) (λ t f. apart (cc)))

  -- the reply of a call that neither reads nor takes
  no_byte-shaped : (c : Request) (x : Reply ℕ ℕ (Unit {0})) {r : Report} → NotFifo fifo c → ((b : ℕ) → ¬ (x ≡ reads (byte b)))
      → ((t : Take ℕ (Unit {0})) → ¬ (x ≡ takes t)) → Shape fifo c (record { reply = x; report = r })
  no_byte-shaped c x e p q = Shape.no_byte e p q

  step-shape : (h w : ℕ) (c : Request) (u : Uart ℕ ℕ) → Shape fifo c (step_placed (numbered h w (placed (fifo ∷ others) c)) u).answer
  unfolding numbered placed changed changed_dated changed_undated step_placed step_by plan_by date_of answering
  step-shape h w (Call.at now (Dated.read o)) u = read-shape now o u (eqb o fifo) refl
  step-shape h w (Call.at now (Dated.write x)) u =
      shaped writes _ _ _ u (no_byte-shaped _ (writes _) (λ n e. apart (cc)) (λ b e. apart (cc)) (λ t e. apart (cc)))
  step-shape h w (Call.at now (Dated.receive date bs)) u =
      shaped does _ _ _ u (no_byte-shaped _ (does _) (λ n e. apart (cc)) (λ b e. apart (cc)) (λ t e. apart (cc)))
  step-shape h w (Call.at now (Dated.take_tx lent)) u = shaped takes _ _ _ u (Shape.handed_out (λ n e. apart (cc)))
  step-shape h w (Call.at now (Dated.machine m)) u =
      shaped does _ _ _ u (no_byte-shaped _ (does _) (λ n e. apart (cc)) (λ b e. apart (cc)) (λ t e. apart (cc)))
  step-shape h w (Call.undated (Undated.take_written lent)) u = shaped takes _ _ _ u (Shape.handed_out (λ n e. apart (cc)))
  step-shape h w (Call.undated Undated.has_left) u =
      shaped left _ _ _ u (no_byte-shaped _ (left _) (λ n e. apart (cc)) (λ b e. apart (cc)) (λ t e. apart (cc)))
  step-shape h w (Call.undated Undated.host_pending) u =
      shaped pends _ _ _ u (no_byte-shaped _ (pends _) (λ n e. apart (cc)) (λ b e. apart (cc)) (λ t e. apart (cc)))

  pub asked-shape : (h w : ℕ) (a : Ask) (u : Uart ℕ ℕ)
      → AskedShape fifo a (asked_by step_placed (numbered_asked h w (placed_asked (fifo ∷ others) a)) u).answer
  unfolding changed_asked asked_by answering
  asked-shape h w (Asked.call c) u = AskedShape.call (step-shape h w c u)
  asked-shape h w (Asked.row now bs) u = AskedShape.row

  -- every answer of a numbered list has its shape
  pub run-shape : (h w : ℕ) (cs : List Ask) (u : Uart ℕ ℕ)
      → Each (AskedShape fifo) cs (run_placed (number h w (map (placed_asked (fifo ∷ others)) cs)) u)
  unfolding run_by number
  run-shape h w [] u = Each.nil
  run-shape h w (a ∷ cs) u =
      let placed = placed_asked (fifo ∷ others) a in
      Each.cons (asked-shape h w a u) (run-shape (h + length (host_in placed)) (w + length (written_in placed)) cs _)

-- A call or a row that is carried out answers number 0 and at most 8 notices besides overflows. Assumes nothing.
use Rattle.std.specs.Prelude.{◌≡◌, Bool, length, take, Some, None}
use Rattle.std.proofs.Math.Path.{refl}
use Prim.Native.Nat.{ℕ, suc, ◌%◌, ◌≤◌}
use Rattle.std.proofs.Math.Nat.{le_trans}
use native.Mathlib.Omega.{arith}
use Rattle.std.proofs.Math.Bool.{true, false}
use Rattle.std.proofs.Math.Option.{Option, none, some}
use mathlib.Core.List.{List, [], ◌∷◌}
use Rattle.std.proofs.Common.{lit≤}
use Rattle.std.proofs.Math.ListN.{length-append}
use Rattle.std.proofs.lemmas.List.{length-map, length-replicate}
use Rattle.model.specs.State.{Uart}
use Rattle.model.specs.Replies.{notices, no_report, report, ReadOf, read_number, write_number, done_number, taken_number}
use Rattle.model.specs.Map.{Word, Register, register_of}
use Rattle.model.specs.Registers.{note_if, source_notes, Access, pop, gives, read_register, read_looking, read_at, conf0_notes}
use Rattle.model.specs.Registers.{stored_notes, sent, dropped, send_byte}
use Rattle.model.specs.Registers.{storing, clearing, write_register, concluded}
use Rattle.model.specs.Calls
use Rattle.model.specs.Calls.{after_settling, carried, filled, quiet, read_placed, send, write_placed}
use Rattle.model.specs.Row.{row_limit, row_number, summed}
use Rattle.model.specs.Call.{Machine, Dated, Undated, Call, date_of, Request, Asked, Ask, writes, Answer}
use Rattle.model.specs.Run.{number_of, stepped, answering, replying, plan_by, writing, plan}
use Rattle.model.proofs.Refuses.Conditions.{carried_out}
use Rattle.model.proofs.Rows.Notices.{made-few}
use Rattle.model.proofs.Laws.Choose.{choose-ind}
use Rattle.model.proofs.Laws.AccessCases.{write-ind, write_register-ind}
use Rattle.model.specs.declared.Source.{Source}
use Rattle.model.specs.declared.Unsupported.{Unsupported}
use Rattle.model.specs.declared.Report.{Report}

-- ---- notices

-- at most 8 notices, in 8 places
pub record Few (r : Report) : Type 0 where
  pub noted : r.noted ≤ 8
  pub places : length r.notices ≡ 8

pub no-report-few : Few no_report
unfolding no_report
no-report-few = record { noted = omega arith; places = refl }

report-few : {H W : Type 0} (passes overflows : ℕ) (ns : List Unsupported) (u : Uart H W) → length ns ≤ 8
    → Few (report passes overflows ns u)
unfolding report notices
report-few passes overflows ns u le = record { noted = le; places = simp (length-append, length-map, length-replicate) (omega arith) }

note-le : {k : ℕ} (b : Bool) (n : Unsupported) (ns : List Unsupported) → length ns ≤ k → length (note_if b n ns) ≤ suc k
unfolding note_if
note-le true n ns le = omega arith
note-le false n ns le = omega arith

source-le : (notice : ℕ → Unsupported) (s : Source) → length (source_notes notice s) ≤ 1
unfolding source_notes
source-le notice Source.None = omega arith
source-le notice Source.Sel0 = omega arith
source-le notice Source.Sel2 = omega arith

conf0-le : (v : ℕ) → length (conf0_notes v) ≤ 8
unfolding conf0_notes
conf0-le v =
    note-le _ _ _ (note-le _ _ _ (note-le _ _ _ (note-le _ _ _
    (note-le _ _ _ (note-le _ _ _ (note-le _ _ _ (note-le _ _ _ (omega arith))))))))

stored-le : (x : Word) (v : ℕ) → length (stored_notes x v) ≤ 8
unfolding stored_notes
stored-le x v =
    choose-ind (λ (ns : List Unsupported). length ns ≤ 8) _ (λ _. conf0-le v)
    (λ _. le_trans (note-le {k = 2} _ _ _ (note-le {k = 1} _ _ _ (note-le {k = 0} _ _ [] (omega arith)))) (lit≤ tt))

-- ---- accesses

-- an access that is not refused, with few notices
pub record Proper {R H W : Type 0} (number : R → ℕ) (a : Access R H W) : Type 0 where
  pub zero : number a.reply ≡ 0
  pub few : length a.notes ≤ 8

module _ {H W : Type 0} where
  pop-proper : (ns : List Unsupported) (bs : List H) (u : Uart H W) → length ns ≤ 1 → Proper read_number (pop ns bs u)
  unfolding pop read_number
  pop-proper ns [] u le = record { zero = refl; few = simp length-append (omega arith) }
  pop-proper ns (b ∷ bs) u le = record { zero = refl; few = omega arith }

  gives-proper : (ns : List Unsupported) (u : Uart H W) (r : ReadOf H) → length ns ≤ 1 → read_number r ≡ 0
      → Proper read_number (gives ns u r)
  gives-proper ns u r le e = record { zero = e; few = omega arith }

  read-proper : (ns : List Unsupported) (k : Register) (u : Uart H W) → length ns ≤ 1 → Proper read_number (read_register ns k u)
  unfolding read_register read_number
  read-proper ns Register.fifo u le = pop-proper ns u.rx u le
  read-proper ns Register.int_clr u le = gives-proper ns u _ le refl
  read-proper ns Register.unknown u le = gives-proper ns u _ le refl
  read-proper ns (Register.shown s) u le = gives-proper ns u _ le refl
  read-proper ns (Register.stored x) u le = gives-proper ns u _ le refl

  pub looking-proper : (b : Bool) (p : Register) (u : Uart H W) → Proper read_number (read_looking b p u)
  unfolding read_looking
  looking-proper true p u = read-proper _ p _ (source-le _ _)
  looking-proper false p u = read-proper [] p u (omega arith)

  pub write-proper : (k : Register) (v : ℕ) (u : Uart H W) → Proper write_number (write_register k v u)
  unfolding clearing storing write_number
  write-proper k v u =
      write_register-ind (λ _. Proper write_number) v u (λ _. record { zero = refl; few = omega arith })
      (record { zero = refl; few = omega arith }) (λ x. record { zero = refl; few = stored-le x v })
      (λ x. record { zero = refl; few = stored-le x v }) k

  pub send-proper : (now : ℕ) (b : W) (u : Uart H W) → Proper write_number (send_byte now b u)
  unfolding send_byte dropped sent write_number
  send-proper now b u = choose-ind (Proper write_number) _ (λ _. record { zero = refl; few = omega arith })
      (λ _. record { zero = refl; few = le_trans (source-le _ _) (lit≤ tt) })

-- ---- calls

machine-proper : (now : ℕ) (m : Machine) (u v : Uart ℕ ℕ) → Proper done_number ((Calls.machine now m u).work v)
unfolding Calls.machine done_number quiet
machine-proper now Machine.wake u v = record { zero = refl; few = omega arith }
machine-proper now Machine.reset u v = record { zero = refl; few = omega arith }
machine-proper now Machine.power_down u v = record { zero = refl; few = omega arith }
machine-proper now (Machine.watch b) u v = record { zero = refl; few = omega arith }
machine-proper now (Machine.clock_change period) u v = record { zero = refl; few = omega arith }

-- what a call does besides its tests and settlings
work-proper : (c : Request) (u v : Uart ℕ ℕ) → Proper number_of ((plan c u).work v)
unfolding plan plan_by replying writing number_of done_number taken_number filled read_at quiet concluded
    Calls.read read_placed Calls.write send write_placed Calls.receive Calls.take_tx Calls.take_written Calls.has_left Calls.host_pending
work-proper (Call.at now (Dated.read offset)) u v =
    let p = looking-proper _ (register_of u.map.offsets offset) v in record { zero = p.zero; few = p.few }
work-proper (Call.at now (Dated.write x)) u v =
    write-ind (λ p. Proper (number_of {L = ℕ}) ((replying writes p).work v)) now (register_of u.map.offsets x.offset) x.value u
    (λ _. let p = send-proper now (x.value % 256) v in record { zero = p.zero; few = p.few })
    (λ _. let p = write-proper (register_of u.map.offsets x.offset) x.value v in record { zero = p.zero; few = p.few })
work-proper (Call.at now (Dated.receive date bs)) u v = record { zero = refl; few = omega arith }
work-proper (Call.at now (Dated.take_tx lent)) u v = record { zero = refl; few = omega arith }
work-proper (Call.at now (Dated.machine m)) u v =
    let p = machine-proper now m u v in record { zero = p.zero; few = p.few }
work-proper (Call.undated (Undated.take_written lent)) u v = record { zero = refl; few = omega arith }
work-proper (Call.undated Undated.has_left) u v = record { zero = refl; few = omega arith }
work-proper (Call.undated Undated.host_pending) u v = record { zero = refl; few = omega arith }

-- number 0, and few notices, in the answer
pub record Fine (a : Answer ℕ ℕ ℕ) : Type 0 where
  pub zero : number_of a.reply ≡ 0
  pub few : Few a.report

call-fine : (c : Request) (u : Uart ℕ ℕ) → Fine (stepped (carried (date_of c) (plan c u) u)).answer
unfolding stepped carried after_settling
call-fine c u = by-date (date_of c)
  where
    by-date : (d : Option ℕ) → Fine (stepped (carried d (plan c u) u)).answer
    by-date none = record { zero = (work-proper c u u).zero; few = no-report-few }
    by-date (some now) = record { zero = (work-proper c u _).zero; few = report-few _ _ _ _ (work-proper c u _).few }

-- a call or a row that is carried out answers number 0 and at most 8 notices
pub carried-fine : (c : Ask) (u : Uart ℕ ℕ) → Fine (carried_out c u).answer
unfolding carried_out answering summed number_of row_number
carried-fine (Asked.call c) u = call-fine c u
carried-fine (Asked.row now bs) u =
    record { zero = refl; few = report-few _ _ _ _ (le_trans (made-few now (take row_limit bs) u) (lit≤ tt)) }

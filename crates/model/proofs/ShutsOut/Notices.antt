-- What a write to CONF0 notes: the modes that are refused by name in the order of their bits, then a stop code of 0; and that the word is
-- stored whole. Assumes nothing.
use Rattle.std.specs.Prelude.{◌≡◌, List, [], ◌∷◌, map, eqb}
use Rattle.std.proofs.Math.Path.{refl, ap}
use Rattle.std.proofs.Common.{◌∙◌, arith}
use Prim.Native.Nat.{ℕ, ◌<◌}
use Rattle.std.proofs.Math.Bool.{decide}
use Rattle.std.proofs.Math.Option.{some}
use Rattle.std.proofs.Math.ListN.{length}
use Rattle.model.specs.Numbers.{choose, field, bit}
use Rattle.model.specs.State.{Uart}
use Rattle.model.specs.Settle.{levels, drive, assert_levels}
use Rattle.model.specs.Arm.{arm}
use Rattle.model.specs.Replies.{notices, report}
use Rattle.model.specs.Map.{Word, Register, register_of, value_of, words_by, replaced}
use Rattle.model.specs.Registers.{note_if, conf0_notes, stored_notes, storing, reset_fifos, write_register, concluded}
use Rattle.model.specs.Calls.{after_settling, write_at, write_placed, carried}
use Rattle.model.specs.Call.{Dated, Call, Written, writes}
use Rattle.model.specs.Run.{Step, step}
use Rattle.model.specs.Run.{answering}
use Rattle.model.specs.Limits.{Chain, single, link}
use Rattle.model.proofs.MeetsManual.Answers.{InTime, write-answer}
use Rattle.model.specs.declared.Feature.{Feature}
use Rattle.model.specs.declared.Feature.TheVariants.{Loopback, InvertedRx, Autobaud, NoStopBit, TxFlowControl, InvertedTx}
use Rattle.model.specs.declared.Feature.TheVariants.{Irda, TxBreak}
use Rattle.model.specs.declared.Unsupported.{Unsupported}
use Rattle.model.specs.declared.Unsupported.TheVariants.{UartFeature}

-- the modes with their bits
abbrev pub modes : List (ℕ × Feature)
modes =
    (8, TxBreak) ∷ (14, Loopback) ∷ (15, TxFlowControl) ∷ (16, Irda) ∷ (19, InvertedRx) ∷ (22, InvertedTx) ∷ (27, Autobaud) ∷ []

-- they stand in the order of their bits
pub modes-rise : Chain ◌<◌ (map (λ m. m.0) modes)
modes-rise =
    link {n = 8} {m = 14} (omega arith) (link {n = 14} {m = 15} (omega arith) (link {n = 15} {m = 16} (omega arith)
    (link {n = 16} {m = 19} (omega arith) (link {n = 19} {m = 22} (omega arith) (link {n = 22} {m = 27} (omega arith) single)))))

-- the modes whose bit a word has, in order, and then what else is noted
unfoldable pub modes_in : ℕ → List (ℕ × Feature) → List Unsupported → List Unsupported
modes_in v [] rest = rest
modes_in v (m ∷ ms) rest = note_if (bit m.0 v) (UartFeature m.1) (modes_in v ms rest)

unfoldable pub conf0_noted : ℕ → List Unsupported
conf0_noted v = modes_in v modes (note_if (eqb (field 4 2 v) 0) (UartFeature NoStopBit) [])

conf0-noted : (v : ℕ) → conf0_notes v ≡ conf0_noted v
unfolding conf0_notes conf0_noted modes_in
conf0-noted v = refl

module _ (now : ℕ) (u : Uart ℕ ℕ) (x : Written) (t : InTime now u)
    (e : register_of u.map.offsets x.offset ≡ Register.stored Word.conf0) where
  pub conf0-answer : step (Call.at now (Dated.write x)) u
      ≡ answering writes (carried (some now) (write_placed now (Register.stored Word.conf0) x.value u) u)
  unfolding write_at write_placed choose decide
  conf0-answer = write-answer t x (Register.stored Word.conf0) e refl

  -- a write to CONF0 gives these notices, in this order, and no other
  pub conf0-notices : ((step (Call.at now (Dated.write x)) u).answer.report.notices ≡ notices (conf0_noted x.value))
      × ((step (Call.at now (Dated.write x)) u).answer.report.noted ≡ length (conf0_noted x.value))
  unfolding answering carried write_placed after_settling concluded write_register storing stored_notes choose decide report
  conf0-notices = (
    ap (λ (s : Step ℕ ℕ ℕ). s.answer.report.notices) conf0-answer ∙ ap notices (conf0-noted x.value),
    ap (λ (s : Step ℕ ℕ ℕ). s.answer.report.noted) conf0-answer ∙ ap length (conf0-noted x.value),
  )

  -- the word is stored whole
  pub conf0-stored : (step (Call.at now (Dated.write x)) u).state.control.words.conf0 ≡ x.value
  unfolding answering carried write_placed after_settling concluded write_register storing replaced words_by value_of reset_fifos arm levels
      drive assert_levels choose decide
  conf0-stored = ap (λ (s : Step ℕ ℕ ℕ). s.state.control.words.conf0) conf0-answer

-- Register access: what cannot be read, what STATUS, MEM_RX_STATUS and a stored word read as, what a write leaves of the nine, and a write
-- that is not accepted. Assumes nothing.
use Rattle.std.specs.Prelude.{◌≡◌, Bool, false, length, take, Ok, true}
use Rattle.std.proofs.Math.Path.{refl, ap}
use Rattle.std.proofs.Common.{◌∙◌, true≢false}
use Prim.Native.Nat.{ℕ, ◌-◌, ◌*◌, ◌^◌}
use Rattle.std.proofs.Math.Bool.{decide}
use mathlib.Core.List.{[]}
use Rattle.std.specs.Int.Bits.{bit_or}
use Rattle.model.specs.Numbers.{choose, bit}
use Rattle.model.specs.State.{Uart}
use Rattle.model.specs.Settle.{in_fifo, levels, drive, assert_levels, settle}
use Rattle.model.specs.Arm.{arm}
use Rattle.model.specs.Replies.{word, no_value, report}
use Rattle.model.specs.Map.{Word, Shown, Register, same_word, is_fifo, register_of, value_of, words_by, replaced}
use Rattle.model.specs.Registers.{status_word, looks, shown_in, read_register, read_looking, read_at, reset_fifos, storing, write_register}
use Rattle.model.specs.Registers.{concluded}
use Rattle.model.specs.Calls.{after_settling, carried, dated, read_placed, write_at, write_placed}
use Rattle.model.specs.Call.{Dated, Call, Written, reads, writes}
use Rattle.model.specs.Run.{Step, step}
use Rattle.model.proofs.Laws.Choose.{choose-ind}
use Rattle.model.specs.Run.{answering}
use Rattle.model.proofs.Keeps.Kept.{settle-keeps}
use Rattle.model.proofs.Keeps.Rest.{settle_to-words}
use Rattle.model.proofs.MeetsManual.Answers.{InTime, settled, read_answer, write-answer}
use Rattle.model.proofs.ShutsOut.Notices.{conf0-answer}
use Rattle.model.specs.Unused.{takes_word}
use Rattle.model.specs.declared.RegisterMap.{RegisterMap}
use Rattle.model.specs.declared.Words.{Words}

-- ---- nine words, bit for bit

replaced-value : (x : Word) (v : ℕ) (w : Words) (y : Word) → value_of (replaced x v w) y ≡ choose (same_word x y) v (value_of w y)
unfolding replaced words_by value_of
replaced-value x v w Word.int_ena = refl
replaced-value x v w Word.clkdiv = refl
replaced-value x v w Word.conf0 = refl
replaced-value x v w Word.conf1 = refl
replaced-value x v w Word.clk_conf = refl
replaced-value x v w Word.idle_conf = refl
replaced-value x v w Word.rs485_conf = refl
replaced-value x v w Word.at_cmd_char = refl
replaced-value x v w Word.mem_conf = refl

module _ (now : ℕ) (u : Uart ℕ ℕ) (t : InTime now u) where
  settled-words : (settled now u).control.words ≡ u.control.words
  unfolding settle dated
  settled-words = settle_to-words _ (dated now u)

  -- ---- reads

  -- INT_CLR cannot be read, nor an offset that the map lacks
  pub clear-unread : (offset : ℕ) → register_of u.map.offsets offset ≡ Register.int_clr
      → (step (Call.at now (Dated.read offset)) u).answer.reply ≡ reads no_value
  unfolding answering carried read_placed after_settling read_at looks decide read_looking read_register
  clear-unread offset e = ap (λ (s : Step ℕ ℕ ℕ). s.answer.reply) (read_answer t offset Register.int_clr e)

  pub unknown-unread : (offset : ℕ) → register_of u.map.offsets offset ≡ Register.unknown
      → (step (Call.at now (Dated.read offset)) u).answer.reply ≡ reads no_value
  unfolding answering carried read_placed after_settling read_at looks decide read_looking read_register
  unknown-unread offset e = ap (λ (s : Step ℕ ℕ ℕ). s.answer.reply) (read_answer t offset Register.unknown e)

  -- a stored word reads as it stands there
  pub word_read : (x : Word) (offset : ℕ) → register_of u.map.offsets offset ≡ Register.stored x
      → (step (Call.at now (Dated.read offset)) u).answer.reply ≡ reads (word (value_of u.control.words x))
  unfolding answering carried read_placed after_settling read_at looks decide read_looking read_register
  word_read x offset e =
      ap (λ (s : Step ℕ ℕ ℕ). s.answer.reply) (read_answer t offset (Register.stored x) e)
      ∙ ap (λ (w : Words). reads (word (value_of w x))) settled-words

  settled-map : (settled now u).map ≡ u.map
  unfolding dated
  settled-map = (settle-keeps now (dated now u)).map

  -- STATUS reads as its reset word without the counts, and both counts; MEM_RX_STATUS as its reset word
  pub status-word : (offset : ℕ) → register_of u.map.offsets offset ≡ Register.shown Shown.status
      → let v : Uart ℕ ℕ = settled now u in
      (step (Call.at now (Dated.read offset)) u).answer.reply
      ≡ reads (word (bit_or (bit_or u.map.idle_status ((length v.in_flight - 1) * 2 ^ 16)) (length v.rx)))
  unfolding answering carried read_placed after_settling read_at looks decide read_looking read_register shown_in status_word in_fifo
  status-word offset e =
      let v : Uart ℕ ℕ = settled now u in
      ap (λ (s : Step ℕ ℕ ℕ). s.answer.reply) (read_answer t offset (Register.shown Shown.status) e)
      ∙ ap (λ (m : RegisterMap). reads (word (bit_or (bit_or m.idle_status ((length v.in_flight - 1) * 2 ^ 16)) (length v.rx))))
      settled-map

  pub mem-rx-status-read : (offset : ℕ) → register_of u.map.offsets offset ≡ Register.shown Shown.mem_rx_status
      → (step (Call.at now (Dated.read offset)) u).answer.reply ≡ reads (word u.map.mem_rx_status)
  unfolding answering carried read_placed after_settling read_at looks decide read_looking read_register shown_in
  mem-rx-status-read offset e =
      ap (λ (s : Step ℕ ℕ ℕ). s.answer.reply) (read_answer t offset (Register.shown Shown.mem_rx_status) e)
      ∙ ap (λ (m : RegisterMap). reads (word m.mem_rx_status)) settled-map

  -- ---- writes

  kept-words : (x : Word) (v : ℕ) → (choose (same_word x Word.conf0) (reset_fifos v (settled now u)) (settled now u)).control.words
      ≡ (settled now u).control.words
  unfolding reset_fifos
  kept-words x v =
      choose-ind (λ (s : Uart ℕ ℕ). s.control.words ≡ (settled now u).control.words) (same_word x Word.conf0) (λ _. refl) (λ _. refl)

  -- a stored word takes the value whole, and the eight others stay
  pub word-stored : (x : Word) (w : Written) → register_of u.map.offsets w.offset ≡ Register.stored x
      → let s : Step ℕ ℕ ℕ = step (Call.at now (Dated.write w)) u in
      (s.answer.reply ≡ writes (Ok true))
      × ((y : Word) → value_of s.state.control.words y ≡ choose (same_word x y) w.value (value_of u.control.words y))
  unfolding answering carried write_at write_placed after_settling concluded write_register storing arm levels drive assert_levels choose
      decide
  word-stored x w e =
      let q = write-answer t w (Register.stored x) e refl in (
        ap (λ (s : Step ℕ ℕ ℕ). s.answer.reply) q,
        λ y. ap (λ (s : Step ℕ ℕ ℕ). value_of s.state.control.words y) q
            ∙ ap (λ (z : Words). value_of (replaced x w.value z) y) (kept-words x w.value ∙ settled-words)
            ∙ replaced-value x w.value u.control.words y,
      )

  -- CONF0 without TXFIFO_RST leaves all in flight, and without RXFIFO_RST all received
  pub conf0-leaves-fifos : (w : Written) → register_of u.map.offsets w.offset ≡ Register.stored Word.conf0
      → let v : Uart ℕ ℕ = (step (Call.at now (Dated.write w)) u).state in
      (bit 18 w.value ≡ false → v.in_flight ≡ (settled now u).in_flight) × (bit 17 w.value ≡ false → v.rx ≡ (settled now u).rx)
  unfolding answering carried write_placed after_settling concluded write_register storing reset_fifos arm levels choose decide
  conf0-leaves-fifos w e =
      let s : Uart ℕ ℕ = settled now u in (
        λ rst. ap (λ (z : Step ℕ ℕ ℕ). z.state.in_flight) (conf0-answer now u w t e)
            ∙ ap (λ (b : Bool). choose b (take 1 s.in_flight) s.in_flight) rst,
        λ rst. ap (λ (z : Step ℕ ℕ ℕ). z.state.rx) (conf0-answer now u w t e) ∙ ap (λ (b : Bool). choose b [] s.rx) rst,
      )

  -- a read-only or unknown register is not accepted; the write settles, raises levels and arms, and does nothing else
  pub write-not-accepted : (w : Written) (r : Register) → register_of u.map.offsets w.offset ≡ r → is_fifo r ≡ false → takes_word r
      ≡ false
      → let s : Step ℕ ℕ ℕ = step (Call.at now (Dated.write w)) u in
      (s.answer.reply ≡ writes (Ok false)) × (s.state ≡ arm (levels (settled now u))) × (s.answer.report.noted ≡ 0)
  unfolding answering carried write_at write_placed after_settling concluded write_register choose decide report
  write-not-accepted w Register.fifo e f n = absurd (true≢false f)
  write-not-accepted w Register.int_clr e f n = absurd (true≢false n)
  write-not-accepted w Register.unknown e f n =
      let q = write-answer t w Register.unknown e refl in (
        ap (λ (s : Step ℕ ℕ ℕ). s.answer.reply) q,
        ap (λ (s : Step ℕ ℕ ℕ). s.state) q,
        ap (λ (s : Step ℕ ℕ ℕ). s.answer.report.noted) q,
      )
  write-not-accepted w (Register.shown k) e f n =
      let q = write-answer t w (Register.shown k) e refl in (
        ap (λ (s : Step ℕ ℕ ℕ). s.answer.reply) q,
        ap (λ (s : Step ℕ ℕ ℕ). s.state) q,
        ap (λ (s : Step ℕ ℕ ℕ). s.answer.report.noted) q,
      )
  write-not-accepted w (Register.stored x) e f n = absurd (true≢false n)

-- `step` gives STATUS, INT_ST, INT_CLR, the interrupt's level and the five bits of INT_RAW as Manual.antt lays them down.
-- Assumes nothing.
use Rattle.std.specs.Prelude.{◌≡◌, refl, Bool, true, false, ◌&&◌, ◌||◌, not, List, [], ◌∷◌, eqb, length}
use Rattle.std.proofs.Common.{sym, ap₂, ◌∙◌, div-one, arith}
use Rattle.std.proofs.Math.Path.{ap}
use Prim.Native.Nat.{ℕ, ◌-◌, ◌*◌, ◌/◌, ◌%◌, ◌^◌, ◌<◌, ◌≤◌}
use Rattle.std.proofs.Math.Bool.{decide}
use Rattle.std.specs.Int.Bits.{bit_and, bit_or, or_zero_r}
use Rattle.std.proofs.lemmas.Nat.{and_mod, and_shr, and_mask, or_mod, or_shr}
use Rattle.model.specs.Numbers.{bit}
use Rattle.model.specs.Manual
use Rattle.model.specs.Manual.{RXFIFO-CNT, TXFIFO-CNT}
use Rattle.model.specs.State.{Uart, line_of}
use Rattle.model.specs.Settle.{in_fifo, above_full, below_empty, empty_threshold, int_status, drive, levels, leveled, settle_to, settle}
use Rattle.model.specs.Settle.{settling_date}
use Rattle.model.specs.Arm.{arm}
use Rattle.model.specs.Replies.{word, report}
use Rattle.model.specs.Map.{Word, Shown, Register, register_of, value_of}
use Rattle.model.specs.Registers.{looks, status_word, pop, shown_in, read_register, read_looking, read_at, clearing}
use Rattle.model.specs.Registers.{write_register, concluded}
use Rattle.model.specs.SetUp.{fifo_counts}
use Rattle.model.specs.Calls.{after_settling, dated, read_placed, write_placed, carried}
use Rattle.model.specs.Plans.{settle_at}
use Rattle.model.specs.Call.{Dated, Call, Written, reads}
use Rattle.model.specs.Run.{Step, step}
use Rattle.model.specs.Run.{answering}
use Rattle.model.specs.Limits.{Within}
use Rattle.model.proofs.Laws.AccessCases.{read_register-ind}
use Rattle.model.proofs.Laws.Bits.{bit-and, bit-without}
use Rattle.model.proofs.Keeps.Parts.{apart, together}
use Rattle.model.proofs.Keeps.Dated.{settle_at-parts}
use Rattle.model.proofs.MeetsManual.Rises.{raw_bit, full_in, empty_in, levels-raise}
use Rattle.model.proofs.MeetsManual.FiveBits.{FiveBits, settling-rises}
use Rattle.model.proofs.MeetsManual.Answers.{settled, InTime, read_answer, clear-answer}
use Rattle.model.specs.declared.Unsupported.{Unsupported}

-- ---- STATUS

-- ten bits of a word with the counts' bits clear are 0
low_clear : (idle : ℕ) → bit_and idle fifo_counts ≡ 0 → idle % 2 ^ 10 ≡ 0
low_clear idle h =
    let mask : bit_and (idle % 2 ^ 10) 1023 ≡ idle % 2 ^ 10 % 2 ^ 10 = and_mask (idle % 2 ^ 10) 10 in
    let zero-mod : bit_and (idle % 2 ^ 10) 1023 ≡ 0 = sym (and_mod idle fifo_counts 10) ∙ ap (λ (x : ℕ). x % 2 ^ 10) h in
    omega arith

high-clear : (idle : ℕ) → bit_and idle fifo_counts ≡ 0 → idle / 2 ^ 16 % 2 ^ 10 ≡ 0
high-clear idle h =
    let mask : bit_and (idle / 2 ^ 16 % 2 ^ 10) 1023 ≡ idle / 2 ^ 16 % 2 ^ 10 % 2 ^ 10 = and_mask (idle / 2 ^ 16 % 2 ^ 10) 10 in
    let zero-mod : bit_and (idle / 2 ^ 16 % 2 ^ 10) 1023 ≡ 0 =
    sym (and_mod (idle / 2 ^ 16) (fifo_counts / 2 ^ 16) 10) ∙ ap (λ (x : ℕ). x % 2 ^ 10) (sym (and_shr idle fifo_counts 16))
    ∙ ap (λ (x : ℕ). x / 2 ^ 16 % 2 ^ 10) h in
    omega arith

-- the low digits of an or of three, from theirs
or-low : (a b c k : ℕ) {x y z : ℕ} → a % 2 ^ k ≡ x → b % 2 ^ k ≡ y → c % 2 ^ k ≡ z → bit_or (bit_or a b) c % 2 ^ k ≡ bit_or (bit_or x y) z
or-low a b c k p q r = or_mod (bit_or a b) c k ∙ ap₂ bit_or (or_mod a b k ∙ ap₂ bit_or p q) r

or-high : (a b c k : ℕ) → bit_or (bit_or a b) c / 2 ^ k ≡ bit_or (bit_or (a / 2 ^ k) (b / 2 ^ k)) (c / 2 ^ k)
or-high a b c k = or_shr (bit_or a b) c k ∙ ap (λ (x : ℕ). bit_or x (c / 2 ^ k)) (or_shr a b k)

low_count : (idle flying held : ℕ) → bit_and idle fifo_counts ≡ 0 → held ≤ 128 → RXFIFO-CNT (status_word idle flying held) ≡ held
unfolding status_word
low_count idle flying held h l =
    ap (λ (x : ℕ). x % 2 ^ 10) (div-one (status_word idle flying held))
    ∙ or-low idle (in_fifo flying * 2 ^ 16) held 10 {x = 0} {y = 0} {z = held} (low_clear idle h) (omega arith) (omega arith)

high-count : (idle flying held : ℕ) → bit_and idle fifo_counts ≡ 0 → held ≤ 128 → flying ≤ 129
    → TXFIFO-CNT (status_word idle flying held) ≡ flying - 1
unfolding status_word in_fifo
high-count idle flying held h l m =
    ap (λ (x : ℕ). x % 2 ^ 10) (or-high idle ((flying - 1) * 2 ^ 16) held 16)
    ∙ or-low (idle / 2 ^ 16) ((flying - 1) * 2 ^ 16 / 2 ^ 16) (held / 2 ^ 16) 10 {x = 0} {y = flying - 1} {z = 0} (high-clear idle h)
    (omega arith) (omega arith)
    ∙ or_zero_r (flying - 1)

-- ---- the level

pop-level : {H W : Type 0} (ns : List Unsupported) (bs : List H) (u : Uart H W) → (pop ns bs u).state.control.level ≡ u.control.level
unfolding pop
pop-level ns [] u = refl
pop-level ns (b ∷ bs) u = refl

level-kept : {H W : Type 0} (look : Bool) (p : Register) (u : Uart H W) → (read_looking look p u).state.control.level ≡ u.control.level
unfolding read_looking
level-kept true p u = read_register-ind (λ a. a.state.control.level ≡ u.control.level) _ _ (pop-level _ u.rx _) (λ r. refl) p
level-kept false p u = read_register-ind (λ a. a.state.control.level ≡ u.control.level) [] u (pop-level [] u.rx u) (λ r. refl) p

module _ (now : ℕ) (u : Uart ℕ ℕ) (t : InTime now u) where
  -- STATUS bits 0-9 are the bytes held, and bits 16-25 those in the transmit FIFO: all in flight but the one that is being sent
  pub status-read : (offset : ℕ) → register_of u.map.offsets offset ≡ Register.shown Shown.status → Within u
      → (w : ℕ) × ((step (Call.at now (Dated.read offset)) u).answer.reply ≡ reads (word w))
      × (RXFIFO-CNT w ≡ length (settled now u).rx) × (TXFIFO-CNT w ≡ length (settled now u).in_flight - 1)
  unfolding answering carried read_placed after_settling read_at looks decide read_looking read_register shown_in
  status-read offset e within =
      let v : Uart ℕ ℕ = settled now u in
      let limits : Within v = together v (settle_at-parts now u t.before_end (apart u within)) in (
        status_word v.map.idle_status (length v.in_flight) (length v.rx),
        ap (λ (s : Step ℕ ℕ ℕ). s.answer.reply) (read_answer t offset (Register.shown Shown.status) e),
        low_count _ _ (length v.rx) limits.status limits.received,
        high-count _ (length v.in_flight) (length v.rx) limits.status limits.received limits.flying,
      )

  -- the level that a read reports is whether INT_ST is other than 0: it is driven as the settling ends, and no read changes it
  pub level-read : (offset : ℕ) (p : Register) → register_of u.map.offsets offset ≡ p
      → (step (Call.at now (Dated.read offset)) u).answer.report.level ≡ not (eqb (int_status (settled now u).control) 0)
  unfolding answering carried read_placed after_settling read_at report settle settle_to leveled levels drive int_status
  level-read offset p e =
      ap (λ (s : Step ℕ ℕ ℕ). s.answer.report.level) (read_answer t offset p e) ∙ level-kept _ p (settled now u)

  -- ---- INT_RAW, INT_ENA, INT_ST

  pub raw-read : (offset : ℕ) → register_of u.map.offsets offset ≡ Register.shown Shown.int_raw
      → (step (Call.at now (Dated.read offset)) u).answer.reply ≡ reads (word (line_of (settled now u)).int_raw)
  unfolding answering carried read_placed after_settling read_at looks decide read_looking read_register shown_in
  raw-read offset e = ap (λ (s : Step ℕ ℕ ℕ). s.answer.reply) (read_answer t offset (Register.shown Shown.int_raw) e)

  pub ena-read : (offset : ℕ) → register_of u.map.offsets offset ≡ Register.stored Word.int_ena
      → (step (Call.at now (Dated.read offset)) u).answer.reply ≡ reads (word (settled now u).control.words.int_ena)
  unfolding answering carried read_placed after_settling read_at looks decide read_looking read_register value_of
  ena-read offset e = ap (λ (s : Step ℕ ℕ ℕ). s.answer.reply) (read_answer t offset (Register.stored Word.int_ena) e)

  -- INT_ST reads, bit by bit, as what INT_RAW and INT_ENA would have read
  pub status-of-interrupts : (st raw ena : ℕ) → register_of u.map.offsets st ≡ Register.shown Shown.int_st
      → register_of u.map.offsets raw ≡ Register.shown Shown.int_raw → register_of u.map.offsets ena ≡ Register.stored Word.int_ena
      → (w r e : ℕ) × ((step (Call.at now (Dated.read st)) u).answer.reply ≡ reads (word w))
      × ((step (Call.at now (Dated.read raw)) u).answer.reply ≡ reads (word r))
      × ((step (Call.at now (Dated.read ena)) u).answer.reply ≡ reads (word e)) × ((n : ℕ) → bit n w ≡ Manual.masked (bit n r) (bit n e))
  unfolding answering carried read_placed after_settling read_at looks decide read_looking read_register shown_in int_status
  status-of-interrupts st raw ena a b c =
      let v : Uart ℕ ℕ = settled now u in (
        int_status v.control,
        (line_of v).int_raw,
        v.control.words.int_ena,
        ap (λ (s : Step ℕ ℕ ℕ). s.answer.reply) (read_answer t st (Register.shown Shown.int_st) a),
        raw-read raw b,
        ena-read ena c,
        λ n. bit-and n (line_of v).int_raw v.control.words.int_ena,
      )

  -- ---- INT_CLR

  -- a write clears exactly its bits, apart from the two levels where they hold
  pub clear-write : (x : Written) → register_of u.map.offsets x.offset ≡ Register.int_clr → x.value < 2 ^ 32 → (n : ℕ) → n < 32
      → let v : Uart ℕ ℕ = settled now u in
      raw_bit n (step (Call.at now (Dated.write x)) u).state
      ≡ (Manual.cleared (raw_bit n v) (bit n x.value)
      || (eqb n 0 && Manual.RXFIFO-FULL v.control.words.conf1 (length v.rx))
      || (eqb n 1 && Manual.TXFIFO-EMPTY v.control.words.conf1 (length v.in_flight - 1)))
  unfolding answering carried write_placed after_settling write_register clearing concluded arm Manual.RXFIFO-FULL Manual.TXFIFO-EMPTY
      above_full below_empty in_fifo empty_threshold
  clear-write x e small n h =
      let v : Uart ℕ ℕ = settled now u in
      let c : Uart ℕ ℕ = (clearing x.value v).state in
      ap (λ (s : Step ℕ ℕ ℕ). raw_bit n s.state) (clear-answer t x e)
      ∙ levels-raise n c
      ∙ ap (λ (b : Bool). b || full_in n c || empty_in n c) (bit-without n x.value (line_of v).int_raw h small)

  -- ---- the five bits

  -- INT_RAW reads as the settling leaves it, which raises each bit exactly when the manual says. `dated now u` is u with its
  -- last date moved
  pub raw-read-rises : (offset : ℕ) → register_of u.map.offsets offset ≡ Register.shown Shown.int_raw
      → ((step (Call.at now (Dated.read offset)) u).answer.reply ≡ reads (word (line_of (settled now u)).int_raw))
      × FiveBits (dated now u) (settle_at now u).events (settled now u)
  unfolding settle settling_date dated
  raw-read-rises offset e = (raw-read offset e, settling-rises _ (dated now u))

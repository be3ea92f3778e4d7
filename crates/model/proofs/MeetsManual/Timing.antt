-- `step` gives a byte the frame and the bit time that Manual.antt lays down. Assumes nothing.
use Rattle.std.specs.Prelude.{◌≡◌, refl, eqb, length}
use Rattle.std.proofs.Math.Path.{ap, ap₂, subst}
use Rattle.std.proofs.Common.{◌∙◌, arith, mul_comm, eq-eqb}
use Prim.Native.Nat.{ℕ, ◌+◌, ◌*◌, ◌%◌, ◌<◌, ◌≤◌}
use Rattle.std.proofs.Math.Nat.{mul_assoc}
use mathlib.Core.List.{List, [], ◌∷◌, ◌++◌}
use Rattle.dates.specs.Dates.{held, subcycles, after}
use Rattle.model.specs.Numbers.{choose, field}
use Rattle.model.specs.Manual
use Rattle.model.specs.State.{Sent, Uart}
use Rattle.model.specs.Timing.{xtal_period, stop_half_bits, frame_half_bits, half_bit_time, bit_time, byte_time, timeout_time}
use Rattle.model.specs.Timing.{source_period}
use Rattle.model.specs.Settle.{levels, settle}
use Rattle.model.specs.Arm.{arm, nth_gone, last_gone}
use Rattle.model.specs.Map.{Register, register_of}
use Rattle.model.specs.Registers.{Access, starts_at, gone_at, sent, concluded}
use Rattle.model.specs.Tests.{sent_limit}
use Rattle.model.specs.Calls.{after_settling, dated, send, carried}
use Rattle.model.specs.Call.{Dated, Call, Written}
use Rattle.model.specs.Run.{Step, step}
use Rattle.model.specs.Run.{answering}
use Rattle.model.proofs.Laws.Choose.{choose-true}
use Rattle.model.proofs.Keeps.Rest.{settle_to-words, settle_to-period}
use Rattle.model.proofs.MeetsManual.Answers.{settled, InTime, fifo-answer, byte-taken}
use Rattle.model.specs.Names.{Write}
use Rattle.model.specs.declared.Control.{Control}

-- ---- the frame and the bit time

pub data-bits : (conf0 : ℕ) → (5 ≤ Manual.data_bits conf0) × (Manual.data_bits conf0 ≤ 8)
unfolding Manual.data_bits
data-bits conf0 = omega arith

stop-halves : (stop : Manual.StopBits) → stop_half_bits (Manual.stop_code stop) ≡ Manual.stop_halves stop
unfolding stop_half_bits Manual.stop_code Manual.stop_halves
stop-halves Manual.one = refl
stop-halves Manual.one_and_ahalf = refl
stop-halves Manual.two = refl

-- half bits are twice the frame's length in bits; a stop code of 0 is the code of no frame
pub half-bits : (conf0 : ℕ) (stop : Manual.StopBits) → field 4 2 conf0 ≡ Manual.stop_code stop
    → frame_half_bits conf0 ≡ Manual.half_bits conf0 stop
unfolding frame_half_bits Manual.half_bits Manual.data_bits
half-bits conf0 stop e = ap (λ (k : ℕ). 2 * (1 + (5 + field 2 2 conf0) + field 1 1 conf0) + k) (ap stop_half_bits e ∙ stop-halves stop)

-- registers by which the manual and the model time a frame alike: a stop code other than 0, SCLK_SEL 1 or 3, and no fraction in the source
-- divider. Outside of them the model answers as the Rust does (docs/DIFFERENCES.md)
pub record Meant (c : Control) : Type 0 where
  pub stop : Manual.StopBits
  pub stop_is : field 4 2 c.words.conf0 ≡ Manual.stop_code stop
  pub source : Manual.Source
  pub source_is : field 20 2 c.words.clk_conf ≡ Manual.source_code source
  pub whole : Manual.fraction c.words.clk_conf ≡ 0

module _ (c : Control) (m : Meant c) where
  abbrev pub LastsHalves : ℕ → ℕ → Type 0
  LastsHalves halves time = Manual.Lasts halves c.words.clkdiv c.words.clk_conf (Manual.period_of m.source c.period) time

  -- a time that the manual gives a frame, and one that it gives the receive timeout, RX_TOUT_THRHD bits of two half bits each
  abbrev pub FrameTime : ℕ → Type 0
  FrameTime time = LastsHalves (Manual.half_bits c.words.conf0 m.stop) time

  abbrev pub TimeoutTime : ℕ → Type 0
  TimeoutTime time = LastsHalves (2 * Manual.timeout_bits c.words.mem_conf) time

source-period : (clk_conf period : ℕ) (source : Manual.Source) → field 20 2 clk_conf ≡ Manual.source_code source
    → source_period clk_conf period ≡ Manual.period_of source period
unfolding source_period choose Manual.period_of Manual.source_code
source-period clk_conf period Manual.apb e = ap (λ (k : ℕ). choose (eqb k 1) period xtal_period) e
source-period clk_conf period Manual.crystal e = ap (λ (k : ℕ). choose (eqb k 1) period xtal_period) e

whole-divider : (clk_conf : ℕ) → Manual.fraction clk_conf ≡ 0
    → Manual.source_divider clk_conf ≡ record { over = field 12 8 clk_conf + 1; under = 1 }
unfolding Manual.source_divider
whole-divider clk_conf e = choose-true _ _ (eq-eqb _ 0 e)

module _ (c : Control) (m : Meant c) where
  -- so many times the model's half bit are so many half bits of the manual
  halves-last : (halves : ℕ) → LastsHalves c m halves (halves * half_bit_time c.words c.period)
  unfolding half_bit_time Manual.divider
  halves-last halves =
      rw (whole-divider c.words.clk_conf m.whole, source-period c.words.clk_conf c.period m.source m.source_is)
      (omega arith)

  -- a byte lasts as long on the way out and on the receive line
  pub byte-lasts : FrameTime c m (byte_time c.words c.period)
  unfolding byte_time
  byte-lasts = rw (half-bits c.words.conf0 m.stop m.stop_is) (halves-last _)

  pub timeout-lasts : TimeoutTime c m (timeout_time c.words c.period)
  unfolding timeout_time bit_time Manual.timeout_bits
  timeout-lasts =
      let n : ℕ = field 16 10 c.words.mem_conf in
      let h : ℕ = half_bit_time c.words c.period in
      let twice : 2 * n * h ≡ n * (2 * h) = ap (λ (k : ℕ). k * h) (mul_comm 2 n) ∙ mul_assoc n 2 h in
      subst (λ (t : ℕ). LastsHalves c m (2 * n) t) twice (halves-last (2 * n))

-- ---- a write to FIFO

held-twice : (a d : ℕ) → held (held a + d) ≡ held (a + d)
held-twice a d = omega arith

module _ (now : ℕ) (u : Uart ℕ ℕ) (x : Written) (m : Meant u.control) (t : InTime now u)
    (e : register_of u.map.offsets x.offset ≡ Register.fifo) (room : length u.tx + length u.in_flight < sent_limit) where
  abbrev frame : ℕ
  frame = byte_time u.control.words u.control.period

  settled-lasts : byte_time (settled now u).control.words (settled now u).control.period ≡ frame
  unfolding settle dated
  settled-lasts = ap₂ byte_time (settle_to-words _ (dated now u)) (settle_to-period _ (dated now u))

  -- a byte that is taken has gone a frame after it starts, which is now or when the last one in flight has gone
  pub fifo-write-gone : length (settled now u).in_flight ≤ 128
      → (time : ℕ) × FrameTime u.control m time
      × ((step (Call.at now (Dated.write x)) u).state.in_flight
      ≡ (settled now u).in_flight
      ++ (record { gone_at = after (starts_at (subcycles now) (last_gone (settled now u).in_flight)) time; byte = x.value % 256 } ∷ []))
  unfolding answering carried send after_settling concluded arm levels sent gone_at
  fifo-write-gone few =
      let l : List (Sent ℕ) = (settled now u).in_flight in (
        frame,
        byte-lasts u.control m,
        ap (λ (s : Step ℕ ℕ ℕ). s.state.in_flight) (fifo-answer t x e room)
            ∙ ap (λ (a : Access Write ℕ ℕ). a.state.in_flight) (byte-taken now (x.value % 256) (settled now u) few)
            ∙ ap (λ (d : ℕ). l ++ (record { gone_at = after (starts_at (subcycles now) (last_gone l)) d; byte = x.value % 256 } ∷ []))
            settled-lasts,
      )

  -- with none in flight it has gone at now × 32 and a frame, held at the last date
  pub fifo-write-alone : (settled now u).in_flight ≡ []
      → (time : ℕ) × FrameTime u.control m time
      × ((step (Call.at now (Dated.write x)) u).state.in_flight ≡ record { gone_at = held (now * 32 + time); byte = x.value % 256 } ∷ [])
  unfolding starts_at last_gone nth_gone
  fifo-write-alone alone =
      let (time, lasts, gone) = fifo-write-gone (rw alone (omega arith)) in (
        time,
        lasts,
        gone
            ∙ ap (λ (l : List (Sent ℕ)). l ++ (record
            { gone_at = after (starts_at (subcycles now) (last_gone l)) time; byte = x.value % 256 }
            ∷ [])) alone
            ∙ ap (λ (k : ℕ). record { gone_at = k; byte = x.value % 256 } ∷ []) (held-twice (now * 32) time),
      )

-- The laws of what the definition does not use (specs/Unused). Assumes nothing.
use Rattle.std.specs.Prelude.{◌≡◌, refl, ℕ, false, List}
use Rattle.std.proofs.Common.{ap, true≢false}
use Rattle.std.proofs.Math.Bool.{decide}
use Rattle.std.proofs.Math.Option.{some}
use Rattle.model.specs.Numbers.{choose}
use Rattle.model.specs.State.{Uart}
use Rattle.model.specs.Map.{Register, is_fifo, register_of}
use Rattle.model.specs.Registers.{write_register}
use Rattle.model.specs.Calls.{outcome, write_placed, write_at}
use Rattle.model.specs.Calls
use Rattle.model.specs.Unused.{takes_word, SameInUse}
use Rattle.model.specs.SetUp.{map_of, new}
use Rattle.model.specs.Call.{Dated, Call, date_of, writes}
use Rattle.model.specs.Run.{stepped, replying, plan_by, writing, plan, step}

-- of a write to a place that is not FIFO and takes no word, the value changes neither the answer nor the state
unused-at : (r : Register) → is_fifo r ≡ false → takes_word r ≡ false → (now v w : ℕ) (u : Uart ℕ ℕ) → write_at now r v u
    ≡ write_at now r w u
unfolding write_at write_placed write_register choose decide
unused-at Register.fifo f e now v w u = absurd (true≢false f)
unused-at Register.int_clr f e now v w u = absurd (true≢false e)
unused-at Register.unknown f e now v w u = refl
unused-at (Register.shown s) f e now v w u = refl
unused-at (Register.stored x) f e now v w u = absurd (true≢false e)

pub step-unused : (now offset v w : ℕ) (u : Uart ℕ ℕ) → is_fifo (register_of u.map.offsets offset) ≡ false
    → takes_word (register_of u.map.offsets offset) ≡ false
    → step (Call.at now (Dated.write (record { offset = offset; value = v }))) u
    ≡ step (Call.at now (Dated.write (record { offset = offset; value = w }))) u
unfolding step plan plan_by date_of writing Calls.write
step-unused now offset v w u f e =
    ap (λ p. stepped (outcome (some now) (replying writes p) u)) (unused-at (register_of u.map.offsets offset) f e now v w u)

-- set-ups whose used words are equal give the same UART
pub new-unused : {H W : Type 0} (offsets ws ws' : List ℕ) → SameInUse ws ws' → new {H = H} {W = W} offsets ws ≡ new offsets ws'
unfolding new map_of
new-unused offsets ws ws' s = rw (s.words, s.status, s.mem_rx_status)

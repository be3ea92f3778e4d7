-- Register access and refusals in few cases: at every register a read, and a write, do one of two or three things.
-- Assumes nothing.
use Rattle.std.specs.Prelude.{◌≡◌, ℕ, ◌%◌, true, false, List, [], Ok}
use Rattle.std.proofs.Math.Option.{Option, none, some}
use Rattle.model.specs.State.{Uart}
use Rattle.model.specs.Replies.{ReadOf}
use Rattle.model.specs.Map.{Word, Register, is_fifo}
use Rattle.model.specs.Registers.{Access, pop, gives, read_register, storing, clearing, reset_fifos, write_register}
use Rattle.model.specs.Calls.{Outcome, Plan, refusing, unless, send, write_placed, write_at}
use Rattle.model.proofs.Laws.Choose.{choose-ind}
use Rattle.model.specs.declared.Refusal.{Refusal}
use Rattle.model.specs.declared.Unsupported.{Unsupported}
use Rattle.model.specs.Names.{Write}

-- a fact of FIFO writes and of writes elsewhere is one of every write
pub write-ind : {H : Type 0} (P : Plan Write H ℕ → Type 0) (now : ℕ) (p : Register) (v : ℕ) (u : Uart H ℕ)
    → (is_fifo p ≡ true → P (send now (v % 256) u)) → (is_fifo p ≡ false → P (write_placed now p v u)) → P (write_at now p v u)
unfolding write_at
write-ind P now p v u f g = choose-ind P (is_fifo p) f g

-- what holds of each refusal and of the work done holds of a call that may be refused
pub unless-ind : {R H W : Type 0} (P : Outcome R H W → Type 0) (o : Option Refusal) (reply : Refusal → R) (work : Uart H W → Outcome R H W)
    (u : Uart H W)
    → ((r : Refusal) → P (refusing (reply r) u)) → P (work u) → P (unless o reply work u)
unfolding unless
unless-ind P none reply work u a b = b
unless-ind P (some r) reply work u a b = a r

-- a write elsewhere than at FIFO is not accepted, clears, or stores, as CONF0 with the FIFOs reset
pub write_register-ind : {H W : Type 0} (P : Register → Access Write H W → Type 0) (v : ℕ) (u : Uart H W)
    → ((k : Register) → P k (gives [] u (Ok false))) → P Register.int_clr (clearing v u)
    → ((x : Word) → P (Register.stored x) (storing x v (reset_fifos v u)))
    → ((x : Word) → P (Register.stored x) (storing x v u)) → (k : Register) → P k (write_register k v u)
unfolding write_register
write_register-ind P v u n c r s Register.fifo = n Register.fifo
write_register-ind P v u n c r s Register.int_clr = c
write_register-ind P v u n c r s Register.unknown = n Register.unknown
write_register-ind P v u n c r s (Register.shown x) = n (Register.shown x)
write_register-ind {H} {W} P v u n c r s (Register.stored x) =
    choose-ind (λ (t : Uart H W). P (Register.stored x) (storing x v t)) _ (λ _. r x) (λ _. s x)

-- a read takes a byte or gives a word, or nothing
pub read_register-ind : {H W : Type 0} (P : Access (ReadOf H) H W → Type 0) (ns : List Unsupported) (u : Uart H W)
    → P (pop ns u.rx u) → ((r : ReadOf H) → P (gives ns u r)) → (k : Register) → P (read_register ns k u)
unfolding read_register
read_register-ind P ns u f g Register.fifo = f
read_register-ind P ns u f g Register.int_clr = g _
read_register-ind P ns u f g Register.unknown = g _
read_register-ind P ns u f g (Register.shown s) = g _
read_register-ind P ns u f g (Register.stored x) = g _

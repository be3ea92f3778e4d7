-- Set-up gives a state within the limits, one call or row keeps it so, and so does every list of them. Assumes nothing.
use Rattle.std.specs.Prelude.{◌≡◌, refl, ℕ, zero, suc, ◌/◌, ◌^◌, ◌<◌, false, List, [], ◌∷◌, length, get_or}
use Rattle.std.proofs.Common.{sym, ap, subst, ◌∙◌, arith, pow-suc}
use Rattle.std.proofs.Math.Bool.{decide}
use Rattle.std.proofs.Math.Option.{Option, some}
use Rattle.std.specs.Int.Bits.{bit_and, and_step, and_zero_r}
use Rattle.model.specs.Numbers.{choose, without}
use Rattle.model.specs.Events
use Rattle.model.specs.State.{Uart}
use Rattle.model.specs.Map.{place_among}
use Rattle.model.specs.Tests.{repeated}
use Rattle.model.specs.Calls
use Rattle.model.specs.Calls.{Plan, outcome}
use Rattle.model.specs.SetUp.{fifo_counts, map_of, new_control, new}
use Rattle.model.specs.Call.{Machine, Dated, Undated, Call, date_of, Request, Asked, Ask, Reply}
use Rattle.model.specs.Run.{Step, stepped, answering, replying, plan_by, writing, plan, step, asked_by, asked}
use Rattle.model.specs.Limits.{Chain, All, Within}
use Rattle.model.proofs.Laws.Plans.{replied}
use Rattle.model.proofs.Keeps.Parts.{together}
use Rattle.model.proofs.Keeps.EachCall.{read-within, write-within, receive-within, wake-within, reset-within, power_down-within}
use Rattle.model.proofs.Keeps.EachCall.{watch-within, clock_change-within, take_tx-within, take_written-within, has_left-within}
use Rattle.model.proofs.Keeps.EachCall.{host_pending-within}
use Rattle.model.proofs.Rows.Within.{row_within}

-- ---- set-up

-- what shares no bit with b shares none with a part of b
and-disjoint : (n a b c : ℕ) → c < 2 ^ n → bit_and b c ≡ 0 → bit_and (bit_and a b) c ≡ 0
and-disjoint zero a b c h e = ap (bit_and (bit_and a b)) (omega arith) ∙ and_zero_r (bit_and a b)
and-disjoint (suc n) a b c h e =
    let half : bit_and a b / 2 ≡ bit_and (a / 2) (b / 2) = omega (arith, and_step a b) in
    let rest : bit_and (b / 2) (c / 2) ≡ 0 = omega (arith, and_step b c) in
    let deeper : bit_and (bit_and a b / 2) (c / 2) ≡ 0 =
    ap (λ (x : ℕ). bit_and x (c / 2)) half ∙ and-disjoint n (a / 2) (b / 2) (c / 2) (omega (arith, pow-suc 2 n)) rest in
    omega (arith, and_step (bit_and a b) c, and_step a b, and_step b c)

-- STATUS's masked bits are 0
counts-cleared : (w : ℕ) → bit_and (without fifo_counts w) fifo_counts ≡ 0
counts-cleared w = and-disjoint 32 w _ fifo_counts (omega arith) refl

-- set-up takes sixteen offsets, all different
pub new-within : {H W : Type 0} (offsets ws : List ℕ) → length offsets ≡ 16 → repeated offsets ≡ false
    → Within {H = H} {W = W} (new offsets ws)
unfolding new map_of new_control place_among choose decide Events.total
new-within offsets ws sixteen different =
    together _ (record {
      map = record { sixteen = sixteen; offsets = different; status = counts-cleared (get_or ws 6 0) };
      clock = record { low = omega arith; high = omega arith; last = omega arith; wake = tt };
      flight = record { flying = omega arith; order = Chain.empty; fit = All.nil; sent = omega arith };
      rx = omega arith;
      host = record { runs = omega arith; counts = All.nil; order = Chain.empty; fit = All.nil; total = refl; host = omega arith };
      line = record { idle = λ _. refl; free = omega arith; since = tt };
    })

-- ---- one call

machine-within : {H W : Type 0} (now : ℕ) (m : Machine) (u : Uart H W) → Within u
    → Within (outcome (some now) (Calls.machine now m u) u).state
unfolding Calls.machine
machine-within now Machine.wake u w = wake-within now u w
machine-within now Machine.reset u w = reset-within now u w
machine-within now Machine.power_down u w = power_down-within now u w
machine-within now (Machine.watch b) u w = watch-within now b u w
machine-within now (Machine.clock_change period) u w = clock_change-within now period u w

replying-within : {R L : Type 0} (as-reply : R → Reply ℕ ℕ L) (d : Option ℕ) (p : Plan R ℕ ℕ) (u : Uart ℕ ℕ)
    → Within (outcome d p u).state → Within (stepped (outcome d (replying as-reply p) u)).state
unfolding answering
replying-within as-reply d p u w = subst (λ (s : Step ℕ ℕ _). Within s.state) (sym (replied as-reply p u d)) w

-- every call keeps a state within the limits
pub step-within : (c : Request) (u : Uart ℕ ℕ) → Within u → Within (step c u).state
unfolding step plan plan_by writing date_of
step-within (Call.at now (Dated.read offset)) u w = replying-within _ _ _ u (read-within now offset u w)
step-within (Call.at now (Dated.write x)) u w = replying-within _ _ _ u (write-within now x.offset x.value u w)
step-within (Call.at now (Dated.receive date bs)) u w = replying-within _ _ _ u (receive-within now date bs u w)
step-within (Call.at now (Dated.take_tx lent)) u w = replying-within _ _ _ u (take_tx-within now lent u w)
step-within (Call.at now (Dated.machine m)) u w = replying-within _ _ _ u (machine-within now m u w)
step-within (Call.undated (Undated.take_written lent)) u w = replying-within _ _ _ u (take_written-within lent u w)
step-within (Call.undated Undated.has_left) u w = replying-within _ _ _ u (has_left-within u w)
step-within (Call.undated Undated.host_pending) u w = replying-within _ _ _ u (host_pending-within u w)

-- and so does every row
pub asked-within : (a : Ask) (u : Uart ℕ ℕ) → Within u → Within (asked a u).state
unfolding asked_by answering
asked-within (Asked.call c) u w = step-within c u w
asked-within (Asked.row now bs) u w = row_within now bs u w

-- ---- a list of them

-- the state that a list leaves
unfoldable pub state_after : List Ask → Uart ℕ ℕ → Uart ℕ ℕ
state_after [] u = u
state_after (a ∷ cs) u = state_after cs (asked a u).state

-- every state along a list is within the limits
pub calls-within : (cs : List Ask) (u : Uart ℕ ℕ) → Within u → Within (state_after cs u)
unfolding state_after
calls-within [] u w = w
calls-within (a ∷ cs) u w = calls-within cs (asked a u).state (asked-within a u w)

-- from set-up on
pub reached-within : (offsets ws : List ℕ) (cs : List Ask) → length offsets ≡ 16 → repeated offsets ≡ false
    → Within (state_after cs (new offsets ws))
reached-within offsets ws cs sixteen different = calls-within cs (new offsets ws) (new-within offsets ws sixteen different)

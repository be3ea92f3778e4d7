-- What has_left and host_pending answer, and what they read of a core. Assumes nothing.
use Rattle.std.specs.Prelude.{◌≡◌, Bool, ℕ, ◌+◌, ltb, Some, None}
use Rattle.std.proofs.Common.{ap, sym, arith}
use Rattle.model.specs.Settle.{pending, on_the_line}
use Rattle.model.specs.Call.{left, pends}
use Rattle.model.specs.Run.{number_of}
use Rattle.model.specs.Calls.{unless, carried, outcome, quiet, has_left, host_pending}
use Rattle.model.specs.declared.Frame.{Frame}
use Rattle.queue.specs.Cursors.{slot_of}
use Rattle.queue.specs.Laws.{elems-length}
use Rattle.line.specs.Names.{Receiving}
use Rattle.device.specs.Holds
use Rattle.device.specs.Holds.{Arrays, abs}
use Rattle.device.specs.declared.Core.{Core}
use Rattle.calls.specs.Answers.{undated_call}
use Rattle.calls.specs.declared.queries.HasLeft.{HasLeft}
use Rattle.calls.specs.declared.queries.HostPending.{HostPending}

-- the number of a reply, and the reply
abbrev pub left_reply : Bool → HasLeft
left_reply b = record { number = number_of {H = ℕ} {W = ℕ} {L = ℕ} (left b); has_left = b }

abbrev pub pending_reply : ℕ → HostPending
pending_reply n = record { number = number_of {H = ℕ} {W = ℕ} {L = ℕ} (pends n); count = n }

pub has-left-of : (c : Core) (a : Arrays) → ltb 0 c.tx.count ≡ (undated_call has_left (abs c a)).reply
unfolding outcome unless carried has_left quiet
has-left-of c a = ap (ltb 0) (sym (elems-length (slot_of a.tx 0) 1152 c.tx))

-- the bytes that wait, and none or one on the line
pending-of : (c : Core) (a : Arrays) (n : ℕ) → on_the_line (Holds.on_the_line c.receiving c.byte) ≡ n
    → c.host.count + n ≡ (undated_call host_pending (abs c a)).reply
unfolding outcome unless carried host_pending quiet pending
pending-of c a n e = omega (arith, elems-length (slot_of a.host 0) 1024 c.host, e)

pub pending-free : (c : Core) (a : Arrays) → c.receiving ≡ None → c.host.count ≡ (undated_call host_pending (abs c a)).reply
unfolding on_the_line Holds.on_the_line
pending-free c a e =
    let more : c.host.count + 0 ≡ (undated_call host_pending (abs c a)).reply =
    pending-of c a 0 (ap (λ (r : Receiving). on_the_line (Holds.on_the_line r c.byte)) e) in
    omega (arith, more)

pub pending-on : (c : Core) (a : Arrays) (f : Frame) → c.receiving ≡ Some f
    → c.host.count + 1 ≡ (undated_call host_pending (abs c a)).reply
unfolding on_the_line Holds.on_the_line
pending-on c a f e = pending-of c a 1 (ap (λ (r : Receiving). on_the_line (Holds.on_the_line r c.byte)) e)

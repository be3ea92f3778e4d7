-- take_written's work: the bytes that left and those in flight handed out, without settling. Assumes nothing.
use Rattle.std.specs.Prelude.{◌≡◌, refl, List, ◌++◌, map, ℕ, ◌+◌, ◌≤◌, length, drop, Ok}
use Rattle.std.proofs.Common.{sym, ap, ◌∙◌, append_assoc, arith, length-append}
use Rattle.std.proofs.Math.Option.{none}
use Rattle.model.specs.State.{Sent}
use Rattle.model.specs.Replies.{no_report, contents}
use Rattle.model.specs.Tests.{sent_limit}
use Rattle.model.specs.Calls.{carried, quiet, filled, written, take_written}
use Rattle.queue.specs.Cursors.{slot_of, elems, empty}
use Rattle.queue.specs.Laws.{elems-length, map-elems, empty-held, empty-elems}
use Rattle.device.specs.Holds.{Arrays, sent_at, tx_of, abs, Shape, Valid}
use Rattle.device.specs.declared.Core.{Core}
use Rattle.host.specs.Takes.{TakeWorks, emptied-shape}

-- the bytes that left and those in flight stand at the front of a buffer, and its rest is as it was
abbrev pub Filled : Core → List ℕ → List ℕ → List ℕ → ℕ → List ℕ → Type 0
Filled c flight tx lent n out =
    (n ≡ c.tx.count + c.flight.count) × (out ≡ tx_of tx c.tx ++ elems (slot_of flight 0) 129 c.flight
    ++ drop (c.tx.count + c.flight.count) lent)

-- they fit a buffer that is not too short
pub sent-few : (c : Core) (a : Arrays) → Valid c a → c.tx.count + c.flight.count ≤ sent_limit
sent-few c a ok =
    omega (
      arith,
      ok.within.sent,
      elems-length (slot_of a.tx 0) 1152 c.tx,
      elems-length (sent_at a.gone_at a.flight) 129 c.flight,
    )

-- a core whose bytes have all been taken
abbrev pub emptied_all : Core → Core
emptied_all c = record {
  map = c.map;
  control = c.control;
  receiving = c.receiving;
  byte = c.byte;
  flight = empty;
  tx = empty;
  host = c.host;
  runs = c.runs;
  rx = c.rx;
}

-- all that was written, handed out without settling
pub took-written : (lent : List ℕ) (c : Core) (a : Arrays) {k : ℕ} {out : List ℕ} → Shape c a → Filled c a.flight a.tx lent k out
    → TakeWorks (carried none (take_written lent (abs c a)) (abs c a)) (emptied_all c) a (Ok k) no_report out
unfolding carried take_written quiet filled written contents
took-written lent c a {k} {out} s f =
    let bytes : map (λ (x : Sent ℕ). x.byte) (abs c a).in_flight ≡ elems (slot_of a.flight 0) 129 c.flight =
    map-elems (λ (x : Sent ℕ). x.byte) (sent_at a.gone_at a.flight) 129 c.flight in
    let all : length ((abs c a).tx ++ map (λ (x : Sent ℕ). x.byte) (abs c a).in_flight) ≡ k =
    rw (length-append, bytes, elems-length (slot_of a.tx 0) 1152 c.tx, elems-length (slot_of a.flight 0) 129 c.flight)
    (sym f.0)
    in (
      record {
        shape = emptied-shape c a empty (empty-held 129 (omega arith)) s;
        replies = ap Ok (sym all);
        reports = refl;
        state = rw (empty-elems (slot_of a.tx 0) 1152, empty-elems (sent_at a.gone_at a.flight) 129);
      },
      f.1 ∙ rw (all, bytes, f.0, append_assoc),
    )

-- A UART as one value: what it stands for, the condition on it, and the contracts of its methods, which are those of the calls
-- over parts. Assumes nothing.
-- What is free is named in the specs of `device`, Holds: where a queue starts in its slots, and what stands in slots that hold no
-- element. No answer depends on it, since every contract gives the answer from the meaning alone.
use Rattle.std.specs.Prelude.{◌≡◌, false, List, ℕ, length, replicate, Ok}
use Rattle.std.proofs.Common.{sym, subst, ◌∙◌, arith}
use Rattle.model.specs.State
use Rattle.model.specs.SetUp.{map_of, new, set_up_reply}
use Rattle.model.specs.Tests.{repeated}
use Rattle.model.specs.Calls.{Outcome}
use Rattle.model.specs.Replies.{Take}
use Rattle.model.specs.Limits.{Within}
use Rattle.model.proofs.Laws.Choose.{choose-ind}
use Rattle.model.proofs.Keeps.Runs.{new-within}
use Rattle.model.specs.declared.Report.{Report}
use Rattle.model.specs.Names.{SetUp, Taken}
use Rattle.queue.specs.Cursors.{slot_of}
use Rattle.queue.specs.Laws.{empty-held, empty-elems}
use Rattle.device.specs.Holds.{Arrays, sent_at, run_in, on_the_line, abs, Shape, Valid}
use Rattle.device.specs.Wholes.{arrays}
use Rattle.device.specs.declared.Core.{Core}
use Rattle.calls.specs.NewCore.{new_core}
use Rattle.calls.specs.Answers.{Answers}
use Rattle.host.specs.Takes.{TakesWith}
use Rattle.uart.specs.declared.Uart.{Uart}
use Rattle.uart.specs.declared.After.{After}

abbrev pub arrays_of : Uart → Arrays
arrays_of u = arrays u.gone_at u.flight u.tx u.host u.run_at u.run_len u.rx

-- the state of the definition that it stands for
abbrev pub meaning : Uart → State.Uart ℕ ℕ
meaning u = abs u.core (arrays_of u)

-- its queues stand in their slots, and it is within document 01's limits
abbrev pub Good : Uart → Type 0
Good u = Valid u.core (arrays_of u)

-- a call answers as the definition's
abbrev pub Answered : {X R : Type 0} → (X → R) → (X → ℕ) → (State.Uart ℕ ℕ → Outcome X ℕ ℕ) → Uart → Uart → R → Report → Type 0
Answered view number call u u' reply report =
    Answers view number (call (meaning u)) u.core (arrays_of u) u'.core (arrays_of u') reply report

-- the same of a call that fills a lent buffer
abbrev pub Took : (State.Uart ℕ ℕ → Outcome (Take ℕ ℕ) ℕ ℕ) → Uart → Uart → Taken → Report → List ℕ → Type 0
Took call u u' reply report out = TakesWith call u.core (arrays_of u) u'.core (arrays_of u') reply report out

-- the same arrays beside another core
abbrev pub with_core : Core → Uart → Uart
with_core c u = record {
  core = c;
  gone_at = u.gone_at;
  flight = u.flight;
  tx = u.tx;
  host = u.host;
  run_at = u.run_at;
  run_len = u.run_len;
  rx = u.rx;
}

-- what a call gives back: the core that it leaves beside the arrays, its reply and its report
abbrev pub after : {R : Type 0} → Uart → Core → R → Report → After R
after u c reply report = record { uart = with_core c u; reply = reply; report = report }

-- slots of zeros
abbrev pub zeros : Arrays
zeros = arrays (replicate 129 0) (replicate 129 0) (replicate 1152 0) (replicate 1024 0) (replicate 64 0) (replicate 64 0) (replicate 128 0)

-- set-up gives the new core and slots of zeros, which stand for the definition's new state, within the limits unless it is refused
pub record SetsUp (offsets resets : List ℕ) (u : Uart) (reply : SetUp) : Type 0 where
  pub replies : reply ≡ set_up_reply offsets
  pub core : u.core ≡ new_core offsets resets
  pub slots : arrays_of u ≡ zeros
  pub state : meaning u ≡ new offsets resets
  pub good : reply ≡ (Ok tt) → Good u

-- ---- set-up

module _ (offsets resets : List ℕ) (a : Arrays) where
  -- whatever stands in the slots
  pub new-means : abs (new_core offsets resets) a ≡ new offsets resets
  unfolding new map_of on_the_line
  new-means =
      rw (
        empty-elems (sent_at a.gone_at a.flight) 129,
        empty-elems (slot_of a.tx 0) 1152,
        empty-elems (slot_of a.host 0) 1024,
        empty-elems (run_in a.run_at a.run_len) 64,
        empty-elems (slot_of a.rx 0) 128,
      )

  -- the lengths of the seven arrays
  abbrev pub Slots : Type 0
  Slots =
      (length a.gone_at ≡ 129) × (length a.flight ≡ 129) × (length a.tx ≡ 1152) × (length a.host ≡ 1024)
      × (length a.run_at ≡ 64) × (length a.run_len ≡ 64) × (length a.rx ≡ 128)

  new-shape : Slots → Shape (new_core offsets resets) a
  new-shape l = search (l, empty-held, arith)

  -- set-up that is not refused has offsets that all differ
  all-differ : {reply : SetUp} → reply ≡ set_up_reply offsets → reply ≡ (Ok tt) → repeated offsets ≡ false
  unfolding set_up_reply
  all-differ {reply} e ready =
      choose-ind (λ (r : SetUp). r ≡ (Ok tt) → repeated offsets ≡ false) (repeated offsets) (λ _ bad. cc) (λ t _. t) (sym e ∙ ready)

  pub new-good : {reply : SetUp} → length offsets ≡ 16 → Slots → reply ≡ set_up_reply offsets → reply ≡ Ok tt
      → Valid (new_core offsets resets) a
  new-good sixteen l e ready = record {
    shape = new-shape l;
    within = subst Within (sym new-means) (new-within offsets resets sixteen (all-differ e ready));
  }

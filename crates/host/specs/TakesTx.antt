-- take_tx's work: settled, and the bytes that left handed out. Assumes nothing.
use Rattle.std.specs.Prelude.{◌≡◌, refl, List, [], ◌++◌, ℕ, length, drop, Ok}
use Rattle.std.proofs.Common.{sym, ap, subst, ◌∙◌}
use Rattle.model.specs.State
use Rattle.model.specs.Setters.{with_tx}
use Rattle.model.specs.Settle
use Rattle.model.specs.Replies.{contents, taken_number}
use Rattle.model.specs.Calls.{after_settling, carried, quiet, filled, take_tx}
use Rattle.model.specs.Plans.{settle_at}
use Rattle.replies.specs.Notices.{noted}
use Rattle.queue.specs.Cursors.{slot_of, empty}
use Rattle.queue.specs.Laws.{elems-length, empty-elems}
use Rattle.queue.specs.declared.Cursor.{Cursor}
use Rattle.device.specs.Holds.{Arrays, tx_of, abs, Valid}
use Rattle.device.specs.Settles.{Settles}
use Rattle.device.specs.declared.Core.{Core}
use Rattle.calls.specs.Answers.{dated_work, Works, report_of, after}
use Rattle.host.specs.Takes.{TakeWorks, take_number, taken_core, emptied-shape}
use Rattle.calls.specs.declared.answers.CallCore.{CallCore}
use Rattle.model.specs.Names.{Taken}

-- a core with another cursor for the bytes that left
abbrev pub with_tx_of : Cursor → Core → Core
with_tx_of v c = record {
  map = c.map;
  control = c.control;
  receiving = c.receiving;
  byte = c.byte;
  flight = c.flight;
  tx = v;
  host = c.host;
  runs = c.runs;
  rx = c.rx;
}

-- a core whose bytes that left have been taken
abbrev emptied_tx : Core → Core
emptied_tx c = with_tx_of empty c

-- settled, and what left handed out
took-tx : (lent : List ℕ) {t : Settle.Settled ℕ ℕ} {c : Core} {a : Arrays} {n o k : ℕ} {out : List ℕ} → Settles t c a n o → k ≡ c.tx.count
    → out ≡ tx_of a.tx c.tx ++ drop c.tx.count lent
    → TakeWorks (after_settling t (λ s. quiet (filled s.tx lent) (with_tx [] s))) (emptied_tx c) a (Ok k)
    (report_of (emptied_tx c) n o (noted [])) out
unfolding quiet filled contents after_settling
took-tx lent {t} {c} {a} {n} {o} {k} {out} s e whole =
    let left : length (tx_of a.tx c.tx) ≡ c.tx.count = elems-length (slot_of a.tx 0) 1152 c.tx in
    let works : Works (λ x. x.taken) (after_settling t (λ s. quiet (filled s.tx lent) (with_tx [] s))) (emptied_tx c) a (Ok k)
    (report_of (emptied_tx c) n o (noted [])) =
    after (λ x. x.taken) s (λ s. quiet (filled s.tx lent) (with_tx [] s))
    (record {
      shape = emptied-shape c a c.flight s.ok.shape.flight s.ok.shape;
      replies = ap Ok (e ∙ sym left);
      notes = refl;
      state = ap (λ (l : List ℕ). with_tx l (abs c a)) (empty-elems (slot_of a.tx 0) 1152);
    })
    in
    let same : contents (filled (abs c a).tx lent) ≡ contents (filled t.state.tx lent) =
    ap (λ (x : State.Uart ℕ ℕ). contents (filled x.tx lent)) s.gives.state in
    (works, whole ∙ ap (λ (j : ℕ). tx_of a.tx c.tx ++ drop j lent) (sym left) ∙ same)

-- the same of what the function gives back
pub tx-taken : (cycle : ℕ) (lent : List ℕ) {c₀ : Core} {a₀ : Arrays} → Valid c₀ a₀
    → {c : Core} {a : Arrays} {n o k : ℕ} {out : List ℕ} {none : Cursor} {r : CallCore Taken}
    → Settles (settle_at cycle (abs c₀ a₀)) c a n o → k ≡ c.tx.count → out ≡ tx_of a.tx c.tx ++ drop c.tx.count lent
    → none ≡ empty → r ≡ taken_core (with_tx_of none c) k n o
    → TakeWorks (dated_work cycle (take_tx cycle lent) (abs c₀ a₀)) r.core a r.reply r.report out
unfolding carried take_tx
tx-taken cycle lent {c₀} {a₀} _ {c} {a} {n} {o} {k} {out} s e whole en same =
    subst (λ (x : CallCore Taken). TakeWorks (dated_work cycle (take_tx cycle lent) (abs c₀ a₀)) x.core a x.reply x.report out)
    (sym (same ∙ ap (λ (v : Cursor). taken_core (with_tx_of v c) k n o) en)) (took-tx lent s e whole)

-- the number of a take that is carried out is 0
pub take-tx-zero : (cycle : ℕ) (lent : List ℕ) (u : State.Uart ℕ ℕ) → take_number (dated_work cycle (take_tx cycle lent) u).reply ≡ 0
unfolding carried take_tx after_settling quiet filled taken_number
take-tx-zero cycle lent u = refl

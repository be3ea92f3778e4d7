-- Host bytes that join the last run, or make a run of their own, keep the waiting ones within the limits. Assumes nothing.
use Rattle.std.specs.Prelude.{◌≡◌, ℕ, zero, suc, ◌+◌, ◌≤◌, ◌<◌, length}
use Rattle.std.proofs.Common.{sym, ap, subst, ◌∙◌, length-append}
use native.Mathlib.Omega.{arith}
use mathlib.Core.List.{List, [], ◌∷◌, ◌++◌}
use Rattle.std.proofs.lemmas.List.{length-map}
use borrow.Author.Tests.{leb-false}
use Rattle.model.specs.Events
use Rattle.model.specs.State.{Run}
use Rattle.model.specs.Calls.{joined, last_date}
use Rattle.model.specs.Tests.{host_limit, runs_limit}
use Rattle.model.specs.Limits.{Chain, All, nil, cons, run_dates, run_counts, Fits}
use Rattle.model.proofs.Laws.Lists.{chain_snoc, all_snoc}
use Rattle.model.proofs.Keeps.Kept.{last_date-last_of}
use Rattle.model.proofs.Laws.Choose.{choose-ind}
use Rattle.model.proofs.Keeps.Parts.{HostWithin}

module _ (date n : ℕ) where
  -- the dates stay where the last is no earlier, and else a date comes behind them
  joined-dates : (P : List ℕ → Type 0) (rs : List Run) → P (run_dates rs)
      → ((1 ≤ length rs → last_date rs < date) → P (run_dates rs ++ (date ∷ []))) → P (run_dates (joined date n rs))
  unfolding joined last_date
  joined-dates P [] stay new = new (λ h. absurd (omega arith))
  joined-dates P (r ∷ []) stay new = choose-ind (λ (l : List Run). P (run_dates l)) _ (λ _. stay) (λ t. new (λ _. leb-false _ _ t))
  joined-dates P (r ∷ s ∷ rs) stay new = joined-dates (λ ds. P (r.date ∷ ds)) (s ∷ rs) stay (λ h. new (λ _. h (omega arith)))

  joined-counts : (rs : List Run) → 1 ≤ n → All (λ c. 1 ≤ c) (run_counts rs) → All (λ c. 1 ≤ c) (run_counts (joined date n rs))
  unfolding joined
  joined-counts [] h a = cons h nil
  joined-counts (r ∷ []) h (cons p a) =
      choose-ind (λ (l : List Run). All (λ c. 1 ≤ c) (run_counts l)) _ (λ _. cons (omega arith) nil) (λ _. cons p (cons h nil))
  joined-counts (r ∷ s ∷ rs) h (cons p a) = cons p (joined-counts (s ∷ rs) h a)

  joined-sum : (rs : List Run) → Events.total (λ r. r.count) (joined date n rs) ≡ Events.total (λ r. r.count) rs + n
  unfolding joined Events.total
  joined-sum [] = omega arith
  joined-sum (r ∷ []) =
      choose-ind (λ (l : List Run). Events.total (λ r. r.count) l ≡ Events.total (λ r. r.count) (r ∷ []) + n) _ (λ _. omega arith)
      (λ _. omega arith)
  joined-sum (r ∷ s ∷ rs) = omega (arith, joined-sum (s ∷ rs))

one_more : (runs : ℕ) → (1 ≤ runs → runs < runs_limit) → runs + 1 ≤ runs_limit
one_more zero h = omega arith
one_more (suc runs) h = let k : suc runs < runs_limit = h (omega arith) in omega arith

-- `room` is what test 6 leaves: fewer than 64 runs where a new one is made
pub joined-within : {H : Type 0} (date : ℕ) (rs : List Run) (hs bs : List H) → Fits date → 1 ≤ length bs → length hs + length bs
    ≤ host_limit
    → (1 ≤ length rs → last_date rs < date → length rs < runs_limit) → HostWithin rs hs → HostWithin (joined date (length bs) rs) (hs ++ bs)
joined-within date rs hs bs f h le room w = record {
  runs =
      subst (λ k. k ≤ runs_limit) (length-map (joined date (length bs) rs) (λ r. r.date))
      (joined-dates date (length bs) (λ ds. length ds ≤ runs_limit) rs (rw length-map w.runs)
      (λ late. rw (length-append, length-map) (one_more (length rs) (λ some-run. room some-run (late some-run)))));
  counts = joined-counts date (length bs) rs h w.counts;
  order =
      joined-dates date (length bs) (Chain ◌<◌) rs w.order
      (λ late. chain_snoc date (run_dates rs) (λ k. rw (← last_date-last_of) (late (rw length-map at k))) w.order);
  fit = joined-dates date (length bs) (All Fits) rs w.fit (λ _. all_snoc date (run_dates rs) f w.fit);
  total = joined-sum date (length bs) rs ∙ ap (λ (k : ℕ). k + length bs) w.total ∙ sym (length-append hs bs);
  host = rw length-append le;
}

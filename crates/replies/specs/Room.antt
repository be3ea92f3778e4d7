-- The tests 4, 5 and 6 as the code makes them: what is left is compared, so that no sum is formed. Assumes nothing.
use Rattle.std.specs.Prelude.{◌≡◌, refl, ℕ, ◌+◌, ◌-◌, ◌<◌, ◌≤◌, Bool, true, false, ◌&&◌, leb}
use Rattle.std.proofs.Math.Path.{sym, ap}
use Rattle.std.proofs.Common.{ap₂, ◌∙◌, arith, leb-true, ltb-true, le-leb, lt-ltb, le-ltb}
use Rattle.std.proofs.Math.Dec.{ltb}
use Rattle.std.proofs.lemmas.Bool.{lt-leb}
use Rattle.model.specs.Tests.{runs_limit, runs_full}

same_test : (s t : Bool) → (s ≡ true → t ≡ true) → (t ≡ true → s ≡ true) → s ≡ t
same_test true t f g = sym (f refl)
same_test false true f g = g refl
same_test false false f g = refl

module _ (limit have more : ℕ) (h : have ≤ limit) where
  pub reaches : leb (limit - have) more ≡ leb limit (have + more)
  reaches =
      same_test (leb (limit - have) more) (leb limit (have + more))
      (λ e. let l : limit - have ≤ more = leb-true _ _ e in le-leb limit (have + more) (omega arith))
      (λ e. let l : limit ≤ have + more = leb-true _ _ e in le-leb (limit - have) more (omega arith))

  pub exceeds : ltb (limit - have) more ≡ ltb limit (have + more)
  exceeds =
      same_test (ltb (limit - have) more) (ltb limit (have + more))
      (λ e. let l : limit - have < more = ltb-true _ _ e in lt-ltb limit (have + more) (omega arith))
      (λ e. let l : limit < have + more = ltb-true _ _ e in lt-ltb (limit - have) more (omega arith))

and-false : (t : Bool) → false ≡ (t && false)
and-false true = refl
and-false false = refl

module _ (new runs last_date date : ℕ) where
  pub no_bytes : new ≡ 0 → false ≡ runs_full new runs last_date date
  unfolding runs_full
  no_bytes e = sym (ap (λ t. t && (leb runs_limit runs && ltb last_date date)) (le-ltb 0 new (omega arith)))

  pub few-runs : runs < runs_limit → false ≡ runs_full new runs last_date date
  unfolding runs_full
  few-runs h = and-false (ltb 0 new) ∙ ap (λ t. ltb 0 new && (t && ltb last_date date)) (sym (lt-leb runs_limit runs h))

  pub all_runs : (new ≡ 0 → ⊥) → runs_limit ≤ runs → ltb last_date date ≡ runs_full new runs last_date date
  unfolding runs_full
  all_runs n h = sym (ap₂ (λ s t. s && (t && ltb last_date date)) (lt-ltb 0 new (omega arith)) (le-leb runs_limit runs h))

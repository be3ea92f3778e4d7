-- The test passes exactly where a state is within the limits. Assumes nothing.
use Rattle.std.specs.Prelude.{◌≡◌, Bool, false, ◌&&◌, ◌||◌, length, Some, None}
use Rattle.std.proofs.Math.Path.{refl}
use Rattle.std.proofs.Common.{sym, ap, ap₂, ◌∙◌}
use Prim.Native.Nat.{ℕ, ◌≤◌, ◌<◌}
use Rattle.std.proofs.Math.Bool.{true, not, or-true}
use Rattle.std.proofs.lemmas.Bool.{false≢true}
use Rattle.std.proofs.Math.Option.{Option, none, some, none-ne-some, some-injective}
use mathlib.Core.List.{List, [], ◌∷◌}
use Rattle.std.proofs.Math.Dec.{leb, ltb}
use borrow.Author.Tests.{ltb-true, leb-true, eqb-true, lt-ltb, le-leb, eq-eqb, not-true}
use Rattle.model.specs.State.{OnTheLine, Uart, line_of}
use Rattle.model.specs.Tests.{date_end}
use Rattle.model.specs.Limits.{Chain, empty, single, link, All, nil, cons, NoLater, Fits, flight_dates, run_dates, Within}
use Rattle.model.proofs.Ends.Passes.{apart}
use Rattle.dates.specs.Dates
use Rattle.form.specs.Tests.{chained, every, no_later, closed, all_pass, limits, is_within}
use Rattle.model.specs.Names.{Date}

abbrev Passes : Bool → Type 0
Passes t = t ≡ true

pub both : (s t : Bool) → Passes (s && t) → Passes s × Passes t
both true true e = (refl, refl)
both true false e = absurd (false≢true e)
both false t e = absurd (false≢true e)

and_both : {s t : Bool} → Passes s → Passes t → Passes (s && t)
and_both p q = ap₂ ◌&&◌ p q

-- ---- each test

-- what a test of two numbers decides
module _ (r : ℕ → ℕ → Bool) (R : ℕ → ℕ → Type 0) where
  chain-of : ((n m : ℕ) → Passes (r n m) → R n m) → (ns : List ℕ) → Passes (chained r ns) → Chain R ns
  unfolding chained
  chain-of d [] e = empty
  chain-of d (n ∷ []) e = single
  chain-of d (n ∷ m ∷ ns) e =
      let (p, q) = both (r n m) (chained r (m ∷ ns)) e in
      link (d n m p) (chain-of d (m ∷ ns) q)

  of-chain : ((n m : ℕ) → R n m → Passes (r n m)) → (ns : List ℕ) → Chain R ns → Passes (chained r ns)
  unfolding chained
  of-chain d [] c = refl
  of-chain d (n ∷ []) c = refl
  of-chain d (n ∷ m ∷ ns) (link h c) = and_both (d n m h) (of-chain d (m ∷ ns) c)

module _ (p : ℕ → Bool) (P : ℕ → Type 0) where
  all_of : ((n : ℕ) → Passes (p n) → P n) → (ns : List ℕ) → Passes (every p ns) → All P ns
  unfolding every
  all_of d [] e = nil
  all_of d (n ∷ ns) e =
      let (h, t) = both (p n) (every p ns) e in
      cons (d n h) (all_of d ns t)

  of-all : ((n : ℕ) → P n → Passes (p n)) → (ns : List ℕ) → All P ns → Passes (every p ns)
  unfolding every
  of-all d [] a = refl
  of-all d (n ∷ ns) (cons h a) = and_both (d n h) (of-all d ns a)

no-later : (n : ℕ) (d : Date) → Passes (no_later n d) → NoLater n d
no-later n None e = tt
no-later n (Some d) e = leb-true d n e

of-no-later : (n : ℕ) (d : Date) → NoLater n d → Passes (no_later n d)
of-no-later n None h = refl
of-no-later n (Some d) h = le-leb d n h

module _ {H : Type 0} where
  abbrev Closed : Option (OnTheLine H) → Date → Type 0
  Closed r idle = (l : OnTheLine H) → r ≡ some l → l.frame.heard ≡ true → idle ≡ None

  is-closed : (r : Option (OnTheLine H)) (idle : Date) → Passes (closed r idle) → Closed r idle
  is-closed r None e l f h = refl
  is-closed none (Some d) e l f h = absurd (none-ne-some l f)
  is-closed (some k) (Some d) e l f h =
      let heard : k.frame.heard ≡ true = ap (λ x. x.frame.heard) (some-injective k l f) ∙ h in
      absurd (false≢true (sym (ap (λ t. not t || false) heard) ∙ e))

  of-closed : (r : Option (OnTheLine H)) (idle : Date) → Closed r idle → Passes (closed r idle)
  of-closed none idle c = refl
  of-closed (some k) None c = or-true (not k.frame.heard)
  of-closed (some k) (Some d) c = by-heard k.frame.heard refl
    where
      by-heard : (t : Bool) → k.frame.heard ≡ t → Passes (not t || false)
      by-heard false e = refl
      by-heard true e = let f : Some d ≡ None = c k refl e in apart (cc)

-- ---- all of them

module _ {H W : Type 0} (u : Uart H W) where
  pub within-passes : Within u → is_within u ≡ true
  unfolding is_within limits all_pass
  within-passes w =
      and_both (ap not w.offsets) (
      and_both (le-leb _ _ w.period_low) (
      and_both (le-leb _ _ w.period_high) (
      and_both (lt-ltb _ _ w.last) (
      and_both (of-no-later date_end u.control.wake w.wake) (
      and_both (le-leb _ _ w.flying) (
      and_both (of-chain leb ◌≤◌ le-leb _ w.flying_dates) (
      and_both (le-leb _ _ w.sent) (
      and_both (le-leb _ _ w.received) (
      and_both (le-leb _ _ w.runs) (
      and_both (of-all (leb 1) (λ n. 1 ≤ n) (le-leb 1) _ w.run_count) (
      and_both (of-chain ltb ◌<◌ lt-ltb _ w.run_order) (
      and_both (eq-eqb _ _ w.run_sum) (
      and_both (le-leb _ _ w.host) (
      and_both (eq-eqb _ _ w.status) (
      and_both (of-closed u.receiving (line_of u).idle_since w.idle_line) refl)))))))))))))))

  -- what holds of every state that is read
  pub record Wide : Type 0 where
    pub sixteen : length u.map.offsets ≡ 16
    pub flying_fits : All Fits (flight_dates u.in_flight)
    pub runs_fit : All Fits (run_dates u.host_runs)
    pub line_fits : Fits (line_of u).line_free_at
    pub idle_fits : NoLater Dates.last (line_of u).idle_since

  pub passes-within : Wide → is_within u ≡ true → Within u
  unfolding is_within limits all_pass
  passes-within f e =
      let (a₁, e₁) = both _ _ e in
      let (a₂, e₂) = both _ _ e₁ in
      let (a₃, e₃) = both _ _ e₂ in
      let (a₄, e₄) = both _ _ e₃ in
      let (a₅, e₅) = both _ _ e₄ in
      let (a₆, e₆) = both _ _ e₅ in
      let (a₇, e₇) = both _ _ e₆ in
      let (a₈, e₈) = both _ _ e₇ in
      let (a₉, e₉) = both _ _ e₈ in
      let (b₀, f₀) = both _ _ e₉ in
      let (b₁, f₁) = both _ _ f₀ in
      let (b₂, f₂) = both _ _ f₁ in
      let (b₃, f₃) = both _ _ f₂ in
      let (b₄, f₄) = both _ _ f₃ in
      let (b₅, f₅) = both _ _ f₄ in
      let (b₆, f₆) = both _ true f₅ in
      record {
        sixteen = f.sixteen;
        offsets = not-true _ a₁;
        period_low = leb-true _ _ a₂;
        period_high = leb-true _ _ a₃;
        last = ltb-true _ _ a₄;
        wake = no-later date_end u.control.wake a₅;
        flying = leb-true _ _ a₆;
        flying_dates = chain-of leb ◌≤◌ leb-true _ a₇;
        sent = leb-true _ _ a₈;
        received = leb-true _ _ a₉;
        runs = leb-true _ _ b₀;
        run_count = all_of (leb 1) (λ n. 1 ≤ n) (leb-true 1) _ b₁;
        run_order = chain-of ltb ◌<◌ ltb-true _ b₂;
        run_sum = eqb-true _ _ b₃;
        host = leb-true _ _ b₄;
        status = eqb-true _ _ b₅;
        idle_line = is-closed u.receiving (line_of u).idle_since b₆;
        flying_fits = f.flying_fits;
        runs_fit = f.runs_fit;
        line_fits = f.line_fits;
        idle_fits = f.idle_fits;
      }

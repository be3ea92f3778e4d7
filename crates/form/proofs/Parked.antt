-- What a reader may rely on: a saved state is loaded as it was, nothing but a form is loaded, and one state has one form. Of every
-- state within the limits, reached by calls or not. Assumes nothing.
use Rattle.std.specs.Prelude.{◌≡◌, refl, ◌↔◌, ℕ, Bool, true, false, ◌&&◌, List, [], ◌∷◌, eqb}
use Rattle.std.proofs.Common.{sym, ap, ap₂, subst, ◌∙◌, eqb-true, eq-eqb}
use Rattle.std.proofs.lemmas.Bool.{false≢true}
use Rattle.model.specs.Numbers.{choose}
use Rattle.model.specs.State.{Uart}
use Rattle.model.specs.Limits.{Within}
use Rattle.model.specs.Widths.{Bytes, Widths}
use Rattle.model.proofs.Ends.Passes.{apart}
use Rattle.form.specs.Cells.{bytes_of}
use Rattle.form.specs.Form.{form}
use Rattle.form.specs.Read.{state_in}
use Rattle.form.specs.Tests.{is_within}
use Rattle.form.specs.Load.{lies, same_bytes, is_form, loaded, refused, load}
use Rattle.form.proofs.Laws.Within.{both, within-passes, passes-within}
use Rattle.form.proofs.Laws.Fits.{state-wide, state-widths}
use Rattle.form.proofs.Laws.Back.{form-lies, form-back}
use Rattle.form.specs.declared.NotLoaded.TheVariants.{Layout, NoState}

-- a state within the limits whose numbers fit their widths, and whose form these bytes are
pub record FormOf (u : Uart ℕ ℕ) (bs : List ℕ) : Type 0 where
  pub within : Within u
  pub widths : Widths u
  pub bytes : bytes_of (form u) ≡ bs

same_refl : (bs : List ℕ) → same_bytes bs bs ≡ true
unfolding same_bytes
same_refl [] = refl
same_refl (b ∷ bs) = ap₂ ◌&&◌ (eq-eqb b b refl) (same_refl bs)

same-is : (bs cs : List ℕ) → same_bytes bs cs ≡ true → bs ≡ cs
unfolding same_bytes
same-is [] [] e = refl
same-is [] (c ∷ cs) e = absurd (false≢true e)
same-is (b ∷ bs) [] e = absurd (false≢true e)
same-is (b ∷ bs) (c ∷ cs) e =
    let (p, q) = both (eqb b c) (same_bytes bs cs) e in
    ap₂ ◌∷◌ (eqb-true b c p) (same-is bs cs q)

-- ---- what a load answers

load-cases : (bs : List ℕ) (l f : Bool) → lies bs ≡ l → is_form (state_in bs) bs ≡ f
    → load bs ≡ choose l (choose f (loaded (state_in bs)) (refused NoState)) (refused Layout)
unfolding load
load-cases bs l f e g = rw (e, g) refl

-- a saved state is loaded as it was: after it every call answers as if nothing had been parked
pub saved-loads : (u : Uart ℕ ℕ) (bs : List ℕ) → FormOf u bs → load bs ≡ loaded u
unfolding choose is_form
saved-loads u bs f =
    subst (λ l. load l ≡ loaded u) f.bytes
    (load-cases (bytes_of (form u)) true true (form-lies u f.within f.widths) is-form
    ∙ ap loaded (form-back u f.within f.widths))
  where
    is-form : is_form (state_in (bytes_of (form u))) (bytes_of (form u)) ≡ true
    is-form =
        ap (λ v. is_form v (bytes_of (form u))) (form-back u f.within f.widths)
        ∙ ap₂ ◌&&◌ (within-passes u f.within) (same_refl (bytes_of (form u)))

-- whatever is loaded is the form of the state that it gives
pub loaded-is-form : (bs : List ℕ) → Bytes bs → (u : Uart ℕ ℕ) → load bs ≡ loaded u → FormOf u bs
unfolding choose is_form
loaded-is-form bs a u e = by_tests (lies bs) (is_form (state_in bs) bs) refl refl
  where
    read-form : is_form (state_in bs) bs ≡ true → FormOf (state_in bs) bs
    read-form q =
        let (w, s) = both (is_within (state_in bs)) (same_bytes (bytes_of (form (state_in bs))) bs) q in
        record {
          within = passes-within (state_in bs) (state-wide bs a) w;
          widths = state-widths bs a;
          bytes = same-is (bytes_of (form (state_in bs))) bs s;
        }

    by_tests : (l f : Bool) → lies bs ≡ l → is_form (state_in bs) bs ≡ f → FormOf u bs
    by_tests false f p q = let r : refused Layout ≡ loaded u = sym (load-cases bs false f p q) ∙ e in apart (cc)
    by_tests true false p q = let r : refused NoState ≡ loaded u = sym (load-cases bs true false p q) ∙ e in apart (cc)
    by_tests true true p q =
        let r : loaded (state_in bs) ≡ loaded u = sym (load-cases bs true true p q) ∙ e in
        let same : state_in bs ≡ u = cc in
        subst (λ v. FormOf v bs) same (read-form q)

-- one state has one form by its definition, and no two states have one form
pub one_form : (u v : Uart ℕ ℕ) (bs : List ℕ) → FormOf u bs → FormOf v bs → u ≡ v
one_form u v bs f g =
    let e : loaded u ≡ loaded v = sym (saved-loads u bs f) ∙ saved-loads v bs g in
    cc

-- ---- why a load is refused

-- 10 exactly where the parts do not lie as they must
pub layout-exactly : (bs : List ℕ) → (load bs ≡ refused Layout) ↔ (lies bs ≡ false)
unfolding choose
layout-exactly bs = (refused-so (lies bs) (is_form (state_in bs) bs) refl refl, λ e. load-cases bs false _ e refl)
  where
    refused-so : (l f : Bool) → lies bs ≡ l → is_form (state_in bs) bs ≡ f → load bs ≡ refused Layout → lies bs ≡ false
    refused-so false f p q e = p
    refused-so true false p q e = let r : refused NoState ≡ refused Layout = sym (load-cases bs true false p q) ∙ e in apart (cc)
    refused-so true true p q e = let r : loaded (state_in bs) ≡ refused Layout = sym (load-cases bs true true p q) ∙ e in apart (cc)

-- 11 exactly where they lie so and the bytes are the form of no state within the limits
pub no-state-exactly : (bs : List ℕ) → Bytes bs
    → (load bs ≡ refused NoState) ↔ ((lies bs ≡ true) × ((u : Uart ℕ ℕ) → ¬ FormOf u bs))
unfolding choose
no-state-exactly bs a = (refused-so (lies bs) (is_form (state_in bs) bs) refl refl, λ (p, n). no-form p n (is_form (state_in bs) bs) refl)
  where
    refused-so : (l f : Bool) → lies bs ≡ l → is_form (state_in bs) bs ≡ f → load bs ≡ refused NoState
        → (lies bs ≡ true) × ((u : Uart ℕ ℕ) → ¬ FormOf u bs)
    refused-so false f p q e = let r : refused Layout ≡ refused NoState = sym (load-cases bs false f p q) ∙ e in apart (cc)
    refused-so true f p q e = (p, λ u g. let r : refused NoState ≡ loaded u = sym e ∙ saved-loads u bs g in apart (cc))

    no-form : lies bs ≡ true → ((u : Uart ℕ ℕ) → ¬ FormOf u bs) → (f : Bool) → is_form (state_in bs) bs ≡ f → load bs ≡ refused NoState
    no-form p n false q = load-cases bs true false p q
    no-form p n true q = absurd (n (state_in bs) (loaded-is-form bs a (state_in bs) (load-cases bs true true p q)))

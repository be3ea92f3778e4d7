-- Set-up's number: 1 exactly where two of the offsets are equal, and else 0. Assumes nothing.
use Rattle.std.specs.Prelude.{◌≡◌, refl, ◌↔◌, ℕ, zero, suc, ◌<◌, Bool, true, false, ◌||◌, List, [], ◌∷◌, eqb, length, get_or}
use Rattle.std.proofs.Common.{arith, eqb-true, eq-eqb}
use Rattle.model.specs.Numbers.{choose}
use Rattle.model.specs.Replies.{number, set_up_number}
use Rattle.model.specs.Tests.{among, repeated}
use Rattle.model.specs.SetUp.{set_up_reply, new, set_up}
use Rattle.model.proofs.Ends.Passes.{apart}
use Rattle.model.proofs.Laws.Choose.{choose-true, choose-false}
use Rattle.std.proofs.Math.Option.{none, some}

-- two of the offsets are equal: those of two places, one before the other
pub record Repeat (offsets : List ℕ) : Type 0 where
  pub i : ℕ
  pub j : ℕ
  pub before : i < j
  pub within : j < length offsets
  pub same : get_or offsets i 0 ≡ get_or offsets j 0

record Has (o : ℕ) (os : List ℕ) : Type 0 where
  at : ℕ
  within : at < length os
  same : o ≡ get_or os at 0

either : {X : Type 0} (a b : Bool) → (a ≡ true → X) → (b ≡ true → X) → a || b ≡ true → X
either true b x y h = x refl
either false b x y h = y h

or_left : (a b : Bool) → a ≡ true → a || b ≡ true
or_left true b h = refl
or_left false b h = apart (cc)

or_right : (a b : Bool) → b ≡ true → a || b ≡ true
or_right true b h = refl
or_right false b h = h

among-has : (o : ℕ) (os : List ℕ) → among o os ≡ true → Has o os
unfolding among
among-has o [] h = apart (cc)
among-has o (p ∷ ps) h =
    either (eqb o p) (among o ps) (λ e. record { at = 0; within = omega arith; same = eqb-true o p e })
    (λ m. let r : Has o ps = among-has o ps m in record { at = suc r.at; within = omega (arith, r.within); same = r.same }) h

has-among : (o : ℕ) (os : List ℕ) (at : ℕ) → at < length os → o ≡ get_or os at 0 → among o os ≡ true
unfolding among
has-among o [] at lt e = absurd (omega arith)
has-among o (p ∷ ps) zero lt e = or_left (eqb o p) (among o ps) (eq-eqb o p e)
has-among o (p ∷ ps) (suc at) lt e = or_right (eqb o p) (among o ps) (has-among o ps at (omega arith) e)

repeated-yes : (os : List ℕ) → repeated os ≡ true → Repeat os
unfolding repeated
repeated-yes [] h = apart (cc)
repeated-yes (o ∷ os) h =
    either (among o os) (repeated os)
    (λ m. let r : Has o os = among-has o os m in record {
      i = 0;
      j = suc r.at;
      before = omega arith;
      within = omega (arith, r.within);
      same = r.same;
    })
    (λ m. let r : Repeat os = repeated-yes os m in
    record { i = suc r.i; j = suc r.j; before = omega (arith, r.before); within = omega (arith, r.within); same = r.same }) h

yes-repeated : (os : List ℕ) (i j : ℕ) → i < j → j < length os → get_or os i 0 ≡ get_or os j 0 → repeated os ≡ true
unfolding repeated
yes-repeated [] i j lt w e = absurd (omega arith)
yes-repeated (o ∷ os) i zero lt w e = absurd (omega arith)
yes-repeated (o ∷ os) zero (suc j) lt w e = or_left (among o os) (repeated os) (has-among o os j (omega arith) e)
yes-repeated (o ∷ os) (suc i) (suc j) lt w e = or_right (among o os) (repeated os) (yes-repeated os i j (omega arith) (omega arith) e)

-- the test of the definition is this
pub repeated-exactly : (offsets : List ℕ) → repeated offsets ≡ true ↔ Repeat offsets
repeated-exactly os = (repeated-yes os, λ r. yes-repeated os r.i r.j r.before r.within r.same)

answers : (offsets : List ℕ) (b : Bool) → repeated offsets ≡ b → set_up_number (set_up_reply offsets) ≡ choose b 1 0
unfolding set_up_reply set_up_number number choose
answers os true e = rw e
answers os false e = rw e

-- document 01's number 1: two of the offsets are equal, and only then; every other set-up is done
pub set-up-refused : (offsets : List ℕ) → set_up_number (set_up_reply offsets) ≡ 1 ↔ Repeat offsets
unfolding choose
set-up-refused os = (λ e. go (repeated os) refl e, λ r. answers os true ((repeated-exactly os).1 r))
  where
    go : (b : Bool) → repeated os ≡ b → set_up_number (set_up_reply os) ≡ 1 → Repeat os
    go true h e = repeated-yes os h
    go false h e = absurd (omega (arith, answers os false h))

pub set-up-done : (offsets : List ℕ) → set_up_number (set_up_reply offsets) ≡ 0 ↔ ¬ Repeat offsets
unfolding choose
set-up-done os = (λ e r. absurd (omega (arith, answers os true ((repeated-exactly os).1 r))), λ n. go n (repeated os) refl)
  where
    go : ¬ Repeat os → (b : Bool) → repeated os ≡ b → set_up_number (set_up_reply os) ≡ 0
    go n true h = absurd (n (repeated-yes os h))
    go n false h = answers os false h

-- a refused set-up returns no state, and every other the new one
pub set-up-none : {H W : Type 0} (offsets ws : List ℕ) → Repeat offsets → set_up {H = H} {W = W} offsets ws ≡ none
unfolding set_up
set-up-none os ws r = choose-true _ _ ((repeated-exactly os).1 r)

pub set-up-some : {H W : Type 0} (offsets ws : List ℕ) → repeated offsets ≡ false → set_up {H = H} {W = W} offsets ws
    ≡ some (new offsets ws)
unfolding set_up
set-up-some os ws e = choose-false _ _ e

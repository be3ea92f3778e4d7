-- Notices as counts: none is lost, each different one stands once, in the order in which they first come; and where a row is cut.
-- Assumes nothing.
use Rattle.std.specs.Prelude.{◌≡◌, refl, ℕ, suc, ◌+◌, ◌≤◌, List, [], ◌∷◌, length, take}
use Rattle.std.proofs.Common.{◌∙◌, arith, take_all, length-take-le}
use Rattle.model.specs.Numbers.{choose}
use Rattle.model.specs.Events.{total}
use Rattle.model.specs.Replies.{notice_numbers}
use Rattle.model.specs.Row.{Count, counted, counted_all, row_limit}
use Rattle.model.proofs.Laws.Choose.{choose-ind}
use Rattle.model.specs.declared.Feature.{Feature}
use Rattle.model.specs.declared.Unsupported.{Unsupported}
use Rattle.model.specs.declared.Unsupported.TheVariants.{UartOverflow, UartClock, UartFeature}

-- how many notices were counted
abbrev sum : List Count → ℕ
sum cs = total (λ c. c.times) cs

counted-one : (n : Unsupported) (cs : List Count) → sum (counted n cs) ≡ suc (sum cs)
unfolding counted total
counted-one n [] = refl
counted-one n (c ∷ cs) =
    choose-ind (λ (l : List Count). sum l ≡ suc (c.times + sum cs)) _ (λ _. omega arith) (λ _. omega (arith, counted-one n cs))

counted-more : (cs : List Count) (ns : List Unsupported) → sum (counted_all cs ns) ≡ sum cs + length ns
unfolding counted_all
counted-more cs [] = omega arith
counted-more cs (n ∷ ns) = omega (arith, counted-more (counted n cs) ns, counted-one n cs)

-- the counts add up to the notices
pub counts-sum : (ns : List Unsupported) → total (λ c. c.times) (counted_all [] ns) ≡ length ns
unfolding total
counts-sum ns = counted-more [] ns ∙ omega arith

-- two sources are two notices, and so are two modes; the first to come stands first
pub counts-order : counted_all [] (UartClock 2 ∷ UartOverflow ∷ UartClock 0 ∷ UartOverflow ∷ UartFeature Feature.Irda ∷ UartClock 2
    ∷ UartFeature Feature.TxBreak ∷ UartOverflow ∷ [])
    ≡ record { what = UartClock 2; times = 2 } ∷ record { what = UartOverflow; times = 3 } ∷ record { what = UartClock 0; times = 1 }
    ∷ record { what = UartFeature Feature.Irda; times = 1 } ∷ record { what = UartFeature Feature.TxBreak; times = 1 } ∷ []
unfolding counted_all counted choose notice_numbers
counts-order = refl

-- ---- where a row is cut

pub row-whole : {W : Type 0} (bs : List W) → length bs ≤ 1152 → take row_limit bs ≡ bs
row-whole bs h = take_all 1152 bs h

pub row_cut : {W : Type 0} (bs : List W) → 1152 ≤ length bs → length (take row_limit bs) ≡ 1152
row_cut bs h = length-take-le 1152 bs h

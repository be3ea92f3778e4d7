-- FIFO is the register at the map's first offset, and at no other. Assumes nothing.
use Rattle.std.specs.Prelude.{◌≡◌, refl, ◌↔◌, ℕ, true, false, List, [], ◌∷◌, eqb, drop}
use Rattle.std.proofs.Common.{sym, ap, ◌∙◌, eqb-true, eq-eqb}
use Rattle.std.proofs.Math.Bool.{decide}
use Rattle.std.proofs.lemmas.Bool.{false≢true}
use Rattle.model.specs.Numbers.{choose}
use Rattle.model.specs.Map.{Register, is_fifo, registers, register_among, register_of}
use Rattle.model.specs.Limits.{All, nil, cons}
use Rattle.model.proofs.Laws.Choose.{choose-ind}

among-others : (offset : ℕ) (os : List ℕ) {rs : List Register} → All (λ r. is_fifo r ≡ false) rs
    → is_fifo (register_among offset os rs) ≡ false
unfolding register_among decide
among-others offset [] nil = refl
among-others offset [] (cons h hs) = refl
among-others offset (o ∷ os) nil = refl
among-others offset (o ∷ os) (cons h hs) = choose-ind (λ (p : Register). is_fifo p ≡ false) _ (λ _. h) (λ _. among-others offset os hs)

-- the registers after the first
abbrev others : List Register
others = drop 1 registers

-- none of them is FIFO
pub after_first : (offset : ℕ) (os : List ℕ) → is_fifo (register_among offset os others) ≡ false
unfolding decide
after_first offset os = among-others offset os
    (cons refl (cons refl (cons refl (cons refl (cons refl (cons refl (cons refl (cons refl
    (cons refl (cons refl (cons refl (cons refl (cons refl (cons refl (cons refl nil)))))))))))))))

-- the first offset becomes FIFO
pub first-is-fifo : (offset : ℕ) (os : List ℕ) → register_of (offset ∷ os) offset ≡ Register.fifo
unfolding register_of register_among choose
first-is-fifo offset os = rw (eq-eqb offset offset refl)

-- what becomes FIFO is the first offset
pub fifo-is-first : (offsets : List ℕ) (offset : ℕ) → is_fifo (register_of offsets offset) ≡ true → (os : List ℕ) × (offsets ≡ offset ∷ os)
unfolding register_of register_among decide
fifo-is-first [] offset = λ h. absurd (false≢true h)
fifo-is-first (o ∷ os) offset = choose-ind (λ (p : Register). is_fifo p ≡ true → (os' : List ℕ) × (o ∷ os ≡ offset ∷ os')) (eqb offset o)
    (λ e _. (os, ap (λ x. x ∷ os) (sym (eqb-true offset o e))))
    (λ _ h. absurd (false≢true (sym (after_first offset os) ∙ h)))

same_first : {a b : ℕ} {l m : List ℕ} → a ∷ l ≡ b ∷ m → a ≡ b
same_first e = cc

-- in a map that has an offset, a register is FIFO exactly where the offset is the first
pub fifo-exactly : (first : ℕ) (os : List ℕ) (offset : ℕ) → register_of (first ∷ os) offset ≡ Register.fifo ↔ offset ≡ first
unfolding decide
fifo-exactly first os offset = (
  λ e. let f : (os' : List ℕ) × (first ∷ os ≡ offset ∷ os') = fifo-is-first (first ∷ os) offset (ap is_fifo e) in sym (same_first f.1),
  λ e. rw e (first-is-fifo first os),
)

-- `offsets::stands_from` meets its contract: what the list has from there on contains the offset. Assumes nothing.
use Rattle.std.proofs.Common.{◌≡◌, refl, ap, ap₂, sym, ◌∙◌, ℕ, Bool, true, false, List, [], ◌∷◌, ◌||◌, drop, length-drop}
use Rattle.std.proofs.Common.{arith, take_all, eqb, eq-eqb, ne_eqb, eqb-true}
use Rattle.std.proofs.lemmas.Bool.{eqb-false}
use Rattle.std.specs.List.{list_any}
use Rattle.model.specs.Tests.{among}
use Rattle.replies.proofs.offsets.stands_from.Goals as goal

turned : (o p : ℕ) → eqb p o ≡ eqb o p
turned o p = by-test (eqb p o) refl
  where
    by-test : (t : Bool) → eqb p o ≡ t → t ≡ eqb o p
    by-test true e = sym (eq-eqb o p (sym (eqb-true p o e)))
    by-test false e = sym (ne_eqb o p (λ s. eqb-false p o e (sym s)))

any-among : (o : ℕ) (ps : List ℕ) → list_any (λ p. eqb p o) ps ≡ among o ps
unfolding among
any-among o [] = refl
any-among o (p ∷ ps) = ap₂ (λ s t. s || t) (turned o p) (any-among o ps)

pub returns : goal.returns
returns c =
    let a = c.args in
    c.contains.ensures.value
    ∙ any-among a.offset _
    ∙ ap (among a.offset) (take_all _ (drop a.from a.offsets) (omega (arith, length-drop a.from a.offsets)))

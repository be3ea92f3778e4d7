-- `words::blank_word` meets its contract. Assumes nothing.
use mathlib.Core.Path.{sym, ap, ◌∙◌}
use Rattle.model.proofs.Laws.Choose.{choose-true, choose-false}
use Rattle.model.specs.Unused.{takes_word}
use Rattle.theorems.specs.Blanked.{blank_word}
use Rattle.blanking.proofs.words.blank_word.Goals as goal

pub returns-then-takes_word : goal.returns-then-takes_word
unfolding blank_word
returns-then-takes_word c =
    sym (choose-true _ _ (ap takes_word (sym c.place_of-place.ensures) ∙ sym c.takes_word.ensures ∙ c.if-takes_word.true))

pub returns-else-takes_word : goal.returns-else-takes_word
unfolding blank_word
returns-else-takes_word c =
    sym (choose-false _ _ (ap takes_word (sym c.place_of-place.ensures) ∙ sym c.takes_word.ensures ∙ c.if-takes_word.false))

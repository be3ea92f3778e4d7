-- `call::put_call` meets its contract. Assumes nothing.
use mathlib.Core.Path.{◌∙◌, ap, sym}
use Rattle.trace.specs.Names.{letters}
use Rattle.blanking.specs.Entries.{entry_text}
use Rattle.blanking.specs.EntryLaws.{name-kept}
use Rattle.blanking.specs.Puts.{put_same, puts-both}
use Rattle.blanking.proofs.call.put_call.Goals as goal

pub returns : goal.returns
unfolding entry_text
returns c =
    let a = c.args in
    puts-both _ _ _ _ _ _ _ _
    (puts-both _ _ _ _ _ _ _ _
    (λ _. put_same _ _ _ _ _ _ (c.letters.ensures ∙ ap letters (sym (name-kept a.map a.all a.last a.bytes.now a.s.now a.name)))
    c.put-named.ensures)
    c.put_words-words.ensures)
    (λ _. c.put.ensures) c.requires.s_in_bounds

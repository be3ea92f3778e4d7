-- `scan::seek` meets its contract: it counts what stands before the place. Assumes nothing.
use Rattle.std.proofs.Common.{ap, sym, ◌∙◌, List, ℕ, ◌+◌, ◌-◌, rules, tests, Bool, not, eqb, take, drop, length}
use Rattle.std.proofs.Math.Bool.{not-not}
use Rattle.std.proofs.lemmas.Iterator.{YieldsList-from_slice}
use Rattle.std.proofs.lemmas.Iterator.Consumers.{YieldsList-at, count_from_yields_List}
use Rattle.std.proofs.lemmas.Iterator.Search.{YieldsList-from_take_while}
use Rattle.std.proofs.lemmas.List.Folds.{length-prefix_len}
use Rattle.text.specs.Seek.{is_byte, seek, before, before-prefix, rest-within}
use Rattle.text.proofs.scan.seek.Goals as goal

pub returns : goal.returns
unfolding seek
returns c =
    let a = c.args in
    let m = c.min.result in
    let rest = take (length a.s.now - m) (drop m a.s.now) in
    let test : ℕ → Bool = λ b. not (eqb b c.args.byte) in
    let count =
    count_from_yields_List c.take_while.result _ c.count.ensures.ran
    (YieldsList-from_take_while _ test (YieldsList-at c.take_while.ensures.source (YieldsList-from_slice rest c.iter.ensures.rest))
    c.take_while.ensures.closure c.take_while.ensures.done (λ x b q k. search (rules, tests))) in
    ap (λ (k : ℕ). a.at + k)
    (count ∙ length-prefix_len test rest ∙ sym (before-prefix (is_byte a.byte) test (λ b. sym (not-not (eqb b a.byte))) rest))
    ∙ ap (λ (l : List ℕ). a.at + before (is_byte a.byte) l) (rest-within a.s.now a.at m c.min.ensures)

-- `words::next_word` meets its contract: the start is past the spaces and the end at the next one. Assumes nothing.
use mathlib.Core.Path.{◌≡◌, ap, ap₂, ◌∙◌}
use Prim.Native.Nat.{ℕ, ◌≤◌, min}
use native.Mathlib.Omega.{arith}
use lib.ListN.{length}
use Rattle.text.specs.Seek.{is_byte, is_other, seek, seek-after, seek-within}
use Rattle.text.specs.Words.{space, word_start, word_end}
use Rattle.text.proofs.words.next_word.Goals as goal

pub returns : goal.returns
returns c =
    let a = c.args in
    let s = a.s.now in
    let start : c.skip-start.result ≡ word_start s a.at =
    c.skip-start.ensures ∙ ap (seek (is_other space) s) c.within.ensures.value in
    let end : c.seek-end.result ≡ word_end s a.at = c.seek-end.ensures ∙ ap (seek (is_byte space) s) start in
    let from : word_start s a.at ≤ length s = seek-within (is_other space) s (min a.at (length s)) (omega arith) in
    record {
      next = ap₂ (λ (f : ℕ) (t : ℕ). record { start = f; end = t }) start end;
      ordered = omega (arith, seek-after (is_byte space) s (word_start s a.at));
      within = omega (arith, seek-within (is_byte space) s (word_start s a.at) from);
    }

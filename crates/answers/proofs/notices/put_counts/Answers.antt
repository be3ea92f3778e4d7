-- `notices::put_counts` meets its contract: no notice, one, or two. Assumes nothing.
use mathlib.Core.Path.{◌≡◌, ap, sym, ◌∙◌}
use mathlib.Core.List.{List}
use Prim.Native.Nat.{ℕ, min}
use native.Mathlib.Omega.{arith}
use lib.ListN.{take}
use Rattle.model.specs.Replies.{unused}
use Rattle.text.specs.Chains.{put_of, puts_of, and_then}
use Rattle.answers.specs.Notices.{counts_text, one-count, two-counts}
use Rattle.answers.proofs.notices.put_counts.Goals as goal

pub returns-then-noted-eq0 : goal.returns-then-noted-eq0
unfolding counts_text
returns-then-noted-eq0 c =
    let a = c.args in
    put_of (λ (k : ℕ). counts_text a.first a.second (take (min k 2) a.notices)) c.if-noted-eq0.true c.put.ensures

pub returns-then-noted-eq1 : goal.returns-then-noted-eq1
returns-then-noted-eq1 c =
    let a = c.args in
    let text : ℕ → List ℕ = λ k. counts_text a.first a.second (take (min k 2) a.notices) in
    let one = ap text c.if-noted-eq1.true ∙ sym (one-count a.first a.second unused a.notices (omega arith)) in
    puts_of (λ (l : List ℕ). l) one c.put_count.ensures c.requires

pub returns-else-noted-eq1 : goal.returns-else-noted-eq1
returns-else-noted-eq1 c =
    let a = c.args in
    let count : min a.noted 2 ≡ 2 = omega arith in
    let two =
    ap (λ (k : ℕ). counts_text a.first a.second (take k a.notices)) count
    ∙ sym (two-counts a.first a.second unused a.notices (omega arith)) in
    let first = and_then c.put_count-place.ensures (λ _. c.put-comma.ensures) in
    puts_of (λ (l : List ℕ). l) two (and_then first c.put_count-else-noted-eq1.ensures) c.requires

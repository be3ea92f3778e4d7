-- `notices::put_notices` meets its contract. The loop's invariant: after the first notice stand those up to the i-th. Assumes nothing.
use mathlib.Core.Path.{◌≡◌, refl, ap, sym, ◌∙◌}
use mathlib.Core.List.{List}
use Prim.Native.Nat.{ℕ, min}
use native.Mathlib.Omega.{arith}
use lib.ListN.{take}
use Rattle.model.specs.Replies.{unused}
use Rattle.text.specs.Chains.{put_of, puts_of, put-nothing, and_then}
use Rattle.answers.specs.Notices.{notices_text, next_texts, later-on, later-all}
use borrow.Author.Rules.{rules}
use Rattle.answers.proofs.notices.put_notices.Goals as goal

pub returns-then-noted-eq0 : goal.returns-then-noted-eq0
unfolding notices_text
returns-then-noted-eq0 c =
    put_of (λ (k : ℕ). notices_text (take (min k 8) c.args.notices)) c.if-noted-eq0.true c.put.ensures

pub loop-i-init : goal.loop-i-init
unfolding next_texts
loop-i-init c = (
  omega arith,
  omega (arith, c.min-count.ensures),
  omega (arith, c.min-count.ensures),
  refl,
  put-nothing c.put_notice-place.new.out
      c.put_notice-place.result,
)

pub loop-i-preserved : goal.loop-i-preserved
loop-i-preserved c =
    let ns = c.args.notices in
    let w = c.loop-i in (
      omega arith,
      omega arith,
      omega arith,
      search rules,
      puts_of (λ (l : List ℕ). l) (sym (later-on ns w.i unused (omega arith) (omega arith)))
          (and_then w.invariant.4 c.put_next-place.ensures),
    )

pub returns : goal.returns
returns c =
    let ns = c.args.notices in
    let w = c.loop-i in
    let count : w.i ≡ min c.args.noted 8 = omega (arith, c.min-count.ensures) in
    let all = later-all ns w.i unused (omega arith) (omega arith) ∙ ap (λ (k : ℕ). notices_text (take k ns)) count in
    puts_of (λ (l : List ℕ). l) (sym all) (and_then c.put_notice-place.ensures w.invariant.4)
    c.requires

-- `pairs::pairs_of` meets its contract. Assumes nothing.
use mathlib.Core.Path.{◌≡◌, ap}
use native.Mathlib.Omega.{arith}
use Prim.Native.Nat.{min}
use Rattle.std.proofs.lemmas.Grind.{common_steps}
use Rattle.text.specs.declared.words.Word.{Word}
use Rattle.trace.specs.Pairs.{pairs_at, pairs_in, count_of, pairs-kept}
use Rattle.trace.proofs.pairs.pairs_of.Goals as goal

pub returns : goal.returns
returns c =
    let s = c.args.s.now in
    let count : c.map_or.result ≡ count_of c.read_pairs-read.result = grind (arith, common_steps) in
    let here : pairs_at s c.next_word-name.result.end ≡ pairs_in s = ap (λ (w : Word). pairs_at s w.end) c.next_word-name.ensures.next in
    let last : c.min.result ≡ min (count_of (pairs_in s).step) 1025 = cc in
    rw (c.read_pairs-read.ensures.firsts_after, c.read_pairs-read.ensures.seconds_after, here)
    (pairs-kept s c.args.firsts.now c.args.seconds.now c.min.result (omega arith) (omega arith) last)

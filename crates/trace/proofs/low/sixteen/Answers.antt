-- `low::sixteen` meets its contract. Assumes nothing.
use Rattle.std.proofs.Common.{◌≡◌, ℕ, ◌+◌, ◌<◌, length, get_or, rules}
use Rattle.trace.specs.Low.{low_of, low-sixteen}
use Rattle.trace.proofs.low.sixteen.Goals as goal

pub returns : goal.returns
returns c =
    let size : length c.args.numbers ≡ 32 = search rules in
    low-sixteen c.args.numbers c.from_fn.result c.args.from size c.requires c.from_fn.ensures.items.long
    (λ (i : ℕ) (h : i < 16).
    let called = c.from_fn.ensures.items.at i 0 h in
    let same : get_or c.from_fn.result i 0 ≡ low_of (get_or c.args.numbers (c.args.from + i) 0) = search rules in
    same)

-- `head::put_head` meets its contract: fifteen numbers of one width. Assumes nothing.
use mathlib.Core.Path.{◌≡◌, ap, ◌∙◌}
use mathlib.Core.List.{List, map}
use Prim.Native.Nat.{ℕ, ◌*◌}
use native.Mathlib.Omega.{arith}
use lib.ListN.{length}
use Rattle.form.specs.Cells.{field_bytes}
use Rattle.form.specs.Form.{short}
use Rattle.park.specs.Puts.{puts-same}
use Rattle.park.specs.Rings.{line_count}
use Rattle.park.specs.Head.{head_numbers}
use Rattle.park.proofs.head.put_head.Goals as goal

pub overflow_cast-core : goal.overflow_cast-core
overflow_cast-core c = let start = c in omega (arith, c.requires.0.flight.few)

pub overflow_cast-core-2 : goal.overflow_cast-core-2
overflow_cast-core-2 c = let start = c in omega (arith, c.requires.0.tx.few)

pub overflow_cast-core-3 : goal.overflow_cast-core-3
overflow_cast-core-3 c = let start = c in omega (arith, c.requires.0.host.few)

pub overflow_cast-core-4 : goal.overflow_cast-core-4
overflow_cast-core-4 c = let start = c in omega (arith, c.requires.0.runs.few)

pub overflow_cast-core-5 : goal.overflow_cast-core-5
overflow_cast-core-5 c = let start = c in omega (arith, c.requires.0.rx.few)

pub head-numbers-requires : goal.head-numbers-requires
head-numbers-requires c =
    let line = c in
    let p = c.requires.0 in
    (p.flight.few, p.tx.few, c.line_count-line.ensures.1, p.host.few, p.runs.few, p.rx.few)

pub returns : goal.returns
returns c =
    let put = c in
    let made = c in
    let line = c in
    let core = c.args.core in
    let numbers : ℕ → List ℕ =
    λ k. head_numbers core.flight.count core.tx.count k core.host.count core.runs.count core.rx.count in
    let same : c.head-numbers.result ≡ numbers (line_count core.receiving) =
    c.head-numbers.ensures ∙ ap numbers c.line_count-line.ensures.0 in
    puts-same (ap (λ (l : List ℕ). 2 * length l) same) (ap (λ (l : List ℕ). field_bytes (map short l)) same) c.put_numbers.ensures

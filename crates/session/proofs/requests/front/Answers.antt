-- `requests::front` meets its contract. Assumes nothing.
use mathlib.Core.Path.{ap, ◌∙◌}
use Prim.Native.Nat.{ℕ}
use lib.ListN.{take}
use Rattle.session.specs.Lines.{take_within}
use Rattle.session.proofs.requests.front.Goals as goal

pub returns : goal.returns
returns c =
    let a = c.args in
    ap (λ (n : ℕ). take n a.bytes.now) c.within-n.ensures.value ∙ take_within a.count a.bytes.now

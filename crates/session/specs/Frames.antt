-- The figures of a line's frames, from what is kept of them. Assumes nothing.
use Rattle.std.specs.Prelude.{◌≡◌, List, ℕ, ◌-◌, take, drop}
use Rattle.std.proofs.Common.{ap, ap₂, ◌∙◌, arith}
use Rattle.trace.specs.Pairs.{firsts_in, seconds_in, Kept}
use Rattle.figures.specs.Figures.{figures_of}
use Rattle.figures.proofs.Exactly.{first-decide}

pub kept-figures : {s starts ends : List ℕ} {n : ℕ} → Kept s starts ends n
    → figures_of (take (n - 0) (drop 0 starts)) (take (n - 0) (drop 0 ends)) ≡ figures_of (firsts_in s) (seconds_in s)
kept-figures {s} {starts} {ends} {n} k =
    let all : n - 0 ≡ n = omega arith in
    ap₂ figures_of (ap (λ (m : ℕ). take m starts) all ∙ k.fronts) (ap (λ (m : ℕ). take m ends) all ∙ k.backs)
    ∙ first-decide 1025 (omega arith) (firsts_in s) (seconds_in s)

-- The frames that are kept of a line are put out as all of them are. Assumes nothing.
use Rattle.std.specs.Prelude.{◌≡◌, refl, Ok, Err, List, [], ◌∷◌, ◌++◌, ℕ, ◌-◌, ◌≤◌, take, drop}
use Rattle.std.proofs.Math.Path.{ap, ap₂, sym}
use Rattle.std.proofs.Common.{◌∙◌, append-nil, arith}
use Rattle.std.proofs.Math.ListN.{length}
use Rattle.std.proofs.Math.Seq.{take_all}
use Rattle.trace.specs.Pairs.{firsts_in, seconds_in, Kept}
use Rattle.figures.specs.Figures.{LineFigures, refused, figures_of}
use Rattle.figures.proofs.Exactly.{Unfit, refused-exactly, first-decide, Result, result}
use Rattle.figures.specs.declared.report.Figures.{Figures}
use Rattle.blanking.specs.Entries.{number, pairs, blank_starts, blank_ends}

-- what is put out of the frames of a line
abbrev pub frames : List ℕ → List ℕ
frames s = let r = figures_of (firsts_in s) (seconds_in s) in pairs (blank_starts r (firsts_in s)) (blank_ends r (seconds_in s))

-- frames that are not refused are as many starts as ends, at most 1,024
Fitting : List ℕ → List ℕ → LineFigures → Type 0
Fitting ss es (Ok f) = (length ss ≡ length es) × (length ss ≤ 1024)
Fitting ss es (Err e) = Unit {0}

fits : (ss es : List ℕ) {r : LineFigures} → Result ss es r → Fitting ss es r
unfolding Fitting
fits ss es (Result.refusal x) = tt
fits ss es (Result.done same few order) = (same, few)

module _ {s starts ends : List ℕ} {n : ℕ} (k : Kept s starts ends n) where
  kept-starts : take (n - 0) (drop 0 starts) ≡ take 1025 (firsts_in s)
  kept-starts = let all : n - 0 ≡ n = omega arith in ap (λ (m : ℕ). take m starts) all ∙ k.fronts

  kept-ends : take (n - 0) (drop 0 ends) ≡ take 1025 (seconds_in s)
  kept-ends = let all : n - 0 ≡ n = omega arith in ap (λ (m : ℕ). take m ends) all ∙ k.backs

  module _ {r : LineFigures} (e : r ≡ figures_of (take (n - 0) (drop 0 starts)) (take (n - 0) (drop 0 ends))) where
    decided : r ≡ figures_of (firsts_in s) (seconds_in s)
    decided = e ∙ ap₂ figures_of kept-starts kept-ends ∙ first-decide 1025 (omega arith) (firsts_in s) (seconds_in s)

    pub refused-frames : r ≡ refused → number 1 ++ number 0 ≡ frames s
    unfolding blank_starts blank_ends pairs
    refused-frames q =
        sym (append-nil (number 1 ++ number 0))
        ∙ ap (λ (x : LineFigures). pairs (blank_starts x (firsts_in s)) (blank_ends x (seconds_in s))) (sym q ∙ decided)

    module _ (f : Figures) (q : r ≡ Ok f) where
      whole : Fitting (firsts_in s) (seconds_in s) (Ok f)
      whole = rw (sym decided ∙ q) at (fits (firsts_in s) (seconds_in s) (result (firsts_in s) (seconds_in s)))

      pub same-frames : length (take (n - 0) (drop 0 starts)) ≡ length (take (n - 0) (drop 0 ends))
      unfolding Fitting
      same-frames =
          ap length (kept-starts ∙ take_all 1025 (firsts_in s) (omega (arith, whole.1)))
          ∙ whole.0
          ∙ sym (ap length (kept-ends ∙ take_all 1025 (seconds_in s) (omega (arith, whole.0, whole.1))))

      pub figured-frames : pairs (take (n - 0) (drop 0 starts)) (take (n - 0) (drop 0 ends)) ≡ frames s
      unfolding blank_starts blank_ends Fitting
      figured-frames =
          ap₂ pairs (kept-starts ∙ take_all 1025 (firsts_in s) (omega (arith, whole.1)))
          (kept-ends ∙ take_all 1025 (seconds_in s) (omega (arith, whole.0, whole.1)))
          ∙ ap (λ (x : LineFigures). pairs (blank_starts x (firsts_in s)) (blank_ends x (seconds_in s))) (sym q ∙ decided)

-- the frames that are put out are answered as the frames of the line
pub frames-answer : (ss es : List ℕ) → figures_of (blank_starts (figures_of ss es) ss) (blank_ends (figures_of ss es) es) ≡ figures_of ss es
unfolding blank_starts blank_ends
frames-answer ss es = by_answer (figures_of ss es) refl
  where
    by_answer : (r : LineFigures) → figures_of ss es ≡ r → figures_of (blank_starts r ss) (blank_ends r es) ≡ r
    by_answer (Ok f) e = e
    by_answer (Err x) e = (refused-exactly (1 ∷ []) (0 ∷ [])).1 (Unfit.ends-early 0 (omega arith) (omega arith) (omega arith))

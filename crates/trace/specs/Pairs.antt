-- Numbers of a line in pairs, up to its end. Assumes nothing.
use Rattle.std.specs.Prelude.{◌≡◌, Bool, true, false, List, [], ◌∷◌, eqb, Result, Ok, Err}
use Rattle.std.proofs.Math.Path.{ap, sym}
use Rattle.std.proofs.Common.{◌∙◌, ⊎_elim, length-take-le, take_all, take-take}
use Prim.Native.Nat.{ℕ, zero, suc, ◌+◌, ◌-◌, ◌<◌, ◌≤◌, min}
use native.Mathlib.Omega.{arith}
use Rattle.std.proofs.Math.ListN.{length, take}
use Rattle.text.specs.Pick.{pick, side}
use Rattle.text.specs.Words.{next_word}
use Rattle.trace.specs.declared.faults.Fault.{Fault}
use Rattle.trace.specs.declared.step.Step.{Step}
use Rattle.trace.specs.declared.number.Kind.TheVariants.{Wide}
use Rattle.trace.specs.Steps.{step_to, word_if, word_at}
use Rattle.trace.specs.One.{number_at}
use Rattle.trace.specs.Stored.{stored, stored-length, stored-take}

-- pairs one after another: their first and second numbers, up to a fault, and how far they were read, with how many there are
pub record Pairs : Type 0 where
  pub firsts : List ℕ
  pub seconds : List ℕ
  pub step : Result Step Fault

abbrev pub ended : Result Step Fault → Pairs
ended step = record { firsts = []; seconds = []; step = step }

abbrev pub joined : ℕ → ℕ → Pairs → Pairs
joined a b p = record { firsts = a ∷ p.firsts; seconds = b ∷ p.seconds; step = p.step }

-- after a number, from the place where it ended; a fault ends them
abbrev pub on_to : Result Step Fault → (ℕ → ℕ → Pairs) → Pairs
on_to (Ok one) next = next one.to one.number
on_to (Err f) next = ended (Err f)

-- from the `n`-th pair on, of which at most so many are left; where no word is left, they end
abbrev pub pair_on : List ℕ → ℕ → (ℕ → Pairs) → Pairs
pair_on s at next = on_to (number_at s at Wide) (λ middle a. on_to (number_at s middle Wide) (λ to b. joined a b (next to)))

unfoldable pub pairs_from : List ℕ → ℕ → ℕ → ℕ → Pairs
pairs_from s zero n at = ended (step_to at n)
pairs_from s (suc left) n at = word_at s at (ended (step_to at n)) (λ w. pair_on s at (pairs_from s left (n + 1)))

-- a line has no more pairs than bytes
abbrev pub pairs_at : List ℕ → ℕ → Pairs
pairs_at s at = pairs_from s (length s) 0 at

-- those of a line, after its name
abbrev pub pairs_in : List ℕ → Pairs
pairs_in s = pairs_at s (next_word s 0).end

abbrev pub count_of : Result Step Fault → ℕ
count_of (Ok last) = last.number
count_of (Err f) = 0

-- all of them, of a line without a fault
abbrev pub firsts_in : List ℕ → List ℕ
firsts_in s = take (count_of (pairs_in s).step) (pairs_in s).firsts

abbrev pub seconds_in : List ℕ → List ℕ
seconds_in s = take (count_of (pairs_in s).step) (pairs_in s).seconds

-- ---- laws

-- from a pair on
module _ (s : List ℕ) (n at : ℕ) (left : n < length s) where
  pub from_on : pairs_from s (length s - n) n at
      ≡ word_if (next_word s at) (ended (step_to at n)) (λ w. pair_on s at (pairs_from s (length s - (n + 1)) (n + 1)))
  unfolding pairs_from word_at
  from_on = let e : length s - n ≡ suc (length s - (n + 1)) = omega arith in ap (λ (k : ℕ). pairs_from s k n at) e

-- ---- what is kept of a line's pairs

-- no more are counted than were read
Counted : ℕ → Pairs → Type 0
Counted n p = (count_of p.step ≤ n + length p.firsts) × (count_of p.step ≤ n + length p.seconds)

pairs-counted : (s : List ℕ) (left n at : ℕ) → Counted n (pairs_from s left n at)
unfolding pairs_from word_at Counted
pairs-counted s zero n at = (omega arith, omega arith)
pairs-counted s (suc left) n at =
    let w = next_word s at in
    by_word (eqb w.start w.end) (pairs-counted s left (n + 1))
  where
    by-second : (two : Result Step Fault) (a : ℕ) → ((to : ℕ) → Counted (n + 1) (pairs_from s left (n + 1) to))
        → Counted n (on_to two (λ to b. joined a b (pairs_from s left (n + 1) to)))
    by-second (Ok b) a rest = (omega (arith, (rest b.to).0), omega (arith, (rest b.to).1))
    by-second (Err f) a rest = (omega arith, omega arith)

    by_first : (one : Result Step Fault) → ((to : ℕ) → Counted (n + 1) (pairs_from s left (n + 1) to))
        → Counted n (on_to one (λ middle a. on_to (number_at s middle Wide) (λ to b. joined a b (pairs_from s left (n + 1) to))))
    by_first (Ok a) rest = by-second (number_at s a.to Wide) a.number rest
    by_first (Err f) rest = (omega arith, omega arith)

    by_word : (t : Bool) → ((to : ℕ) → Counted (n + 1) (pairs_from s left (n + 1) to))
        → Counted n (pick t (ended (step_to at n)) (pair_on s at (pairs_from s left (n + 1))))
    by_word true rest = (omega arith, omega arith)
    by_word false rest = by_first (number_at s at Wide) rest

-- an array has the first of them at its front: all, or as many as it has places
kept : (all to : List ℕ) (count n : ℕ) → count ≤ length all → n ≡ min count (length to)
    → take n (stored all to) ≡ take (length to) (take count all)
kept all to count n h e = ⊎_elim (λ some. few some) (λ many. cut many) (side count (length to))
  where
    few : count < length to → take n (stored all to) ≡ take (length to) (take count all)
    few some =
        let here : n ≡ count = omega arith in
        ap (λ (k : ℕ). take k (stored all to)) here
        ∙ stored-take all to count (omega arith) h
        ∙ sym (take_all (length to) (take count all) (omega (arith, length-take-le count all h)))

    cut : length to ≤ count → take n (stored all to) ≡ take (length to) (take count all)
    cut many =
        let here : n ≡ length to = omega arith in
        ap (λ (k : ℕ). take k (stored all to)) here
        ∙ stored-take all to (length to) (omega arith) (omega arith)
        ∙ sym (take-take (length to) count all many)

-- two arrays of 1,025 places hold so many pairs of a line at their fronts: all of them, or the first 1,025
pub record Kept (s firsts seconds : List ℕ) (n : ℕ) : Type 0 where
  pub few : n ≤ 1025
  pub room : length firsts ≡ 1025
  pub other-room : length seconds ≡ 1025
  pub fronts : take n firsts ≡ take 1025 (firsts_in s)
  pub backs : take n seconds ≡ take 1025 (seconds_in s)

module _ (s firsts seconds : List ℕ) (n : ℕ) (room : length firsts ≡ 1025) (other-room : length seconds ≡ 1025) where
  counted : Counted 0 (pairs_in s)
  counted = pairs-counted s (length s) 0 (next_word s 0).end

  pub pairs-kept : n ≡ min (count_of (pairs_in s).step) 1025
      → Kept s (stored (pairs_in s).firsts firsts) (stored (pairs_in s).seconds seconds) n
  unfolding Counted
  pairs-kept e =
      let count = count_of (pairs_in s).step in
      record {
        few = omega arith;
        room = stored-length (pairs_in s).firsts firsts 0 ∙ room;
        other-room = stored-length (pairs_in s).seconds seconds 0 ∙ other-room;
        fronts =
            kept (pairs_in s).firsts firsts count n (omega (arith, counted.0)) (e ∙ ap (min count) (sym room))
            ∙ ap (λ (k : ℕ). take k (firsts_in s)) room;
        backs =
            kept (pairs_in s).seconds seconds count n (omega (arith, counted.1)) (e ∙ ap (min count) (sym other-room))
            ∙ ap (λ (k : ℕ). take k (seconds_in s)) other-room;
      }

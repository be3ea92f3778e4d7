-- What the figures are, said of each frame and each quiet stretch of every list of frames: by its place, from 0. Assumes nothing.
use Rattle.std.proofs.Math.Path.{◌≡◌, ap}
use Rattle.std.specs.Prelude.{refl, ◌⊎◌, Bool, true, false, List, [], ◌∷◌, map, ℕ, zero, suc, ◌+◌, ◌-◌, ◌*◌, ◌^◌, ◌<◌, ◌≤◌, ltb, eqb}
use Rattle.std.specs.Prelude.{Some, None, Ok, length}
use Rattle.std.proofs.Common.{sym, subst, ◌∙◌, inl, inr, true≢false, div-add-mod', mod-lt, arith, ltb-true, ltb-false, eqb-true, ne_eqb}
use Rattle.std.proofs.lemmas.Bool.{eqb-false}
use Rattle.std.proofs.Math.ListN.{get_or, get_or-map}
use Rattle.figures.specs.declared.report.Figures.{Figures}
use Rattle.figures.specs.Lists.{choose, total, least, greatest, first_place}
use Rattle.figures.specs.Figures.{Frame, frame, frames_of, lasts, quiets_after, quiets, longest_place, mean_of, remainder_of, reported}
use Rattle.figures.specs.Figures.{ordered, LineFigures, figures_of}
use Rattle.figures.proofs.Exactly.{Result, result}

-- ---- frames by their places

-- what a list of frames has where it has none
abbrev pub none : Frame
none = frame 0 0

-- as many frames as starts, each with the start and the end of its place
pub frames-length : (starts ends : List ℕ) → length starts ≡ length ends → length (frames_of starts ends) ≡ length starts
unfolding frames_of
frames-length [] ends l = refl
frames-length (s ∷ starts) [] l = absurd (omega arith)
frames-length (s ∷ starts) (e ∷ ends) l = ap suc (frames-length starts ends (omega arith))

pub frames-at : (starts ends : List ℕ) → length starts ≡ length ends → (i : ℕ)
    → get_or (frames_of starts ends) i none ≡ frame (get_or starts i 0) (get_or ends i 0)
unfolding frames_of
frames-at [] [] l i = refl
frames-at [] (e ∷ ends) l i = absurd (omega arith)
frames-at (s ∷ starts) [] l i = absurd (omega arith)
frames-at (s ∷ starts) (e ∷ ends) l zero = refl
frames-at (s ∷ starts) (e ∷ ends) l (suc i) = frames-at starts ends (omega arith) i

pub lasts-at : (fs : List Frame) (i : ℕ) → get_or (map lasts fs) i 0 ≡ lasts (get_or fs i none)
lasts-at fs i = get_or-map lasts fs i none

-- ---- the least and the greatest

-- a number is one of them
pub record Among (n : ℕ) (xs : List ℕ) : Type 0 where
  pub place : ℕ
  pub inside : place < length xs
  pub there : get_or xs place 0 ≡ n

pub least-bounds : (xs : List ℕ) (i : ℕ) → i < length xs → least xs ≤ get_or xs i 0
unfolding least
least-bounds [] i h = absurd (omega arith)
least-bounds (x ∷ []) zero h = omega arith
least-bounds (x ∷ []) (suc i) h = absurd (omega arith)
least-bounds (x ∷ y ∷ ys) zero h = omega arith
least-bounds (x ∷ y ∷ ys) (suc i) h = omega (arith, least-bounds (y ∷ ys) i (omega arith))

pub greatest-bounds : (xs : List ℕ) (i : ℕ) → i < length xs → get_or xs i 0 ≤ greatest xs
unfolding greatest
greatest-bounds [] i h = absurd (omega arith)
greatest-bounds (x ∷ xs) zero h = omega arith
greatest-bounds (x ∷ xs) (suc i) h = omega (arith, greatest-bounds xs i (omega arith))

-- one of the numbers is chosen of each list: the first, or the one that is chosen of the others
module _ (best : List ℕ → ℕ) (one : (x : ℕ) → best (x ∷ []) ≡ x)
    (more : (x y : ℕ) (ys : List ℕ) → (best (x ∷ y ∷ ys) ≡ x) ⊎ (best (x ∷ y ∷ ys) ≡ best (y ∷ ys))) where
  best-is : (xs : List ℕ) → 0 < length xs → Among (best xs) xs
  best-is [] h = absurd (omega arith)
  best-is (x ∷ []) h = record { place = 0; inside = h; there = sym (one x) }
  best-is (x ∷ y ∷ ys) h = by_cases (more x y ys) (best-is (y ∷ ys) (omega arith))
    where
      by_cases : (best (x ∷ y ∷ ys) ≡ x) ⊎ (best (x ∷ y ∷ ys) ≡ best (y ∷ ys)) → Among (best (y ∷ ys)) (y ∷ ys)
          → Among (best (x ∷ y ∷ ys)) (x ∷ y ∷ ys)
      by_cases (inl e) a = record { place = 0; inside = h; there = sym e }
      by_cases (inr e) a = record { place = suc a.place; inside = omega (arith, a.inside); there = a.there ∙ sym e }

either : {A B : Type 0} (a b : ℕ) → (a ≤ b → A) → (b ≤ a → B) → A ⊎ B
either {A} {B} a b f g = by-test (ltb b a) refl
  where
    by-test : (t : Bool) → ltb b a ≡ t → A ⊎ B
    by-test true e = let h = ltb-true b a e in inr (g (omega arith))
    by-test false e = inl (f (ltb-false b a e))

pub least-is : (xs : List ℕ) → 0 < length xs → Among (least xs) xs
unfolding least
least-is = best-is least (λ x. refl) (λ x y ys. either x (least (y ∷ ys)) (λ h. omega arith) (λ h. omega arith))

pub greatest-is : (xs : List ℕ) → 0 < length xs → Among (greatest xs) xs
unfolding greatest
greatest-is =
    best-is greatest (λ x. omega arith) (λ x y ys. either (greatest (y ∷ ys)) x (λ h. omega arith) (λ h. omega arith))

-- ---- the quiet stretches

-- a stretch lies between two frames
pub quiets-length : (fs : List Frame) → length (quiets fs) ≡ length fs - 1
unfolding quiets quiets_after
quiets-length [] = omega arith
quiets-length (f ∷ fs) = after f.end fs ∙ omega arith
  where
    after : (end : ℕ) (gs : List Frame) → length (quiets_after end gs) ≡ length gs
    after end [] = refl
    after end (g ∷ gs) = ap suc (after g.end gs)

-- from the end of the one to the start of the next
pub quiets-at : (fs : List Frame) (i : ℕ) → suc i < length fs → get_or (quiets fs) i 0 ≡ (get_or fs (suc i) none).start
    - (get_or fs i none).end
unfolding quiets quiets_after
quiets-at [] i h = absurd (omega arith)
quiets-at (f ∷ []) i h = absurd (omega arith)
quiets-at (f ∷ g ∷ fs) zero h = refl
quiets-at (f ∷ g ∷ fs) (suc i) h = quiets-at (g ∷ fs) i (omega arith)

-- a number stands at this place, and at none before it
record First (n : ℕ) (xs : List ℕ) (p : ℕ) : Type 0 where
  inside : p < length xs
  there : get_or xs p 0 ≡ n
  before : (i : ℕ) → i < p → ¬ (get_or xs i 0 ≡ n)

first-at : (n : ℕ) (xs : List ℕ) → Among n xs → First n xs (first_place n xs)
unfolding first_place choose
first-at n [] a = absurd (omega (arith, a.inside))
first-at n (x ∷ xs) a = by-test (eqb x n) refl (first-at n xs)
  where
    left : ¬ (x ≡ n) → (p : ℕ) → p < suc (length xs) → get_or (x ∷ xs) p 0 ≡ n → Among n xs
    left other zero h there = absurd (other there)
    left other (suc p) h there = record { place = p; inside = omega arith; there = there }

    later : ¬ (x ≡ n) → First n xs (first_place n xs) → (i : ℕ) → i < suc (first_place n xs) → ¬ (get_or (x ∷ xs) i 0 ≡ n)
    later other r zero h = other
    later other r (suc i) h = r.before i (omega arith)

    by-test : (t : Bool) → eqb x n ≡ t → (Among n xs → First n xs (first_place n xs))
        → First n (x ∷ xs) (choose t 0 (suc (first_place n xs)))
    by-test true e rest = record { inside = omega arith; there = eqb-true x n e; before = λ i h. absurd (omega arith) }
    by-test false e rest =
        let other = eqb-false x n e in
        let r = rest (left other a.place a.inside a.there) in
        record { inside = omega (arith, r.inside); there = r.there; before = later other r }

-- the place of the longest stretch: none is longer, and each before it is shorter
pub record Longest (qs : List ℕ) (quiet p : ℕ) : Type 0 where
  pub inside : p < length qs
  pub there : get_or qs p 0 ≡ quiet
  pub bounds : (i : ℕ) → i < length qs → get_or qs i 0 ≤ quiet
  pub first : (i : ℕ) → i < p → get_or qs i 0 < quiet

longest-first : (qs : List ℕ) → 0 < length qs → Longest qs (greatest qs) (first_place (greatest qs) qs)
longest-first qs h =
    let r = first-at (greatest qs) qs (greatest-is qs h) in
    record {
      inside = r.inside;
      there = r.there;
      bounds = greatest-bounds qs;
      first = λ i k. omega (arith, greatest-bounds qs i (omega (arith, r.inside)), r.before i k);
    }

longest-at : (qs : List ℕ) (p : ℕ) → longest_place qs ≡ Some p → Longest qs (greatest qs) p
unfolding longest_place
longest-at [] p e = let z : ◌≡◌ {A = ℕ} 0 1 = cc in absurd (omega arith)
longest-at (q ∷ qs) p e = subst (Longest (q ∷ qs) (greatest (q ∷ qs))) (cc) (longest-first (q ∷ qs) (omega arith))

pub quiet-longest : (fs : List Frame) (p : ℕ) → (reported fs).at ≡ Some p → Longest (quiets fs) (reported fs).quiet p
unfolding reported
quiet-longest fs p e = longest-at (quiets fs) p e

-- with fewer than two frames there is none
pub quiet_none : (fs : List Frame) → length fs < 2 → ((reported fs).quiet ≡ 0) × ((reported fs).at ≡ None)
unfolding reported quiets quiets_after longest_place greatest
quiet_none [] h = (refl, refl)
quiet_none (f ∷ []) h = (refl, refl)
quiet_none (f ∷ g ∷ fs) h = absurd (omega arith)

-- with two or more there is one
pub quiet-some : (fs : List Frame) → 2 ≤ length fs → (p : ℕ) × ((reported fs).at ≡ Some p)
unfolding reported quiets quiets_after longest_place
quiet-some [] h = absurd (omega arith)
quiet-some (f ∷ []) h = absurd (omega arith)
quiet-some (f ∷ g ∷ fs) h = (_, refl)

-- ---- the mean

pub mean-whole : (fs : List Frame) → ((reported fs).mean * length fs + (reported fs).remainder ≡ (reported fs).busy)
    × (0 < length fs → (reported fs).remainder < length fs)
unfolding reported total mean_of remainder_of choose
mean-whole [] = (refl, λ h. absurd (omega arith))
mean-whole (f ∷ fs) =
    let busy = total (map lasts (f ∷ fs)) in
    rw (ne_eqb (length (f ∷ fs)) 0 (omega arith)) (div-add-mod' busy (length (f ∷ fs)), mod-lt busy)

-- ---- the total

-- frames after one that ended at `free` last no longer, in all, than from there to where the last of them ends
total-ends : (free : ℕ) (starts ends : List ℕ) → length starts ≡ length ends → ordered free (frames_of starts ends) ≡ true
    → free + total (map lasts (frames_of starts ends)) ≤ get_or (free ∷ ends) (length ends) 0
unfolding ordered frames_of total choose
total-ends free [] [] l o = omega arith
total-ends free [] (e ∷ ends) l o = absurd (omega arith)
total-ends free (s ∷ starts) [] l o = absurd (omega arith)
total-ends free (s ∷ starts) (e ∷ ends) l o = by_tests (ltb s free) (ltb e s) refl refl o (total-ends e starts ends (omega arith))
  where
    by_tests : (t u : Bool) → ltb s free ≡ t → ltb e s ≡ u → choose t false (choose u false (ordered e (frames_of starts ends))) ≡ true
        → (ordered e (frames_of starts ends) ≡ true → e + total (map lasts (frames_of starts ends)) ≤ get_or (e ∷ ends) (length ends) 0)
        → free + (e - s + total (map lasts (frames_of starts ends))) ≤ get_or (e ∷ ends) (length ends) 0
    by_tests true u a b o rest = absurd (true≢false (sym o))
    by_tests false true a b o rest = absurd (true≢false (sym o))
    by_tests false false a b o rest = omega (arith, ltb-false s free a, ltb-false e s b, rest o)

last_end : (ends : List ℕ) → get_or (0 ∷ ends) (length ends) 0 ≡ get_or ends (length ends - 1) 0
last_end [] = refl
last_end (e ∷ ends) =
    let before : length ends ≡ length (e ∷ ends) - 1 = omega arith in
    ap (λ (k : ℕ). get_or (e ∷ ends) k 0) before

module _ (starts ends : List ℕ) (f : Figures) (answer : figures_of starts ends ≡ Ok f) where
  -- the line is busy no longer than from 0 to where the last frame ends
  pub busy-ends : f.busy ≤ get_or ends (length ends - 1) 0
  unfolding reported
  busy-ends = go (result starts ends) answer
    where
      go : {r : LineFigures} → Result starts ends r → r ≡ Ok f → f.busy ≤ get_or ends (length ends - 1) 0
      go (Result.refusal x) e = let z : ◌≡◌ {A = ℕ} 0 1 = cc in absurd (omega arith)
      go (Result.done l few o) e =
          let same : f ≡ reported (frames_of starts ends) = cc in
          omega (arith, ap (λ (g : Figures). g.busy) same, total-ends 0 starts ends l o, last_end ends)

  -- the total fits 64 bits where the ends do
  pub busy-fits : ((i : ℕ) → i < length ends → get_or ends i 0 < 2 ^ 64) → f.busy < 2 ^ 64
  busy-fits h = by_length ends h busy-ends
    where
      by_length : (es : List ℕ) → ((i : ℕ) → i < length es → get_or es i 0 < 2 ^ 64) → f.busy ≤ get_or es (length es - 1) 0 → f.busy
          < 2 ^ 64
      by_length [] h le = omega arith
      by_length (e ∷ es) h le = omega (arith, h (length (e ∷ es) - 1) (omega arith))

-- ---- no frame

pub no_frames : reported []
    ≡ record { busy = 0; shortest = 0; longest = 0; quiet = 0; at = None; mean = 0; remainder = 0 }
unfolding reported total least greatest quiets longest_place mean_of remainder_of choose
no_frames = refl

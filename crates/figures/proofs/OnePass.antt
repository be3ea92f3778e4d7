-- That one pass over the frames gives the figures. Assumes nothing.
use Rattle.std.specs.Prelude.{◌≡◌, Bool, Some, Ok, ltb, eqb, get_or}
use Rattle.std.proofs.Math.Path.{refl, ap, sym}
use Rattle.std.proofs.Common.{ap₂, subst, ◌∙◌, add-one}
use Rattle.std.proofs.Math.Bool.{true, false}
use mathlib.Core.List.{List, [], ◌∷◌, map}
use Prim.Native.Nat.{ℕ, suc, ◌+◌, ◌-◌, ◌<◌, ◌≤◌, min, max}
use native.Mathlib.Omega.{arith}
use borrow.Author.Tests.{ltb-true, ltb-false, lt-ltb, le-ltb, eq-eqb, ne_eqb}
use Rattle.std.proofs.Math.ListN.{length, drop, drop_of_length-le}
use Rattle.std.proofs.Math.Seq.{drop-cons}
use Rattle.figures.specs.declared.pass.SoFar.{SoFar}
use Rattle.figures.specs.Lists.{choose, total, least, greatest, first_place}
use Rattle.figures.specs.Figures.{Frame, frame, frames_of, lasts, quiets_after, quiets, longest_place, mean_of, remainder_of, reported}
use Rattle.figures.specs.Figures.{limit, ordered, fit, refused, figures_of}
use Rattle.figures.specs.Pass.{begun, shorter_of, gap_to, next_place, next, place_in, finished, Follows, passed}

-- ---- the pass gives the figures

least-pair : (x y : ℕ) (ys : List ℕ) → least (min x y ∷ ys) ≡ least (x ∷ y ∷ ys)
unfolding least
least-pair x y [] = refl
least-pair x y (z ∷ zs) = omega arith

-- after a first frame, so many are passed; `n` is the place of the last of them
module _ (s : SoFar) (n : ℕ) (e : s.frames ≡ suc n) where
  pub later-gap : (start : ℕ) → gap_to s.frames s.end start ≡ start - s.end
  unfolding gap_to choose
  later-gap start = rw (ne_eqb s.frames 0 (omega arith))

  pub later-place : (gap : ℕ) → next_place s.frames s.quiet s.place gap ≡ choose (ltb s.quiet gap) n s.place
  unfolding next_place choose
  later-place gap = rw (ne_eqb s.frames 0 (omega arith)) (ap (λ (k : ℕ). choose (ltb s.quiet gap) k s.place) (omega arith))

  pub later-shortest : (k : ℕ) → shorter_of s.frames s.shortest k ≡ min s.shortest k
  unfolding shorter_of choose
  later-shortest k = rw (ne_eqb s.frames 0 (omega arith))

passed-frames : (s : SoFar) (fs : List Frame) → (passed s fs).frames ≡ s.frames + length fs
unfolding passed
passed-frames s [] = omega arith
passed-frames s (f ∷ fs) = passed-frames (next s f) fs ∙ omega arith

passed-busy : (s : SoFar) (fs : List Frame) → (passed s fs).busy ≡ s.busy + total (map lasts fs)
unfolding passed total
passed-busy s [] = omega arith
passed-busy s (f ∷ fs) = passed-busy (next s f) fs ∙ omega arith

passed-longest : (s : SoFar) (fs : List Frame) → (passed s fs).longest ≡ max s.longest (greatest (map lasts fs))
unfolding passed greatest
passed-longest s [] = omega arith
passed-longest s (f ∷ fs) = passed-longest (next s f) fs ∙ omega arith

passed-shortest : (s : SoFar) (n : ℕ) → s.frames ≡ suc n → (fs : List Frame) → (passed s fs).shortest ≡ least (s.shortest ∷ map lasts fs)
unfolding passed least
passed-shortest s n e [] = refl
passed-shortest s n e (f ∷ fs) =
    passed-shortest (next s f) (suc n) (omega arith) fs
    ∙ ap (λ (k : ℕ). least (k ∷ map lasts fs)) (later-shortest s n e (lasts f))
    ∙ least-pair s.shortest (lasts f) (map lasts fs)

passed-quiet : (s : SoFar) (n : ℕ) → s.frames ≡ suc n → (fs : List Frame)
    → (passed s fs).quiet ≡ max s.quiet (greatest (quiets_after s.end fs))
unfolding passed greatest quiets_after
passed-quiet s n e [] = omega arith
passed-quiet s n e (f ∷ fs) =
    passed-quiet (next s f) (suc n) (omega arith) fs
    ∙ omega (arith, later-gap s n e f.start)

-- the place moves only to a longer stretch, and so to the first of the longest
moved : ℕ → ℕ → ℕ → List ℕ → ℕ
moved quiet n place qs = choose (ltb quiet (greatest qs)) (n + first_place (greatest qs) qs) place

module _ (q n place g G : ℕ) (P : ℕ → ℕ) where
  step-place : choose (ltb (max q g) G) (suc n + P G) (choose (ltb q g) n place)
      ≡ choose (ltb q (max g G)) (n + choose (eqb g (max g G)) 0 (suc (P (max g G)))) place
  unfolding choose
  step-place = by_tests (ltb q g) (ltb (max q g) G) refl refl
    where
      longer : q < G → g < G → suc n + P G ≡ choose (ltb q (max g G)) (n + choose (eqb g (max g G)) 0 (suc (P (max g G)))) place
      longer h k =
          let m : max g G ≡ G = omega arith in
          rw (m, lt-ltb q G h, ne_eqb g G (omega arith)) (omega arith)

      by_tests : (t u : Bool) → ltb q g ≡ t → ltb (max q g) G ≡ u
          → choose (ltb (max q g) G) (suc n + P G) (choose (ltb q g) n place)
          ≡ choose (ltb q (max g G)) (n + choose (eqb g (max g G)) 0 (suc (P (max g G)))) place
      by_tests t true a b =
          let h = ltb-true (max q g) G b in
          rw b (longer (omega arith) (omega arith))
      by_tests true false a b =
          let h = ltb-true q g a in
          let k = ltb-false (max q g) G b in
          let m : max g G ≡ g = omega arith in
          rw (b, a, m, lt-ltb q g h, eq-eqb g g refl) (omega arith)
      by_tests false false a b =
          let h = ltb-false q g a in
          let k = ltb-false (max q g) G b in
          rw (b, a, le-ltb q (max g G) (omega arith))

passed-place : (s : SoFar) (n : ℕ) → s.frames ≡ suc n → (fs : List Frame)
    → (passed s fs).place ≡ moved s.quiet n s.place (quiets_after s.end fs)
unfolding passed greatest quiets_after first_place moved choose
passed-place s n e [] = rw (le-ltb s.quiet 0 (omega arith))
passed-place s n e (f ∷ fs) =
    let qs = quiets_after f.end fs in
    let g = f.start - s.end in
    passed-place (next s f) (suc n) (omega arith) fs
    ∙ ap₂ (λ (x p : ℕ). moved (max s.quiet x) (suc n) p qs) (later-gap s n e f.start)
    (ap (next_place s.frames s.quiet s.place) (later-gap s n e f.start) ∙ later-place s n e g)
    ∙ step-place s.quiet n s.place g (greatest qs) (λ (k : ℕ). first_place k qs)

-- all frames of a list: what the first leaves, and then the others
module _ (f : Frame) (fs : List Frame) where
  first-quiet : gap_to 0 0 f.start ≡ 0
  unfolding gap_to choose
  first-quiet = refl

  pub whole-quiet : (passed begun (f ∷ fs)).quiet ≡ greatest (quiets (f ∷ fs))
  unfolding passed quiets
  whole-quiet = passed-quiet (next begun f) 0 refl fs ∙ omega (arith, first-quiet)

  pub whole-shortest : (passed begun (f ∷ fs)).shortest ≡ least (map lasts (f ∷ fs))
  unfolding passed shorter_of choose
  whole-shortest = passed-shortest (next begun f) 0 refl fs

-- the longest stretch of all stands first where it is 0, and else where the place moved to
none-moved : (qs : List ℕ) → moved 0 0 0 qs ≡ first_place (greatest qs) qs
unfolding moved greatest first_place choose
none-moved [] = refl
none-moved (q ∷ qs) = by-test (ltb 0 (max q (greatest qs))) refl
  where
    by-test : (t : Bool) → ltb 0 (max q (greatest qs)) ≡ t
        → choose t (0 + first_place (greatest (q ∷ qs)) (q ∷ qs)) 0 ≡ first_place (greatest (q ∷ qs)) (q ∷ qs)
    by-test true e = omega arith
    by-test false e =
        let h = ltb-false 0 (max q (greatest qs)) e in
        rw (eq-eqb q (max q (greatest qs)) (omega arith))

-- with one frame no stretch has a place, with two or more the first of the longest
whole-place : (f : Frame) (fs : List Frame)
    → place_in (passed begun (f ∷ fs)).frames (passed begun (f ∷ fs)).place ≡ longest_place (quiets (f ∷ fs))
unfolding passed quiets quiets_after longest_place place_in gap_to next_place choose
whole-place f [] = refl
whole-place f (g ∷ fs) =
    let all = passed-frames (next begun f) (g ∷ fs) in
    let place = passed-place (next begun f) 0 refl (g ∷ fs) ∙ none-moved (quiets_after f.end (g ∷ fs)) in
    rw (le-ltb (passed begun (f ∷ g ∷ fs)).frames 2 (omega (arith, all))) (ap Some place)

-- the report of a pass, field by field
by-fields : (s : SoFar) (fs : List Frame) → s.busy ≡ total (map lasts fs) → s.shortest ≡ least (map lasts fs)
    → s.longest ≡ greatest (map lasts fs) → s.quiet ≡ greatest (quiets fs) → place_in s.frames s.place ≡ longest_place (quiets fs)
    → s.frames ≡ length fs → finished s ≡ reported fs
unfolding reported
by-fields s fs busy shortest longest quiet place frames = cc

none-reports : finished (passed begun []) ≡ reported []
unfolding passed reported longest_place quiets place_in total least greatest mean_of remainder_of choose
none-reports = refl

pub pass-reports : (fs : List Frame) → finished (passed begun fs) ≡ reported fs
pass-reports [] = none-reports
pass-reports (f ∷ fs) =
    by-fields (passed begun (f ∷ fs)) (f ∷ fs) (omega (arith, passed-busy begun (f ∷ fs))) (whole-shortest f fs)
    (omega (arith, passed-longest begun (f ∷ fs))) (whole-quiet f fs) (whole-place f fs) (omega (arith, passed-frames begun (f ∷ fs)))

-- ---- the loop

-- so many frames are passed, in order, and what is left gives the figures of all
pub record Part (starts ends : List ℕ) (s : SoFar) (i : ℕ) : Type 0 where
  pub count : s.frames ≡ i
  pub sum : s.busy ≤ s.end
  pub figures : finished (passed s (frames_of (drop i starts) (drop i ends))) ≡ reported (frames_of starts ends)
  pub order : ordered s.end (frames_of (drop i starts) (drop i ends)) ≡ ordered 0 (frames_of starts ends)

pub part_same : {starts ends : List ℕ} {s t : SoFar} {i : ℕ} → s ≡ t → Part starts ends t i → Part starts ends s i
part_same {starts} {ends} {s} {t} {i} e p = subst (λ (u : SoFar). Part starts ends u i) (sym e) p

module _ (starts ends : List ℕ) where
  pub part-begins : Part starts ends begun 0
  part-begins = record { count = refl; sum = omega arith; figures = pass-reports (frames_of starts ends); order = refl }

  pub other-lengths : (length starts ≡ length ends → ⊥) → refused ≡ figures_of starts ends
  unfolding figures_of fit choose
  other-lengths h = rw (ne_eqb (length starts) (length ends) h)

  module _ (same : length starts ≡ length ends) where
    pub too_many : limit < length starts → refused ≡ figures_of starts ends
    unfolding figures_of fit choose
    too_many h = rw (eq-eqb (length starts) (length ends) same, lt-ltb limit (length starts) h)

    module _ (few : length starts ≤ limit) where
      by_order : (t : Bool) → ordered 0 (frames_of starts ends) ≡ t
          → choose t (Ok (reported (frames_of starts ends))) refused ≡ figures_of starts ends
      unfolding figures_of fit choose
      by_order t e = rw (eq-eqb (length starts) (length ends) same, le-ltb limit (length starts) few, e)

      module _ (s : SoFar) (i : ℕ) (p : Part starts ends s i) where
        pub part-ends : length starts ≤ i → Ok (finished s) ≡ figures_of starts ends
        unfolding frames_of passed ordered choose
        part-ends h =
            let none : drop i starts ≡ [] = drop_of_length-le starts h in
            let left : frames_of (drop i starts) (drop i ends) ≡ [] = ap (λ (l : List ℕ). frames_of l (drop i ends)) none in
            let all : finished s ≡ reported (frames_of starts ends) = rw left at p.figures in
            let right : true ≡ ordered 0 (frames_of starts ends) = rw left at p.order in
            ap Ok all ∙ by_order true (sym right)

        module _ (here : i < length starts) where
          frames-on : frames_of (drop i starts) (drop i ends)
              ≡ frame (get_or starts i 0) (get_or ends i 0) ∷ frames_of (drop (i + 1) starts) (drop (i + 1) ends)
          unfolding frames_of
          frames-on =
              let there : i < length ends = omega arith in
              rw (add-one, drop-cons starts i 0, drop-cons ends i 0)

          pub starts-early : get_or starts i 0 < s.end → refused ≡ figures_of starts ends
          unfolding ordered choose
          starts-early h =
              let early : ordered s.end (frames_of (drop i starts) (drop i ends)) ≡ false
              = rw (frames-on, lt-ltb (get_or starts i 0) s.end h) in
              by_order false (sym p.order ∙ early)

          module _ (after : s.end ≤ get_or starts i 0) where
            pub ends-early : get_or ends i 0 < get_or starts i 0 → refused ≡ figures_of starts ends
            unfolding ordered choose
            ends-early h =
                let early : ordered s.end (frames_of (drop i starts) (drop i ends)) ≡ false
                = rw (frames-on, le-ltb (get_or starts i 0) s.end after, lt-ltb (get_or ends i 0) (get_or starts i 0) h) in
                by_order false (sym p.order ∙ early)

            module _ (whole : get_or starts i 0 ≤ get_or ends i 0) where
              pub follows : Follows s (get_or starts i 0) (get_or ends i 0)
              follows = record { few = omega (arith, p.count); sum = p.sum; after = after; whole = whole }

              pub part-on : Part starts ends (next s (frame (get_or starts i 0) (get_or ends i 0))) (i + 1)
              unfolding passed ordered choose
              part-on =
                  let order
                  : ordered s.end (frames_of (drop i starts) (drop i ends))
                  ≡ ordered (get_or ends i 0) (frames_of (drop (i + 1) starts) (drop (i + 1) ends))
                  = rw (frames-on, le-ltb (get_or starts i 0) s.end after, le-ltb (get_or ends i 0) (get_or starts i 0) whole) in
                  record {
                    count = omega (arith, p.count);
                    sum = omega (arith, p.sum);
                    figures = ap (λ (l : List Frame). finished (passed s l)) (sym frames-on) ∙ p.figures;
                    order = sym order ∙ p.order;
                  }

-- The line of a hand-out as it is made from the lent buffer, and that it is the one of the definition's reply: what was lent after
-- the bytes is as it was. Assumes nothing.
use Rattle.std.specs.Prelude.{◌≡◌, refl, Bool, true, false, ℕ, zero, suc, ◌+◌, ◌-◌, ◌<◌, ◌≤◌, min, take, drop, get_or, set, Ok, Err}
use Rattle.std.proofs.Common.{ap, sym, subst, ◌∙◌, add-zero, add-one, eq-eqb, ne_eqb, length-append, length-drop, drop_of_length-le}
use Rattle.std.proofs.Common.{take_at, drop_at, take-suc-set, drop-cons}
use Rattle.std.proofs.Math.Path.{ap₂}
use Rattle.std.proofs.Math.Option.{Option, none, some}
use mathlib.Core.List.{List, [], ◌∷◌, ◌++◌}
use native.Mathlib.Omega.{arith}
use Rattle.std.proofs.Math.ListN.{length}
use Rattle.text.specs.Ascii.{ascii}
use Rattle.text.specs.Same.{same_bytes, same_refl}
use Rattle.model.specs.State.{Uart}
use Rattle.model.specs.Replies.{Take, contents}
use Rattle.model.specs.Calls.{Outcome, refusing, unless, after_settling, carried, outcome, quiet, filled, not_taken, take_tx}
use Rattle.model.specs.Calls.{take_written}
use Rattle.model.specs.declared.Refusal.{Refusal}
use Rattle.model.specs.declared.Report.{Report}
use Rattle.model.specs.Names.{Taken}
use Rattle.calls.specs.Answers.{dated_call, undated_call}
use Rattle.answers.specs.Reports.{report_text}
use Rattle.answers.specs.Replies.{refusal_text, hand_out_text}
use Rattle.session.specs.Requests.{mark_at, marks_from, handed_text}

-- the marks of a buffer from a place on are as they were
abbrev pub marked : ℕ → List ℕ → Bool
marked from l = same_bytes (drop from l) (marks_from from (length l - from))

-- so many bytes at the front of a buffer, and what ends the line
abbrev pub hand_out_of : List ℕ → List ℕ → ℕ → List ℕ
hand_out_of end l n = hand_out_text (take n l) (marked n l) ++ end

abbrev pub line_of : List ℕ → List ℕ → Taken → List ℕ
line_of end l (Ok count) = hand_out_of end l (min count (length l))
line_of end l (Err q) = refusal_text q

abbrev pub taken_line : Report → List ℕ → Taken → List ℕ
taken_line report l t = line_of (report_text report) l t

abbrev pub written_line : List ℕ → Taken → List ℕ
written_line l t = line_of (ascii "\n") l t

-- ---- laws

pub marks-length : (i n : ℕ) → length (marks_from i n) ≡ n
unfolding marks_from
marks-length i zero = refl
marks-length i (suc n) = ap suc (marks-length (suc i) n)

pub marks-drop : (k i n : ℕ) → drop k (marks_from i n) ≡ marks_from (i + k) (n - k)
unfolding marks_from
marks-drop zero i n =
    let none : n - 0 ≡ n = omega arith in
    ap₂ marks_from (sym (add-zero i)) (sym none)
marks-drop (suc k) i zero =
    let none : 0 - suc k ≡ 0 = omega arith in
    ap (marks_from (i + suc k)) (sym none)
marks-drop (suc k) i (suc n) =
    let on : suc i + k ≡ i + suc k = omega arith in
    let less : n - k ≡ suc n - suc k = omega arith in
    marks-drop k (suc i) n ∙ ap₂ marks_from on less

-- one more at the back, and one at the front
pub marks-snoc : (i n : ℕ) → marks_from i n ++ (mark_at (i + n) ∷ []) ≡ marks_from i (suc n)
unfolding marks_from
marks-snoc i zero = ap (λ (k : ℕ). mark_at k ∷ []) (add-zero i)
marks-snoc i (suc n) =
    let on : i + suc n ≡ suc i + n = omega arith in
    ap (λ (k : ℕ). mark_at i ∷ (marks_from (suc i) n ++ (mark_at k ∷ []))) on ∙ ap (λ (l : List ℕ). mark_at i ∷ l) (marks-snoc (suc i) n)

marks-cons : (i n : ℕ) → i < n → marks_from i (n - i) ≡ mark_at i ∷ marks_from (i + 1) (n - (i + 1))
unfolding marks_from
marks-cons i n h =
    let more : n - i ≡ suc (n - (i + 1)) = omega arith in
    ap (marks_from i) more ∙ ap (λ (k : ℕ). mark_at i ∷ marks_from k (n - (i + 1))) (sym (add-one i))

-- the marks of a buffer up to the i-th, and one more
pub marked-on : (l : List ℕ) (i : ℕ) {m : ℕ} → i < length l → take i l ≡ marks_from 0 i → m ≡ mark_at i
    → take (i + 1) (set l i m) ≡ marks_from 0 (i + 1)
marked-on l i {m} h e q =
    let none : 0 + i ≡ i = omega arith in
    ap (λ (k : ℕ). take k (set l i m)) (add-one i)
    ∙ take-suc-set l i m h
    ∙ ap₂ (λ (f : List ℕ) (b : ℕ). f ++ (b ∷ [])) e (q ∙ ap mark_at (sym none))
    ∙ marks-snoc 0 i
    ∙ ap (marks_from 0) (sym (add-one i))

-- a mark that is as it was, one that is not, and the end
module _ (l : List ℕ) (i : ℕ) where
  same-cons : i < length l → marked i l ≡ same_bytes (get_or l i 0 ∷ drop (i + 1) l) (mark_at i ∷ marks_from (i + 1) (length l - (i + 1)))
  same-cons h = ap₂ same_bytes (drop-cons l i 0 h ∙ ap (λ (k : ℕ). get_or l i 0 ∷ drop k l) (sym (add-one i))) (marks-cons i (length l) h)

  pub marked-same : i < length l → get_or l i 0 ≡ mark_at i → marked i l ≡ marked (i + 1) l
  unfolding same_bytes
  marked-same h e = same-cons h ∙ rw (eq-eqb (get_or l i 0) (mark_at i) e)

  pub marked_other : i < length l → (get_or l i 0 ≡ mark_at i → ⊥) → marked i l ≡ false
  unfolding same_bytes
  marked_other h e = same-cons h ∙ rw (ne_eqb (get_or l i 0) (mark_at i) e)

  pub marked-end : length l ≤ i → marked i l ≡ true
  unfolding same_bytes marks_from
  marked-end h =
      let none : length l - i ≡ 0 = omega arith in
      ap₂ (λ (a : List ℕ) (n : ℕ). same_bytes a (marks_from i n)) (drop_of_length-le l h) none

-- a reply to a call that was lent a buffer
data Handed (lent : List ℕ) : Take ℕ ℕ → Type 0 where
  gave : (w : List ℕ) → Handed lent (filled w lent)
  kept : (q : Refusal) → Handed lent (not_taken lent q)

unless-handed : (lent : List ℕ) (tests : Option Refusal) (work : Uart ℕ ℕ → Outcome (Take ℕ ℕ) ℕ ℕ) (u : Uart ℕ ℕ)
    → Handed lent (work u).reply → Handed lent (unless tests (not_taken lent) work u).reply
unfolding unless refusing
unless-handed lent none work u h = h
unless-handed lent (some q) work u h = kept q

tx-handed : (now : ℕ) (lent : List ℕ) (u : Uart ℕ ℕ) → Handed lent (dated_call now (take_tx now lent) u).reply
unfolding outcome carried take_tx after_settling quiet
tx-handed now lent u = unless-handed lent _ _ u (gave _)

written-handed : (lent : List ℕ) (u : Uart ℕ ℕ) → Handed lent (undated_call (take_written lent) u).reply
unfolding outcome carried take_written quiet
written-handed lent u = unless-handed lent _ _ u (gave _)

-- the bytes stand at the front, and what is after them was not changed
handed-line : (end : List ℕ) (n : ℕ) (t : Take ℕ ℕ) → Handed (marks_from 0 n) t
    → line_of end (contents t) t.taken ≡ handed_text end t.front t.taken
unfolding filled not_taken contents
handed-line end n t (gave w) =
    let lent = marks_from 0 n in
    let after = drop (length w) lent in
    let all = w ++ after in
    let whole : length all ≡ length w + (n - length w) =
    length-append w after ∙ ap (λ (k : ℕ). length w + k) (length-drop (length w) lent ∙ ap (λ (k : ℕ). k - length w) (marks-length 0 n)) in
    let count : min (length w) (length all) ≡ length w = omega arith in
    let none : 0 + length w ≡ length w = omega arith in
    let left : n - length w ≡ length all - length w = omega arith in
    let rest : drop (length w) all ≡ marks_from (length w) (length all - length w) =
    drop_at w after (length w) refl ∙ marks-drop (length w) 0 n ∙ ap₂ marks_from none left in
    let same : marked (length w) all ≡ true =
    ap (λ (l : List ℕ). same_bytes l (marks_from (length w) (length all - length w))) rest
    ∙ same_refl (marks_from (length w) (length all - length w)) in
    ap (hand_out_of end all) count
    ∙ ap₂ (λ (l : List ℕ) (b : Bool). hand_out_text l b ++ end) (take_at w after (length w) refl) same
handed-line end n t (kept q) = refl

module _ (n : ℕ) (u : Uart ℕ ℕ) (end : List ℕ) where
  pub tx-line : (now : ℕ) (lent : List ℕ) → lent ≡ marks_from 0 n
      → let reply : Take ℕ ℕ = (dated_call now (take_tx now lent) u).reply in
      line_of end (contents reply) reply.taken ≡ handed_text end reply.front reply.taken
  tx-line now lent e =
      handed-line end n _ (subst (λ (l : List ℕ). Handed l (dated_call now (take_tx now lent) u).reply) e (tx-handed now lent u))

  pub written-line : (lent : List ℕ) → lent ≡ marks_from 0 n
      → let reply : Take ℕ ℕ = (undated_call (take_written lent) u).reply in
      line_of end (contents reply) reply.taken ≡ handed_text end reply.front reply.taken
  written-line lent e =
      handed-line end n _ (subst (λ (l : List ℕ). Handed l (undated_call (take_written lent) u).reply) e (written-handed lent u))

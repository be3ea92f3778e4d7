-- Demand 3 for lists that may differ also in values that the definition does not use. Assumes nothing.
use Rattle.std.specs.Prelude.{◌≡◌, ℕ, ◌%◌, false, eqb, length, get_or}
use Rattle.std.proofs.Math.Path.{refl, sym, ap, ap₂}
use Rattle.std.proofs.Common.{subst, ◌∙◌, suc-ne-zero, true≢false, ne_eqb}
use Rattle.std.proofs.Math.Bool.{decide}
use mathlib.Core.List.{List, [], ◌∷◌, ◌++◌, map, flat_map}
use Rattle.model.proofs.Laws.Choose.{choose-false}
use Rattle.model.specs.State.{Uart}
use Rattle.model.specs.Map.{is_fifo, register_of}
use Rattle.model.specs.SetUp.{map_of, new}
use Rattle.model.specs.Call.{Dated, Call, given, Asked, Ask}
use Rattle.model.specs.Run.{asked_by, run_by, asked, run}
use Rattle.model.proofs.Refuses.FifoPlace.{first-is-fifo}
use Rattle.theorems.specs.TwoRuns.Alike.{Each, Alike, AskedAlike, fifo_offset, given_by, host_given, fifo_given}
use Rattle.theorems.specs.TwoRuns.Renamed.{itself, map_answer, with_bytes_of}
use Rattle.theorems.specs.TwoRuns.InUse.{AlikeInUse}
use Rattle.theorems.specs.TwoRuns.Agree.{Agreeing}
use Rattle.theorems.specs.TwoRuns.Numbered.{without_rest}
use Rattle.model.proofs.Keeps.MapKept.{asked-kept}
use Rattle.theorems.proofs.TwoRuns.Theorem.{OneList, one_list, lists_agree}
use Rattle.model.specs.Unused.{takes_word, SameInUse}
use Rattle.model.proofs.Unused.{step-unused, new-unused}

-- ---- a list between the two: alike to the first, and in use the same as the second

-- two calls that differ in an unused word at most
data Same (offsets : List ℕ) : Ask → Ask → Type 0 where
  same : {a : Ask} → Same offsets a a
  unused_word : {now offset v v' : ℕ} → is_fifo (register_of offsets offset) ≡ false → takes_word (register_of offsets offset) ≡ false
      → Same offsets (Asked.call (Call.at now (Dated.write (record { offset = offset; value = v }))))
      (Asked.call (Call.at now (Dated.write (record { offset = offset; value = v' }))))

record Between (offsets : List ℕ) (cs ds : List Ask) : Type 0 where
  list : List Ask
  first : Each (AskedAlike (Alike (fifo_offset offsets))) cs list
  second : Each (Same offsets) list ds

between : (offsets : List ℕ) {cs ds : List Ask} → Each (AskedAlike (AlikeInUse offsets)) cs ds → Between offsets cs ds
between offsets Each.nil = record { list = []; first = Each.nil; second = Each.nil }
between offsets (Each.cons (AskedAlike.call (AlikeInUse.alike {d = d} a)) rest) =
    let b : Between offsets _ _ = between offsets rest in
    record { list = Asked.call d ∷ b.list; first = Each.cons (AskedAlike.call a) b.first; second = Each.cons Same.same b.second }
between offsets (Each.cons {a = c} (AskedAlike.call (AlikeInUse.unused_word f e)) rest) =
    let b : Between offsets _ _ = between offsets rest in
    record {
      list = c ∷ b.list;
      first = Each.cons (AskedAlike.call Alike.same) b.first;
      second = Each.cons (Same.unused_word f e) b.second;
    }
between offsets (Each.cons {b = d} (AskedAlike.row e) rest) =
    let b : Between offsets _ _ = between offsets rest in
    record { list = d ∷ b.list; first = Each.cons (AskedAlike.row e) b.first; second = Each.cons Same.same b.second }

-- it gives the same host bytes and the same bytes to FIFO
host-same : (offsets : List ℕ) {es ds : List Ask} → Each (Same offsets) es ds → flat_map host_given es ≡ flat_map host_given ds
unfolding given flat_map given_by
host-same offsets Each.nil = refl
host-same offsets (Each.cons {a = c} Same.same rest) = ap (λ l. host_given c ++ l) (host-same offsets rest)
host-same offsets (Each.cons (Same.unused_word f e) rest) = host-same offsets rest

pub not_first : (fifo : ℕ) (others : List ℕ) (offset : ℕ) → is_fifo (register_of (fifo ∷ others) offset) ≡ false → eqb offset fifo ≡ false
unfolding decide
not_first fifo others offset f =
    ne_eqb offset fifo (λ e. true≢false (sym (ap is_fifo (first-is-fifo fifo others))
    ∙ subst (λ o. is_fifo (register_of (fifo ∷ others) o) ≡ false) e f))

module _ (fifo : ℕ) (others : List ℕ) where
  written_same : {es ds : List Ask} → Each (Same (fifo ∷ others)) es ds → flat_map (fifo_given fifo) es ≡ flat_map (fifo_given fifo) ds
  unfolding given flat_map given_by
  written_same Each.nil = refl
  written_same (Each.cons {a = c} Same.same rest) = ap (λ l. fifo_given fifo c ++ l) (written_same rest)
  written_same (Each.cons (Same.unused_word {offset = o} {v = v} {v' = v'} f e) rest) =
      let none = not_first fifo others o f in
      ap₂ (λ (l m : List ℕ). (l ++ []) ++ m) (choose-false (v % 256 ∷ []) [] none ∙ sym (choose-false (v' % 256 ∷ []) [] none))
      (written_same rest)

-- and what is asked in it does what that of the second list does
run-same : (offsets : List ℕ) {es ds : List Ask} → Each (Same offsets) es ds → (u : Uart ℕ ℕ) → u.map.offsets ≡ offsets
    → run es u ≡ run ds u
unfolding run_by asked_by
run-same offsets Each.nil u k = refl
run-same offsets (Each.cons {a = c} Same.same rest) u k =
    ap (λ l. (asked c u).answer ∷ l) (run-same offsets rest (asked c u).state (ap (λ m. m.offsets) (asked-kept c u) ∙ k))
run-same offsets (Each.cons {a = c} {b = d} {m = ds} (Same.unused_word {now = now} {offset = o} {v = v} {v' = w} f e) rest) u k =
    let one : asked c u ≡ asked d u =
    step-unused now o v w u (subst (λ os. is_fifo (register_of os o) ≡ false) (sym k) f)
    (subst (λ os. takes_word (register_of os o) ≡ false) (sym k) e) in
    ap₂ (λ s r. s.answer ∷ r) one (run-same offsets rest (asked c u).state (ap (λ m. m.offsets) (asked-kept c u) ∙ k)
    ∙ ap (λ s. run ds s.state) one)

-- ---- the theorem

-- for every register map of sixteen offsets; the reset words may differ in what set-up does not use
pub one-list-in-use : (offsets ws : List ℕ) → length offsets ≡ 16 → (cs ds : List Ask)
    → Each (AskedAlike (AlikeInUse offsets)) cs ds
    → OneList offsets ws cs ds
unfolding with_bytes_of new map_of
one-list-in-use [] ws e cs ds a = absurd (suc-ne-zero _ (sym e))
one-list-in-use (fifo ∷ others) ws e cs ds a =
    let b : Between (fifo ∷ others) cs ds = between (fifo ∷ others) a in
    let o : OneList (fifo ∷ others) ws cs b.list = one_list (fifo ∷ others) ws e cs b.list b.first in
    record {
      answers = o.answers;
      first = o.first;
      second =
          ap (map without_rest) (sym (run-same (fifo ∷ others) b.second (new (fifo ∷ others) ws) refl))
          ∙ o.second
          ∙ ap₂ (λ (l m : List ℕ). map (map_answer (λ n. get_or l n 0) (λ n. get_or m n 0) itself) o.answers)
          (host-same (fifo ∷ others) b.second) (written_same fifo others b.second);
      below = o.below;
      shape = o.shape;
    }

pub runs-agree-in-use : (offsets ws ws' : List ℕ) → length offsets ≡ 16 → SameInUse ws ws' → (cs ds : List Ask)
    → Each (AskedAlike (AlikeInUse offsets)) cs ds
    → Agreeing (fifo_offset offsets) cs ds 0 0 cs (run cs (new offsets ws)) (run ds (new offsets ws'))
runs-agree-in-use offsets ws ws' e s cs ds a =
    subst (λ u. Agreeing (fifo_offset offsets) cs ds 0 0 cs (run cs (new offsets ws)) (run ds u))
    (new-unused offsets ws ws' s) (lists_agree offsets ws cs ds (one-list-in-use offsets ws e cs ds a))

-- Filling the struct notice by notice gives the definition's list: one law for a chain of tests, and what follows of it.
-- Assumes nothing.
use Rattle.std.specs.Prelude.{◌≡◌, refl, ℕ, suc, ◌+◌, ◌-◌, ◌<◌, ◌≤◌, Bool, true, false, List, [], ◌∷◌, ◌++◌, map, length, set, replicate}
use Rattle.std.specs.Prelude.{Some, None}
use Rattle.std.proofs.Common.{sym, ap, ap₂, ◌∙◌, arith, append_assoc, append-nil, length-append, lt-ltb}
use Rattle.model.specs.Numbers.{choose}
use Rattle.model.proofs.Laws.Choose.{choose-true}
use Rattle.model.specs.Replies.{notices, notice_places, unused}
use Rattle.model.specs.Registers.{note_if, source_notes}
use Rattle.model.specs.declared.Notice.{Notice}
use Rattle.model.specs.declared.Source.{Source}
use Rattle.model.specs.declared.Unsupported.{Unsupported}
use Rattle.model.specs.declared.Unsupported.TheVariants.{UartEmptyRead, UartReceiveClock}
use Rattle.replies.specs.Notices.{noted, added, added_if}
use Rattle.replies.specs.declared.notices.Notices.{Notices}

notice : Unsupported → Notice
notice n = record { what = n }

-- the next notice goes to the first unused place
next_place : (what : Unsupported) (ns : List Unsupported) (k : ℕ)
    → set (map notice ns ++ replicate (suc k) unused) (length ns) (notice what) ≡ map notice (ns ++ (what ∷ [])) ++ replicate k unused
next_place what [] k = refl
next_place what (n ∷ ns) k = ap {B = List Notice} (λ l. notice n ∷ l) (next_place what ns k)

stored_next : (what : Unsupported) (ns : List Unsupported) → length ns < notice_places
    → set (notices ns) (length ns) (notice what) ≡ notices (ns ++ (what ∷ []))
unfolding notices notice
stored_next what ns h =
    let k : ℕ = notice_places - length (ns ++ (what ∷ [])) in
    let e : notice_places - length ns ≡ suc k = simp length-append (omega arith) in
    ap (λ m. set (map notice ns ++ replicate m unused) (length ns) (notice what)) e ∙ next_place what ns k

-- one more notice than the list has, while it has fewer than eight
pub added-noted : (what : Unsupported) (ns : List Unsupported) → length ns < notice_places
    → added what (noted ns) ≡ noted (ns ++ (what ∷ []))
unfolding added noted notice
added-noted what ns h =
    choose-true _ _ (lt-ltb (length ns) notice_places h)
    ∙ ap₂ {C = Notices} (λ l n. record { list = l; count = n }) (stored_next what ns h) (sym (length-append ns (what ∷ [])))

pub added-if-noted : (t : Bool) (what : Unsupported) (ns : List Unsupported) → length ns < notice_places
    → added_if t what (noted ns) ≡ noted (ns ++ note_if t what [])
unfolding added_if choose note_if
added-if-noted true what ns h = added-noted what ns h
added-if-noted false what ns h = ap noted (sym (append-nil ns))

-- ---- a chain of tests

pub record Mark : Type 0 where
  pub test : Bool
  pub what : Unsupported

unfoldable pub marked : List Mark → List Unsupported
marked [] = []
marked (m ∷ ms) = note_if m.test m.what (marked ms)

unfoldable pub filled : List Mark → Notices → Notices
filled [] n = n
filled (m ∷ ms) n = filled ms (added_if m.test m.what n)

note-length : (t : Bool) (what : Unsupported) → length (note_if t what []) ≤ 1
unfolding note_if
note-length true what = omega arith
note-length false what = omega arith

note-append : (t : Bool) (what : Unsupported) (ns : List Unsupported) → note_if t what [] ++ ns ≡ note_if t what ns
unfolding note_if
note-append true what ns = refl
note-append false what ns = refl

-- the chain read from the front is what filling in order gives
pub filled-noted : (ms : List Mark) (ns : List Unsupported) → length ns + length ms ≤ notice_places
    → filled ms (noted ns) ≡ noted (ns ++ marked ms)
unfolding filled marked
filled-noted [] ns h = ap noted (sym (append-nil ns))
filled-noted (m ∷ ms) ns h =
    let one : List Unsupported = note_if m.test m.what [] in
    let fits : length (ns ++ one) + length ms ≤ notice_places = simp length-append (omega (arith, note-length m.test m.what)) in
    ap (filled ms) (added-if-noted m.test m.what ns (omega arith))
    ∙ filled-noted ms (ns ++ one) fits
    ∙ ap noted (append_assoc ns one (marked ms) ∙ ap (λ l. ns ++ l) (note-append m.test m.what (marked ms)))

-- ---- the notices of registers

source-short : (notice : ℕ → Unsupported) (s : Source) → length (source_notes notice s) < notice_places
unfolding source_notes
source-short notice Source.None = omega arith
source-short notice Source.Sel0 = omega arith
source-short notice Source.Sel2 = omega arith

-- a read of an empty FIFO: what is told of a mistimed reception, then the empty read
pub empty-read-noted : (s : Source) → added UartEmptyRead (noted (source_notes UartReceiveClock s))
    ≡ noted (source_notes UartReceiveClock s ++ (UartEmptyRead ∷ []))
empty-read-noted s = added-noted UartEmptyRead _ (source-short UartReceiveClock s)

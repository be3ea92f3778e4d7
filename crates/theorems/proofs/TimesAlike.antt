-- A blanked run times as the real one, and tells nothing of the pattern. Assumes nothing.
use Rattle.std.specs.Prelude.{◌≡◌, refl, ℕ, zero, suc, ◌/◌, ◌^◌, ◌<◌, Bool, true, false, List, [], ◌∷◌, map, length, get_or}
use Rattle.std.proofs.Common.{sym, ap, ap₂, subst, ◌∙◌, suc-ne-zero, pow-suc, arith}
use Rattle.std.proofs.Math.Nat.{suc_inj}
use Rattle.std.proofs.Math.Bool.{decide}
use Rattle.std.specs.Int.Bits.{bit_and, and_step, and_zero_r}
use Rattle.model.specs.Numbers.{choose}
use Rattle.model.proofs.Laws.Choose.{choose-false}
use Rattle.model.specs.Map.{is_fifo, register_of, register_among, place_among, words_by}
use Rattle.model.specs.Call.{Dated, Undated, Call, Written, Request, Asked, Ask}
use Rattle.model.specs.SetUp.{words_among, new}
use Rattle.model.specs.Run.{run}
use Rattle.model.proofs.Refuses.FifoPlace.{first-is-fifo, fifo-is-first}
use Rattle.theorems.specs.TwoRuns.Alike.{Each, Alike, AskedAlike, fifo_offset}
use Rattle.theorems.specs.TwoRuns.Agree.{Agreeing}
use Rattle.model.specs.Unused.{takes_word, SameInUse}
use Rattle.theorems.specs.TwoRuns.InUse.{AlikeInUse}
use Rattle.theorems.proofs.TwoRuns.InUse.{runs-agree-in-use}
use Rattle.theorems.specs.Blanked.{blank_byte, blank_word, blank_written, blank_resets, blanked, blanked_asked, blanked_list}

pub length-blank : (bs : List ℕ) → length bs ≡ length (map blank_byte bs)
length-blank [] = refl
length-blank (b ∷ bs) = ap suc (length-blank bs)

-- ---- a blanked list is alike in use to the list it was made from

first-fifo : (offsets : List ℕ) (offset v v' : ℕ) → is_fifo (register_of offsets offset) ≡ true
    → (now : ℕ) → AlikeInUse offsets (Call.at now (Dated.write (record { offset = offset; value = v })))
    (Call.at now (Dated.write (record { offset = offset; value = v' })))
first-fifo offsets offset v v' f now =
    let (os, e) = fifo-is-first offsets offset f in
    subst (λ l. AlikeInUse l (Call.at now (Dated.write (record { offset = offset; value = v })))
    (Call.at now (Dated.write (record { offset = offset; value = v' })))) (sym e) (AlikeInUse.alike Alike.fifo_word)

write-alike : (offsets : List ℕ) (now : ℕ) (x : Written)
    → AlikeInUse offsets (Call.at now (Dated.write x)) (Call.at now (Dated.write (blank_written offsets x)))
unfolding blank_written blank_word choose
write-alike offsets now x = by_word (takes_word (register_of offsets x.offset)) refl
  where
    by-fifo : (t : Bool) → is_fifo (register_of offsets x.offset) ≡ t → takes_word (register_of offsets x.offset) ≡ false
        → AlikeInUse offsets (Call.at now (Dated.write x)) (Call.at now (Dated.write (record { offset = x.offset; value = 0 })))
    by-fifo true f e = first-fifo offsets x.offset x.value 0 f now
    by-fifo false f e = AlikeInUse.unused_word f e

    by_word : (t : Bool) → takes_word (register_of offsets x.offset) ≡ t
        → AlikeInUse offsets (Call.at now (Dated.write x))
        (Call.at now (Dated.write (record { offset = x.offset; value = choose t x.value 0 })))
    by_word true e = AlikeInUse.alike Alike.same
    by_word false e = by-fifo (is_fifo (register_of offsets x.offset)) refl e

alike : (offsets : List ℕ) (c : Request) → AlikeInUse offsets c (blanked offsets c)
unfolding blanked
alike offsets (Call.at now (Dated.read r)) = AlikeInUse.alike Alike.same
alike offsets (Call.at now (Dated.write x)) = write-alike offsets now x
alike offsets (Call.at now (Dated.receive date bs)) = AlikeInUse.alike (Alike.host_bytes (length-blank bs))
alike offsets (Call.at now (Dated.take_tx lent)) = AlikeInUse.alike (Alike.lent_to_take_tx (length-blank lent))
alike offsets (Call.at now (Dated.machine m)) = AlikeInUse.alike Alike.same
alike offsets (Call.undated (Undated.take_written lent)) = AlikeInUse.alike (Alike.lent_to_take_written (length-blank lent))
alike offsets (Call.undated Undated.has_left) = AlikeInUse.alike Alike.same
alike offsets (Call.undated Undated.host_pending) = AlikeInUse.alike Alike.same

pub asked-alike : (offsets : List ℕ) (a : Ask) → AskedAlike (AlikeInUse offsets) a (blanked_asked offsets a)
unfolding blanked_asked
asked-alike offsets (Asked.call c) = AskedAlike.call (alike offsets c)
asked-alike offsets (Asked.row now bs) = AskedAlike.row (length-blank bs)

pub blanked-alike : (offsets : List ℕ) (cs : List Ask) → Each (AskedAlike (AlikeInUse offsets)) cs (blanked_list offsets cs)
blanked-alike offsets [] = Each.nil
blanked-alike offsets (c ∷ cs) = Each.cons (asked-alike offsets c) (blanked-alike offsets cs)

-- what a mask has cleared stays so
and_again : (n a b : ℕ) → b < 2 ^ n → bit_and (bit_and a b) b ≡ bit_and a b
and_again zero a b h =
    let none : b ≡ 0 = omega arith in
    rw none (and_zero_r (bit_and a 0) ∙ sym (and_zero_r a))
and_again (suc n) a b h =
    let half : bit_and a b / 2 ≡ bit_and (a / 2) (b / 2) = omega (arith, and_step a b) in
    let deeper : bit_and (bit_and a b / 2) (b / 2) ≡ bit_and (a / 2) (b / 2) =
    ap (λ (x : ℕ). bit_and x (b / 2)) half ∙ and_again n (a / 2) (b / 2) (omega (arith, pow-suc 2 n)) in
    omega (arith, and_step (bit_and a b) b, and_step a b)

-- set-up uses nothing that was replaced
pub blanked-resets : (ws : List ℕ) → SameInUse ws (blank_resets ws)
unfolding blank_resets words_among words_by place_among choose decide
blanked-resets ws = record { words = refl; status = sym (and_again 32 (get_or ws 6 0) 0xFC00FC00 (omega arith)); mem_rx_status = refl }

-- so by demand 3 a blanked run times as the real one: all answers agree, apart from the byte that a read of FIFO gives and
-- bytes handed out as sent, and these agree in count at every call
pub blanked-times-alike : (offsets ws : List ℕ) → length offsets ≡ 16 → (cs : List Ask)
    → Agreeing (fifo_offset offsets) cs (blanked_list offsets cs) 0 0 cs (run cs (new offsets ws))
    (run (blanked_list offsets cs) (new offsets (blank_resets ws)))
blanked-times-alike offsets ws e cs =
    runs-agree-in-use offsets ws (blank_resets ws) e (blanked-resets ws) cs _ (blanked-alike offsets cs)

-- ---- two lists that are alike in use blank to the same list: it tells nothing of what was replaced

pub same-blank : (bs bs' : List ℕ) → length bs ≡ length bs' → map blank_byte bs ≡ map blank_byte bs'
unfolding blank_byte
same-blank [] [] e = refl
same-blank [] (b ∷ bs') e = absurd (suc-ne-zero _ (sym e))
same-blank (b ∷ bs) [] e = absurd (suc-ne-zero _ e)
same-blank (b ∷ bs) (b' ∷ bs') e = ap (λ l. 0 ∷ l) (same-blank bs bs' (suc_inj e))

same_word : (offsets : List ℕ) (offset v v' : ℕ) → takes_word (register_of offsets offset) ≡ false
    → blank_word offsets offset v ≡ blank_word offsets offset v'
unfolding blank_word
same_word offsets offset v v' e = choose-false v 0 e ∙ sym (choose-false v' 0 e)

fifo-takes-none : (offsets : List ℕ) → takes_word (register_of offsets (fifo_offset offsets)) ≡ false
unfolding register_of register_among
fifo-takes-none [] = refl
fifo-takes-none (fifo ∷ others) = ap takes_word (first-is-fifo fifo others)

same_write : (offsets : List ℕ) (now offset v v' : ℕ) → takes_word (register_of offsets offset) ≡ false
    → blanked offsets (Call.at now (Dated.write (record { offset = offset; value = v })))
    ≡ blanked offsets (Call.at now (Dated.write (record { offset = offset; value = v' })))
unfolding blanked blank_written
same_write offsets now offset v v' e =
    ap (λ w. Call.at now (Dated.write (record { offset = offset; value = w }))) (same_word offsets offset v v' e)

alike_same : (offsets : List ℕ) {c d : Request} → Alike (fifo_offset offsets) c d → blanked offsets c ≡ blanked offsets d
unfolding blanked
alike_same offsets Alike.same = refl
alike_same offsets (Alike.host_bytes {now = now} {at = at} {bs = bs} {bs' = bs'} e) =
    ap (λ l. Call.at now (Dated.receive at l)) (same-blank bs bs' e)
alike_same offsets (Alike.fifo_word {now = now} {v = v} {v' = v'}) = same_write offsets now _ v v' (fifo-takes-none offsets)
alike_same offsets (Alike.lent_to_take_tx {now = now} {lent = l} {lent' = m} e) = ap (λ k. Call.at now (Dated.take_tx k)) (same-blank l m e)
alike_same offsets (Alike.lent_to_take_written {lent = l} {lent' = m} e) = ap (λ k. Call.undated (Undated.take_written k))
    (same-blank l m e)

pub blank-same : (offsets : List ℕ) {c d : Request} → AlikeInUse offsets c d → blanked offsets c ≡ blanked offsets d
blank-same offsets (AlikeInUse.alike a) = alike_same offsets a
blank-same offsets (AlikeInUse.unused_word {now = now} {offset = o} {v = v} {v' = v'} f e) = same_write offsets now o v v' e

pub asked-same : (offsets : List ℕ) {a b : Ask} → AskedAlike (AlikeInUse offsets) a b → blanked_asked offsets a ≡ blanked_asked offsets b
unfolding blanked_asked
asked-same offsets (AskedAlike.call a) = ap Asked.call (blank-same offsets a)
asked-same offsets (AskedAlike.row {now = now} {bs = bs} {bs' = bs'} e) = ap (Asked.row now) (same-blank bs bs' e)

pub alike-blanked : (offsets : List ℕ) {cs ds : List Ask} → Each (AskedAlike (AlikeInUse offsets)) cs ds
    → blanked_list offsets cs ≡ blanked_list offsets ds
alike-blanked offsets Each.nil = refl
alike-blanked offsets (Each.cons a rest) = ap₂ ◌∷◌ (asked-same offsets a) (alike-blanked offsets rest)

-- and so do the reset words of two set-ups
pub resets-blanked : (ws ws' : List ℕ) → SameInUse ws ws' → blank_resets ws ≡ blank_resets ws'
unfolding blank_resets words_among words_by place_among choose decide
resets-blanked ws ws' s =
    let w = s.words in
    rw (
      ap (λ x. x.int_ena) w,
      ap (λ x. x.clkdiv) w,
      s.status,
      ap (λ x. x.conf0) w,
      ap (λ x. x.conf1) w,
      ap (λ x. x.clk_conf) w,
      ap (λ x. x.idle_conf) w,
      ap (λ x. x.rs485_conf) w,
      ap (λ x. x.at_cmd_char) w,
      ap (λ x. x.mem_conf) w,
      s.mem_rx_status,
    )

-- Demand 1 of every call and of every row: its number exactly when document 01 says, a refusal that keeps everything, every other
-- one carried out, its passes, and at most 8 notices. Assumes nothing but, for what is due, that dates in flight never fall.
use Rattle.std.specs.Prelude.{◌≡◌, refl, ◌↔◌, ℕ, zero, suc, ◌≤◌, [], length}
use Rattle.std.proofs.Common.{sym, ap, subst, ◌∙◌, arith}
use Rattle.model.specs.State.{Uart}
use Rattle.model.specs.Replies.{no_report, number}
use Rattle.model.specs.Calls.{carried}
use Rattle.model.specs.Call.{date_of, Request, Asked, Ask}
use Rattle.model.specs.Run.{number_of, Step, stepped, plan, step, asked_by, asked}
use Rattle.model.specs.Limits.{All}
use Rattle.model.proofs.Refuses.Conditions.{Condition, order, First, refused_with, carried_out, Result, refusal, done}
use Rattle.model.proofs.Refuses.Refusals.{first_one, first-none, asked-result, refuses-number}
use Rattle.model.proofs.Refuses.Carried.{Few, no-report-few, carried-fine}
use Rattle.model.specs.declared.Refusal.{Refusal}
use Rattle.model.specs.declared.Refusal.TheVariants.{RepeatedOffset, DatePastEnd, DateWentBack, TransmitFull, HostFull, RunsFull}
use Rattle.model.specs.declared.Refusal.TheVariants.{PeriodTooLong, BufferTooShort}

-- ---- numbers

-- the refusal of a number
of_number : ℕ → Refusal
of_number zero = RepeatedOffset
of_number (suc zero) = RepeatedOffset
of_number (suc (suc zero)) = DatePastEnd
of_number (suc (suc (suc zero))) = DateWentBack
of_number (suc (suc (suc (suc zero)))) = TransmitFull
of_number (suc (suc (suc (suc (suc zero))))) = HostFull
of_number (suc (suc (suc (suc (suc (suc zero)))))) = RunsFull
of_number (suc (suc (suc (suc (suc (suc (suc zero))))))) = PeriodTooLong
of_number (suc (suc (suc (suc (suc (suc (suc (suc n)))))))) = BufferTooShort

of_number-number : (r : Refusal) → of_number (number r) ≡ r
unfolding of_number number
of_number-number RepeatedOffset = refl
of_number-number DatePastEnd = refl
of_number-number DateWentBack = refl
of_number-number TransmitFull = refl
of_number-number HostFull = refl
of_number-number RunsFull = refl
of_number-number PeriodTooLong = refl
of_number-number BufferTooShort = refl

-- two refusals with one number are one
pub one_number : (q r : Refusal) → number q ≡ number r → q ≡ r
one_number q r e = sym (of_number-number q) ∙ ap of_number e ∙ of_number-number r

pub number-positive : (r : Refusal) → 1 ≤ number r
unfolding number
number-positive RepeatedOffset = omega arith
number-positive DatePastEnd = omega arith
number-positive DateWentBack = omega arith
number-positive TransmitFull = omega arith
number-positive HostFull = omega arith
number-positive RunsFull = omega arith
number-positive PeriodTooLong = omega arith
number-positive BufferTooShort = omega arith

-- ---- each number exactly when document 01 says

module _ {c : Ask} {u : Uart ℕ ℕ} where
  refused-yes : {s : Step ℕ ℕ ℕ} (r : Refusal) → Result c u s → number_of s.answer.reply ≡ number r
      → First (λ q. Condition u q c) order r
  refused-yes r (refusal {r = q} f) e = subst (First (λ q. Condition u q c) order) (one_number q r (sym (refuses-number c u q f) ∙ e)) f
  refused-yes r (done v) e = absurd (omega (arith, (carried-fine c u).zero, number-positive r))

  yes-refused : {s : Step ℕ ℕ ℕ} (r : Refusal) → Result c u s → First (λ q. Condition u q c) order r
      → number_of s.answer.reply ≡ number r
  yes-refused r (refusal {r = q} f) g = refuses-number c u q f ∙ ap number (first_one f g)
  yes-refused r (done v) g = absurd (first-none g v)

  done-yes : {s : Step ℕ ℕ ℕ} → Result c u s → number_of s.answer.reply ≡ 0 → All (λ q. ¬ Condition u q c) order
  done-yes (refusal {r = q} f) e = absurd (omega (arith, number-positive q, refuses-number c u q f))
  done-yes (done v) e = v

  yes-done : {s : Step ℕ ℕ ℕ} → Result c u s → All (λ q. ¬ Condition u q c) order → s ≡ carried_out c u
  yes-done (refusal f) n = absurd (first-none f n)
  yes-done (done v) n = refl

-- a call or a row answers a number exactly where that number's condition is the first in the order to hold
pub refused-exactly : (c : Ask) (u : Uart ℕ ℕ) (r : Refusal)
    → number_of (asked c u).answer.reply ≡ number r ↔ First (λ q. Condition u q c) order r
refused-exactly c u r = (refused-yes r (asked-result c u), yes-refused r (asked-result c u))

-- it answers 0 exactly where no condition holds
pub done-exactly : (c : Ask) (u : Uart ℕ ℕ) → number_of (asked c u).answer.reply ≡ 0 ↔ All (λ q. ¬ Condition u q c) order
done-exactly c u =
    (done-yes (asked-result c u), λ n. ap (λ s. number_of s.answer.reply) (yes-done (asked-result c u) n) ∙ (carried-fine c u).zero)

-- every one with number 0 is carried out
pub done-carried : (c : Ask) (u : Uart ℕ ℕ) → number_of (asked c u).answer.reply ≡ 0 → asked c u
    ≡ carried_out c u
done-carried c u e = yes-done (asked-result c u) ((done-exactly c u).0 e)

-- ---- a refusal keeps everything

-- a refused one returns its refusal alone: the state stays, and the report is fixed
pub refused-untouched : (c : Ask) (u : Uart ℕ ℕ) → 1 ≤ number_of (asked c u).answer.reply
    → (r : Refusal) × (asked c u ≡ record { answer = record { reply = refused_with c u r; report = no_report }; state = u; events = [] })
refused-untouched c u = go (asked-result c u)
  where
    go : {s : Step ℕ ℕ ℕ} → Result c u s → 1 ≤ number_of s.answer.reply
        → (r : Refusal) × (s ≡ record { answer = record { reply = refused_with c u r; report = no_report }; state = u; events = [] })
    go (refusal {r = r} f) le = (r, refl)
    go (done v) le = absurd (omega (arith, (carried-fine c u).zero))

-- ---- notices

-- at most 8 notices besides overflows, in 8 places, in every answer
pub notices-few : (c : Ask) (u : Uart ℕ ℕ) → ((asked c u).answer.report.noted ≤ 8) × (length (asked c u).answer.report.notices ≡ 8)
notices-few c u = let few = go (asked-result c u) in (few.noted, few.places)
  where
    go : {s : Step ℕ ℕ ℕ} → Result c u s → Few s.answer.report
    go (refusal f) = no-report-few
    go (done v) = (carried-fine c u).few

-- ---- the same of a call alone

module _ (c : Request) (u : Uart ℕ ℕ) where
  pub call-done : number_of (step c u).answer.reply ≡ 0 → All (λ q. ¬ Condition u q (Asked.call c)) order
  unfolding asked_by
  call-done e = (done-exactly (Asked.call c) u).0 e

  pub call-carried : number_of (step c u).answer.reply ≡ 0 → step c u ≡ stepped (carried (date_of c) (plan c u) u)
  unfolding asked_by carried_out
  call-carried e = done-carried (Asked.call c) u e

  pub call-untouched : 1 ≤ number_of (step c u).answer.reply
      → (r : Refusal) × (step c u ≡ record { answer = record { reply = (plan c u).refuses r; report = no_report }; state = u; events = [] })
  unfolding asked_by refused_with
  call-untouched h = refused-untouched (Asked.call c) u h

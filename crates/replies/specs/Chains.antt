-- Tests one behind another: one that refuses has the last word, and one that passes leaves it to what is tested behind it.
-- Assumes nothing.
use Rattle.std.specs.Prelude.{◌≡◌, refl, ℕ, Bool, true, false, Ok, Err}
use Rattle.std.specs.Result.{result_and}
use Rattle.std.proofs.Math.Path.{sym}
use Rattle.std.proofs.Math.Option.{Option, none}
use Rattle.model.specs.Tests.{past_end, went_back, refuse_if}
use Rattle.model.specs.declared.Refusal.{Refusal}
use Rattle.model.specs.declared.Refusal.TheVariants.{DatePastEnd, DateWentBack}
use Rattle.replies.specs.Names.{Verdict}
use Rattle.replies.specs.Refusals.{verdict, dates, dates_only}

-- one test

pub refuse_first : (t : Bool) (q r : Refusal) (rest : Option Refusal) → verdict (Err r) ≡ refuse_if t q none
    → verdict (Err r) ≡ refuse_if t q rest
unfolding verdict refuse_if
refuse_first true q r rest e = e
refuse_first false q r rest e = cc

pub refuse_rest : (t : Bool) (q : Refusal) (v : Unit) (rest : Option Refusal) → verdict (Ok v) ≡ refuse_if t q none
    → refuse_if t q rest ≡ rest
unfolding verdict refuse_if
refuse_rest true q v rest e = cc
refuse_rest false q v rest e = refl

pub ruleset tested = (refuse_first, refuse_rest)

-- the two tests of a date

pub dates_first : (now last : ℕ) (r : Refusal) (rest : Option Refusal) → verdict (Err r) ≡ dates_only now last
    → verdict (Err r) ≡ dates now last rest
unfolding verdict refuse_if dates_only dates
dates_first now last r rest e = split (past_end now) (went_back last now) e
  where
    split : (s t : Bool) → verdict (Err r) ≡ refuse_if s DatePastEnd (refuse_if t DateWentBack none)
        → verdict (Err r) ≡ refuse_if s DatePastEnd (refuse_if t DateWentBack rest)
    split true t e = e
    split false true e = e
    split false false e = cc

pub dates_rest : (now last : ℕ) (v : Unit) (rest : Option Refusal) → verdict (Ok v) ≡ dates_only now last
    → dates now last rest ≡ rest
unfolding verdict refuse_if dates_only dates
dates_rest now last v rest e = split (past_end now) (went_back last now) e
  where
    split : (s t : Bool) → verdict (Ok v) ≡ refuse_if s DatePastEnd (refuse_if t DateWentBack none)
        → refuse_if s DatePastEnd (refuse_if t DateWentBack rest) ≡ rest
    split true t e = cc
    split false true e = cc
    split false false e = refl

pub ruleset dated = (dates_first, dates_rest)

pub dates_and : (now last : ℕ) (v w : Verdict) → verdict v ≡ dates_only now last
    → verdict (result_and v w) ≡ dates now last (verdict w)
unfolding verdict
dates_and now last (Err r) w e = dates_first now last r (verdict w) e
dates_and now last (Ok v) w e = sym (dates_rest now last v (verdict w) e)

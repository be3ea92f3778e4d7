-- Saving and loading. Both are undated and never settle: a save changes nothing, a load gives a whole state, last date included. Assumes
-- nothing.
use Rattle.std.specs.Prelude.{ℕ, zero, suc, ◌+◌, Bool, true, false, ◌&&◌, List, [], ◌∷◌, leb, ltb, eqb, length}
use Rattle.std.proofs.Math.Option.{none}
use Rattle.model.specs.Numbers.{choose}
use Rattle.model.specs.State.{Uart}
use Rattle.model.specs.Replies.{Take}
use Rattle.model.specs.Tests.{refuse_if}
use Rattle.model.specs.Calls.{Outcome, Plan, outcome, filled, not_taken, quiet}
use Rattle.form.specs.Cells.{Cell, bytes_of}
use Rattle.form.specs.Form.{head_length, form}
use Rattle.form.specs.Read.{number_at, state_in}
use Rattle.form.specs.Tests.{is_within}
use Rattle.model.specs.declared.Refusal.TheVariants.{BufferTooShort}
use Rattle.form.specs.declared.NotLoaded.{NotLoaded}
use Rattle.form.specs.declared.NotLoaded.TheVariants.{Layout, NoState}

-- ---- save

module _ {H W L : Type 0} where
  -- 8 for a buffer shorter than this state's form; else the form stands at its front and nothing is written after it
  unfoldable pub save : List L → Uart H W → Plan (Take (Cell H W) L) H W
  save lent u = record {
    test = refuse_if (ltb (length lent) (length (form u))) BufferTooShort none;
    refuses = not_taken lent;
    changes = [];
    work = λ s. quiet (filled (form s) lent) s;
  }

  unfoldable pub saved : List L → Uart H W → Outcome (Take (Cell H W) L) H W
  saved lent u = outcome none (save lent u) u

-- ---- load

-- so many pairs from a place on: each part lies where the one before ends, the first at `at`, and the bytes end with the last
unfoldable pub pairs_lie : ℕ → ℕ → ℕ → List ℕ → Bool
pairs_lie zero at place bs = eqb at (length bs)
pairs_lie (suc k) at place bs = eqb (number_at place 2 bs) at && pairs_lie k (at + number_at (place + 2) 2 bs) (place + 4) bs

unfoldable pub lies : List ℕ → Bool
lies bs = leb head_length (length bs) && (eqb (number_at 0 2 bs) 7 && pairs_lie 7 head_length 2 bs)

unfoldable pub same_bytes : List ℕ → List ℕ → Bool
same_bytes [] [] = true
same_bytes [] (c ∷ cs) = false
same_bytes (b ∷ bs) [] = false
same_bytes (b ∷ bs) (c ∷ cs) = eqb b c && same_bytes bs cs

-- whether bytes are the form of a state within the limits
unfoldable pub is_form : Uart ℕ ℕ → List ℕ → Bool
is_form u bs = is_within u && same_bytes (bytes_of (form u)) bs

-- the state that was loaded, or why there is none
pub data Loading (H W : Type 0) : Type 0 where
  loaded : Uart H W → Loading H W
  refused : NotLoaded → Loading H W

-- document 02's numbers
unfoldable pub number : NotLoaded → ℕ
number Layout = 10
number NoState = 11

unfoldable pub load_number : {H W : Type 0} → Loading H W → ℕ
load_number (loaded u) = 0
load_number (refused r) = number r

unfoldable pub load : List ℕ → Loading ℕ ℕ
load bs = choose (lies bs) (choose (is_form (state_in bs) bs) (loaded (state_in bs)) (refused NoState)) (refused Layout)

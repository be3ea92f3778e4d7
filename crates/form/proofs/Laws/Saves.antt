-- What a save answers, and that it changes nothing. Assumes nothing.
use Rattle.std.specs.Prelude.{◌≡◌, Bool, length}
use Rattle.std.proofs.Math.Path.{refl}
use Rattle.std.proofs.Math.Bool.{true, false}
use mathlib.Core.List.{List, []}
use Rattle.std.proofs.Math.Dec.{ltb}
use Rattle.model.specs.Numbers.{choose}
use Rattle.model.specs.State.{Uart}
use Rattle.model.specs.Replies.{no_report}
use Rattle.model.specs.Tests.{refuse_if}
use Rattle.model.specs.Calls.{refusing, unless, carried, outcome, quiet, filled, not_taken}
use Rattle.form.specs.Form.{form}
use Rattle.form.specs.Load.{save, saved}
use Rattle.model.specs.declared.Refusal.TheVariants.{BufferTooShort}

module _ {H W L : Type 0} (lent : List L) (u : Uart H W) where
  -- the state stays, nothing is settled, and the report is that of an undated call
  pub saved-is : saved lent u
      ≡ record {
        reply = choose (ltb (length lent) (length (form u))) (not_taken lent BufferTooShort) (filled (form u) lent);
        report = no_report;
        state = u;
        events = [];
      }
  unfolding saved save outcome unless refusing carried refuse_if quiet choose
  saved-is = by-test (ltb (length lent) (length (form u))) refl
    where
      by-test : (t : Bool) → ltb (length lent) (length (form u)) ≡ t → saved lent u
          ≡ record { reply = choose t (not_taken lent BufferTooShort) (filled (form u) lent); report = no_report; state = u; events = [] }
      by-test true e = rw e refl
      by-test false e = rw e refl

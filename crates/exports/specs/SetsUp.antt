-- What set-up gives in plain numbers: the definition's new state, within the limits unless it is refused. Assumes nothing.
use Rattle.std.specs.Prelude.{◌≡◌, refl, List, ℕ, length, Ok}
use Rattle.std.proofs.Common.{sym, subst, ◌∙◌, ap}
use Rattle.model.specs.SetUp.{new, set_up_reply}
use Rattle.device.specs.Holds.{Arrays, abs, Valid}
use Rattle.device.specs.declared.Core.{Core}
use Rattle.calls.specs.NewCore.{new_core}
use Rattle.uart.specs.Whole.{Slots, new-means, new-good}
use Rattle.ffi.specs.Plain.{core_of, plain_core}
use Rattle.ffi.proofs.WayBack.{core-back}
use Rattle.ffi.specs.declared.PlainCore.{PlainCore}
use Rattle.ffi.specs.Replies.{plain_set_up}
use Rattle.ffi.specs.declared.results.PlainReply.{PlainReply}

-- whatever stands in the slots
pub record SetsUpPlainly (offsets resets : List ℕ) (core : PlainCore) (reply : PlainReply) : Type 0 where
  pub replies : reply ≡ plain_set_up (set_up_reply offsets)
  -- the new core, number by number
  pub numbers : core ≡ plain_core (new_core offsets resets)
  pub state : (a : Arrays) → abs (core_of core) a ≡ new offsets resets
  -- no other number stands behind a mark that is not set: a refused first call gives these numbers back one by one
  pub plain : core ≡ plain_core (core_of core)
  pub good : set_up_reply offsets ≡ (Ok tt) → (a : Arrays) → Slots offsets resets a → Valid (core_of core) a

pub sets-up : (offsets resets : List ℕ) {core : PlainCore} {reply : PlainReply} → length offsets ≡ 16
    → core ≡ plain_core (new_core offsets resets)
    → reply ≡ plain_set_up (set_up_reply offsets) → SetsUpPlainly offsets resets core reply
sets-up offsets resets {core} {reply} sixteen e r =
    let meant : core_of core ≡ new_core offsets resets = ap core_of e ∙ core-back (new_core offsets resets) in
    record {
      replies = r;
      numbers = e;
      state = λ a. ap (λ (c : Core). abs c a) meant ∙ new-means offsets resets a;
      plain = e ∙ sym (ap plain_core meant);
      good = λ ready a slots. subst (λ (c : Core). Valid c a) (sym meant) (new-good offsets resets a sixteen slots refl ready);
    }

-- Plans carried out: one whose own result is turned into a reply gives the same outcome, so turned. Assumes nothing.
use Rattle.std.specs.Prelude.{◌≡◌, ℕ}
use Rattle.std.proofs.Math.Path.{refl}
use Rattle.std.proofs.Math.Option.{Option, none, some}
use Rattle.model.specs.State.{Uart}
use Rattle.model.specs.Calls.{Plan, refusal_by, refusing, unless, after_settling, carried, outcome}
use Rattle.model.specs.Call.{Reply}
use Rattle.model.specs.Run.{stepped, answering, replying}
use Rattle.model.specs.declared.Refusal.{Refusal}

module _ {R H W L : Type 0} (as-reply : R → Reply H W L) where
  module _ (p : Plan R H W) (u : Uart H W) where
    carried-replies : (d : Option ℕ) → stepped (carried d (replying as-reply p) u) ≡ answering as-reply (carried d p u)
    unfolding stepped carried replying answering after_settling
    carried-replies none = refl
    carried-replies (some now) = refl

    by-test : (d : Option ℕ) (o : Option Refusal)
        → stepped (unless o (replying as-reply p).refuses (carried d (replying as-reply p)) u)
        ≡ answering as-reply (unless o p.refuses (carried d p) u)
    unfolding stepped replying answering unless refusing
    by-test d none = carried-replies d
    by-test d (some r) = refl

    pub replied : (d : Option ℕ) → stepped (outcome d (replying as-reply p) u) ≡ answering as-reply (outcome d p u)
    unfolding replying outcome
    replied d = by-test d (refusal_by d p.test u.control)

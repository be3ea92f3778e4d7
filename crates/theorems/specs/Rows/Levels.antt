-- Levels and wake where one byte more is in flight: no level rises that had not, and of the instants that ask for a wake only the one at
-- which the transmit FIFO falls below its threshold can be new. Assumes nothing.
use Rattle.std.specs.Prelude.{◌≡◌, refl, ℕ, ◌≤◌, Bool, true, false, List, [], ◌∷◌, eqb, length, Some, None}
use Rattle.std.proofs.Common.{sym, subst, ◌∙◌, arith}
use Rattle.std.proofs.Math.Path.{ap}
use Rattle.std.proofs.lemmas.Bool.{false≢true}
use Rattle.std.proofs.Math.Bool.{not}
use Rattle.std.specs.Int.Bits.{bit_and}
use Rattle.model.specs.Numbers.{choose, earliest, in_cycles}
use Rattle.model.specs.State.{Sent, Uart, line_of}
use Rattle.model.specs.Setters.{with_int_raw, with_line, with_level, with_control, with_in_flight}
use Rattle.model.specs.Line.{RXFIFO-FULL, TXFIFO-EMPTY, raise_if}
use Rattle.model.specs.Settle.{above_full, below_empty, assert_levels, int_status, drive, levels}
use Rattle.model.specs.Arm.{arm_all}
use Rattle.model.specs.Limits.{All, nil, cons}
use Rattle.theorems.specs.TwoSteps.Raises.{raises, raises-swap, raises-within}
use Rattle.theorems.specs.TwoSteps.Levels.{empty-less}
use Rattle.model.proofs.ShutsOut.Wakes.{cycle_of, InTimeFor, arm_all-earliest}
use Rattle.model.specs.Names.{Date}

-- ---- levels

-- what two rises leave alone the first leaves alone
first-still : (t r : Bool) (m n x : ℕ) → raises r n (raises t m x) ≡ x → raises t m x ≡ x
first-still t r m n x e =
    ap (raises t m) (sym e) ∙ raises-swap t r m n (raises t m x) ∙ ap (raises r n) (raises-within t t m x (λ h. h)) ∙ e

-- and a later test that passes no more often leaves it alone too
second-still : (t r q : Bool) (m n x : ℕ) → (q ≡ true → r ≡ true) → raises r n (raises t m x) ≡ x → raises q n (raises t m x) ≡ x
unfolding choose
second-still t true true m n x h e = e
second-still t false true m n x h e = absurd (false≢true (h refl))
second-still t r false m n x h e = first-still t r m n x e

module _ {H W : Type 0} where
  -- more bytes in flight raise nothing
  pub more-flying : (u : Uart H W) (l : List (Sent W)) → length u.in_flight ≤ length l → levels u ≡ u
      → levels (with_in_flight l u) ≡ with_in_flight l u
  unfolding levels assert_levels drive int_status raise_if
  more-flying u l le e =
      let conf1 = u.control.words.conf1 in
      let raw = (line_of u).int_raw in
      let full = above_full conf1 (length u.rx) in
      let same : raises (below_empty conf1 (length l)) TXFIFO-EMPTY (raises full RXFIFO-FULL raw) ≡ raw =
      second-still full (below_empty conf1 (length u.in_flight)) (below_empty conf1 (length l)) RXFIFO-FULL TXFIFO-EMPTY raw
      (empty-less conf1 (length l) (length u.in_flight) le) (ap (λ v. (line_of v).int_raw) e) in
      ap (λ (r : ℕ). with_control (with_level (not (eqb (bit_and r u.control.words.int_ena) 0)) (with_line (with_int_raw r (line_of u))
      u.control))
      (with_in_flight l u)) same
      ∙ ap (λ (b : Bool). with_control (with_level b u.control) (with_in_flight l u))
      (ap (λ (r : ℕ). not (eqb (bit_and r u.control.words.int_ena) 0)) (sym (ap (λ v. (line_of v).int_raw) e))
      ∙ ap (λ v. v.control.level) e)

-- ---- the wake

-- a wake in time for an instant stays when it is armed for it
in-time-armed : (w d : Date) → InTimeFor w (cycle_of d) → earliest w (in_cycles d) ≡ w
unfolding earliest in_cycles
in-time-armed None None h = refl
in-time-armed (Some w) None h = refl
in-time-armed None (Some d) h = absurd h
in-time-armed (Some w) (Some d) h = ap Some (omega (arith, h))

-- an earlier one is in time too
still-in-time : (w d e : Date) → InTimeFor w (cycle_of e) → InTimeFor (earliest w (in_cycles d)) (cycle_of e)
unfolding earliest in_cycles
still-in-time w d None h = tt
still-in-time None d (Some e) h = absurd h
still-in-time (Some w) None (Some e) h = h
still-in-time (Some w) (Some d) (Some e) h = omega (arith, h)

pub arm_all-still : (ds : List Date) (w : Date) → All (λ d. InTimeFor w (cycle_of d)) ds → arm_all ds w ≡ w
unfolding arm_all
arm_all-still [] w nil = refl
arm_all-still (d ∷ ds) w (cons h a) = ap (arm_all ds) (in-time-armed w d h) ∙ arm_all-still ds w a

pub arm_all-again : (ds : List Date) (w : Date) → arm_all ds (arm_all ds w) ≡ arm_all ds w
arm_all-again ds w = arm_all-still ds (arm_all ds w) (arm_all-earliest ds w).each

pub arm_all-in-time : (ds : List Date) (w : Date) → arm_all ds w ≡ w → All (λ d. InTimeFor w (cycle_of d)) ds
arm_all-in-time ds w e = subst (λ v. All (λ d. InTimeFor v (cycle_of d)) ds) e (arm_all-earliest ds w).each

pub later-in-time : (w : Date) (a b : ℕ) → a ≤ b → InTimeFor w (cycle_of (Some a)) → InTimeFor w (cycle_of (Some b))
later-in-time None a b le h = absurd h
later-in-time (Some w) a b le h = omega (arith, h)

-- armed for five instants, all of which but the fourth it is in time for
pub fourth-armed : (w a b c d e : Date) → InTimeFor w (cycle_of a) → InTimeFor w (cycle_of b) → InTimeFor w (cycle_of c) → InTimeFor w
    (cycle_of e)
    → arm_all (a ∷ b ∷ c ∷ d ∷ e ∷ []) w ≡ earliest w (in_cycles d)
unfolding arm_all
fourth-armed w a b c d e p q r s =
    ap (λ x. arm_all (b ∷ c ∷ d ∷ e ∷ []) x) (in-time-armed w a p)
    ∙ ap (λ x. arm_all (c ∷ d ∷ e ∷ []) x) (in-time-armed w b q)
    ∙ ap (λ x. arm_all (d ∷ e ∷ []) x) (in-time-armed w c r)
    ∙ in-time-armed (earliest w (in_cycles d)) e (still-in-time w d e s)

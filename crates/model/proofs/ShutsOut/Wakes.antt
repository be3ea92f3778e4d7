-- The Deadline keeps the earliest date: after arming, the wake comes no later than the one that was armed and than the cycle of each
-- instant that asks for one, past or not, and it is one of them; a call at or after it clears it. Assumes nothing.
use Rattle.std.specs.Prelude.{◌≡◌, refl, ℕ, ◌+◌, ◌/◌, ◌≤◌, ◌<◌, min, Bool, true, false, leb, Some, None}
use Rattle.std.proofs.Common.{subst, arith, leb-true, leb-false, le-leb}
use mathlib.Core.List.{List, [], ◌∷◌, map, Memᴰ}
use Rattle.std.proofs.lemmas.Bool.{lt-leb}
use Rattle.model.specs.Numbers.{due_by, earliest, in_cycles}
use Rattle.model.specs.State.{Uart}
use Rattle.model.specs.Arm.{called, instants, arm_all, arm}
use Rattle.model.specs.Limits.{All, nil, cons}
use Rattle.model.proofs.Laws.Choose.{choose-true, choose-false}
use Rattle.model.specs.Names.{Date}

-- the first cycle that begins at or after a date in subcycles, if there is one
abbrev pub cycle_of : Date → Date
cycle_of None = None
cycle_of (Some t) = Some ((t + 31) / 32)

-- a wake comes no later than a cycle, if there is one
abbrev pub InTimeFor : Date → Date → Type 0
InTimeFor wake None = Unit {0}
InTimeFor None (Some c) = ⊥
InTimeFor (Some w) (Some c) = w ≤ c

-- `w` is the earliest of the wake that was armed and the cycles of the instants
pub record Earliest (wake : Date) (ds : List Date) (w : Date) : Type 0 where
  pub kept : InTimeFor w wake
  pub each : All (λ d. InTimeFor w (cycle_of d)) ds
  pub one : Memᴰ w (wake ∷ map cycle_of ds)

pub in-cycles : (d : Date) → in_cycles d ≡ cycle_of d
unfolding in_cycles
in-cycles None = refl
in-cycles (Some t) = refl

no-later-left : (w a b : Date) → InTimeFor w (earliest a b) → InTimeFor w a
unfolding earliest
no-later-left w None b h = tt
no-later-left None (Some x) None h = absurd h
no-later-left None (Some x) (Some y) h = absurd h
no-later-left (Some v) (Some x) None h = h
no-later-left (Some v) (Some x) (Some y) h = omega (arith, h)

no-later-right : (w a b : Date) → InTimeFor w (earliest a b) → InTimeFor w b
unfolding earliest
no-later-right w None b h = h
no-later-right w (Some x) None h = tt
no-later-right None (Some x) (Some y) h = absurd h
no-later-right (Some v) (Some x) (Some y) h = omega (arith, h)

least : (P : ℕ → Type 0) (x y : ℕ) → P x → P y → P (min x y)
least P x y p q = by-test (leb x y) refl
  where
    by-test : (t : Bool) → leb x y ≡ t → P (min x y)
    by-test true e = let h : x ≤ y = leb-true x y e in subst P (omega arith) p
    by-test false e = let h : y < x = leb-false x y e in subst P (omega arith) q

one_of_two : (a b : Date) (P : Date → Type 0) → P a → P b → P (earliest a b)
unfolding earliest
one_of_two None b P p q = q
one_of_two (Some x) None P p q = p
one_of_two (Some x) (Some y) P p q = least (λ n. P (Some n)) x y p q

both : (w a b : Date) (ds : List Date) → Memᴰ w (earliest a b ∷ ds) → Memᴰ w (a ∷ b ∷ ds)
both w a b ds (Memᴰ.head e) =
    one_of_two a b (λ c. w ≡ c → Memᴰ w (a ∷ b ∷ ds)) (λ f. Memᴰ.head f) (λ f. Memᴰ.tail (Memᴰ.head f)) e
both w a b ds (Memᴰ.tail m) = Memᴰ.tail (Memᴰ.tail m)

pub arm_all-earliest : (ds : List Date) (wake : Date) → Earliest wake ds (arm_all ds wake)
unfolding arm_all
arm_all-earliest [] wake = record { kept = itself wake; each = nil; one = Memᴰ.head refl }
  where
    itself : (d : Date) → InTimeFor d d
    itself None = tt
    itself (Some c) = omega arith
arm_all-earliest (d ∷ ds) wake =
    let e : Earliest (earliest wake (in_cycles d)) ds (arm_all (d ∷ ds) wake) = arm_all-earliest ds (earliest wake (in_cycles d)) in
    let w : Date = arm_all (d ∷ ds) wake in
    record {
      kept = no-later-left w wake (in_cycles d) e.kept;
      each = cons (subst (InTimeFor w) (in-cycles d) (no-later-right w wake (in_cycles d) e.kept)) e.each;
      one = subst (λ c. Memᴰ w (wake ∷ c ∷ map cycle_of ds)) (in-cycles d) (both w wake (in_cycles d) (map cycle_of ds) e.one);
    }

-- no instant is left out because it is past
pub arm-earliest : (u : Uart ℕ ℕ) → let w : Date = (arm u).control.wake in
    InTimeFor w u.control.wake × All (λ d. InTimeFor w (cycle_of d)) (instants u)
    × Memᴰ w (u.control.wake ∷ map cycle_of (instants u))
unfolding arm
arm-earliest u = let e = arm_all-earliest (instants u) u.control.wake in (e.kept, e.each, e.one)

-- ---- a call

pub called-due : (now cycle : ℕ) → cycle ≤ now → called now (Some cycle) ≡ None
unfolding called due_by
called-due now cycle h = choose-true _ _ (le-leb cycle now h)

pub called-before : (now cycle : ℕ) → now < cycle → called now (Some cycle) ≡ Some cycle
unfolding called due_by
called-before now cycle h = choose-false _ _ (lt-leb cycle now h)

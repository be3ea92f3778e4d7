-- The slots of a ring: its places are counted on past its end, and a place that is past it stands at the slot that far from
-- slot 0. Assumes nothing.
use Rattle.std.specs.Prelude.{◌≡◌, refl, Bool, true, false, ◌⊎◌, ◌≢◌, ℕ, ◌+◌, ◌-◌, ◌<◌, ◌≤◌, min, ltb}
use Rattle.std.proofs.Common.{inl, inr, ⊎_elim, arith, lt-ltb, le-ltb, ltb-true, ltb-false}

abbrev pub pick : Bool → ℕ → ℕ → ℕ
pick true a b = a
pick false a b = b

-- the slot at a place of a ring of `cap` slots
unfoldable pub wrap : ℕ → ℕ → ℕ
wrap place cap = pick (ltb place cap) place (place - cap)

-- how many of n elements stand before the end of the slots, the first of them at `slot`
abbrev pub before : ℕ → ℕ → ℕ → ℕ
before cap slot n = min n (cap - slot)

-- ---- laws

-- a test on two numbers has two ways
pub side : (a b : ℕ) → (a < b) ⊎ (b ≤ a)
side a b = by-test (ltb a b) refl
  where
    by-test : (t : Bool) → ltb a b ≡ t → (a < b) ⊎ (b ≤ a)
    by-test true e = inl (ltb-true a b e)
    by-test false e = inr (ltb-false a b e)

-- the two ways of `wrap`
pub wrap-in : (place cap : ℕ) → place < cap → wrap place cap ≡ place
unfolding wrap
wrap-in place cap h = rw (lt-ltb place cap h)

pub wrap-over : (place cap : ℕ) → cap ≤ place → wrap place cap ≡ place - cap
unfolding wrap
wrap-over place cap h = rw (le-ltb place cap h)

-- a place of the first two rounds has a slot
pub wrap-low : (place cap : ℕ) → place < cap + cap → wrap place cap < cap
wrap-low place cap h =
    ⊎_elim (λ w. rw (wrap-in place cap w) w) (λ w. rw (wrap-over place cap w) (omega arith)) (side place cap)

-- one round holds no slot twice
pub wrap-apart : (a b cap : ℕ) → a < b → b < a + cap → b < cap + cap → wrap a cap ≢ wrap b cap
wrap-apart a b cap less near two =
    ⊎_elim
    (λ (p : a < cap).
    ⊎_elim (λ (q : b < cap). rw (wrap-in a cap p, wrap-in b cap q) (omega arith))
    (λ (q : cap ≤ b). rw (wrap-in a cap p, wrap-over b cap q) (omega arith)) (side b cap))
    (λ (p : cap ≤ a). let q : cap ≤ b = omega arith in rw (wrap-over a cap p, wrap-over b cap q) (omega arith))
    (side a cap)

-- going on from a place or from its slot comes to the same slots, for a round
pub wrap-on : (place i cap : ℕ) → place ≤ cap → i < cap → wrap (wrap place cap + i) cap ≡ wrap (place + i) cap
wrap-on place i cap low few =
    ⊎_elim
    (λ (p : place < cap). rw (wrap-in place cap p))
    (λ (p : cap ≤ place).
    let z : wrap place cap + i ≡ i = rw (wrap-over place cap p) (omega arith) in
    rw (z, wrap-in i cap few, wrap-over (place + i) cap (omega arith)) (omega arith))
    (side place cap)

-- Sums over lists of events. Assumes nothing.
use Rattle.std.specs.Prelude.{◌≡◌, ℕ, ◌+◌, ◌≤◌, take}
use Rattle.std.proofs.Math.Path.{refl, ap}
use native.Mathlib.Omega.{arith}
use mathlib.Core.List.{List, [], ◌∷◌, ◌++◌, map}
use Rattle.model.specs.State.{Sent, Uart}
use Rattle.model.specs.Events.{Event, departure, timeout, landing, nothing, total, one_pass, lost, landings_in, passes_in, overflows_in}
use Rattle.model.specs.Settle.{gone, departures}
use Rattle.model.specs.declared.Fate.{Fate}
use Rattle.model.specs.declared.Fate.TheVariants.{Stored, Overflowed, Cleared, ClockOff, Unheard}

pub total-append : {A : Type 0} (n : A → ℕ) (xs ys : List A) → total n (xs ++ ys) ≡ total n xs + total n ys
unfolding total
total-append n [] ys = omega arith
total-append n (x ∷ xs) ys = omega (arith, total-append n xs ys)

-- the bytes lost among landings
abbrev pub lost_in : {H : Type 0} (W : Type 0) → List (ℕ × H × Fate) → ℕ
lost_in W ls = total (λ l. lost {W = W} (landing l.0 l.1 l.2)) ls

module _ {H W : Type 0} where
  pub passes_append : (es fs : List (Event H W)) → passes_in (es ++ fs) ≡ passes_in es + passes_in fs
  unfolding passes_in
  passes_append es fs = total-append one_pass es fs

  pub overflows-append : (es fs : List (Event H W)) → overflows_in (es ++ fs) ≡ overflows_in es + overflows_in fs
  unfolding overflows_in
  overflows-append es fs = total-append lost es fs

  pub landings-append : (es fs : List (Event H W)) → landings_in (es ++ fs) ≡ landings_in es ++ landings_in fs
  unfolding landings_in
  landings-append [] fs = refl
  landings-append (departure at b ∷ es) fs = landings-append es fs
  landings-append (timeout at ∷ es) fs = landings-append es fs
  landings-append (landing at b f ∷ es) fs = ap (λ l. (at, b, f) ∷ l) (landings-append es fs)
  landings-append (nothing at ∷ es) fs = landings-append es fs

  -- only a byte that lands is lost
  pub overflows-land : (es : List (Event H W)) → overflows_in es ≡ lost_in W (landings_in es)
  unfolding landings_in overflows_in total lost
  overflows-land [] = refl
  overflows-land (departure at b ∷ es) = omega (arith, overflows-land es)
  overflows-land (timeout at ∷ es) = omega (arith, overflows-land es)
  overflows-land (landing at b f ∷ es) = omega (arith, overflows-land es)
  overflows-land (nothing at ∷ es) = omega (arith, overflows-land es)

  -- ---- departures make no pass and lose nothing, and none is a landing

  none-land : (ss : List (Sent W)) (es : List (Event H W))
      → landings_in (map (λ s. departure s.gone_at s.byte) ss ++ es) ≡ landings_in es
  unfolding landings_in
  none-land [] es = refl
  none-land (s ∷ ss) es = none-land ss es

  none-counted : (n : Event H W → ℕ) → ((at : ℕ) (b : W) → n (departure at b) ≡ 0) → (ss : List (Sent W))
      → total n (map (λ s. departure s.gone_at s.byte) ss) ≡ 0
  unfolding total
  none-counted n z [] = refl
  none-counted n z (s ∷ ss) = omega (arith, z s.gone_at s.byte, none-counted n z ss)

  module _ (date : ℕ) (u : Uart H W) (es : List (Event H W)) where
    pub departures-pass : passes_in (departures date u ++ es) ≡ passes_in es
    unfolding passes_in departures one_pass
    departures-pass = omega (
      arith,
      total-append one_pass (departures date u) es,
      none-counted one_pass (λ at b. refl)
          (take (gone date u.in_flight) u.in_flight),
    )

    pub departures-land : landings_in (departures date u ++ es) ≡ landings_in es
    unfolding departures
    departures-land = none-land (take (gone date u.in_flight) u.in_flight) es

    pub departures-lose : overflows_in (departures date u ++ es) ≡ overflows_in es
    unfolding overflows_in departures lost
    departures-lose = omega (
      arith,
      total-append lost (departures date u) es,
      none-counted lost (λ at b. refl)
          (take (gone date u.in_flight) u.in_flight),
    )

  -- ---- a pass loses at most one byte

  pub lost-low : (e : Event H W) → lost e ≤ one_pass e
  unfolding lost one_pass
  lost-low (departure at b) = omega arith
  lost-low (timeout at) = omega arith
  lost-low (landing at b Stored) = omega arith
  lost-low (landing at b Overflowed) = omega arith
  lost-low (landing at b Cleared) = omega arith
  lost-low (landing at b ClockOff) = omega arith
  lost-low (landing at b Unheard) = omega arith
  lost-low (nothing at) = omega arith

  pub overflows-low : (es : List (Event H W)) → overflows_in es ≤ passes_in es
  unfolding overflows_in passes_in total
  overflows-low [] = omega arith
  overflows-low (e ∷ es) = omega (arith, lost-low e, overflows-low es)

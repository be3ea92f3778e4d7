-- Looking for an offset that stands twice, offset by offset from the first on. Assumes nothing.
use Rattle.std.specs.Prelude.{◌≡◌, ℕ, suc, ◌+◌, ◌<◌, ◌≤◌, true, false, ◌||◌, List, length, get_or, drop}
use Rattle.std.proofs.Math.Path.{sym, ap}
use Rattle.std.proofs.Common.{◌∙◌, drop_of_length-le, drop-cons, eq-eqb, ne_eqb}
use Rattle.std.proofs.Math.Numerals.{add-one}
use Rattle.model.specs.Tests.{among, repeated}

module _ (i : ℕ) (os : List ℕ) (h : i < length os) where
  pub among-found : (o : ℕ) → get_or os i 0 ≡ o → true ≡ among o (drop i os)
  unfolding among
  among-found o e = sym (ap (among o) (drop-cons os i 0 h) ∙ ap (λ t. t || among o (drop (suc i) os)) (eq-eqb o (get_or os i 0) (sym e)))

  pub among-passed : (o : ℕ) → (get_or os i 0 ≡ o → ⊥) → among o (drop i os) ≡ among o (drop (i + 1) os)
  unfolding among
  among-passed o n =
      rw add-one (ap (among o) (drop-cons os i 0 h) ∙ ap (λ t. t || among o (drop (suc i) os)) (ne_eqb o (get_or os i 0) (λ e. n (sym e))))

  pub repeated-found : among (get_or os i 0) (drop (i + 1) os) ≡ true → true ≡ repeated (drop i os)
  unfolding repeated
  repeated-found e = sym (ap repeated (drop-cons os i 0 h) ∙ ap (λ t. t || repeated (drop (suc i) os)) (rw add-one at e))

  pub repeated-passed : among (get_or os i 0) (drop (i + 1) os) ≡ false → repeated (drop i os) ≡ repeated (drop (i + 1) os)
  unfolding repeated
  repeated-passed e = rw add-one (ap repeated (drop-cons os i 0 h) ∙ ap (λ t. t || repeated (drop (suc i) os)) (rw add-one at e))

module _ (i : ℕ) (os : List ℕ) (h : length os ≤ i) where
  pub among-end : (o : ℕ) → false ≡ among o (drop i os)
  unfolding among
  among-end o = sym (ap (among o) (drop_of_length-le os h))

  pub repeated-end : false ≡ repeated (drop i os)
  unfolding repeated
  repeated-end = sym (ap repeated (drop_of_length-le os h))

-- What has gone by an earlier date, and then by a later one, has gone by the later. Assumes nothing.
use Rattle.std.specs.Prelude.{◌≡◌, ℕ, zero, suc, ◌+◌, ◌-◌, ◌≤◌, ◌<◌, Bool, ◌&&◌, ◌||◌, leb, ltb, eqb, length, take, drop}
use Rattle.std.proofs.Math.Path.{refl, ap}
use Rattle.std.proofs.Common.{sym, ◌∙◌, length-drop, drop-drop, take-add}
use native.Mathlib.Omega.{arith}
use Rattle.std.proofs.Math.Bool.{true, false, or-false}
use mathlib.Core.List.{List, [], ◌∷◌, ◌++◌, map, append_assoc, map-append}
use borrow.Author.Tests.{leb-true, le-leb, lt-ltb, eqb-true, eqb-false}
use Rattle.model.specs.State.{Sent, Uart, line_of}
use Rattle.model.specs.Setters.{uart_from, with_int_raw, with_line}
use Rattle.model.specs.Events.{departure}
use Rattle.model.specs.Line.{TX-DONE, raise_if}
use Rattle.model.specs.Settle.{gone, tx_done, leave, depart, departures}
use Rattle.theorems.specs.TwoSteps.Raises.{raises, raises-free, raises-both}
use Rattle.theorems.specs.TwoSteps.Dressed.{Dress, dressed}

-- ---- how many have gone

split : Bool → ℕ → ℕ
split t n = elim t [ true ↦ suc n | false ↦ zero ]

gone-split : {W : Type 0} (date : ℕ) (s : Sent W) (ss : List (Sent W)) → gone date (s ∷ ss) ≡ split (leb s.gone_at date) (gone date ss)
unfolding gone split
gone-split date s ss = refl

module _ {W : Type 0} (a b : ℕ) (le : a ≤ b) where
  one_more : (s : Sent W) (ss : List (Sent W)) (t : Bool) → leb s.gone_at a ≡ t → gone b ss ≡ gone a ss + gone b (drop (gone a ss) ss)
      → gone b (s ∷ ss) ≡ split t (gone a ss) + gone b (drop (split t (gone a ss)) (s ∷ ss))
  unfolding split
  one_more s ss true e ih =
      gone-split b s ss ∙ ap (λ (t : Bool). split t (gone b ss)) (le-leb s.gone_at b (omega (arith, leb-true s.gone_at a e)))
      ∙ omega arith
  one_more s ss false e ih = omega arith

  gone-on : (fl : List (Sent W)) → gone b fl ≡ gone a fl + gone b (drop (gone a fl) fl)
  unfolding gone split
  gone-on [] = refl
  gone-on (s ∷ ss) = one_more s ss (leb s.gone_at a) refl (gone-on ss)

  module _ (fl : List (Sent W)) where
    gone-drop : drop (gone b (drop (gone a fl) fl)) (drop (gone a fl) fl) ≡ drop (gone b fl) fl
    gone-drop = drop-drop (gone b (drop (gone a fl) fl)) (gone a fl) fl ∙ ap (λ (k : ℕ). drop k fl) (sym (gone-on fl))

    -- those gone by `a` and then by `b`, whatever is made of them
    gone-take : {X : Type 0} (f : Sent W → X)
        → map f (take (gone a fl) fl) ++ map f (take (gone b (drop (gone a fl) fl)) (drop (gone a fl) fl)) ≡ map f (take (gone b fl) fl)
    gone-take f =
        sym (map-append f (take (gone a fl) fl) (take (gone b (drop (gone a fl) fl)) (drop (gone a fl) fl)))
        ∙ ap (map f) (sym (take-add (gone a fl) (gone b (drop (gone a fl) fl)) fl) ∙ ap (λ (k : ℕ). take k fl) (sym (gone-on fl)))

-- ---- TX_DONE

abbrev done : ℕ → ℕ → Bool
done before now = ltb 0 before && eqb now 0

positive : (k : ℕ) → (k ≡ 0 → ⊥) → 0 < k
positive k h = omega (arith, h)

done-some : (n p q : ℕ) → q ≤ p → p ≤ n → (t : Bool) → eqb p 0 ≡ t → (done n p || done p q) ≡ done n q
done-some n p q h l true e =
    let z : p ≡ 0 = eqb-true p 0 e in
    let y : q ≡ 0 = omega arith in
    rw (z, y) (or-false (done n 0))
done-some n p q h l false e =
    let z : 0 < p = positive p (eqb-false p 0 e) in
    rw (lt-ltb 0 n (omega arith), lt-ltb 0 p z, e)

-- some were in flight and none is, at one of two dates
done-twice : (n p q : ℕ) → q ≤ p → p ≤ n → (done n p || done p q) ≡ done n q
done-twice n p q h l = done-some n p q h l (eqb p 0) refl

-- ---- departures

-- nothing that the passes look at
abbrev pub departing : {W : Type 0} → ℕ → Dress W
departing date = record {
  flying = λ fl. drop (gone date fl) fl;
  sent = λ fl tx. tx ++ map (λ s. s.byte) (take (gone date fl) fl);
  level = λ l. l;
  raise = λ fl. raises (done (length fl) (length fl - gone date fl)) TX-DONE;
  free = λ fl. raises-free (done (length fl) (length fl - gone date fl)) TX-DONE;
}

module _ {H W : Type 0} where
  pub depart-dressed : (date : ℕ) (u : Uart H W) → depart date u ≡ dressed (departing date) u
  unfolding depart leave tx_done raise_if
  depart-dressed date u = refl

  module _ (a b : ℕ) (le : a ≤ b) (u : Uart H W) where
    -- those in flight, and those that the first settling leaves there
    abbrev flying : List (Sent W)
    flying = u.in_flight

    abbrev left : List (Sent W)
    left = drop (gone a flying) flying

    done_on : (raw : ℕ) → (departing b).raise left ((departing a).raise flying raw) ≡ (departing b).raise flying raw
    done_on raw =
        let n = length flying in
        let p = n - gone a flying in
        let less : p - gone b left ≡ n - gone b flying = omega (arith, gone-on a b le flying) in
        raises-both (done n p) (done (length left) (length left - gone b left)) TX-DONE raw
        ∙ ap (λ (t : Bool). raises t TX-DONE raw)
        (ap (λ (k : ℕ). done n p || done k (k - gone b left)) (length-drop (gone a flying) flying)
        ∙ done-twice n p (p - gone b left) (omega arith) (omega arith)
        ∙ ap (done n) less)

    sent-on : (departing b).sent left ((departing a).sent flying u.tx) ≡ (departing b).sent flying u.tx
    sent-on =
        append_assoc u.tx (map (λ s. s.byte) (take (gone a flying) flying)) (map (λ s. s.byte) (take (gone b left) left))
        ∙ ap (λ (l : List W). u.tx ++ l) (gone-take a b le flying (λ s. s.byte))

    -- leaving twice is leaving once
    pub depart-twice : depart b (depart a u) ≡ depart b u
    unfolding depart leave tx_done raise_if
    depart-twice =
        let raw = done_on (line_of u).int_raw in
        let fl = gone-drop a b le flying in
        λ i. uart_from u.map (with_line (with_int_raw (raw i) (line_of u)) u.control) (fl i) (sent-on i) u.host u.host_runs
        u.receiving u.rx

    pub departures-twice : departures a u ++ departures b (depart a u) ≡ departures b u
    unfolding departures depart leave
    departures-twice = gone-take a b le flying (λ s. departure s.gone_at s.byte)

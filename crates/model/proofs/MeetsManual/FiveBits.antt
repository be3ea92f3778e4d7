-- When each of the five bits of INT_RAW rises in a settling, as Manual.antt has it, in both directions; and no other bit changes.
-- Assumes nothing.
use Rattle.std.specs.Prelude.{◌≡◌, Bool, ◌&&◌, ltb, eqb, length, take}
use Rattle.std.proofs.Math.Path.{refl, sym, ap, ap₂}
use Rattle.std.proofs.Common.{◌∙◌, zero-add, arith, true≢false, lt-ltb}
use Prim.Native.Nat.{ℕ, zero, suc, ◌+◌, ◌-◌, ◌*◌}
use Rattle.std.proofs.Math.Bool.{true, false, ◌||◌, not, or-false, and-true, and-false, and-or_distrib_left}
use mathlib.Core.List.{List, [], ◌∷◌, ◌++◌, map}
use Rattle.model.specs.Manual
use Rattle.model.specs.Events.{Event, departure, timeout, landing, nothing, total, goes_on, lost, overflows_in}
use Rattle.model.specs.State.{Sent, Uart}
use Rattle.model.specs.Timing.{settings}
use Rattle.model.specs.Settle.{gone, leave, depart, departures, received, Pass, pass, passes_from, passes, pending, above_full}
use Rattle.model.specs.Settle.{below_empty, in_fifo, empty_threshold, leveled, settings_of, settle_to}
use Rattle.model.specs.Tests.{among}
use Rattle.model.proofs.Laws.Events.{departures-lose}
use Rattle.model.proofs.Keeps.Rest.{settle_to-words}
use Rattle.model.proofs.Ends.Passes.{Takes, pass-law}
use Rattle.model.proofs.MeetsManual.Rises.{raw_bit, raised_by, some_pass, done_in, passed_in, full_in, empty_in, settle_to-raises}
use Rattle.model.specs.declared.Words.{Words}
use Rattle.model.specs.declared.Settings.{Settings}
use Rattle.model.specs.declared.Fate.TheVariants.{Stored, Overflowed, Cleared, ClockOff, Unheard}

-- ---- some pass of a settling

module _ {H W : Type 0} (q : ℕ → Event H W → Bool) (s : Settings) (date : ℕ) where
  same-passes : (r : ℕ → Event H W → Bool) → ((held : ℕ) (f : Event H W) → q held f ≡ r held f) → (k : ℕ) (go : Bool) (u : Uart H W)
      → some_pass q s date k go u ≡ some_pass r s date k go u
  unfolding some_pass
  same-passes r h zero false u = refl
  same-passes r h zero true u = refl
  same-passes r h (suc k) false u = refl
  same-passes r h (suc k) true u = ap₂ ◌||◌ (h (length u.rx) (pass s date u).event) (same-passes r h k _ _)

  on-some-pass : (b : Bool) (k : ℕ) (go : Bool) (u : Uart H W)
      → some_pass (λ held f. b && q held f) s date k go u ≡ (b && some_pass q s date k go u)
  unfolding some_pass
  on-some-pass b zero false u = sym (and-false b)
  on-some-pass b zero true u = sym (and-false b)
  on-some-pass b (suc k) false u = sym (and-false b)
  on-some-pass b (suc k) true u =
      let p = pass s date u in
      ap (λ (t : Bool). (b && q (length u.rx) p.event) || t) (on-some-pass b k (goes_on p.event) p.state)
      ∙ sym (and-or_distrib_left b (q (length u.rx) p.event) (some_pass q s date k (goes_on p.event) p.state))

  no-pass : ((held : ℕ) (f : Event H W) → q held f ≡ false) → (k : ℕ) (go : Bool) (u : Uart H W) → some_pass q s date k go u ≡ false
  no-pass h k go u = same-passes (λ held f. false) h k go u ∙ on-some-pass false k go u

not-raised : {H W : Type 0} (s : Settings) (n held : ℕ) (f : Event H W) → eqb n 4 ≡ false → eqb n 8 ≡ false → raised_by s n held f ≡ false
unfolding raised_by
not-raised s n held (departure at x) a b = refl
not-raised s n held (timeout at) a b = ap (λ (t : Bool). t && (s.rx_tout_en && s.rx_sclk_en && ltb 0 held)) b
not-raised s n held (landing at x Stored) a b = refl
not-raised s n held (landing at x Overflowed) a b = ap (λ (t : Bool). t && not s.dis_rx_dat_ovf) a
not-raised s n held (landing at x Cleared) a b = refl
not-raised s n held (landing at x ClockOff) a b = refl
not-raised s n held (landing at x Unheard) a b = refl
not-raised s n held (nothing at) a b = refl

-- ---- RXFIFO_OVF: by the count of overflows

ltb-sum : (a b : ℕ) → ltb 0 (a + b) ≡ (ltb 0 a || ltb 0 b)
ltb-sum zero b = ap (ltb 0) (zero-add b)
ltb-sum (suc a) b = lt-ltb 0 (suc a + b) (omega arith) ∙ ap (λ (t : Bool). t || ltb 0 b) (sym (lt-ltb 0 (suc a) (omega arith)))

-- a pass overflowed
lossy : {H W : Type 0} → ℕ → Event H W → Bool
lossy held e = ltb 0 (lost e)

losses : {H W : Type 0} (s : Settings) (date k : ℕ) (go : Bool) (u : Uart H W)
    → ltb 0 (overflows_in (passes_from s date k go u).events) ≡ some_pass lossy s date k go u
unfolding passes_from some_pass lossy overflows_in total
losses s date zero false u = refl
losses s date zero true u = refl
losses s date (suc k) false u = refl
losses s date (suc k) true u =
    let p = pass s date u in
    ltb-sum (lost p.event) _ ∙ ap (λ (b : Bool). ltb 0 (lost p.event) || b) (losses s date k (goes_on p.event) p.state)

overflow-raises : {H W : Type 0} (s : Settings) (held : ℕ) (f : Event H W)
    → raised_by s 4 held f ≡ (not s.dis_rx_dat_ovf && lossy held f)
unfolding raised_by lossy lost
overflow-raises s held (departure at b) = sym (and-false (not s.dis_rx_dat_ovf))
overflow-raises s held (timeout at) = sym (and-false (not s.dis_rx_dat_ovf))
overflow-raises s held (landing at b Stored) = sym (and-false (not s.dis_rx_dat_ovf))
overflow-raises s held (landing at b Overflowed) = sym (and-true (not s.dis_rx_dat_ovf))
overflow-raises s held (landing at b Cleared) = sym (and-false (not s.dis_rx_dat_ovf))
overflow-raises s held (landing at b ClockOff) = sym (and-false (not s.dis_rx_dat_ovf))
overflow-raises s held (landing at b Unheard) = sym (and-false (not s.dis_rx_dat_ovf))
overflow-raises s held (nothing at) = sym (and-false (not s.dis_rx_dat_ovf))

-- ---- the five bits, and all others

neither : (a b : Bool) → (a || b) ≡ false → (a ≡ false) × (b ≡ false)
neither true b h = absurd (true≢false h)
neither false b h = (refl, h)

off : {a : Bool} (b : Bool) → a ≡ false → (a && b) ≡ false
off b e = ap (λ (t : Bool). t && b) e

-- ---- RXFIFO_TOUT: by the timeouts among the events

-- whether some timeout among events passes a test of how many bytes the receive FIFO then holds; `rx` is what it holds before them
unfoldable pub some_timeout : {H W : Type 0} → (ℕ → Bool) → List H → List (Event H W) → Bool
some_timeout q rx [] = false
some_timeout q rx (departure at b ∷ es) = some_timeout q rx es
some_timeout q rx (timeout at ∷ es) = q (length rx) || some_timeout q rx es
some_timeout q rx (landing at b f ∷ es) = some_timeout q (received f b rx) es
some_timeout q rx (nothing at ∷ es) = some_timeout q rx es

module _ {H W : Type 0} (q : ℕ → Bool) where
  pub no-timeout : ((held : ℕ) → q held ≡ false) → (rx : List H) (es : List (Event H W)) → some_timeout q rx es ≡ false
  unfolding some_timeout
  no-timeout z rx [] = refl
  no-timeout z rx (departure at b ∷ es) = no-timeout z rx es
  no-timeout z rx (timeout at ∷ es) = ap₂ ◌||◌ (z (length rx)) (no-timeout z rx es)
  no-timeout z rx (landing at b f ∷ es) = no-timeout z (received f b rx) es
  no-timeout z rx (nothing at ∷ es) = no-timeout z rx es

  departures-timeout : (rx : List H) (ss : List (Sent W)) (es : List (Event H W))
      → some_timeout q rx (map (λ s. departure s.gone_at s.byte) ss ++ es) ≡ some_timeout q rx es
  unfolding some_timeout
  departures-timeout rx [] es = refl
  departures-timeout rx (s ∷ ss) es = departures-timeout rx ss es

abbrev raises_tout : Words → ℕ → Bool
raises_tout w held = Manual.RXFIFO-TOUT w.conf1 w.clk_conf true held

module _ {H W : Type 0} (w : Words) (period date : ℕ) where
  -- what a pass found, and what the later ones found from where it led
  first-timeout : (u v : Uart H W) (e : Event H W) → Takes (settings w period) date u e v → (es : List (Event H W))
      → (raised_by (settings w period) 8 (length u.rx) e || some_timeout (raises_tout w) v.rx es)
      ≡ some_timeout (raises_tout w) u.rx (e ∷ es)
  unfolding raised_by some_timeout Manual.RXFIFO-TOUT settings
  first-timeout u v (departure at b) t es = absurd t
  first-timeout u v (timeout at) t es = ap (λ h. raises_tout w (length u.rx) || some_timeout (raises_tout w) h es) t.rx
  first-timeout u v (landing at b Stored) t es = ap (λ h. some_timeout (raises_tout w) h es) t.rx
  first-timeout u v (landing at b Overflowed) t es = ap (λ h. some_timeout (raises_tout w) h es) t.rx
  first-timeout u v (landing at b Cleared) t es = ap (λ h. some_timeout (raises_tout w) h es) t.rx
  first-timeout u v (landing at b ClockOff) t es = ap (λ h. some_timeout (raises_tout w) h es) t.rx
  first-timeout u v (landing at b Unheard) t es = ap (λ h. some_timeout (raises_tout w) h es) t.rx
  first-timeout u v (nothing at) t es = ap (λ h. some_timeout (raises_tout w) h es) t.rx

  passes-timeout : (k : ℕ) (go : Bool) (u : Uart H W) → some_pass (raised_by (settings w period) 8) (settings w period) date k go u
      ≡ some_timeout (raises_tout w) u.rx (passes_from (settings w period) date k go u).events
  unfolding some_pass passes_from some_timeout
  passes-timeout zero false u = refl
  passes-timeout zero true u = refl
  passes-timeout (suc k) false u = refl
  passes-timeout (suc k) true u =
      let p : Pass H W = pass (settings w period) date u in
      ap (λ (b : Bool). raised_by (settings w period) 8 (length u.rx) p.event || b)
      (passes-timeout k (goes_on p.event) p.state)
      ∙ first-timeout u p.state p.event (pass-law (settings w period) date u).takes
      (passes_from (settings w period) date k (goes_on p.event) p.state).events

-- from u a settling found es and came to v: a bit is set exactly when it was, or when what raises it came about
pub record FiveBits {H W : Type 0} (u : Uart H W) (es : List (Event H W)) (v : Uart H W) : Type 0 where
  pub full : raw_bit 0 v ≡ (raw_bit 0 u || Manual.RXFIFO-FULL u.control.words.conf1 (length v.rx))
  pub empty : raw_bit 1 v ≡ (raw_bit 1 u || Manual.TXFIFO-EMPTY u.control.words.conf1 (length v.in_flight - 1))
  pub ovf : raw_bit 4 v ≡ (raw_bit 4 u || Manual.RXFIFO-OVF u.control.words.conf1 (overflows_in es))
  pub tout : raw_bit 8 v
      ≡ (raw_bit 8 u || some_timeout (Manual.RXFIFO-TOUT u.control.words.conf1 u.control.words.clk_conf true) u.rx es)
  pub done : raw_bit 14 v ≡ (raw_bit 14 u || Manual.TX-DONE (length u.in_flight) (length v.in_flight))
  pub others : (n : ℕ) → among n (0 ∷ 1 ∷ 4 ∷ 8 ∷ 14 ∷ []) ≡ false → raw_bit n v ≡ raw_bit n u

module _ {H W : Type 0} (date : ℕ) (u : Uart H W) where
  abbrev after : Uart H W
  after = (settle_to date u).state

  no-pass-raises : (n : ℕ) → eqb n 4 ≡ false → eqb n 8 ≡ false → passed_in n date u ≡ false
  no-pass-raises n a b = no-pass (raised_by (settings_of u) n) (settings_of u) date (λ held f. not-raised (settings_of u) n held f a b) _
      true _

  overflows-raise : passed_in 4 date u ≡ Manual.RXFIFO-OVF u.control.words.conf1 (overflows_in (settle_to date u).events)
  unfolding Manual.RXFIFO-OVF settle_to leveled passes settings_of settings
  overflows-raise =
      let s : Settings = settings_of u in
      let k : ℕ = 2 * pending (depart date u) + 2 in
      same-passes (raised_by s 4) s date (λ held f. not s.dis_rx_dat_ovf && lossy held f) (overflow-raises s) k true (depart date u)
      ∙ on-some-pass lossy s date (not s.dis_rx_dat_ovf) k true (depart date u)
      ∙ ap (λ (b : Bool). not s.dis_rx_dat_ovf && b)
      (sym (ap (ltb 0) (departures-lose date u (passes_from s date k true (depart date u)).events) ∙ losses s date k true (depart date u)))

  timeouts-raise : passed_in 8 date u
      ≡ some_timeout (raises_tout u.control.words) u.rx (settle_to date u).events
  unfolding settle_to leveled passes depart leave departures settings_of
  timeouts-raise =
      passes-timeout u.control.words u.control.period date (2 * pending (depart date u) + 2) true (depart date u)
      ∙ sym (departures-timeout (raises_tout u.control.words) u.rx (take (gone date u.in_flight) u.in_flight)
      (passes_from (settings_of u) date (2 * pending (depart date u) + 2) true (depart date u)).events)

  -- the only part that bears on the bit
  only : (n : ℕ) {d p f e : Bool} → done_in n u after ≡ d → passed_in n date u ≡ p → full_in n after ≡ f → empty_in n after ≡ e
      → raw_bit n after ≡ (raw_bit n u || d || p || f || e)
  only n {d} {p} {f} {e} a b c g = settle_to-raises n date u ∙ (λ i. raw_bit n u || a i || b i || c i || g i)

  words_same : {A : Type 0} (g : Words → A) → g after.control.words ≡ g u.control.words
  words_same g = ap g (settle_to-words date u)

  other-bits : (n : ℕ) → among n (0 ∷ 1 ∷ 4 ∷ 8 ∷ 14 ∷ []) ≡ false → raw_bit n after ≡ raw_bit n u
  unfolding among
  other-bits n h =
      let (a, h₁) = neither (eqb n 0) _ h in
      let (b, h₂) = neither (eqb n 1) _ h₁ in
      let (c, h₃) = neither (eqb n 4) _ h₂ in
      let (d, h₄) = neither (eqb n 8) _ h₃ in
      let (e, _) = neither (eqb n 14) _ h₄ in
      let done : done_in n u after ≡ false = off _ e in
      let full : full_in n after ≡ false = off _ a in
      let empty : empty_in n after ≡ false = off _ b in
      only n done (no-pass-raises n c d) full empty ∙ simp or-false

  -- a settling raises each of the five bits exactly when the manual says
  pub settling-rises : FiveBits u (settle_to date u).events (settle_to date u).state
  unfolding Manual.RXFIFO-FULL Manual.TXFIFO-EMPTY Manual.TX-DONE above_full below_empty in_fifo empty_threshold among
  settling-rises = record {
    full =
        only 0 refl (no-pass-raises 0 refl refl) (words_same (λ (w : Words). above_full w.conf1 (length after.rx))) refl
        ∙ simp or-false;
    empty =
        only 1 refl (no-pass-raises 1 refl refl) refl (words_same (λ (w : Words). below_empty w.conf1 (length after.in_flight)))
        ∙ simp or-false;
    ovf = only 4 refl overflows-raise refl refl ∙ simp or-false;
    tout = only 8 refl timeouts-raise refl refl ∙ simp or-false;
    done = only 14 refl (no-pass-raises 14 refl refl) refl refl ∙ simp or-false;
    others = other-bits;
  }

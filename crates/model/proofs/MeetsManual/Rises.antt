-- Which bits of INT_RAW a settling raises, each exactly when; no bit falls and no other changes. Assumes nothing.
use Rattle.std.specs.Prelude.{◌≡◌, ℕ, zero, suc, ◌+◌, ◌*◌, Bool, true, false, ◌&&◌, ◌||◌, not, List, ltb, length}
use Rattle.std.proofs.Math.Path.{refl, ap}
use Rattle.std.proofs.Common.{sym, ◌∙◌, length-drop}
use Rattle.std.proofs.Math.Bool.{or-false, or_assoc, and-true, and-false}
use Rattle.std.proofs.Math.Option.{none}
use Rattle.std.proofs.Math.Dec.{eqb}
use Rattle.model.specs.Numbers.{choose, bit}
use Rattle.model.specs.State.{Sent, OnTheLine, Uart, line_of}
use Rattle.model.specs.Events.{Event, departure, timeout, landing, nothing, goes_on}
use Rattle.model.specs.Line.{RXFIFO-FULL, TXFIFO-EMPTY, RXFIFO-OVF, RXFIFO-TOUT, TX-DONE, raise_if, note_source, opened, time_out}
use Rattle.model.specs.Line.{start, land}
use Rattle.model.specs.Settle.{Pass, tx_done, leave, depart, gone, nothing_due, timed_out, landed, begun, pass}
use Rattle.model.specs.Settle.{passes_from, pending, passes, above_full, below_empty, levels, leveled, assert_levels, drive}
use Rattle.model.specs.Settle.{settings_of, settle_to}
use Rattle.model.proofs.Laws.Bits.{bit-raised}
use Rattle.model.proofs.Laws.Choose.{choose-ind}
use Rattle.model.proofs.Laws.Cases.{pass-cases}
use Rattle.model.proofs.Keeps.Rest.{settle_to-in_flight}
use Rattle.model.specs.declared.Line.{Line}
use Rattle.model.specs.declared.Frame.{Frame}
use Rattle.model.specs.declared.Settings.{Settings}
use Rattle.model.specs.declared.Fate.{Fate}
use Rattle.model.specs.declared.Fate.TheVariants.{Stored, Overflowed, Cleared, ClockOff, Unheard}

abbrev pub raw_bit : {H W : Type 0} → ℕ → Uart H W → Bool
raw_bit n u = bit n (line_of u).int_raw

-- ---- one bit raised

nothing-raised : (b : Bool) → b ≡ (b || false)
nothing-raised b = sym (or-false b)

none-raised : (b c : Bool) → b ≡ (b || (c && false))
none-raised b c = nothing-raised b ∙ ap (λ (t : Bool). b || t) (sym (and-false c))

pub raised : (n m : ℕ) (test : Bool) (l : Line) → bit n (raise_if test m l).int_raw ≡ (bit n l.int_raw || (eqb n m && test))
unfolding raise_if choose
raised n m true l = bit-raised n l.int_raw m ∙ ap (λ (t : Bool). bit n l.int_raw || t) (sym (and-true (eqb n m)))
raised n m false l = none-raised (bit n l.int_raw) (eqb n m)

-- ---- one pass

-- what a pass raises that found this, with so many bytes held
unfoldable pub raised_by : {H W : Type 0} → Settings → ℕ → ℕ → Event H W → Bool
raised_by s n held (departure at b) = false
raised_by s n held (timeout at) = eqb n RXFIFO-TOUT && (s.rx_tout_en && s.rx_sclk_en && ltb 0 held)
raised_by s n held (landing at b Stored) = false
raised_by s n held (landing at b Overflowed) = eqb n RXFIFO-OVF && not s.dis_rx_dat_ovf
raised_by s n held (landing at b Cleared) = false
raised_by s n held (landing at b ClockOff) = false
raised_by s n held (landing at b Unheard) = false
raised_by s n held (nothing at) = false

-- the same under one more test
raise-when : (n m : ℕ) (b test : Bool) (l k : Line) → l.int_raw ≡ k.int_raw
    → bit n (choose b (raise_if test m l) k).int_raw ≡ (bit n k.int_raw || (eqb n m && (b && test)))
unfolding choose
raise-when n m true test l k e = raised n m test l ∙ ap (λ (w : ℕ). bit n w || (eqb n m && test)) e
raise-when n m false test l k e = none-raised (bit n k.int_raw) (eqb n m)

module _ (s : Settings) (n : ℕ) where
  time_out-bit : (held : ℕ) (l : Line) → bit n (time_out s held l).int_raw
      ≡ (bit n l.int_raw || (eqb n RXFIFO-TOUT && (s.rx_tout_en && s.rx_sclk_en && ltb 0 held)))
  unfolding time_out note_source
  time_out-bit held l = raise-when n RXFIFO-TOUT (s.rx_tout_en && s.rx_sclk_en) (ltb 0 held) _ _ refl

  land-bit : {H : Type 0} (W : Type 0) (held at : ℕ) (b : H) (f : Fate) (g : Frame) (l : Line)
      → bit n (land s f g l).int_raw ≡ (bit n l.int_raw || raised_by {W = W} s n held (landing at b f))
  unfolding land opened note_source raised_by
  land-bit W held at b Stored g l = nothing-raised _
  land-bit W held at b Overflowed g l = raised n RXFIFO-OVF (not s.dis_rx_dat_ovf) l
  land-bit W held at b Cleared g l = nothing-raised _
  land-bit W held at b ClockOff g l = nothing-raised _
  land-bit W held at b Unheard g l = nothing-raised _

  start-raw : (at : ℕ) (l : Line) → (start s at l).int_raw ≡ l.int_raw
  unfolding start note_source
  start-raw at l = choose-ind (λ (k : Line). k.int_raw ≡ l.int_raw) s.rx_sclk_en (λ _. refl) (λ _. refl)

  module _ {H W : Type 0} where
    -- a pass raises what it found says, seen from a state with the same INT_RAW and as many bytes held
    Raises : Uart H W → Pass H W → Type 0
    Raises u p = raw_bit n p.state ≡ (raw_bit n u || raised_by s n (length u.rx) p.event)

    nothing_due-raises : (date : ℕ) (u : Uart H W) → Raises u (nothing_due date u)
    unfolding Raises nothing_due raised_by
    nothing_due-raises date u = nothing-raised _

    timed_out-raises : (u : Uart H W) → Raises u (timed_out s u)
    unfolding Raises timed_out raised_by
    timed_out-raises u = time_out-bit (length u.rx) (line_of u)

    landed-raises : (u : Uart H W) (f : Fate) (l : OnTheLine H) → Raises u (landed s f l u)
    unfolding Raises landed
    landed-raises u f l = land-bit W (length u.rx) (line_of u).line_free_at l.byte f l.frame (line_of u)

    begun-raises : (u : Uart H W) (at : ℕ) (b : H) (bs : List H) (p : Pass H W) → u.receiving ≡ none → Raises (begun s at b bs u) p
        → Raises u p
    unfolding Raises begun
    begun-raises u at b bs p _ h = h ∙ ap (λ (w : ℕ). bit n w || raised_by s n (length u.rx) p.event) (start-raw at (line_of u))

    -- a pass raises RXFIFO_TOUT or RXFIFO_OVF as it found, and changes no other bit
    pub pass-raises : (date : ℕ) (u : Uart H W) → raw_bit n (pass s date u).state
        ≡ (raw_bit n u || raised_by s n (length u.rx) (pass s date u).event)
    unfolding Raises
    pass-raises date =
        pass-cases s date Raises (λ u _. timed_out-raises u) (nothing_due-raises date) (λ u l _. landed-raises u _ l)
        (λ u r rs b bs p e _ _. begun-raises u _ b bs p e)

-- ---- the passes of a settling

module _ {H W : Type 0} (q : ℕ → Event H W → Bool) (s : Settings) (date : ℕ) where
  -- some of at most `k` passes found what `q` tests, given the bytes held before it
  unfoldable pub some_pass : ℕ → Bool → Uart H W → Bool
  some_pass zero false u = false
  some_pass zero true u = false
  some_pass (suc k) false u = false
  some_pass (suc k) true u = q (length u.rx) (pass s date u).event || some_pass k (goes_on (pass s date u).event) (pass s date u).state

either-again : (a b c : Bool) {x y : Bool} → x ≡ (a || b) → y ≡ (x || c) → y ≡ (a || (b || c))
either-again a b c e f = f ∙ ap (λ (t : Bool). t || c) e ∙ or_assoc a b c

passes_from-raises : {H W : Type 0} (s : Settings) (n date k : ℕ) (go : Bool) (u : Uart H W)
    → raw_bit n (passes_from s date k go u).state ≡ (raw_bit n u || some_pass (raised_by s n) s date k go u)
unfolding passes_from some_pass
passes_from-raises s n date zero false u = nothing-raised _
passes_from-raises s n date zero true u = nothing-raised _
passes_from-raises s n date (suc k) false u = nothing-raised _
passes_from-raises s n date (suc k) true u =
    let p = pass s date u in
    either-again (raw_bit n u) (raised_by s n (length u.rx) p.event) (some_pass (raised_by s n) s date k (goes_on p.event) p.state)
    (pass-raises s n date u) (passes_from-raises s n date k (goes_on p.event) p.state)

-- ---- departures, levels, and the whole settling

module _ {H W : Type 0} (n : ℕ) where
  -- TX_DONE, where bytes were in flight and none is
  abbrev pub done_in : Uart H W → Uart H W → Bool
  done_in u v = eqb n TX-DONE && (ltb 0 (length u.in_flight) && eqb (length v.in_flight) 0)

  -- the two levels
  abbrev pub full_in : Uart H W → Bool
  full_in v = eqb n RXFIFO-FULL && above_full v.control.words.conf1 (length v.rx)

  abbrev pub empty_in : Uart H W → Bool
  empty_in v = eqb n TXFIFO-EMPTY && below_empty v.control.words.conf1 (length v.in_flight)

  depart-raises : (date : ℕ) (u : Uart H W) → raw_bit n (depart date u) ≡ (raw_bit n u || done_in u (depart date u))
  unfolding depart leave tx_done
  depart-raises date u =
      raised n TX-DONE _ (line_of u)
      ∙ ap (λ (k : ℕ). raw_bit n u || (eqb n TX-DONE && (ltb 0 (length u.in_flight) && eqb k 0)))
      (sym (length-drop (gone date u.in_flight) u.in_flight))

  pub levels-raise : (u : Uart H W) → raw_bit n (levels u) ≡ (raw_bit n u || full_in u || empty_in u)
  unfolding levels drive assert_levels
  levels-raise u = raised n TXFIFO-EMPTY _ _ ∙ ap (λ (b : Bool). b || empty_in u) (raised n RXFIFO-FULL _ (line_of u))

  -- a pass of the settling raised the bit
  abbrev pub passed_in : ℕ → Uart H W → Bool
  passed_in date u = some_pass (raised_by (settings_of u) n) (settings_of u) date (2 * pending (depart date u) + 2) true (depart date u)

in-turn : (x d p f e : Bool) {y z w : Bool} → y ≡ (x || d) → z ≡ (y || p) → w ≡ (z || f || e) → w ≡ (x || d || p || f || e)
in-turn x d p f e a b c = c ∙ ap (λ (t : Bool). t || f || e) (b ∙ ap (λ (t : Bool). t || p) a)

-- what one settling does to each bit of INT_RAW, in the order of its parts
pub settle_to-raises : {H W : Type 0} (n date : ℕ) (u : Uart H W) → let v : Uart H W = (settle_to date u).state in
    raw_bit n v ≡ (raw_bit n u || done_in n u v || passed_in n date u || full_in n v || empty_in n v)
unfolding settle_to leveled passes levels drive assert_levels
settle_to-raises n date u =
    let v : Uart _ _ = (settle_to date u).state in
    in-turn (raw_bit n u) (done_in n u v) (passed_in n date u) (full_in n v) (empty_in n v)
    (depart-raises n date u ∙ ap (λ (l : List (Sent _)). raw_bit n u
    || (eqb n TX-DONE && (ltb 0 (length u.in_flight) && eqb (length l) 0))) (sym (settle_to-in_flight date u)))
    (passes_from-raises (settings_of u) n date (2 * pending (depart date u) + 2) true (depart date u))
    (levels-raise n (passes (settings_of u) date (depart date u)).state)

-- A place is a register of the definition, and an offset is looked up place by place from the first on. Assumes nothing.
use Rattle.std.specs.Prelude.{◌≡◌, refl, ℕ, suc, ◌+◌, ◌<◌, ◌≤◌, List, [], ◌∷◌, length, get_or, drop}
use Rattle.std.proofs.Math.Path.{sym}
use Rattle.std.proofs.Common.{ap, ap₂, ◌∙◌, drop_of_length-le, drop-cons, eq-eqb, ne_eqb}
use Rattle.std.proofs.Math.Numerals.{add-one}
use Rattle.std.proofs.Math.ListN.{get_or-map}
use Rattle.model.proofs.Laws.Choose.{choose-true, choose-false}
use Rattle.model.specs.Map.{Word, Shown, Register, fifo, int_clr, unknown, shown, stored, registers, register_among}
use Rattle.registers.specs.declared.places.Place.{Place}
use Rattle.registers.specs.declared.places.Place.TheVariants.{Fifo, IntRaw, IntSt, IntEna, IntClr, Clkdiv, Status, FsmStatus, Conf0}
use Rattle.registers.specs.declared.places.Place.TheVariants.{Conf1, ClkConf}
use Rattle.registers.specs.declared.places.Place.TheVariants.{IdleConf, Rs485Conf, AtCmdChar, MemConf, MemRxStatus, Unknown}

-- the places in the order of set-up
abbrev pub places : List Place
places =
    Fifo ∷ IntRaw ∷ IntSt ∷ IntEna ∷ IntClr ∷ Clkdiv ∷ Status ∷ FsmStatus ∷ Conf0 ∷ Conf1 ∷ ClkConf ∷ IdleConf ∷ Rs485Conf ∷ AtCmdChar
    ∷ MemConf ∷ MemRxStatus ∷ []

-- the register at a place
unfoldable pub register_at : Place → Register
register_at Fifo = fifo
register_at IntRaw = shown Shown.int_raw
register_at IntSt = shown Shown.int_st
register_at IntEna = stored Word.int_ena
register_at IntClr = int_clr
register_at Clkdiv = stored Word.clkdiv
register_at Status = shown Shown.status
register_at FsmStatus = shown Shown.fsm_status
register_at Conf0 = stored Word.conf0
register_at Conf1 = stored Word.conf1
register_at ClkConf = stored Word.clk_conf
register_at IdleConf = stored Word.idle_conf
register_at Rs485Conf = stored Word.rs485_conf
register_at AtCmdChar = stored Word.at_cmd_char
register_at MemConf = stored Word.mem_conf
register_at MemRxStatus = shown Shown.mem_rx_status
register_at Unknown = unknown

-- ---- an offset looked up

-- what stands at a place of a list does not depend on what is given past its end
any-default : {A : Type 0} (l : List A) (i : ℕ) (d e : A) → i < length l → get_or l i d ≡ get_or l i e
any-default l i d e h =
    let a : drop i l ≡ get_or l i d ∷ drop (suc i) l = drop-cons l i d h in
    let b : drop i l ≡ get_or l i e ∷ drop (suc i) l = drop-cons l i e h in
    cc

pub nth-register : (i : ℕ) (d : Place) → i < 16 → register_at (get_or places i d) ≡ get_or registers i unknown
unfolding register_at
nth-register i d h = ap register_at (any-default places i d Unknown h) ∙ sym (get_or-map register_at places i Unknown)

-- the register among those from the `i`th on
abbrev pub register_from : ℕ → ℕ → List ℕ → List Register → Register
register_from i offset os rs = register_among offset (drop i os) (drop i rs)

module _ (i offset : ℕ) (os : List ℕ) (rs : List Register) (h : i < length os) (l : i < length rs) where
  at_register : register_from i offset os rs
      ≡ register_among offset (get_or os i 0 ∷ drop (suc i) os) (get_or rs i unknown ∷ drop (suc i) rs)
  at_register = ap₂ (register_among offset) (drop-cons os i 0 h) (drop-cons rs i unknown l)

  pub register-found : get_or os i 0 ≡ offset → get_or rs i unknown ≡ register_from i offset os rs
  unfolding register_among
  register-found e = sym (at_register ∙ choose-true _ _ (eq-eqb offset (get_or os i 0) (sym e)))

  pub register-passed : (get_or os i 0 ≡ offset → ⊥) → register_from i offset os rs ≡ register_from (i + 1) offset os rs
  unfolding register_among
  register-passed n = rw add-one (at_register ∙ choose-false _ _ (ne_eqb offset (get_or os i 0) (λ e. n (sym e))))

register-missing : (offset : ℕ) (os : List ℕ) → register_among offset os [] ≡ unknown
unfolding register_among
register-missing offset [] = refl
register-missing offset (o ∷ os) = refl

pub register-end : (i offset : ℕ) (os : List ℕ) (rs : List Register) → length rs ≤ i → unknown ≡ register_from i offset os rs
register-end i offset os rs h =
    sym (ap (register_among offset (drop i os)) (drop_of_length-le rs h) ∙ register-missing offset (drop i os))

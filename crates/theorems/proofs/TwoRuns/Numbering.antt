-- A list with the numbers of its bytes in their place: the bytes looked up give the list back, and alike lists have one
-- numbering. Assumes nothing.
use Rattle.std.specs.Prelude.{◌≡◌, ℕ, zero, suc, ◌+◌, ◌%◌, Bool, get_or, drop}
use Rattle.std.proofs.Math.Path.{refl, sym, ap, ap₂}
use Rattle.std.proofs.Common.{◌∙◌, add-zero, suc-ne-zero, get_or-drop, drop-drop, eq-eqb}
use Rattle.std.proofs.Math.Nat.{suc_inj}
use Rattle.std.proofs.Math.Bool.{true, false, decide}
use mathlib.Core.List.{List, [], ◌∷◌, ◌++◌, map, flat_map, map-id}
use Rattle.std.proofs.Math.Dec.{eqb}
use Rattle.std.proofs.Math.ListN.{length}
use Rattle.std.proofs.Math.Seq.{drop-append_seam}
use Rattle.model.specs.Numbers.{choose}
use Rattle.model.specs.Map.{Register, is_fifo, register_among, register_of}
use Rattle.model.proofs.Laws.Choose.{choose-true, choose-false}
use Rattle.model.proofs.Laws.Lists.{flat_map-map}
use Rattle.model.proofs.Refuses.FifoPlace.{after_first}
use Rattle.model.specs.Call.{Dated, Undated, Call, Written, Request, given, host_of, Asked, Ask}
use Rattle.model.proofs.Laws.Placed.{Put, Placed, changed_dated, changed_undated, changed, changed_asked, put_at, placed, placed_asked}
use Rattle.theorems.specs.TwoRuns.Alike.{Each, Alike, same, host_bytes, fifo_word, lent_to_take_tx, lent_to_take_written, AskedAlike}
use Rattle.theorems.specs.TwoRuns.Alike.{given_by, host_given, fifo_given}
use Rattle.theorems.specs.TwoRuns.Renamed.{itself, forget}
use Rattle.theorems.specs.TwoRuns.NaturalCalls.{map_put, map_placed}
use Rattle.theorems.specs.TwoRuns.NaturalRuns.{map_asked}

abbrev pub writes_of : {R X H L : Type 0} → Call R X H L → List X
writes_of c = (given c).1

-- ---- laws of a call with other parts

module _ {R X X' X'' H H' H'' L L' L'' : Type 0} (x : X → X') (h : List H → List H') (l : List L → List L')
    (x' : X' → X'') (h' : List H' → List H'') (l' : List L' → List L'') (x'' : X → X'') (h'' : List H → List H'') (l'' : List L → List L'')
  where
    -- two changes are one where they are on what the call writes, gives and lends
    pub changed-twice : (c : Call R X H L) → ((a : X) → writes_of c ≡ a ∷ [] → x' (x a) ≡ x'' a) → h' (h (host_of c)) ≡ h'' (host_of c)
        → ((bs : List L) → l' (l bs) ≡ l'' bs)
        → changed itself x' h' l' (changed itself x h l c) ≡ changed itself x'' h'' l'' c
    unfolding changed changed_dated changed_undated given
    changed-twice (Call.at now (Dated.read a)) p q s = refl
    changed-twice (Call.at now (Dated.write a)) p q s = ap (λ b. Call.at now (Dated.write b)) (p a refl)
    changed-twice (Call.at now (Dated.receive date bs)) p q s = ap (λ b. Call.at now (Dated.receive date b)) q
    changed-twice (Call.at now (Dated.take_tx lent)) p q s = ap (λ b. Call.at now (Dated.take_tx b)) (s lent)
    changed-twice (Call.at now (Dated.machine m)) p q s = refl
    changed-twice (Call.undated (Undated.take_written lent)) p q s = ap (λ b. Call.undated (Undated.take_written b)) (s lent)
    changed-twice (Call.undated Undated.has_left) p q s = refl
    changed-twice (Call.undated Undated.host_pending) p q s = refl

module _ {R R' X X' H L : Type 0} (r : R → R') (x : X → X') where
  host-kept : (c : Call R X H L) → host_of (changed r x itself itself c) ≡ host_of c
  unfolding changed changed_dated changed_undated given
  host-kept (Call.at now (Dated.read a)) = refl
  host-kept (Call.at now (Dated.write a)) = refl
  host-kept (Call.at now (Dated.receive date bs)) = refl
  host-kept (Call.at now (Dated.take_tx lent)) = refl
  host-kept (Call.at now (Dated.machine m)) = refl
  host-kept (Call.undated c) = refl

  writes-changed : (c : Call R X H L) → writes_of (changed r x itself itself c) ≡ map x (writes_of c)
  unfolding changed changed_dated changed_undated given
  writes-changed (Call.at now (Dated.read a)) = refl
  writes-changed (Call.at now (Dated.write a)) = refl
  writes-changed (Call.at now (Dated.receive date bs)) = refl
  writes-changed (Call.at now (Dated.take_tx lent)) = refl
  writes-changed (Call.at now (Dated.machine m)) = refl
  writes-changed (Call.undated c) = refl

-- ---- FIFO and the other registers

module _ (fifo : ℕ) (others : List ℕ) where
  pub other_place : (o : ℕ) → eqb o fifo ≡ false → is_fifo (register_of (fifo ∷ others) o) ≡ false
  unfolding register_of register_among
  other_place o e = ap is_fifo (choose-false _ _ e) ∙ after_first o others

  pub fifo-place : (o : ℕ) → eqb o fifo ≡ true → register_of (fifo ∷ others) o ≡ Register.fifo
  unfolding register_of register_among
  fifo-place o e = choose-true _ _ e

-- ---- the numbered list

unfoldable pub put_of : {W : Type 0} → Put W → List W
put_of (Put.byte b) = b ∷ []
put_of (Put.word p v) = []

unfoldable pub written_of : {H W L : Type 0} → Placed H W L → List W
written_of c = flat_map put_of (writes_of c)

-- so many numbers, from n on
unfoldable pub up_from : ℕ → ℕ → List ℕ
up_from n zero = []
up_from n (suc k) = n ∷ up_from (n + 1) k

-- a call whose first host byte has the number h and whose FIFO write has the number w
unfoldable pub numbered : {H W L : Type 0} → ℕ → ℕ → Placed H W L → Placed ℕ ℕ (Unit {0})
numbered h w c = changed itself (map_put (λ b. w)) (λ bs. up_from h (length bs)) (map forget) c

-- so many numbers for a row
abbrev pub numbered_asked : {H W L : Type 0} → ℕ → ℕ → Asked (Placed H W L) W → Asked (Placed ℕ ℕ (Unit {0})) ℕ
numbered_asked h w a = changed_asked (numbered h w) (λ bs. up_from w (length bs)) a

-- the bytes that are given
abbrev pub host_in : {H W L : Type 0} → Asked (Placed H W L) W → List H
host_in a = given_by host_of (λ bs. []) a

abbrev pub written_in : {H W L : Type 0} → Asked (Placed H W L) W → List W
written_in a = given_by written_of (λ bs. bs) a

unfoldable pub number : {H W L : Type 0} → ℕ → ℕ → List (Asked (Placed H W L) W) → List (Asked (Placed ℕ ℕ (Unit {0})) ℕ)
number h w [] = []
number h w (a ∷ cs) = numbered_asked h w a ∷ number (h + length (host_in a)) (w + length (written_in a)) cs

-- ---- the bytes of a caller's list are those of the placed one

pub host-of-placed : (offsets : List ℕ) (a : Ask) → host_in (placed_asked offsets a) ≡ host_given a
unfolding placed given_by changed_asked
host-of-placed offsets (Asked.call c) = host-kept _ _ c
host-of-placed offsets (Asked.row now bs) = refl

pub host-placed : (offsets : List ℕ) (cs : List Ask) → flat_map host_in (map (placed_asked offsets) cs) ≡ flat_map host_given cs
host-placed offsets cs = flat_map-map host_in (placed_asked offsets) host_given (host-of-placed offsets) cs

module _ (fifo : ℕ) (others : List ℕ) where
  put-placed : (x : Written) → put_of (put_at (register_of (fifo ∷ others) x.offset) x.value)
      ≡ choose (eqb x.offset fifo) (x.value % 256 ∷ []) []
  unfolding choose put_of put_at decide
  put-placed x = go (eqb x.offset fifo) refl
    where
      go : (b : Bool) → eqb x.offset fifo ≡ b → put_of (put_at (register_of (fifo ∷ others) x.offset) x.value)
          ≡ choose b (x.value % 256 ∷ []) []
      go true e = ap (λ p. put_of (put_at p x.value)) (fifo-place fifo others x.offset e)
      go false e = ap put_of (choose-false _ _ (other_place fifo others x.offset e))

  pub written-of-placed : (a : Ask) → written_in (placed_asked (fifo ∷ others) a) ≡ fifo_given fifo a
  unfolding written_of placed given_by changed_asked
  written-of-placed (Asked.call c) = ap (flat_map put_of) (writes-changed _ _ c) ∙ flat_map-map put_of _ _ put-placed (writes_of c)
  written-of-placed (Asked.row now bs) = refl

  pub written-placed : (cs : List Ask) → flat_map written_in (map (placed_asked (fifo ∷ others)) cs) ≡ flat_map (fifo_given fifo) cs
  written-placed cs = flat_map-map written_in (placed_asked (fifo ∷ others)) _ written-of-placed cs

-- ---- the bytes looked up by their numbers give the list back

module _ {A : Type 0} (d : A) (all : List A) where
  pub head-back : (n : ℕ) (b : A) (rest : List A) → drop n all ≡ b ∷ rest → get_or all n d ≡ b
  head-back n b rest e = ap (λ k. get_or all k d) (sym (add-zero n)) ∙ sym (get_or-drop n all 0 d) ∙ ap (λ l. get_or l 0 d) e

  pub up_from-back : (n : ℕ) (bs rest : List A) → drop n all ≡ bs ++ rest → map (λ k. get_or all k d) (up_from n (length bs)) ≡ bs
  unfolding up_from
  up_from-back n [] rest e = refl
  up_from-back n (b ∷ bs) rest e =
      ap₂ (λ x t. x ∷ t) (head-back n b (bs ++ rest) e) (up_from-back (n + 1) bs rest (sym (drop-drop 1 n all) ∙ ap (drop 1) e))

  pub past : (n : ℕ) (bs rest : List A) → drop n all ≡ bs ++ rest → drop (n + length bs) all ≡ rest
  past n bs rest e = sym (drop-drop (length bs) n all) ∙ ap (drop (length bs)) e ∙ drop-append_seam bs rest

  put_back : (n : ℕ) (x : Put A) (rest : List A) → drop n all ≡ flat_map put_of (x ∷ []) ++ rest
      → map_put (λ k. get_or all k d) (map_put (λ b. n) x) ≡ map_put itself x
  unfolding flat_map put_of map_put
  put_back n (Put.byte b) rest e = ap Put.byte (head-back n b rest e)
  put_back n (Put.word p v) rest e = refl

module _ {H W L : Type 0} (d : H) (e : W) (hs : List H) (ws : List W) where
  -- of the lent bytes only their count stays
  call_back : (n m : ℕ) (c : Placed H W L) (h : List H) (w : List W) → drop n hs ≡ host_of c ++ h → drop m ws ≡ written_of c ++ w
      → map_placed (λ k. get_or hs k d) (λ k. get_or ws k e) itself (numbered n m c) ≡ map_placed itself itself forget c
  unfolding map_placed numbered written_of
  call_back n m c h w p q =
      changed-twice _ _ _ _ _ _ _ _ _ c
      (λ x r. put_back e ws m x w (q ∙ ap (λ l. flat_map put_of l ++ w) r))
      (up_from-back d hs n (host_of c) h p ∙ sym (map-id (host_of c)))
      (λ l. map-id (map forget l))

  pub asked-back : (n m : ℕ) (a : Asked (Placed H W L) W) (h : List H) (w : List W) → drop n hs ≡ host_in a ++ h
      → drop m ws ≡ written_in a ++ w
      → map_asked (λ k. get_or hs k d) (λ k. get_or ws k e) itself (numbered_asked n m a) ≡ map_asked itself itself forget a
  unfolding given_by changed_asked
  asked-back n m (Asked.call c) h w p q = ap Asked.call (call_back n m c h w p q)
  asked-back n m (Asked.row now bs) h w p q = ap (Asked.row now) (up_from-back e ws m bs w q ∙ sym (map-id bs))

  pub asks_back : (n m : ℕ) (cs : List (Asked (Placed H W L) W)) → drop n hs ≡ flat_map host_in cs → drop m ws ≡ flat_map written_in cs
      → map (map_asked (λ k. get_or hs k d) (λ k. get_or ws k e) itself) (number n m cs) ≡ map (map_asked itself itself forget) cs
  unfolding number flat_map
  asks_back n m [] p q = refl
  asks_back n m (a ∷ cs) p q =
      ap₂ (λ x t. x ∷ t) (asked-back n m a (flat_map host_in cs) (flat_map written_in cs) p q)
      (asks_back (n + length (host_in a)) (m + length (written_in a)) cs (past d hs n (host_in a) (flat_map host_in cs) p)
      (past e ws m (written_in a) (flat_map written_in cs) q))

-- ---- alike lists have one numbering

pub forget-alike : (s t : List ℕ) → length s ≡ length t → map forget s ≡ map forget t
unfolding forget
forget-alike [] [] e = refl
forget-alike [] (b ∷ t) e = absurd (suc-ne-zero _ (sym e))
forget-alike (a ∷ s) [] e = absurd (suc-ne-zero _ e)
forget-alike (a ∷ s) (b ∷ t) e = ap (λ r. tt ∷ r) (forget-alike s t (suc_inj e))

module _ (fifo : ℕ) (others : List ℕ) where
  -- at FIFO's offset every word becomes a byte
  put-fifo : (v : ℕ) → put_at (register_of (fifo ∷ others) fifo) v ≡ Put.byte (v % 256)
  unfolding put_at decide choose
  put-fifo v = ap (λ p. put_at p v) (fifo-place fifo others fifo (eq-eqb fifo fifo refl))

  module _ (h w : ℕ) where
    call-alike : {c d : Request} → Alike fifo c d → numbered h w (placed (fifo ∷ others) c) ≡ numbered h w (placed (fifo ∷ others) d)
    unfolding numbered placed changed changed_dated changed_undated map_put
    call-alike same = refl
    call-alike (host_bytes {now = now} {at = at} e) = ap (λ k. Call.at now (Dated.receive at (up_from h k))) e
    call-alike (fifo_word {now = now} {v = v} {v' = v'}) =
        ap (λ x. Call.at now (Dated.write (map_put (λ b. w) x))) (put-fifo v)
        ∙ ap (λ x. Call.at now (Dated.write (map_put (λ b. w) x))) (sym (put-fifo v'))
    call-alike (lent_to_take_tx {now = now} {lent = l} {lent' = l'} e) = ap (λ b. Call.at now (Dated.take_tx b)) (forget-alike l l' e)
    call-alike (lent_to_take_written {lent = l} {lent' = l'} e) = ap (λ b. Call.undated (Undated.take_written b)) (forget-alike l l' e)

  host-alike : {c d : Request} → Alike fifo c d → length (host_of (placed (fifo ∷ others) c)) ≡ length (host_of (placed (fifo ∷ others) d))
  unfolding placed changed changed_dated given
  host-alike same = refl
  host-alike (host_bytes e) = e
  host-alike fifo_word = refl
  host-alike (lent_to_take_tx e) = refl
  host-alike (lent_to_take_written e) = refl

  written-alike : {c d : Request} → Alike fifo c d
      → length (written_of (placed (fifo ∷ others) c)) ≡ length (written_of (placed (fifo ∷ others) d))
  unfolding written_of placed changed changed_dated given flat_map put_of
  written-alike same = refl
  written-alike (host_bytes e) = refl
  written-alike (fifo_word {v = v} {v' = v'}) =
      ap (λ x. length (put_of x ++ [])) (put-fifo v) ∙ ap (λ x. length (put_of x ++ [])) (sym (put-fifo v'))
  written-alike (lent_to_take_tx e) = refl
  written-alike (lent_to_take_written e) = refl

  module _ (h w : ℕ) where
    pub asked-alike : {a b : Ask} → AskedAlike (Alike fifo) a b
        → numbered_asked h w (placed_asked (fifo ∷ others) a) ≡ numbered_asked h w (placed_asked (fifo ∷ others) b)
    unfolding changed_asked
    asked-alike (AskedAlike.call e) = ap Asked.call (call-alike h w e)
    asked-alike (AskedAlike.row {now = now} e) = ap (λ (k : ℕ). Asked.row now (up_from w k)) e

  pub given-alike : {a b : Ask} → AskedAlike (Alike fifo) a b
      → (length (host_in (placed_asked (fifo ∷ others) a)) ≡ length (host_in (placed_asked (fifo ∷ others) b)))
      × (length (written_in (placed_asked (fifo ∷ others) a)) ≡ length (written_in (placed_asked (fifo ∷ others) b)))
  unfolding changed_asked given_by
  given-alike (AskedAlike.call e) = (host-alike e, written-alike e)
  given-alike (AskedAlike.row e) = (refl, e)

  -- lists that are alike are one list with numbers
  pub asks-alike : (h w : ℕ) {cs bs : List Ask} → Each (AskedAlike (Alike fifo)) cs bs
      → number h w (map (placed_asked (fifo ∷ others)) cs) ≡ number h w (map (placed_asked (fifo ∷ others)) bs)
  unfolding number
  asks-alike h w Each.nil = refl
  asks-alike h w (Each.cons {a = a} {m = bs} e es) =
      ap₂ (λ x t. x ∷ t) (asked-alike h w e)
      (asks-alike (h + length (host_in (placed_asked (fifo ∷ others) a))) (w + length (written_in (placed_asked (fifo ∷ others) a))) es
      ∙ ap₂ (λ k l. number (h + k) (w + l) (map (placed_asked (fifo ∷ others)) bs)) (given-alike e).0 (given-alike e).1)

-- Each number in an answer is below the count of bytes given by then. By naturality: a renaming of numbers that keeps those
-- given keeps the answer, so no other number is in it. Assumes nothing.
use Rattle.std.specs.Prelude.{◌≡◌, Bool, true, false, ltb}
use Rattle.std.proofs.Math.Path.{refl, ap}
use Rattle.std.proofs.Common.{sym, ap₂, subst₂, ◌∙◌, arith, ltb-true, lt-ltb}
use Prim.Native.Nat.{ℕ, zero, suc, ◌+◌, ◌<◌, ◌≤◌}
use mathlib.Core.List.{List, [], ◌∷◌, map, flat_map, map-id}
use Rattle.std.proofs.Math.ListN.{length}
use Rattle.model.specs.Numbers.{choose}
use Rattle.model.specs.State.{Uart}
use Rattle.theorems.specs.TwoRuns.Renamed.{map_uart}
use Rattle.model.specs.Limits.{All}
use Rattle.model.specs.Replies.{ReadOf, word, byte, no_value, refused}
use Rattle.model.specs.Call.{Reply, reads, writes, does, takes, left, pends, rows, host_of, Asked, Ask}
use Rattle.model.specs.Run.{Step, asked_by, run_by}
use Rattle.theorems.specs.TwoRuns.Renamed.{itself, map_read_of, map_take, map_reply}
use Rattle.theorems.specs.TwoRuns.Renamed.{map_answer}
use Rattle.theorems.specs.TwoRuns.Alike.{given_by}
use Rattle.model.proofs.Laws.Placed.{Put, Placed, changed_asked, placed_asked, step_placed, run_placed}
use Rattle.theorems.specs.TwoRuns.NaturalCalls.{map_put, map_placed, map_step}
use Rattle.theorems.specs.TwoRuns.NaturalRuns.{map_asked, asked-nat}
use Rattle.theorems.proofs.TwoRuns.Numbering.{writes_of, changed-twice, put_of, written_of, up_from, numbered, numbered_asked, host_in}
use Rattle.theorems.proofs.TwoRuns.Numbering.{written_in}
use Rattle.theorems.proofs.TwoRuns.Numbering.{number, host-of-placed, written-of-placed}
use Rattle.theorems.specs.TwoRuns.Numbered.{Bare, byte_read, bytes_read, bytes_sent, Below, EachBelow}

-- ---- the bytes in an answer with other bytes

module _ {H H' W W' L L' : Type 0} (f : H → H') (g : W → W') (h : L → L') where
  byte_read-nat : (r : ReadOf H) → byte_read (map_read_of f r) ≡ map f (byte_read r)
  unfolding byte_read map_read_of
  byte_read-nat (word n) = refl
  byte_read-nat (byte b) = refl
  byte_read-nat no_value = refl
  byte_read-nat (refused r) = refl

  bytes_read-nat : (r : Reply H W L) → bytes_read (map_reply f g h r) ≡ map f (bytes_read r)
  unfolding bytes_read map_reply
  bytes_read-nat (reads r) = byte_read-nat r
  bytes_read-nat (writes r) = refl
  bytes_read-nat (does r) = refl
  bytes_read-nat (takes t) = refl
  bytes_read-nat (left b) = refl
  bytes_read-nat (pends n) = refl
  bytes_read-nat (rows r) = refl

  bytes_sent-nat : (r : Reply H W L) → bytes_sent (map_reply f g h r) ≡ map g (bytes_sent r)
  unfolding bytes_sent map_reply map_take
  bytes_sent-nat (reads r) = refl
  bytes_sent-nat (writes r) = refl
  bytes_sent-nat (does r) = refl
  bytes_sent-nat (takes t) = refl
  bytes_sent-nat (left b) = refl
  bytes_sent-nat (pends n) = refl
  bytes_sent-nat (rows r) = refl

-- ---- renamings that keep the numbers below a count

abbrev pub Keeps : ℕ → (ℕ → ℕ) → Type 0
Keeps n f = (k : ℕ) → k < n → f k ≡ k

-- every other number goes one up
unfoldable pub shifted : ℕ → ℕ → ℕ
shifted n k = choose (ltb k n) k (k + 1)

pub shifted-keeps : (n : ℕ) → Keeps n (shifted n)
unfolding shifted choose
shifted-keeps n k below = ap (λ b. choose b k (k + 1)) (lt-ltb k n below)

pub kept-below : (n k : ℕ) → shifted n k ≡ k → k < n
unfolding shifted choose
kept-below n k e = go (ltb k n) refl e
  where
    go : (b : Bool) → ltb k n ≡ b → choose b k (k + 1) ≡ k → k < n
    go true p q = ltb-true k n p
    go false p q = absurd (omega arith)

pub all-below : (n : ℕ) (l : List ℕ) → map (shifted n) l ≡ l → All (λ k. k < n) l
all-below n [] e = All.nil
all-below n (k ∷ l) e =
    let p : shifted n k ≡ k = cc in
    let q : map (shifted n) l ≡ l = cc in
    All.cons (kept-below n k p) (all-below n l q)

-- ---- a numbered call has no number from its count on

pub up_from-fixed : (n : ℕ) (f : ℕ → ℕ) → Keeps n f → (h k : ℕ) → h + k ≤ n → map f (up_from h k) ≡ up_from h k
unfolding up_from
up_from-fixed n f p h zero le = refl
up_from-fixed n f p h (suc k) le = ap₂ (λ x t. x ∷ t) (p h (omega arith)) (up_from-fixed n f p (h + 1) k (omega arith))

put-fixed : {W : Type 0} (n : ℕ) (g : ℕ → ℕ) → Keeps n g → (w : ℕ) (x : Put W) → w + length (flat_map put_of (x ∷ [])) ≤ n
    → map_put g (map_put (λ b. w) x) ≡ map_put (λ b. w) x
unfolding flat_map put_of map_put
put-fixed n g p w (Put.byte b) le = ap Put.byte (p w (omega arith))
put-fixed n g p w (Put.word q v) le = refl

module _ {H W L : Type 0} (h w : ℕ) (c : Placed H W L) where
  call-fixed : (f g : ℕ → ℕ) → Keeps (h + length (host_of c)) f → Keeps (w + length (written_of c)) g
      → map_placed f g itself (numbered h w c) ≡ numbered h w c
  unfolding map_placed numbered written_of
  call-fixed f g p q =
      changed-twice _ _ _ _ _ _ _ _ _ c (λ x r. put-fixed _ g q w x (ap-le r)) (up_from-fixed _ f p h (length (host_of c)) (omega arith))
      (λ l. map-id _)
    where
      ap-le : {x : Put W} → writes_of c ≡ x ∷ [] → w + length (flat_map put_of (x ∷ [])) ≤ w + length (flat_map put_of (writes_of c))
      ap-le {x} r = rw r (omega arith)

module _ {H W L : Type 0} (h w : ℕ) where
  pub asked-fixed : (a : Asked (Placed H W L) W) (f g : ℕ → ℕ) → Keeps (h + length (host_in a)) f → Keeps (w + length (written_in a)) g
      → map_asked f g itself (numbered_asked h w a) ≡ numbered_asked h w a
  unfolding given_by changed_asked
  asked-fixed (Asked.call c) f g p q = ap Asked.call (call-fixed h w c f g p q)
  asked-fixed (Asked.row now bs) f g p q = ap (Asked.row now) (up_from-fixed _ g q w (length bs) (omega arith))

-- an answer that a renaming keeps has no number that it moves
pub below-fixed : (h w : ℕ) (a : Bare) → map_answer (shifted h) (shifted w) itself a ≡ a → Below h w a
unfolding map_answer
below-fixed h w a e = record {
  read =
      all-below h (bytes_read a.reply) (sym (bytes_read-nat (shifted h) (shifted w) itself a.reply) ∙ ap (λ x. bytes_read x.reply) e);
  sent =
      all-below w (bytes_sent a.reply) (sym (bytes_sent-nat (shifted h) (shifted w) itself a.reply) ∙ ap (λ x. bytes_sent x.reply) e);
}

-- ---- a numbered list

-- a state that holds no number from the counts on
abbrev pub Fixed : ℕ → ℕ → Uart ℕ ℕ → Type 0
Fixed h w u = (f g : ℕ → ℕ) → Keeps h f → Keeps w g → map_uart f g u ≡ u

module _ {H W L : Type 0} (h w : ℕ) (a : Asked (Placed H W L) W) (u : Uart ℕ ℕ) (k : Fixed h w u) where
  abbrev next : Step ℕ ℕ (Unit {0})
  next = asked_by step_placed (numbered_asked h w a) u

  step-fixed : (f g : ℕ → ℕ) → Keeps (h + length (host_in a)) f → Keeps (w + length (written_in a)) g → map_step f g itself next ≡ next
  step-fixed f g p q =
      sym (asked-nat f g itself (numbered_asked h w a) u)
      ∙ ap₂ (asked_by step_placed) (asked-fixed h w a f g p q) (k f g (λ n l. p n (omega arith)) (λ n l. q n (omega arith)))

  state-fixed : Fixed (h + length (host_in a)) (w + length (written_in a)) next.state
  unfolding map_step
  state-fixed f g p q = ap (λ s. s.state) (step-fixed f g p q)

  answer-below : Below (h + length (host_in a)) (w + length (written_in a)) next.answer
  unfolding map_step
  answer-below = below-fixed _ _ next.answer (ap (λ s. s.answer) (step-fixed _ _ (shifted-keeps _) (shifted-keeps _)))

module _ (fifo : ℕ) (others : List ℕ) where
  pub run-below : (h w : ℕ) (cs : List Ask) (u : Uart ℕ ℕ) → Fixed h w u
      → EachBelow fifo h w cs (run_placed (number h w (map (placed_asked (fifo ∷ others)) cs)) u)
  unfolding run_by number
  run-below h w [] u k = EachBelow.nil
  run-below h w (a ∷ cs) u k =
      EachBelow.cons
      (subst₂ (λ i j. Below (h + length i) (w + length j) after.answer) (host-of-placed (fifo ∷ others) a)
      (written-of-placed fifo others a) (answer-below h w pa u k))
      (subst₂ (λ i j. EachBelow fifo (h + length i) (w + length j) cs further) (host-of-placed (fifo ∷ others) a)
      (written-of-placed fifo others a)
      (run-below (h + length (host_in pa)) (w + length (written_in pa)) cs after.state (state-fixed h w pa u k)))
    where
      pa : Asked (Placed ℕ ℕ ℕ) ℕ
      pa = placed_asked (fifo ∷ others) a

      after : Step ℕ ℕ (Unit {0})
      after = asked_by step_placed (numbered_asked h w pa) u

      further : List Bare
      further =
          run_placed (number (h + length (host_in pa)) (w + length (written_in pa)) (map (placed_asked (fifo ∷ others)) cs)) after.state

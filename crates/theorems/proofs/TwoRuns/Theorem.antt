-- Demand 3: two alike lists of calls and rows give one list of answers with numbers for bytes. Assumes nothing.
use Rattle.std.specs.Prelude.{◌≡◌, refl, ℕ, ◌+◌, length}
use Rattle.std.proofs.Math.Path.{sym, ap, subst₂}
use Rattle.std.proofs.Common.{ap₂, subst, ◌∙◌, add-zero, suc-ne-zero}
use Prim.Native.Nat.{ℕ, ◌+◌}
use mathlib.Core.List.{List, [], ◌∷◌, map, flat_map, map-id}
use Rattle.std.proofs.Math.ListN.{length}
use Rattle.std.proofs.lemmas.List.{length-map}
use Rattle.theorems.specs.TwoRuns.Renamed.{map_uart, map_receiving}
use Rattle.model.specs.SetUp.{map_of, new}
use Rattle.model.specs.Limits.{All}
use Rattle.model.specs.Replies.{word, byte, no_value, refused, Take}
use Rattle.model.specs.Call.{host_of, Request, Asked, Ask, Reply, reads, writes, does, takes, left, pends, rows, Answer}
use Rattle.model.specs.Run.{run}
use Rattle.theorems.specs.TwoRuns.Alike.{Each, Alike, AskedAlike, fifo_offset, fifo_bytes_of, given_by, host_given, fifo_given, host_byte}
use Rattle.theorems.specs.TwoRuns.Alike.{write_byte}
use Rattle.theorems.specs.TwoRuns.Renamed.{itself, forget, map_read_of}
use Rattle.theorems.specs.TwoRuns.Renamed.{map_take, map_reply, map_answer, with_bytes_of}
use Rattle.theorems.specs.TwoRuns.Agree.{Agree, Agreeing}
use Rattle.theorems.specs.TwoRuns.AgreeBy.{AgreeBy, by-lists}
use Rattle.theorems.specs.TwoRuns.Numbered.{Bare, bare_reply, without_rest, byte_read, bytes_read, bytes_sent, Below, EachBelow, Shape}
use Rattle.theorems.specs.TwoRuns.Numbered.{AskedShape}
use Rattle.model.proofs.Laws.Placed.{Placed, placed_asked, run_placed}
use Rattle.model.proofs.Keeps.MapKept.{run-placed}
use Rattle.theorems.specs.TwoRuns.NaturalRuns.{map_asked, run_placed-nat}
use Rattle.theorems.proofs.TwoRuns.Numbering.{number, host-placed, written-placed, asks_back, asks-alike}
use Rattle.theorems.proofs.TwoRuns.Bounds.{run-below}
use Rattle.theorems.proofs.TwoRuns.Shapes.{run-shape}
use Rattle.model.proofs.Ends.Passes.{apart}
use Rattle.model.specs.declared.Report.{Report}
use Rattle.model.specs.Names.{Row}

-- the answers of a list with numbers in the place of its bytes
unfoldable pub numbered_answers : List ℕ → List ℕ → List Ask → List Bare
numbered_answers offsets ws cs = run_placed (number 0 0 (map (placed_asked offsets) cs)) (new offsets ws)

-- a new UART holds no byte
pub new-nat : {H H' W W' : Type 0} (f : H → H') (g : W → W') (offsets ws : List ℕ) → map_uart f g (new offsets ws) ≡ new offsets ws
unfolding new map_receiving
new-nat f g offsets ws = refl

module _ {H H' W W' L L' : Type 0} (f : H → H') (g : W → W') (h : L → L') where
  -- from set-up on, a list with other bytes answers the same with other bytes
  run_new-nat : (offsets ws : List ℕ) (cs : List (Asked (Placed H W L) W))
      → run_placed (map (map_asked f g h) cs) (new offsets ws) ≡ map (map_answer f g h) (run_placed cs (new offsets ws))
  run_new-nat offsets ws cs =
      ap (run_placed (map (map_asked f g h) cs)) (sym (new-nat f g offsets ws)) ∙ run_placed-nat f g h cs (new offsets ws)

-- an answer without the rest of a lent buffer, by a change of bytes
pub bare-mapped : (r : Reply ℕ ℕ ℕ) → bare_reply r ≡ map_reply itself itself forget r
unfolding bare_reply map_reply map_read_of map_take forget
bare-mapped (reads (word n)) = refl
bare-mapped (reads (byte b)) = refl
bare-mapped (reads no_value) = refl
bare-mapped (reads (refused r)) = refl
bare-mapped (writes r) = refl
bare-mapped (does r) = refl
bare-mapped (takes t) = rw (map-id t.front)
bare-mapped (left b) = refl
bare-mapped (pends n) = refl
bare-mapped (rows r) = refl

rest-mapped : (l : List (Answer ℕ ℕ ℕ)) → map without_rest l ≡ map (map_answer itself itself forget) l
unfolding without_rest map_answer
rest-mapped [] = refl
rest-mapped (a ∷ l) = ap₂ (λ r t. record { reply = r; report = a.report } ∷ t) (bare-mapped a.reply) (rest-mapped l)

module _ (fifo : ℕ) (others ws : List ℕ) where
  run-numbered : (cs : List Ask) → map without_rest (run cs (new (fifo ∷ others) ws))
      ≡ map (with_bytes_of fifo cs) (numbered_answers (fifo ∷ others) ws cs)
  unfolding with_bytes_of numbered_answers new map_of
  run-numbered cs =
      rest-mapped (run cs (new (fifo ∷ others) ws))
      ∙ ap (map (map_answer itself itself forget)) (run-placed cs (new (fifo ∷ others) ws))
      ∙ sym (run_new-nat itself itself forget (fifo ∷ others) ws placed_calls)
      ∙ ap (λ l. run_placed l (new (fifo ∷ others) ws)) (sym looked-up)
      ∙ run_new-nat (host_byte cs) (write_byte fifo cs) itself (fifo ∷ others) ws (number 0 0 placed_calls)
    where
      placed_calls : List (Asked (Placed ℕ ℕ ℕ) ℕ)
      placed_calls = map (placed_asked (fifo ∷ others)) cs

      looked-up : map (map_asked (host_byte cs) (write_byte fifo cs) itself) (number 0 0 placed_calls)
          ≡ map (map_asked itself itself forget) placed_calls
      looked-up =
          asks_back 0 0 (flat_map host_given cs) (flat_map (fifo_given fifo) cs) 0 0 placed_calls (sym (host-placed (fifo ∷ others) cs))
          (sym (written-placed fifo others cs))

-- ---- one list for both runs

-- both runs are images of one list of answers with numbers for bytes, each under its own bytes. A number is below the count
-- of bytes that the list has given once the call or row is made, and a read of FIFO has a number, or 0 with UartEmptyRead, or is
-- refused, in both runs alike
pub record OneList (offsets ws : List ℕ) (cs ds : List Ask) : Type 0 where
  pub answers : List Bare
  pub first : map without_rest (run cs (new offsets ws)) ≡ map (with_bytes_of (fifo_offset offsets) cs) answers
  pub second : map without_rest (run ds (new offsets ws)) ≡ map (with_bytes_of (fifo_offset offsets) ds) answers
  pub below : EachBelow (fifo_offset offsets) 0 0 cs answers
  pub shape : Each (AskedShape (fifo_offset offsets)) cs answers

pub one_list : (offsets ws : List ℕ) → length offsets ≡ 16 → (cs ds : List Ask)
    → Each (AskedAlike (Alike (fifo_offset offsets))) cs ds
    → OneList offsets ws cs ds
unfolding numbered_answers
one_list [] ws e cs ds a = absurd (suc-ne-zero _ (sym e))
one_list (fifo ∷ others) ws e cs ds a = record {
  answers = numbered_answers (fifo ∷ others) ws cs;
  first = run-numbered fifo others ws cs;
  second =
      run-numbered fifo others ws ds ∙ ap (λ l. map (with_bytes_of fifo ds) (run_placed l (new (fifo ∷ others) ws)))
      (sym (asks-alike fifo others 0 0 a));
  below = run-below fifo others 0 0 cs (new (fifo ∷ others) ws) (λ f g p q. new-nat f g (fifo ∷ others) ws);
  shape = run-shape fifo others 0 0 cs (new (fifo ∷ others) ws);
}

-- ---- the theorem

-- a reply that holds no byte stays
plain : (f g : ℕ → ℕ) (r : Reply ℕ ℕ (Unit {0})) → ((b : ℕ) → ¬ (r ≡ reads (byte b))) → ((t : Take ℕ (Unit {0})) → ¬ (r ≡ takes t))
    → map_reply f g itself r ≡ r
unfolding map_reply map_read_of
plain f g (reads (word n)) p q = refl
plain f g (reads (byte b)) p q = absurd (p b refl)
plain f g (reads no_value) p q = refl
plain f g (reads (refused r)) p q = refl
plain f g (writes r) p q = refl
plain f g (does r) p q = refl
plain f g (takes t) p q = absurd (q t refl)
plain f g (left b) p q = refl
plain f g (pends n) p q = refl
plain f g (rows r) p q = refl

all_head : {P : ℕ → Type 0} {n : ℕ} {l : List ℕ} → All P (n ∷ l) → P n
all_head (All.cons p ps) = p

-- a reply that hands nothing out is known without the rest of a lent buffer
again : Reply ℕ ℕ (Unit {0}) → Reply ℕ ℕ ℕ
again (reads r) = reads r
again (writes r) = writes r
again (does r) = does r
again (takes t) = takes (record { taken = t.taken; front = t.front; rest = [] })
again (left b) = left b
again (pends n) = pends n
again (rows r) = rows r

abbrev NoTake : Reply ℕ ℕ (Unit {0}) → Type 0
NoTake r = (t : Take ℕ (Unit {0})) → ¬ (r ≡ takes t)

back : (x : Reply ℕ ℕ ℕ) → NoTake (bare_reply x) → again (bare_reply x) ≡ x
unfolding bare_reply again
back (reads r) n = refl
back (writes r) n = refl
back (does r) n = refl
back (takes t) n = absurd (n _ refl)
back (left b) n = refl
back (pends k) n = refl
back (rows r) n = refl

forth : (r : Reply ℕ ℕ (Unit {0})) → NoTake r → bare_reply (again r) ≡ r
unfolding bare_reply again
forth (reads r) n = refl
forth (writes r) n = refl
forth (does r) n = refl
forth (takes t) n = absurd (n t refl)
forth (left b) n = refl
forth (pends k) n = refl
forth (rows r) n = refl

known : (x : Reply ℕ ℕ ℕ) {r : Reply ℕ ℕ (Unit {0})} → bare_reply x ≡ r → NoTake r → again r ≡ x
known x e n = ap again (sym e) ∙ back x (λ t f. n t (sym e ∙ f))

-- one that hands out is known but for that rest, of which the length is
record Took (x : Reply ℕ ℕ ℕ) (t : Take ℕ (Unit {0})) : Type 0 where
  rest : List ℕ
  is : takes (record { taken = t.taken; front = t.front; rest = rest }) ≡ x
  long : length rest ≡ length t.rest

took : (x : Reply ℕ ℕ ℕ) (t : Take ℕ (Unit {0})) → bare_reply x ≡ takes t → Took x t
unfolding bare_reply
took (reads r) t e = apart (cc)
took (writes r) t e = apart (cc)
took (does r) t e = apart (cc)
took (takes u) t e =
    let same : record { taken = u.taken; front = u.front; rest = map (λ b. tt) u.rest } ≡ t = cc in
    record {
      rest = u.rest;
      is = ap₂ (λ k l. takes (record { taken = k; front = l; rest = u.rest })) (sym (ap (λ v. v.taken) same))
          (sym (ap (λ v. v.front) same));
      long = sym (length-map u.rest (λ b. tt)) ∙ ap (λ v. length v.rest) same;
    }
took (left b) t e = apart (cc)
took (pends n) t e = apart (cc)
took (rows r) t e = apart (cc)

pub row-known : (x : Answer ℕ ℕ ℕ) (made : Row) (r : Report) → without_rest x ≡ record { reply = rows made; report = r }
    → record { reply = rows made; report = r } ≡ x
unfolding without_rest again
row-known x made r e =
    ap₂ (λ p q. record { reply = p; report = q }) (known x.reply (ap (λ k. k.reply) e) (λ t k. apart (cc)))
    (sym (ap (λ k. k.report) e))

pub firsts : {A : Type 0} {x y : A} {xs ys : List A} → x ∷ xs ≡ y ∷ ys → (x ≡ y) × (xs ≡ ys)
firsts e = (cc, cc)

module _ (fifo : ℕ) (f f' g g' : ℕ → ℕ) where
  pub agree-by : {h w : ℕ} {c : Request} {a : Bare} → Shape fifo c a → Below h w a → (x y : Reply ℕ ℕ ℕ)
      → bare_reply x ≡ map_reply f g itself a.reply → bare_reply y ≡ map_reply f' g' itself a.reply
      → AgreeBy fifo f f' g g' h w a.report c x y
  unfolding map_reply map_read_of map_take bytes_read byte_read bytes_sent again bare_reply
  agree-by (Shape.fifo_byte s p) b x y e k =
      subst₂ (AgreeBy fifo f f' g g' _ _ _ _) (known x e (λ t l. apart (cc))) (known y k (λ t l. apart (cc)))
      (AgreeBy.fifo_byte s p (all_head b.read))
  agree-by (Shape.fifo_empty s p) b x y e k =
      subst₂ (AgreeBy fifo f f' g g' _ _ _ _) (known x e (λ t l. apart (cc))) (known y k (λ t l. apart (cc))) (AgreeBy.fifo_empty s p)
  agree-by Shape.fifo_refused b x y e k =
      subst₂ (AgreeBy fifo f f' g g' _ _ _ _) (known x e (λ t l. apart (cc))) (known y k (λ t l. apart (cc))) AgreeBy.fifo_refused
  agree-by (Shape.handed_out {t = t} n) b x y e k =
      let p = took x _ e in
      let q = took y _ k in
      subst₂ (AgreeBy fifo f f' g g' _ _ _ _) p.is q.is (AgreeBy.handed_out n b.sent (p.long ∙ sym q.long))
  agree-by (Shape.no_byte {a = a} n p q) b x y e k =
      let r = a.reply in
      let same = forth r q in
      subst₂ (AgreeBy fifo f f' g g' _ _ _ _) (known x (e ∙ plain _ _ r p q) q) (known y (k ∙ plain _ _ r p q) q)
      (AgreeBy.no_byte n (λ b l. p b (sym same ∙ ap bare_reply l)) (λ t l. q _ (sym same ∙ ap bare_reply l)))

module _ (fifo : ℕ) (cs ds : List Ask) where
  agree : {h w : ℕ} {c : Request} {a : Bare} → Shape fifo c a → Below h w a → (x y : Reply ℕ ℕ ℕ)
      → bare_reply x ≡ (with_bytes_of fifo cs a).reply → bare_reply y ≡ (with_bytes_of fifo ds a).reply
      → Agree fifo cs ds h w a.report c x y
  unfolding with_bytes_of map_answer
  agree s b x y e f =
      by-lists fifo cs ds (agree-by fifo (host_byte cs) (host_byte ds) (write_byte fifo cs) (write_byte fifo ds) s b x y e f)

  agreeing : {h w : ℕ} {rest : List Ask} {t : List Bare} → Each (AskedShape fifo) rest t → EachBelow fifo h w rest t
      → (xs ys : List (Answer ℕ ℕ ℕ)) → map without_rest xs ≡ map (with_bytes_of fifo cs) t → map without_rest ys
      ≡ map (with_bytes_of fifo ds) t
      → Agreeing fifo cs ds h w rest xs ys
  unfolding with_bytes_of map_answer map_reply without_rest given_by again
  agreeing Each.nil EachBelow.nil [] [] e f = Agreeing.nil
  agreeing Each.nil EachBelow.nil [] (y ∷ ys) e f = apart (cc)
  agreeing Each.nil EachBelow.nil (x ∷ xs) ys e f = apart (cc)
  agreeing (Each.cons s ss) (EachBelow.cons b bs) [] ys e f = apart (cc)
  agreeing (Each.cons s ss) (EachBelow.cons b bs) (x ∷ xs) [] e f = apart (cc)
  agreeing {h} {w} (Each.cons {l = rest} (AskedShape.call {c = c} s) ss) (EachBelow.cons b bs) (x ∷ xs) (y ∷ ys) e f =
      let (e₀, e₁) = firsts e in
      let (f₀, f₁) = firsts f in
      subst₂ (λ r q. Agreeing fifo cs ds h w (Asked.call c ∷ rest) (record { reply = x.reply; report = r } ∷ xs)
      (record { reply = y.reply; report = q } ∷ ys))
      (sym (ap (λ k. k.report) e₀)) (sym (ap (λ k. k.report) f₀))
      (Agreeing.call (agree s b x.reply y.reply (ap (λ k. k.reply) e₀) (ap (λ k. k.reply) f₀))
      (agreeing {h = h + length (host_of c)} {w = w + length (fifo_bytes_of fifo c)} ss bs xs ys e₁ f₁))
  agreeing {h} {w} (Each.cons {l = rest} (AskedShape.row {now = now} {bs = row-bytes} {x = made} {r = r}) ss) (EachBelow.cons b bs)
      (x ∷ xs) (y ∷ ys) e f =
      let (e₀, e₁) = firsts e in
      let (f₀, f₁) = firsts f in
      subst₂ (λ p q. Agreeing fifo cs ds h w (Asked.row now row-bytes ∷ rest) (p ∷ xs) (q ∷ ys))
      (row-known x made r e₀) (row-known y made r f₀)
      (Agreeing.row (subst (λ (k : ℕ). Agreeing fifo cs ds k (w + length row-bytes) rest xs ys) (add-zero h)
      (agreeing {h = h + 0} {w = w + length row-bytes} ss bs xs ys e₁ f₁)))

-- the answers of both runs, by the one list
pub lists_agree : (offsets ws : List ℕ) (cs ds : List Ask) → OneList offsets ws cs ds
    → Agreeing (fifo_offset offsets) cs ds 0 0 cs (run cs (new offsets ws)) (run ds (new offsets ws))
lists_agree offsets ws cs ds o = agreeing (fifo_offset offsets) cs ds o.shape o.below _ _ o.first o.second

-- demand 3, for every register map of sixteen offsets, those that set-up refuses too, and all reset words: all answers agree,
-- apart from the byte that a read of FIFO gives and the bytes handed out as sent; these agree in count at every call, and each is
-- the byte of the same number in both runs
pub runs-agree : (offsets ws : List ℕ) → length offsets ≡ 16 → (cs ds : List Ask)
    → Each (AskedAlike (Alike (fifo_offset offsets))) cs ds
    → Agreeing (fifo_offset offsets) cs ds 0 0 cs (run cs (new offsets ws)) (run ds (new offsets ws))
runs-agree offsets ws e cs ds a = lists_agree offsets ws cs ds (one_list offsets ws e cs ds a)

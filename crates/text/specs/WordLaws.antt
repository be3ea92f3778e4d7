-- The next word of a line, and then those after its end, are the words of the line. Assumes nothing.
use Rattle.std.specs.Prelude.{◌≡◌, refl, true, false, not, List, [], ◌∷◌, ℕ, ◌+◌, ◌-◌, min, eqb, length, take, drop}
use Rattle.std.proofs.Common.{ap, sym, ◌∙◌, ⊎_elim, arith, drop-drop}
use Rattle.text.specs.Pick.{decided}
use Rattle.text.specs.Seek.{is_byte, is_other, before, before-stop, before_on, seek, drop-within}
use Rattle.text.specs.Words.{space, onto, pieces, joined, filled, words, word_start, word_end}

-- a space, and a letter, in front
space-first : (b : ℕ) (s : List ℕ) → eqb b space ≡ true → words (b ∷ s) ≡ words s
unfolding words pieces filled joined
space-first b s e = rw e

letter-first : (b : ℕ) (s : List ℕ) → eqb b space ≡ false → pieces (b ∷ s) ≡ onto b (pieces s)
unfolding pieces
letter-first b s e = rw e

-- spaces in front make no word
words-past : (s : List ℕ) → words s ≡ words (drop (before (is_other space) s) s)
unfolding before
words-past [] = refl
words-past (b ∷ s) =
    ⊎_elim
    (λ e.
    space-first b s e
    ∙ words-past s
    ∙ ap (λ (k : ℕ). words (drop k (b ∷ s))) (sym (before_on (is_other space) b s (ap not e))))
    (λ e. ap (λ (k : ℕ). words (drop k (b ∷ s))) (sym (before-stop (is_other space) b s (ap not e))))
    (decided (eqb b space))

-- the pieces after the one that ends where a rest begins
after : List ℕ → List (List ℕ)
after [] = []
after (b ∷ s) = pieces s

-- the first piece is what stands before the first space
first_piece : (s : List ℕ) → pieces s ≡ take (before (is_byte space) s) s ∷ after (drop (before (is_byte space) s) s)
unfolding pieces before after onto
first_piece [] = refl
first_piece (b ∷ s) =
    ⊎_elim
    (λ (e : eqb b space ≡ true). rw e)
    (λ (e : eqb b space ≡ false). letter-first b s e ∙ ap (onto b) (first_piece s) ∙ rw e)
    (decided (eqb b space))

-- what is left begins with a space
rest-words : (s : List ℕ) → filled (after (drop (before (is_byte space) s) s)) ≡ words (drop (before (is_byte space) s) s)
unfolding words pieces filled joined after before
rest-words [] = refl
rest-words (b ∷ s) =
    ⊎_elim
    (λ (e : eqb b space ≡ true). rw (e, e))
    (λ (e : eqb b space ≡ false). rw e (rest-words s))
    (decided (eqb b space))

-- a line without spaces in front: its first word, and those of the rest
words-first : (s : List ℕ) → words s ≡ joined (take (before (is_byte space) s) s) (words (drop (before (is_byte space) s) s))
unfolding words filled
words-first s = ap filled (first_piece s) ∙ ap (joined (take (before (is_byte space) s) s)) (rest-words s)

-- the words from a place on are the next word, where there is one, and the words from its end on
pub words-next : (s : List ℕ) (at : ℕ)
    → words (drop at s) ≡ joined (take (word_end s at - word_start s at) (drop (word_start s at) s)) (words (drop (word_end s at) s))
unfolding seek
words-next s at =
    let from = min at (length s) in
    let k = before (is_other space) (drop from s) in
    let u = drop (from + k) s in
    let m = before (is_byte space) u in
    let width : from + k + m - (from + k) ≡ m = omega arith in
    ap words (sym (drop-within s at))
    ∙ words-past (drop from s)
    ∙ ap words (drop-drop k from s)
    ∙ words-first u
    ∙ ap (λ (l : List ℕ). joined (take m u) (words l)) (drop-drop m (from + k) s)
    ∙ ap (λ (n : ℕ). joined (take n u) (words (drop (from + k + m) s))) (sym width)

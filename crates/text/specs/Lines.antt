-- What stands of a line, up to its end. Assumes nothing.
use Rattle.std.specs.Prelude.{◌≡◌, refl, Bool, true, false, List, ℕ, ◌+◌, ◌<◌, ◌≤◌, ltb, length, get_or}
use Rattle.std.proofs.Common.{ap, sym, subst, ◌∙◌, arith, ltb-true, ltb-false, eqb-true}
use Rattle.std.proofs.lemmas.Bool.{eqb-false}
use Rattle.text.specs.Seek.{is_byte, seek, seek-after, seek-within, seek_found, seek-passed}
use Rattle.text.specs.declared.lines.Piece.{Piece}

-- a line feed
abbrev pub line_feed : ℕ
line_feed = 10

-- the first line feed from `at` on; the end of the text where there is none
abbrev pub line_end : List ℕ → ℕ → ℕ
line_end s at = seek (is_byte line_feed) s at

-- a line that ends goes on behind its line feed
abbrev pub piece : Bool → ℕ → Piece
piece true end = record { end = end; next = end + 1; whole = true }
piece false end = record { end = end; next = end; whole = false }

abbrev pub piece_at : List ℕ → ℕ → Piece
piece_at s at = piece (ltb (line_end s at) (length s)) (line_end s at)

-- ---- laws

-- from a place within the text: the piece is within it, and the next one begins further on
pub record PieceOf (len at : ℕ) (p : Piece) : Type 0 where
  pub starts : at ≤ p.end
  pub ends : p.end ≤ len
  pub goes : at < p.next
  pub within : p.next ≤ len

piece_of : (s : List ℕ) (at : ℕ) → at < length s → PieceOf (length s) at (piece_at s at)
piece_of s at h = by-test (ltb (line_end s at) (length s)) refl
  where
    by-test : (t : Bool) → ltb (line_end s at) (length s) ≡ t → PieceOf (length s) at (piece t (line_end s at))
    by-test true q =
        let l : line_end s at < length s = ltb-true _ _ q in
        record {
          starts = seek-after (is_byte line_feed) s at;
          ends = omega (arith, l);
          goes = omega (arith, seek-after (is_byte line_feed) s at);
          within = omega (arith, l);
        }
    by-test false q =
        let l : length s ≤ line_end s at = ltb-false _ _ q in
        let w = seek-within (is_byte line_feed) s at (omega arith) in
        record {
          starts = seek-after (is_byte line_feed) s at;
          ends = w;
          goes = omega (arith, l);
          within = w;
        }

pub is-piece-of : (s : List ℕ) (at : ℕ) (p : Piece) → p ≡ piece_at s at → at < length s → PieceOf (length s) at p
is-piece-of s at p e h = subst (PieceOf (length s) at) (sym e) (piece_of s at h)

-- a piece ends at the line's end, or at that of the text
piece-end : (t : Bool) (end : ℕ) → (piece t end).end ≡ end
piece-end true end = refl
piece-end false end = refl

module _ (s : List ℕ) (at : ℕ) (p : Piece) (e : p ≡ piece_at s at) where
  ends_there : p.end ≡ line_end s at
  ends_there = ap (λ (q : Piece). q.end) e ∙ piece-end (ltb (line_end s at) (length s)) (line_end s at)

  pub piece-after : at ≤ p.end
  piece-after = omega (arith, ends_there, seek-after (is_byte line_feed) s at)

  pub piece-within : at ≤ length s → p.end ≤ length s
  piece-within h = omega (arith, ends_there, seek-within (is_byte line_feed) s at h)

-- a whole piece ends at the first line feed from `at` on
pub record Ends (s : List ℕ) (at i : ℕ) : Type 0 where
  pub after : at ≤ i
  pub within : i < length s
  pub feed : get_or s i 0 ≡ line_feed
  pub first : (k : ℕ) → at ≤ k → k < i → get_or s k 0 ≡ line_feed → ⊥

pub line-ends : (s : List ℕ) (at : ℕ) → line_end s at < length s → Ends s at (line_end s at)
line-ends s at h =
    record {
      after = seek-after (is_byte line_feed) s at;
      within = h;
      feed = eqb-true _ _ (seek_found (is_byte line_feed) s at h);
      first = λ k l m. eqb-false _ _ (seek-passed (is_byte line_feed) s at k l m);
    }

-- in one that is not whole there is none
pub line-goes-on : (s : List ℕ) (at : ℕ) → length s ≤ line_end s at → (k : ℕ) → at ≤ k → k < length s → get_or s k 0 ≡ line_feed → ⊥
line-goes-on s at h k l m = eqb-false _ _ (seek-passed (is_byte line_feed) s at k l (omega arith))

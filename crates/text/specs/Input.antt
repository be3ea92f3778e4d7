-- A line gathered from the chunks that a text comes in. Assumes nothing.
use Rattle.std.specs.Prelude.{◌≡◌, Bool, true, false, List, ℕ, ◌+◌, ◌-◌, min, ltb, length, take, drop}
use Rattle.text.specs.Pick.{pick}
use Rattle.text.specs.Lines.{piece_at}
use Rattle.text.specs.Output.{no_room, stored}
use Rattle.text.specs.declared.lines.Piece.{Piece}
use Rattle.text.specs.declared.input.Input.{Input}

abbrev pub begun : Input
begun = record { at = 0; end = 0; len = 0; long = false; whole = false; more = true }

-- a line that ended, or the last one, where it has a byte
abbrev pub has_line : Input → Bool
has_line i = pick i.whole true (pick i.more false (pick i.long true (ltb 0 i.len)))

-- after a whole line the next one begins
abbrev pub fresh : Input → Input
fresh i =
    record {
      at = i.at;
      end = i.end;
      len = pick i.whole 0 i.len;
      long = pick i.whole false i.long;
      whole = false;
      more = i.more;
    }

-- what was read of a chunk
abbrev pub filled : List ℕ → Input → List ℕ
filled chunk i = take (min i.end (length chunk)) chunk

-- the next piece, and its bytes
abbrev pub piece_in : List ℕ → Input → Piece
piece_in s i = piece_at s (min i.at (length s))

abbrev pub bytes_in : List ℕ → Input → List ℕ
bytes_in s i = take ((piece_in s i).end - min i.at (length s)) (drop (min i.at (length s)) s)

-- what has room in `size` bytes is put behind the line that has begun, and what has none makes it too long
abbrev pub overlong : ℕ → List ℕ → Input → Bool
overlong size s i = ltb (size - i.len) (length (bytes_in s i))

unfoldable pub gathered : ℕ → List ℕ → Input → Input
gathered size s i =
    record {
      at = (piece_in s i).next;
      end = i.end;
      len = pick (overlong size s i) i.len (i.len + length (bytes_in s i));
      long = pick (overlong size s i) true i.long;
      whole = (piece_in s i).whole;
      more = i.more;
    }

unfoldable pub line_after : List ℕ → Input → List ℕ → List ℕ
line_after s i line = pick (no_room line i.len (bytes_in s i)) line (stored line i.len (bytes_in s i))

-- ---- laws

-- the place, the piece and its bytes, each as it was found
module _ (s : List ℕ) (i : Input) (at : ℕ) (p : Piece) (e : at ≡ min i.at (length s)) (q : p ≡ piece_at s at) where
  pub is-gathered : (size len : ℕ) (long : Bool)
      → len ≡ pick (ltb (size - i.len) (length (take (p.end - at) (drop at s)))) i.len
      (i.len + length (take (p.end - at) (drop at s)))
      → long ≡ pick (ltb (size - i.len) (length (take (p.end - at) (drop at s)))) true i.long
      → record { at = p.next; end = i.end; len = len; long = long; whole = p.whole; more = i.more } ≡ gathered size s i
  unfolding gathered
  is-gathered size len long l g = rw (l, g, q, e)

  pub is-line : (line after : List ℕ)
      → after ≡ pick (no_room line i.len (take (p.end - at) (drop at s))) line (stored line i.len (take (p.end - at) (drop at s)))
      → after ≡ line_after s i line
  unfolding line_after
  is-line line after h = rw (h, q, e)

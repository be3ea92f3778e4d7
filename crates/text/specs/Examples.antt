-- The definitions at work on words of the replay format, computed. Assumes nothing.
use Rattle.std.specs.Prelude.{◌≡◌, refl, true, false, List, [], ◌∷◌, ℕ, Some, None, Ok, Err}
use Rattle.text.specs.Seek.{before, seek}
use Rattle.text.specs.Lines.{piece_at}
use Rattle.text.specs.Words.{onto, pieces, joined, filled, words, next_word}
use Rattle.text.specs.Same.{same_bytes}
use Rattle.text.specs.Digits.{digit_value, letter}
use Rattle.text.specs.Numbers.{all_digits, value_after, at_most, number_after, number_in, begins0x, number_of, number32_of}
use Rattle.text.specs.Hexes.{pair_value, spelled, pairs_read, pairs_stored, bytes_read, bytes_stored}
use Rattle.text.specs.HexText.{hex_pairs, hex_text, hex_word}
use Rattle.text.specs.Decimal.{decimal_up_to, decimal}
use Rattle.text.specs.declared.hex.NotBytes.{NotBytes}

-- "a \tb\n": a letter, a space, a tab with its letter, a line feed
abbrev line : List ℕ
line = 97 ∷ 32 ∷ 9 ∷ 98 ∷ 10 ∷ []

ends : piece_at line 0 ≡ record { end = 4; next = 5; whole = true }
unfolding seek before
ends = refl

goes_on : piece_at line 5 ≡ record { end = 5; next = 5; whole = false }
unfolding seek before
goes_on = refl

-- a tab and a line feed are parts of a word
two-words : words line ≡ (97 ∷ []) ∷ (9 ∷ 98 ∷ 10 ∷ []) ∷ []
unfolding words pieces filled joined onto
two-words = refl

first : next_word line 0 ≡ record { start = 0; end = 1 }
unfolding seek before
first = refl

second : next_word line 1 ≡ record { start = 2; end = 5 }
unfolding seek before
second = refl

no_more : next_word line 9 ≡ record { start = 5; end = 5 }
unfolding seek before
no_more = refl

longer : same_bytes (97 ∷ []) (97 ∷ 98 ∷ []) ≡ false
unfolding same_bytes
longer = refl

-- "010", "0x1F", "0X1", "0x", "-"
ten : number_of 10 (48 ∷ 49 ∷ 48 ∷ []) ≡ Some 10
unfolding number_of number_in number_after at_most all_digits value_after begins0x digit_value
ten = refl

above : number_of 9 (48 ∷ 49 ∷ 48 ∷ []) ≡ None
unfolding number_of number_in number_after at_most all_digits value_after begins0x digit_value
above = refl

hexadecimal : number32_of (48 ∷ 120 ∷ 49 ∷ 70 ∷ []) ≡ Some 31
unfolding number_of number_in number_after at_most all_digits value_after begins0x digit_value
hexadecimal = refl

upper : number32_of (48 ∷ 88 ∷ 49 ∷ []) ≡ None
unfolding number_of number_in number_after at_most all_digits value_after begins0x digit_value
upper = refl

bare : number32_of (48 ∷ 120 ∷ []) ≡ None
unfolding number_of number_in number_after at_most all_digits value_after begins0x digit_value
bare = refl

sign : number32_of (45 ∷ 49 ∷ []) ≡ None
unfolding number_of number_in number_after at_most all_digits value_after begins0x digit_value
sign = refl

-- "1a2B", "1a2", "1a-B", "-"; the faults store the byte in front of them
two_bytes : bytes_read 4 (49 ∷ 97 ∷ 50 ∷ 66 ∷ []) ≡ Ok 2
unfolding pairs_read spelled pair_value digit_value same_bytes
two_bytes = refl

stored_bytes : bytes_stored (49 ∷ 97 ∷ 50 ∷ 66 ∷ []) (1 ∷ 2 ∷ 3 ∷ []) ≡ 26 ∷ 43 ∷ 3 ∷ []
unfolding pairs_stored spelled pair_value digit_value same_bytes
stored_bytes = refl

odd : bytes_read 4 (49 ∷ 97 ∷ 50 ∷ []) ≡ Err NotBytes.NoBytes
unfolding pairs_read spelled pair_value digit_value same_bytes
odd = refl

fault : bytes_read 4 (49 ∷ 97 ∷ 45 ∷ 66 ∷ []) ≡ Err NotBytes.NoBytes
unfolding pairs_read spelled pair_value digit_value same_bytes
fault = refl

fault-stored : bytes_stored (49 ∷ 97 ∷ 45 ∷ 66 ∷ []) (1 ∷ 2 ∷ []) ≡ 26 ∷ 2 ∷ []
unfolding pairs_stored spelled pair_value digit_value same_bytes
fault-stored = refl

none : bytes_read 0 (45 ∷ []) ≡ Ok 0
unfolding same_bytes
none = refl

short : bytes_read 1 (49 ∷ 97 ∷ 50 ∷ 66 ∷ []) ≡ Err NotBytes.NoRoom
unfolding same_bytes
short = refl

-- and back: "1a2b", "-", "0x0080000a", "0", "18446744073709551615"
bytes-text : hex_text (26 ∷ 43 ∷ []) ≡ 49 ∷ 97 ∷ 50 ∷ 98 ∷ []
unfolding hex_text hex_pairs letter
bytes-text = refl

no-bytes-text : hex_text [] ≡ 45 ∷ []
unfolding hex_text
no-bytes-text = refl

word-text : hex_word 0x0080000A ≡ 48 ∷ 120 ∷ 48 ∷ 48 ∷ 56 ∷ 48 ∷ 48 ∷ 48 ∷ 48 ∷ 97 ∷ []
unfolding letter
word-text = refl

zero-text : decimal 0 ≡ 48 ∷ []
unfolding decimal_up_to letter
zero-text = refl

largest-text : decimal 18446744073709551615 ≡ 49 ∷ 56 ∷ 52 ∷ 52 ∷ 54 ∷ 55 ∷ 52 ∷ 52 ∷ 48 ∷ 55 ∷ 51 ∷ 55 ∷ 48 ∷ 57 ∷ 53 ∷ 53 ∷ 49 ∷ 54
    ∷ 49 ∷ 53 ∷ []
unfolding decimal_up_to letter
largest-text = refl

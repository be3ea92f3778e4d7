-- The definition at work on lines of the replay format, computed. Assumes nothing.
use Rattle.std.specs.Prelude.{◌≡◌, refl, List, [], ◌∷◌, ℕ, Ok, Err, Some}
use Rattle.text.specs.Seek.{before, seek}
use Rattle.text.specs.Same.{same_bytes}
use Rattle.text.specs.Digits.{digit_value}
use Rattle.text.specs.Numbers.{all_digits, value_after, at_most, number_after, number_in, begins0x, number_of}
use Rattle.text.specs.Hexes.{pair_value, spelled, pairs_read, pairs_stored}
use Rattle.trace.specs.declared.faults.Reason.{Reason}
use Rattle.trace.specs.declared.names.Name.{Name}
use Rattle.trace.specs.Forms.{form_of}
use Rattle.trace.specs.Steps.{word_at}
use Rattle.trace.specs.One.{number_at}
use Rattle.trace.specs.Numbers.{numbers_from}
use Rattle.trace.specs.Last.{bit_at, bytes_at, bytes_kept}
use Rattle.trace.specs.Lines.{end_at, on_call, line_of, numbers_of, bytes_after}

-- "watch 5 1"
abbrev watch : List ℕ
watch = 119 ∷ 97 ∷ 116 ∷ 99 ∷ 104 ∷ 32 ∷ 53 ∷ 32 ∷ 49 ∷ []

watch-line : line_of 0 watch ≡ Ok (Some (record { name = Name.Watch; last = 1 }))
unfolding on_call word_at seek before same_bytes form_of numbers_from number_at number_of begins0x number_in number_after all_digits
    value_after at_most digit_value bit_at end_at
watch-line = refl

watch-numbers : numbers_of watch ≡ 5 ∷ []
unfolding on_call word_at seek before same_bytes form_of numbers_from number_at number_of begins0x number_in number_after all_digits
    value_after at_most digit_value
watch-numbers = refl

-- "wake 5 6": the second number is the fault, and the first stays
abbrev extra : List ℕ
extra = 119 ∷ 97 ∷ 107 ∷ 101 ∷ 32 ∷ 53 ∷ 32 ∷ 54 ∷ []

extra-line : line_of 0 extra ≡ Err (record { reason = Reason.ExtraWord; start = 7; end = 8 })
unfolding on_call word_at seek before same_bytes form_of numbers_from number_at number_of begins0x number_in number_after all_digits
    value_after at_most digit_value end_at
extra-line = refl

extra-numbers : numbers_of extra ≡ 5 ∷ []
unfolding on_call word_at seek before same_bytes form_of numbers_from number_at number_of begins0x number_in number_after all_digits
    value_after at_most digit_value
extra-numbers = refl

-- "read 5": the fault is at the name
abbrev short : List ℕ
short = 114 ∷ 101 ∷ 97 ∷ 100 ∷ 32 ∷ 53 ∷ []

short-line : line_of 0 short ≡ Err (record { reason = Reason.MissingWord; start = 0; end = 4 })
unfolding on_call word_at seek before same_bytes form_of numbers_from number_at number_of begins0x number_in number_after all_digits
    value_after at_most digit_value
short-line = refl

-- "receive 5 6 0A": one byte
abbrev byte : List ℕ
byte = 114 ∷ 101 ∷ 99 ∷ 101 ∷ 105 ∷ 118 ∷ 101 ∷ 32 ∷ 53 ∷ 32 ∷ 54 ∷ 32 ∷ 48 ∷ 65 ∷ []

byte-line : line_of 2 byte ≡ Ok (Some (record { name = Name.Receive; last = 1 }))
unfolding on_call word_at seek before same_bytes form_of numbers_from number_at number_of begins0x number_in number_after all_digits
    value_after at_most digit_value pair_value spelled pairs_read bytes_at end_at
byte-line = refl

byte-after : bytes_after byte (7 ∷ 8 ∷ []) ≡ 10 ∷ 8 ∷ []
unfolding on_call word_at seek before same_bytes form_of numbers_from number_at number_of begins0x number_in number_after all_digits
    value_after at_most digit_value pair_value spelled pairs_stored bytes_kept
byte-after = refl

-- "write_row 5 0A0d": two bytes, and no second date
abbrev row : List ℕ
row = 119 ∷ 114 ∷ 105 ∷ 116 ∷ 101 ∷ 95 ∷ 114 ∷ 111 ∷ 119 ∷ 32 ∷ 53 ∷ 32 ∷ 48 ∷ 65 ∷ 48 ∷ 100 ∷ []

row_line : line_of 2 row ≡ Ok (Some (record { name = Name.WriteRow; last = 2 }))
unfolding on_call word_at seek before same_bytes form_of numbers_from number_at number_of begins0x number_in number_after all_digits
    value_after at_most digit_value pair_value spelled pairs_read bytes_at end_at
row_line = refl

row-after : bytes_after row (7 ∷ 8 ∷ 9 ∷ []) ≡ 10 ∷ 13 ∷ 9 ∷ []
unfolding on_call word_at seek before same_bytes form_of numbers_from number_at number_of begins0x number_in number_after all_digits
    value_after at_most digit_value pair_value spelled pairs_stored bytes_kept
row-after = refl

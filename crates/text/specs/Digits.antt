-- Digits in ASCII: `0` is 48, `A` 65 and `a` 97. Assumes nothing.
use Rattle.std.specs.Prelude.{ℕ, ◌+◌, ◌-◌, ltb}
use Rattle.text.specs.Pick.{pick}

-- the value of a hexadecimal digit of either case; 16 for any other byte
unfoldable pub digit_value : ℕ → ℕ
digit_value c =
    pick (ltb c 48) 16
    (pick (ltb c 58) (c - 48)
    (pick (ltb c 65) 16
    (pick (ltb c 71) (c - 55)
    (pick (ltb c 97) 16
    (pick (ltb c 103) (c - 87) 16)))))

-- the digit of a value below 16, in lower case
unfoldable pub letter : ℕ → ℕ
letter d = pick (ltb d 10) (48 + d) (87 + d)

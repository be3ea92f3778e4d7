-- `spelling::put_word` meets its contract: its letters are those of the eight digits. Assumes nothing.
use Rattle.text.proofs.spelling.put_word.Goals as goal

pub returns : goal.returns
returns c =
    rw (
      c.hex_letter-d7.ensures,
      c.hex_letter-d6.ensures,
      c.hex_letter-d5.ensures,
      c.hex_letter-d4.ensures,
      c.hex_letter-d3.ensures,
      c.hex_letter-d2.ensures,
      c.hex_letter-d1.ensures,
      c.hex_letter-d0.ensures,
    ) at
    c.put.ensures

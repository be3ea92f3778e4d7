-- The step of each number, and its cycle. Assumes nothing.
use Rattle.std.specs.Prelude.{ℕ, ◌+◌, ◌-◌, ◌*◌, ◌/◌, ◌%◌, ltb, eqb}
use Rattle.std.specs.Int.Bits.{bit_and}
use Rattle.model.specs.Numbers.{choose}
use Rattle.bench_mixed.specs.declared.notes.Notes.{Notes}
use Rattle.bench_mixed.specs.declared.steps.Step.{Step}

-- where a step stands in its row
abbrev pub place_of : ℕ → ℕ
place_of n = (n - 2) % 134

-- the cycle of a place, from the row's first on
unfoldable pub offset_at : ℕ → ℕ
offset_at i =
    choose (ltb i 32) (i / 2 * 10) (choose (eqb i 32) 200 (choose (ltb i 133) ((i - 33) / 5 * 420 + 300) 9000))

unfoldable pub cycle_at : ℕ → ℕ
cycle_at n = choose (ltb n 2) 0 ((n - 2) / 134 * 20000 + 1000 + offset_at (place_of n))

-- INT_ENA and CONF1
unfoldable pub enabling : ℕ → Step
enabling n = choose (eqb n 0) (Step.Write 12 16659) (Step.Write 36 2146305)

-- STATUS, and a byte to FIFO
unfoldable pub sending : ℕ → Step
sending i = choose (eqb (i % 2) 0) (Step.Look 24) (Step.Write 0 (i / 2 + 32))

-- a wake, INT_ST, STATUS, FIFO where a byte is held, INT_CLR
unfoldable pub handling : ℕ → Notes → Step
handling i s =
    choose (eqb (i % 5) 0) Step.Wake (choose (eqb (i % 5) 1) (Step.Look 8) (choose (eqb (i % 5) 2) (Step.Look 24)
    (choose (eqb (i % 5) 3) (choose (eqb (bit_and s.status 1023) 0) Step.Pass (Step.Look 0)) (Step.Write 16 s.raised))))

unfoldable pub in_row : ℕ → Notes → Step
in_row i s =
    choose (ltb i 32) (sending i) (choose (eqb i 32) Step.Receive (choose (ltb i 133) (handling (i - 33) s) Step.Take))

unfoldable pub step_at : ℕ → Notes → Step
step_at n s = choose (ltb n 2) (enabling n) (in_row (place_of n) s)

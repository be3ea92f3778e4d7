-- The names of the types that are an Option or a Result: a date that may be missing, what calls answer.
-- Assumes nothing.
use Rattle.std.specs.Prelude.{ℕ, Bool, Option, Result}
use Rattle.model.specs.declared.Refusal.{Refusal}
use Rattle.model.specs.declared.Made.{Made}

abbrev pub Date : Type 0
Date = Option ℕ

abbrev pub SetUp : Type 0
SetUp = Result Unit Refusal

abbrev pub Read : Type 0
Read = Result (Option ℕ) Refusal

abbrev pub Write : Type 0
Write = Result Bool Refusal

abbrev pub Done : Type 0
Done = Result Unit Refusal

abbrev pub Taken : Type 0
Taken = Result ℕ Refusal

abbrev pub Row : Type 0
Row = Result Made Refusal

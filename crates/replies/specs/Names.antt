-- The name of what the tests of a call say. Assumes nothing.
use Rattle.std.specs.Prelude.{Result}
use Rattle.model.specs.declared.Refusal.{Refusal}

abbrev pub Verdict : Type 0
Verdict = Result Unit Refusal

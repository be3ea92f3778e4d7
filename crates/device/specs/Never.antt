-- A test that fails does not pass, so that anything follows where it would have to. Assumes nothing.
use Rattle.std.specs.Prelude.{◌≡◌, true, false}
use Rattle.std.proofs.lemmas.Bool.{false≢true}

pub never : {X : Type 0} → false ≡ true → X
never e = absurd (false≢true e)

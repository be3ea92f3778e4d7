-- The notices of a report in plain numbers. Assumes nothing.
use Rattle.std.specs.Prelude.{List, [], ◌∷◌, ℕ, eqb, get_or, replicate}
use Rattle.model.specs.Numbers.{choose}
use Rattle.model.specs.Replies.{unused, notice_numbers}
use Rattle.model.specs.declared.Unsupported.{Unsupported}
use Rattle.model.specs.declared.Notice.{Notice}
use Rattle.ffi.specs.declared.notices.PlainNotice.{PlainNotice}

unfoldable pub plain_unsupported : Unsupported → PlainNotice
plain_unsupported n = record { what = (notice_numbers n).0; which = (notice_numbers n).1 }

-- the notice at a place
abbrev pub plain_at : List Notice → ℕ → PlainNotice
plain_at list i = plain_unsupported (get_or list i unused).what

-- each of the eight places
unfoldable pub plain_all : List Notice → List PlainNotice
plain_all list =
    plain_at list 0 ∷ plain_at list 1 ∷ plain_at list 2 ∷ plain_at list 3 ∷ plain_at list 4 ∷ plain_at list 5 ∷ plain_at list 6
    ∷ plain_at list 7 ∷ []

-- eight zeros where nothing was noted
unfoldable pub plain_notices : List Notice → ℕ → List PlainNotice
plain_notices list noted = choose (eqb noted 0) (replicate 8 (record { what = 0; which = 0 })) (plain_all list)

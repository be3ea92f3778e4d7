-- The notices of a report as the struct that is filled one by one. Assumes nothing.
use Rattle.std.specs.Prelude.{◌+◌, Bool, List, ltb, length, set}
use Rattle.model.specs.Numbers.{choose}
use Rattle.model.specs.Replies.{notices, notice_places}
use Rattle.model.specs.declared.Unsupported.{Unsupported}
use Rattle.replies.specs.declared.notices.Notices.{Notices}

-- the struct that holds a call's notes
unfoldable pub noted : List Unsupported → Notices
noted ns = record { list = notices ns; count = length ns }

-- one more behind the others, while there is a place
unfoldable pub added : Unsupported → Notices → Notices
added what n =
    choose (ltb n.count notice_places) (record { list = set n.list n.count (record { what = what }); count = n.count + 1 }) n

unfoldable pub added_if : Bool → Unsupported → Notices → Notices
added_if t what n = choose t (added what n) n

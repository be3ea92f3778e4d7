-- `notices::all` meets its contract. Assumes nothing.
use Rattle.ffi.specs.Notes.{plain_all}
use Rattle.ffi.proofs.notices.all.Goals as goal

pub returns : goal.returns
unfolding plain_all
returns c =
    rw (
      c.plain_notice-8.ensures,
      c.plain_notice-7.ensures,
      c.plain_notice-6.ensures,
      c.plain_notice-5.ensures,
      c.plain_notice-4.ensures,
      c.plain_notice-3.ensures,
      c.plain_notice-2.ensures,
      c.plain_notice.ensures,
    )

-- `read::read` meets its contract: refused as the tests say, or carried out at the place of the offset. Assumes nothing.
use mathlib.Core.Option.{none}
use Rattle.model.specs.Map.{register_of}
use Rattle.model.specs.Registers.{read_at}
use Rattle.model.specs.Calls.{after_settling, read_placed}
use Rattle.model.specs.Calls
use Rattle.model.specs.Replies.{refused, as_read, read_number}
use Rattle.model.proofs.Keeps.EachCall.{read-within}
use Rattle.model.proofs.Refuses.Carried.{looking-proper}
use Rattle.replies.specs.Calls.{read-tests}
use Rattle.replies.specs.Refusals.{dates_only}
use Rattle.calls.specs.Answers.{carried, turned-away, passes, refuses, in-time}
use Rattle.access.proofs.read.read.Goals as goal

pub enum_known-tests : goal.enum_known-tests
enum_known-tests c = c.in-Err.in-Err-own.keys1

pub enum_told-1 : goal.enum_told-1
enum_told-1 c = c.in-Ok.in-Ok-own.keys2

pub carry_out-requires : goal.carry_out-requires
unfolding dates_only
carry_out-requires c = (
  c.requires,
  (in-time _ _ none (passes c.date_refusal-tests.ensures
      c.in-Ok.is)).0,
)

pub returns-in-Err : goal.returns-in-Err
unfolding Calls.read as_read
returns-in-Err c =
    let start = c in
    let o = c.args in
    let register = register_of o.core.map.offsets o.offset in
    rw c.refuse.ensures
    (turned-away as_read read_number refused _ _ _ (read-tests o.cycle _ register)
    (refuses c.date_refusal-tests.ensures c.in-Err.is) c.requires)

pub returns-in-Ok : goal.returns-in-Ok
unfolding Calls.read Calls.carried read_placed after_settling read_at
returns-in-Ok c =
    let start = c in
    let o = c.args in
    let register = register_of o.core.map.offsets o.offset in
    let tests =
    passes c.date_refusal-tests.ensures
    c.in-Ok.is in
    carried as_read read_number refused _ _ _ (read-tests o.cycle _ register) tests
    (read-within o.cycle o.offset _ c.requires.within) (looking-proper _ _ _).zero
    (rw c.place_of-place.ensures at c.carry_out.ensures)

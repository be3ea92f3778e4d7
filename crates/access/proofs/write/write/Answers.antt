-- `write::write` meets its contract: refused as the tests of its place say, or carried out. Assumes nothing.
use mathlib.Core.Path.{refl}
use Rattle.calls.specs.Answers.{passes, refuses}
use Rattle.access.specs.ByPlace.{tests-in-time, write-carried, write-refused}
use Rattle.access.proofs.write.write.Goals as goal

pub enum_known-tests : goal.enum_known-tests
enum_known-tests c = c.in-Err.in-Err-own.keys1

pub enum_told-1 : goal.enum_told-1
enum_told-1 c = c.in-Ok.in-Ok-own.keys2

pub carry_out-requires : goal.carry_out-requires
carry_out-requires c =
    let start = c in
    let tests =
    passes c.tests_at-tests.ensures
    c.in-Ok.is in
    (c.requires, tests-in-time _ c.args.cycle _ _ _ tests)

pub returns-in-Err : goal.returns-in-Err
returns-in-Err c =
    let start = c in
    let o = c.args in
    write-refused o.cycle o.offset o.value c.requires
    c.place_of-place.ensures
    c.is_fifo-fifo.ensures refl
    (refuses c.tests_at-tests.ensures c.in-Err.is) c.refuse.ensures

pub returns-in-Ok : goal.returns-in-Ok
returns-in-Ok c =
    let start = c in
    let o = c.args in
    write-carried o.cycle o.offset o.value c.requires
    c.place_of-place.ensures
    c.is_fifo-fifo.ensures
    c.low_byte.ensures
    (passes c.tests_at-tests.ensures
    c.in-Ok.is)
    c.carry_out.ensures

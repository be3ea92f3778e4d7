-- `row::write_row` meets its contract: refused as its tests say, or carried out. Assumes nothing.
use mathlib.Core.Path.{refl}
use Rattle.calls.specs.Answers.{passes, refuses}
use Rattle.access.specs.RowTests.{row-passed, row_carried, row-refused}
use Rattle.access.proofs.row.write_row.Goals as goal

pub carry_out-requires : goal.carry_out-requires
carry_out-requires c =
    let start = c in
    row-passed c.args.cycle c.args.bytes.now c.requires
    (passes c.tests_at-tests.ensures
    c.in-Ok.is)

pub returns-in-Err : goal.returns-in-Err
returns-in-Err c =
    let start = c in
    row-refused c.args.cycle c.args.bytes.now c.requires
    (refuses c.tests_at-tests.ensures c.in-Err.is) c.refuse.ensures

pub returns-in-Ok : goal.returns-in-Ok
returns-in-Ok c =
    let start = c in
    row_carried c.args.cycle c.args.bytes.now c.requires
    (passes c.tests_at-tests.ensures
    c.in-Ok.is)
    c.carry_out.ensures

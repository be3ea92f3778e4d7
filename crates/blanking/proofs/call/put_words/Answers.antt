-- `call::put_words` meets its contract, name by name. Assumes nothing.
use mathlib.Core.Path.{ap, sym}
use Rattle.theorems.specs.Blanked.{blank_written, blanked, blanked_asked}
use Rattle.blanking.specs.Entries.{entry_of, blanked_entry, number, machine_words, call_words, entry_words}
use Rattle.blanking.specs.EntryLaws.{lent_length, two-same, write_same, of-name}
use Rattle.blanking.specs.Puts.{puts-same, put-nothing}
use Rattle.blanking.proofs.call.put_words.Goals as goal

pub returns-in-Setup : goal.returns-in-Setup
unfolding entry_words call_words machine_words blanked_entry blanked_asked blanked blank_written entry_of
returns-in-Setup c =
    let a = c.args in
    of-name a.map a.all a.last a.bytes.now a.s.now a.name _
    c.in-Setup.is _ _ _ _
    c.put_set_up.ensures

pub returns-in-Read : goal.returns-in-Read
unfolding entry_words call_words machine_words blanked_entry blanked_asked blanked blank_written entry_of
returns-in-Read c =
    let a = c.args in
    of-name a.map a.all a.last a.bytes.now a.s.now a.name _
    c.in-Read.is _ _ _ _
    (puts-same _ _ _ _ _ _ (two-same _ _ _ c.low.ensures) c.put_two.ensures)

pub returns-in-Write : goal.returns-in-Write
unfolding entry_words call_words machine_words blanked_entry blanked_asked blanked blank_written entry_of
returns-in-Write c =
    let a = c.args in
    of-name a.map a.all a.last a.bytes.now a.s.now a.name _
    c.in-Write.is _ _ _ _
    (puts-same _ _ _ _ _ _
    (write_same _ _ _ _ _ _ c.low-in-Write.ensures c.low-in-Write-2.ensures)
    c.put_write.ensures)

pub returns-in-WriteRow : goal.returns-in-WriteRow
unfolding entry_words call_words machine_words blanked_entry blanked_asked blanked blank_written entry_of
returns-in-WriteRow c =
    let a = c.args in
    of-name a.map a.all a.last a.bytes.now a.s.now a.name _
    c.in-WriteRow.is _ _ _ _
    c.put_row.ensures

pub returns-in-Receive : goal.returns-in-Receive
unfolding entry_words call_words machine_words blanked_entry blanked_asked blanked blank_written entry_of
returns-in-Receive c =
    let a = c.args in
    of-name a.map a.all a.last a.bytes.now a.s.now a.name _
    c.in-Receive.is _ _ _ _
    c.put_received.ensures

pub returns-in-Wake : goal.returns-in-Wake
unfolding entry_words call_words machine_words blanked_entry blanked_asked blanked blank_written entry_of
returns-in-Wake c =
    let a = c.args in
    of-name a.map a.all a.last a.bytes.now a.s.now a.name _
    c.in-Wake.is _ _ _ _
    c.put_number.ensures

pub returns-in-Watch : goal.returns-in-Watch
unfolding entry_words call_words machine_words blanked_entry blanked_asked blanked blank_written entry_of
returns-in-Watch c =
    let a = c.args in
    of-name a.map a.all a.last a.bytes.now a.s.now a.name _
    c.in-Watch.is _ _ _ _
    (puts-same _ _ _ _ _ _ (two-same _ _ _ c.bit_number.ensures) c.put_two-in-Watch.ensures)

pub returns-in-Reset : goal.returns-in-Reset
unfolding entry_words call_words machine_words blanked_entry blanked_asked blanked blank_written entry_of
returns-in-Reset c =
    let a = c.args in
    of-name a.map a.all a.last a.bytes.now a.s.now a.name _
    c.in-Reset.is _ _ _ _
    c.put_number-in-Reset.ensures

pub returns-in-PowerDown : goal.returns-in-PowerDown
unfolding entry_words call_words machine_words blanked_entry blanked_asked blanked blank_written entry_of
returns-in-PowerDown c =
    let a = c.args in
    of-name a.map a.all a.last a.bytes.now a.s.now a.name _
    c.in-PowerDown.is _ _ _ _
    c.put_number-in-PowerDown.ensures

pub returns-in-Clock : goal.returns-in-Clock
unfolding entry_words call_words machine_words blanked_entry blanked_asked blanked blank_written entry_of
returns-in-Clock c =
    let a = c.args in
    of-name a.map a.all a.last a.bytes.now a.s.now a.name _
    c.in-Clock.is _ _ _ _
    c.put_two-in-Clock.ensures

pub returns-in-TakeTx : goal.returns-in-TakeTx
unfolding entry_words call_words machine_words blanked_entry blanked_asked blanked blank_written entry_of
returns-in-TakeTx c =
    let a = c.args in
    of-name a.map a.all a.last a.bytes.now a.s.now a.name _
    c.in-TakeTx.is _ _ _ _
    (puts-same _ _ _ _ _ _ (two-same _ _ _ (sym (lent_length a.last))) c.put_two-in-TakeTx.ensures)

pub returns-in-TakeWritten : goal.returns-in-TakeWritten
unfolding entry_words call_words machine_words blanked_entry blanked_asked blanked blank_written entry_of
returns-in-TakeWritten c =
    let a = c.args in
    of-name a.map a.all a.last a.bytes.now a.s.now a.name _
    c.in-TakeWritten.is _ _ _ _
    (puts-same _ _ _ _ _ _ (ap number (sym (lent_length a.last))) c.put_number-in-TakeWritten.ensures)

pub returns-in-HasLeft : goal.returns-in-HasLeft
unfolding entry_words call_words machine_words blanked_entry blanked_asked blanked blank_written entry_of
returns-in-HasLeft c =
    let a = c.args in
    of-name a.map a.all a.last a.bytes.now a.s.now a.name _ c.in-HasLeft.is _ _ _ _
    (λ _. put-nothing _ _)

pub returns-in-HostPending : goal.returns-in-HostPending
unfolding entry_words call_words machine_words blanked_entry blanked_asked blanked blank_written entry_of
returns-in-HostPending c =
    let a = c.args in
    of-name a.map a.all a.last a.bytes.now a.s.now a.name _ c.in-HostPending.is _ _ _ _
    (λ _. put-nothing _ _)

pub returns-in-Figures : goal.returns-in-Figures
unfolding entry_words blanked_entry entry_of
returns-in-Figures c =
    let a = c.args in
    of-name a.map a.all a.last a.bytes.now a.s.now a.name _ c.in-Figures.is
    _ _ _ _ c.put_frames.ensures

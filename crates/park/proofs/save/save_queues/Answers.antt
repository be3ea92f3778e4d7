-- `save::save_queues` meets its contract: six puts, one behind the other. Assumes nothing.
use native.Mathlib.Omega.{arith}
use Rattle.park.specs.Puts.{puts-both}
use Rattle.park.specs.Saves.{queues_in}
use Rattle.park.proofs.save.save_queues.Goals as goal

pub put_runs-dated-requires : goal.put_runs-dated-requires
put_runs-dated-requires c =
    let host = c in
    let line = c in
    let flown = c in
    let left = c in
    let p = c.requires in (
      p.0.runs,
      p.4,
      p.5,
      omega (
        arith,
        p.7,
        c.put_bytes-left.ensures.place,
        c.put_bytes-left.ensures.long,
        c.put_bytes-flown.ensures.place,
        c.put_bytes-flown.ensures.long,
        c.put_on_the_line-started.ensures.place,
        c.put_on_the_line-started.ensures.long,
        c.put_bytes-waiting.ensures.place,
        c.put_bytes-waiting.ensures.long,
      ),
    )

pub put_bytes-requires : goal.put_bytes-requires
put_bytes-requires c =
    let runs = c in
    let host = c in
    let line = c in
    let flown = c in
    let left = c in
    let p = c.requires in (
      p.0.rx,
      p.6,
      omega (
        arith,
        p.7,
        c.put_bytes-left.ensures.place,
        c.put_bytes-left.ensures.long,
        c.put_bytes-flown.ensures.place,
        c.put_bytes-flown.ensures.long,
        c.put_on_the_line-started.ensures.place,
        c.put_on_the_line-started.ensures.long,
        c.put_bytes-waiting.ensures.place,
        c.put_bytes-waiting.ensures.long,
        c.put_runs-dated.ensures.place,
        c.put_runs-dated.ensures.long,
      ),
    )

pub returns : goal.returns
unfolding queues_in
returns c =
    let received = c in
    let runs = c in
    let host = c in
    let line = c in
    let flown = c in
    let left = c in
    puts-both c.put_bytes-left.ensures (puts-both c.put_bytes-flown.ensures (puts-both c.put_on_the_line-started.ensures
    (puts-both c.put_bytes-waiting.ensures (puts-both c.put_runs-dated.ensures c.put_bytes.ensures))))

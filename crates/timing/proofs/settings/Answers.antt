-- `settings` meets its contract, field by field. Assumes nothing.
use Rattle.model.specs.Timing.{settings}
use Rattle.timing.proofs.settings.Goals as goal

pub returns : goal.returns
unfolding settings
returns c =
    rw (
      c.byte_time.ensures,
      c.timeout_time.ensures,
      c.unmodelled_source.ensures,
      c.rx_sclk_en.ensures,
      c.rx_tout_en.ensures,
      c.rxfifo_rst.ensures,
      c.dis_rx_dat_ovf.ensures,
    )

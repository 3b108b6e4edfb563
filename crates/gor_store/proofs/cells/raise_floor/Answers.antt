use Rattle.gor_store.specs.Series.{open_share}
use Rattle.gor_store.proofs.Sealing.{sealed_row}
use Rattle.gor_store.proofs.cells.raise_floor.Goals as goal

pub returns-in_ok-_sealed : goal.returns-in_ok-_sealed
returns-in_ok-_sealed c =
    sealed_row c.args.row.now c.window_before-window.result c.seal.new.self.live c.window_before-window.ensures c.requires.series.1.kept
    (c.in_ok-_sealed.ensures.share (open_share c.args.row.now c.args.row.now.points) c.requires.stands)

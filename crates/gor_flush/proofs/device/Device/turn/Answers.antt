use Rattle.std.proofs.Common.{List, ◌++◌, ◌∷◌, [], refl, sym, subst}
use Rattle.gor_marks.specs.declared.mark.Mark.{Mark}
use Rattle.gor_image.specs.MarkLists.{AreMarks}
use Rattle.gor_recover.specs.Recovered.{AreTops}
use Rattle.gor_recover.specs.declared.recovered.LogTop.{LogTop}
use Rattle.gor_flush.proofs.HasTurned.{turned_stands}
use Rattle.gor_flush.proofs.TurnedTops.{marks_turned, tops_turned}
use Rattle.gor_flush.proofs.device.Device.turn.Goals as goal

pub returns-clause-marks : goal.returns-clause-marks
returns-clause-marks g c =
    subst (λ (l : List Mark). AreMarks c.args.self.now.shards c.args.self.now.shard l) (sym c.push_reserved.ensures.items)
    (marks_turned c.args.self.now.shards c.args.self.now.shard c.args.self.now.list.items c.args.mark c.requires.marks c.requires.follows)

pub returns-clause-tops : goal.returns-clause-tops
returns-clause-tops g c =
    subst (λ (l : List Mark). AreTops l c.turn_logs.new.tops.items) (sym c.push_reserved.ensures.items)
    (subst (λ (t : List LogTop). AreTops (c.args.self.now.list.items ++ c.args.mark ∷ []) t) (sym c.turn_logs.ensures)
    (tops_turned c.args.self.now.shards c.args.self.now.shard c.args.self.now.list.items c.args.mark c.args.self.now.tops.items c.requires.marks c.requires.tops c.requires.follows))

pub returns-clause-stands : goal.returns-clause-stands
returns-clause-stands g c = λ before start share stood has.
    turned_stands c.args.mark before start share stood has refl c.push_reserved.ensures.items (returns-clause-marks g c) (returns-clause-tops g c) c.requires.follows c.requires.files

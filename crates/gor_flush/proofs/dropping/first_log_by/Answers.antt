use Rattle.std.proofs.Common.{sym, ap, List}
use Rattle.gor_marks.specs.declared.mark.Mark.{Mark}
use Rattle.gor_image.specs.Images.{first_log_of}
use Rattle.gor_flush.proofs.MarkLists.{first_log_last, home_only}
use Rattle.gor_flush.proofs.dropping.first_log_by.Goals as goal

pub returns-in-Some-Sealed : goal.returns-in-Some-Sealed
returns-in-Some-Sealed c = let h = c.in-Some-Sealed in first_log_last c.args.marks.now _ h.field-0 _ _ _ h.first_log h.field-0-is h.ensures.some

pub returns-in-Some-Home : goal.returns-in-Some-Home
returns-in-Some-Home c = let h = c.in-Some-Home in sym (ap (λ (l : List Mark). first_log_of l) (home_only c.args.marks.now _ h.field-0 _ _ c.requires h.field-0-is h.ensures.some))

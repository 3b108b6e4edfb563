use Rattle.std.proofs.Common.{sym, ap, List}
use Rattle.gor_marks.specs.declared.mark.Mark.{Mark}
use Rattle.gor_image.specs.Images.{current}
use Rattle.gor_flush.proofs.MarkLists.{number_last, home_only}
use Rattle.gor_flush.proofs.reopening.current_number.Goals as goal

pub returns-in-Some-Sealed : goal.returns-in-Some-Sealed
returns-in-Some-Sealed c = let h = c.in-Some-Sealed in number_last c.args.marks.now _ h.field-0 _ h.keys _ _ c.requires h.field-0-is h.ensures.some

pub returns-in-Some-Home : goal.returns-in-Some-Home
returns-in-Some-Home c = let h = c.in-Some-Home in sym (ap (λ (l : List Mark). current l) (home_only c.args.marks.now _ h.field-0 _ _ c.requires h.field-0-is h.ensures.some))

-- What a merged list determines, and that what gets give may be merged.
use Rattle.std.specs.Prelude.{◌≡◌, ℕ, List}
use Rattle.gor_model.specs.declared.point.Point.{Point}
use Rattle.gor_model.specs.declared.point.Merged.{Merged}
use Rattle.gor_model.specs.declared.event.Call.TheVariants.{Get}
use Rattle.gor_model.specs.declared.event.Reply.TheVariants as reply
use Rattle.gor_model.specs.declared.start.Start.{Start}
use Rattle.gor_model.specs.Starts.{IsStart}
use Rattle.gor_model.specs.Changes.{History}
use Rattle.gor_model.specs.Answers.{answer, Legal}
use Rattle.gor_model.specs.Merges.{IsMerged}
use Rattle.gor_merge.specs.Heads.{TimesRise}

-- two merged lists of the same lists are one
abbrev pub MergedInOneWay : Type 0
MergedInOneWay = (lists : List (List Point)) (a b : List Merged) → IsMerged lists a → IsMerged lists b → a ≡ b

-- the points that a get is answered after a legal history rise in time
abbrev pub ReadsRise : Type 0
ReadsRise = (start : Start) (H : History) (key : List ℕ) (from to : ℕ) (points : List Point) → IsStart start → Legal start H
    → answer start H (Get key from to) ≡ reply.Points points → TimesRise points

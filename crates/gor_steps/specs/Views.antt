-- What a pass knows of the parts that it holds, and what its steps leave as it was.
use Rattle.std.specs.Prelude.{◌≡◌, ℕ, ◌^◌, ◌≤◌, ◌∷◌, length, Some}
use Rattle.gor_model.specs.declared.start.Move.TheVariants.{Took}
use Rattle.gor_model.specs.declared.event.Event.{Event}
use Rattle.gor_model.specs.Starts.{IsStart}
use Rattle.gor_model.specs.Changes.{History}
use Rattle.gor_model.specs.Answers.{Legal}
use Rattle.gor_model.specs.Shares.{directory_share, series_share, journal_share}
use Rattle.gor_model.specs.Objects.{Has, IsBeginning, share_of}
use Rattle.gor_rule.specs.declared.view.View.{View}
use Rattle.gor_rule.specs.Rule.{numbers}
use Rattle.gor_cell.specs.declared.cell.Cell.{Cell}
use Rattle.gor_cell.specs.Stands as cell
use Rattle.gor_dir.specs.Listings.{Listing}
use Rattle.gor_dir.specs.Listings as directory
use Rattle.gor_journal.specs.Bodies.{Kept}
use Rattle.gor_journal.specs.Stands as journal

-- ---- what a held part stands for: its share of the history after which the shares of the held objects are

abbrev pub HasDirectory : View → Listing → Type 0
HasDirectory v index = directory.Stands index (directory_share v.start v.at)

abbrev pub HasSeries : View → ℕ → Cell → Type 0
HasSeries v slot series = cell.Stands series.live (series_share v.start v.at slot)

abbrev pub HasJournal : View → Kept → Type 0
HasJournal v log = journal.Stands log.pending (journal_share v.start v.at)

-- ---- steps

-- what has been seen and made is as it was
pub record HasNone (v w : View) : Type 0 where
  pub start : w.start ≡ v.start
  pub seen : w.seen ≡ v.seen
  pub mine : w.mine ≡ v.mine

-- the history after which the shares of the held objects are is one of the shard, and has a number
pub record IsSound (v : View) : Type 0 where
  pub start : IsStart v.start
  pub legal : Legal v.start v.at
  pub short : length v.at ≤ 2 ^ 44

-- the shares of the objects that were held are as they were
abbrev pub KeepsShares : View → View → Type 0
KeepsShares v w = (o : ℕ) → Has v.held o → share_of w.start o w.at ≡ share_of v.start o v.at

-- an object was taken: the shares of those that were held before are as they were
pub record Takes (v : View) (o : ℕ) (w : View) : Type 0 where
  pub none : HasNone v w
  pub held : w.held ≡ o ∷ v.held
  pub moves : w.moves ≡ Took o ∷ v.moves
  pub sound : IsSound w
  pub shares : KeepsShares v w

-- the event stands at the number n and ends what has then been seen, in which its lane has one event more
pub record HasEvent (v : View) (n : ℕ) (e : Event) (w : View) : Type 0 where
  pub before : History
  pub start : w.start ≡ v.start
  pub seen : w.seen ≡ e ∷ before
  pub begins : IsBeginning v.seen before
  pub number : n ≡ length before
  pub legal : Legal w.start w.seen
  pub lane : numbers e.lane w.seen ≡ n ∷ v.mine
  pub mine : w.mine ≡ n ∷ v.mine

-- the pass made no event, and may have seen more of the history
pub record SeesMore (v w : View) : Type 0 where
  pub start : w.start ≡ v.start
  pub begins : IsBeginning v.seen w.seen
  pub legal : Legal w.start w.seen
  pub mine : w.mine ≡ v.mine
  pub own : (lane : ℕ) → v.lane ≡ Some lane → numbers lane w.seen ≡ v.mine

-- One session of a shard: from the moment at which its disk was handed in until it comes back.
use Rattle.std.specs.Prelude.{◌≡◌, ◌⊎◌, ℕ, ◌≤◌, List, ◌++◌, map, Option, None, is_some, Ok, Err, Bool, true, false, IsTrue, filter_map}
use Rattle.std.specs.List.{AllByRecursion}
use Rattle.gor_disk.specs.Disk.{DiskView, Contents, LeavesSince, NothingPending, Rose}
use Rattle.gor_model.specs.declared.event.Event.{Event}
use Rattle.gor_model.specs.declared.event.Change.{Change}
use Rattle.gor_model.specs.declared.start.Start.{Start}
use Rattle.gor_model.specs.Answers.{Legal, is_stopped}
use Rattle.gor_model.specs.Changes.{History, changes}
use Rattle.gor_model.specs.Lists.{EachBefore}
use Rattle.gor_model.specs.Shares.{DoneAt, done_at}
use Rattle.gor_flush.specs.Devices.{HoldsPrefix, last_count}
use Rattle.gor_image.specs.Fit.{IsFitFor, FitHolds}
use Rattle.gor_image.specs.Holding.{HoldsState}
use Rattle.gor_image.specs.Images.{opens_to}
use Rattle.gor_image.specs.Recovery.{ShardMap}
use Rattle.gor_image.specs.declared.fault.ImageFault.TheVariants as fault
use Rattle.gor_text.specs.LineAnswers.{LineAnswers}
use Rattle.gor_text.specs.Transcripts.{Transcript, text_of}
use Rattle.gor_text.specs.declared.workload.Line.{Line}
use Rattle.gor_store.specs.Closings.{ClosesBy, only_last}
use Rattle.gor_store.specs.Lanes.{AreTaken}
use Rattle.gor_store.specs.Shards.{BeginsFrom, HasClosed}
use Rattle.gor_store.specs.Stories.{LaneRun, served_in}
use Rattle.gor_store.specs.Works.{IsWork, IsAmong, AreOfLane}
use Rattle.gor_hall.specs.declared.pass.Pass.{Pass}
use Rattle.gor_finish.specs.Made.{Numbered}

-- ---- the disk

-- the moments and the counts of the Dones of a history, the newest first
abbrev pub dones_of : History → List DoneAt
dones_of h = filter_map (λ (e : Event). done_at e.call e.reply) h

-- from this moment on every image is fit, and holds the state after a prefix of the changes that has at least so many of them
abbrev pub HoldsSince : ℕ → ℕ → ℕ → DiskView → Start → History → ℕ → Type 0
HoldsSince shards shard since disk start h n = LeavesSince since disk (HoldsPrefix shards shard start (changes h) n)

-- neither the moment nor the count of a Done is below that of one before it
abbrev pub NeverFalls : DoneAt → DoneAt → Type 0
NeverFalls done before = (before.moment ≤ done.moment) × (before.count ≤ done.count)

-- Every image of every moment of the session is fit and holds the state after a prefix of the changes of the history. The moment
-- of each Done has come, and every image of every moment since has at least the changes that the Done counts; so has every
-- image now for the last Done. Moments and counts of the Dones never fall.
pub record KeepsItsWord (shards shard since : ℕ) (disk : DiskView) (start : Start) (h : History) : Type 0 where
  pub prefixes : HoldsSince shards shard since disk start h 0
  pub kept : AllByRecursion (λ done. (since ≤ done.moment) × (done.moment ≤ disk.moment) × HoldsSince shards shard done.moment disk start h done.count) (dones_of h)
  pub now : HoldsSince shards shard disk.moment disk start h (last_count (dones_of h))
  pub in_order : EachBefore NeverFalls (dones_of h)

-- nothing is pending, and every image now is fit and holds the state after all changes of the history
pub record HoldsAllNow (shards shard : ℕ) (disk : DiskView) (start : Start) (h : History) : Type 0 where
  pub pending : NothingPending disk
  pub all : LeavesSince disk.moment disk (λ image. FitHolds shards shard image start (changes h))

-- A legal history from what the disk recovered to as it was handed in. A Stop stands in it only where the disk's faults rose,
-- and else they are as they were. Where the disk tells its contents and its files were fit as it was handed in, it keeps its
-- word.
pub record Session {D : Type 0} (shards shard slots : ℕ) (tells : Bool) (view : D → DiskView) (faults : D → ℕ) (old new : D) (start : Start) (h : History) : Type 0 where
  pub begins : BeginsFrom shards shard slots tells (view old) (faults old) start
  pub legal : Legal start h
  pub rose : is_stopped h ≡ true → Rose (faults old) (faults new)
  pub still : is_stopped h ≡ false → faults new ≡ faults old
  pub later : IsTrue tells → (view old).moment ≤ (view new).moment
  pub kept : IsTrue tells → IsFitFor shards shard (view old).seen → KeepsItsWord shards shard (view old).moment (view new) start h

-- A last flush ended it: a Stop stands exactly where it was not answered; and where it was, the disk holds all changes, if the
-- files that were handed in were fit.
pub record SessionEnds (shards shard : ℕ) (given : Contents) (tells : Bool) (disk : DiskView) (start : Start) (h : History) (stopped : Option ℕ) : Type 0 where
  pub stops : is_stopped h ≡ is_some stopped
  pub all : stopped ≡ None → IsTrue tells → IsFitFor shards shard given → HoldsAllNow shards shard disk start h

-- ---- the text

-- The text answers the lines of these phases, by a history that begins the shard's. What came after it is of lane 8 and adds
-- no change where nothing else worked after the phases.
pub record IsToldBy (start : Start) (phases : List (List (List Line))) (text : List ℕ) (h : History) : Type 0 where
  pub transcript : Transcript (LineAnswers 1) 1 (λ shard. start) phases text
  pub later : History
  pub whole : later ++ transcript.histories 0 ≡ h

pub record IsToldWhole (start : Start) (phases : List (List (List Line))) (text : List ℕ) (h : History) : Type 0 where
  pub told : IsToldBy start phases text h
  pub closing : AllByRecursion (λ e. e.lane ≡ 8) told.later
  pub adds : changes h ≡ changes (told.transcript.histories 0)

-- ---- what the passes of a shard did

-- these phases were run, and then some last events were made
pub record HaveServed (passes : List Pass) (phases : List (List (List Line))) (last : ℕ → List Numbered) (text : List ℕ) : Type 0 where
  pub runs : List (List LaneRun)
  pub work : IsWork 0 passes runs last
  pub lines : map (map (map (λ s. s.line))) (served_in runs) ≡ phases
  pub answered : AllByRecursion (AllByRecursion (AllByRecursion (λ s. LineAnswers 1 s.line s.acts))) (served_in runs)
  pub tells : text ≡ text_of (served_in runs)

-- ---- the laws: what stands once a shard has closed

module _ {D : Type 0} (tells : Bool) (view : D → DiskView) (faults : D → ℕ) where
  -- Whatever its passes did: the text is that of the lines as these passes served them, and what came after it are the last
  -- events of the lanes, those of each lane in their order, and no others.
  abbrev pub SessionStands : Type 0
  SessionStands = (slots : ℕ) (old new : D) (start : Start) (passes : List Pass) (phases : List (List (List Line))) (last : ℕ → List Numbered) (text : List ℕ)
      → BeginsFrom 1 0 slots tells (view old) (faults old) start → AllByRecursion (AllByRecursion AreTaken) phases
      → (served : HaveServed passes phases last text) → (closed : HasClosed tells view faults start 9 passes new)
      → Session 1 0 slots tells view faults old new start closed.history
      × (told : IsToldBy start phases text closed.history) × (told.transcript.served ≡ served_in served.runs) × AllByRecursion (λ e. IsAmong (last e.lane) e) told.later
      × ((lane : ℕ) → AreOfLane lane (told.transcript.histories 0) told.later (last lane))

  -- where nothing but a last flush came after the phases
  abbrev pub SessionIsWhole : Type 0
  SessionIsWhole = (shards shard : ℕ) (given : Contents) (new : D) (start : Start) (passes : List Pass) (phases : List (List (List Line))) (text : List ℕ) (stopped : Option ℕ) (events : List Numbered)
      → shards ≡ start.shards → shard ≡ start.shard → (IsFitFor shards shard given → start.fit ≡ true) → AllByRecursion (AllByRecursion AreTaken) phases
      → (served : HaveServed passes phases (only_last events) text) → ClosesBy stopped events → (closed : HasClosed tells view faults start 9 passes new)
      → (told : IsToldWhole start phases text closed.history) × (told.told.transcript.served ≡ served_in served.runs) × SessionEnds shards shard given tells (view new) start closed.history stopped

-- the image is fit, and opens again with the same home and slots to the state after a prefix of these changes, unless its numbers
-- have come to their limit
pub record OpensAgain (shards shard slots : ℕ) (start : Start) (C : List Change) (image : Contents) : Type 0 where
  pub later : List Change
  pub prefix : List Change
  pub all : later ++ prefix ≡ C
  pub fit : IsFitFor shards shard image
  pub map : ShardMap
  pub state : HoldsState map start prefix
  pub opens : (opens_to image shards shard slots ≡ Ok map) ⊎ (opens_to image shards shard slots ≡ Err (fault.Worn map.next))

-- Whatever a crash leaves of a session's disk, at any moment of it, opens again; so a next session begins from it.
abbrev pub ImagesOpenAgain : {D : Type 0} → Bool → (D → DiskView) → (D → ℕ) → Type 0
ImagesOpenAgain {D} tells view faults = (shards shard slots : ℕ) (old new : D) (start : Start) (h : History)
    → Session shards shard slots tells view faults old new start h → IsTrue tells → IsFitFor shards shard (view old).seen
    → LeavesSince (view old).moment (view new) (OpensAgain shards shard slots start (changes h))

-- The steps of a finish that need no disk: its Floor, and the Seal of one series.
use Rattle.std.specs.Prelude.{◌≡◌, ℕ, ◌+◌, ◌<◌, ◌≤◌, nat_lt, List, [], ◌∷◌, Option, Some, None, IfSome, Bool, true, false, ⊤}
use Rattle.gor_model.specs.declared.event.Call.TheVariants as call
use Rattle.gor_model.specs.declared.event.Change.{Change}
use Rattle.gor_model.specs.declared.event.Change.TheVariants as change
use Rattle.gor_model.specs.declared.event.Event.{Event}
use Rattle.gor_model.specs.declared.event.Reply.{Reply}
use Rattle.gor_model.specs.declared.event.Reply.TheVariants as reply
use Rattle.gor_model.specs.declared.start.Start.{Start}
use Rattle.gor_model.specs.Changes.{changes}
use Rattle.gor_model.specs.PlainMap.{row_after, shard_floor}
use Rattle.gor_model.specs.Names.{key_of}
use Rattle.gor_model.specs.Shares.{SealedSeries, DeviceShare, JournalShare, OfSeries, device_share}
use Rattle.gor_model.specs.SharesAfter.{device_raised, device_sealed, journal_with}
use Rattle.gor_model.specs.Windows.{window_end}
use Rattle.gor_rule.specs.declared.view.View.{View}
use Rattle.gor_cell.specs.Packed.{Packed, points_of}
use Rattle.gor_cell.specs.Stands as cells
use Rattle.gor_cell.specs.Steps.{ArePieces, after_seal}
use Rattle.gor_dir.specs.Listings.{shown}
use Rattle.gor_journal.specs.Stands as journals
use Rattle.gor_hall.specs.declared.pass.Pass.{Pass}
use Rattle.gor_hall.specs.Passes.{view, lane_of, left_of_pass}
use Rattle.gor_steps.specs.Points.{said}
use Rattle.gor_steps.specs.Views.{HasDirectory, HasJournal, HasEvent, SeesMore}
use Rattle.gor_steps.specs.declared.held.Both.{Both}
use Rattle.gor_steps.specs.declared.wide.Wide.{Wide}
use Rattle.gor_steps.specs.declared.floors.FloorAnswer.{FloorAnswer}
use Rattle.gor_steps.specs.declared.floors.FloorAnswer.TheVariants as answer
use Rattle.gor_steps.specs.declared.seals.SealReply.{SealReply}
use Rattle.gor_steps.specs.declared.seals.Made.{Made}

-- ---- the directory and the journal over the device

pub record HasWide (v : View) (wide : Wide) : Type 0 where
  pub held : v.held ≡ (v.start.slots + 2) ∷ 1 ∷ 0 ∷ []
  pub directory : HasDirectory v wide.directory
  pub journal : HasJournal v wide.journal

-- the device's share, and that it is as it was
abbrev pub device_of : View → DeviceShare
device_of v = device_share v.start v.at

abbrev pub KeepsDevice : View → View → Type 0
KeepsDevice v w = device_of w ≡ device_of v

-- ---- a Floor

abbrev pub floor_reply : FloorAnswer → Reply
floor_reply (answer.Floor floor) = reply.Floor floor
floor_reply (answer.Sealed floor) = reply.Sealed floor
floor_reply answer.Stopped = reply.Stopped

abbrev pub floor_event : ℕ → ℕ → FloorAnswer → Event
floor_event lane window a = said lane None (call.Floor window) (floor_reply a)

-- the answer of a Floor, by the directory and the journal
abbrev pub FloorTold : ℕ → Wide → FloorAnswer → Type 0
FloorTold window wide (answer.Floor floor) = (floor ≡ window_end window) × (wide.journal.pending.stopped ≡ false) × ((shown wide.directory).floor < window_end window)
FloorTold window wide (answer.Sealed floor) = (floor ≡ (shown wide.directory).floor) × (wide.journal.pending.stopped ≡ false) × (window_end window ≤ (shown wide.directory).floor)
FloorTold window wide answer.Stopped = wide.journal.pending.stopped ≡ true

-- it changes nothing
abbrev pub IsQuietFloor : FloorAnswer → Type 0
IsQuietFloor (answer.Floor floor) = ⊥
IsQuietFloor _ = ⊤

-- the answer by the device's share, and that share after the event
abbrev pub FloorsDevice : ℕ → FloorAnswer → DeviceShare → DeviceShare → Type 0
FloorsDevice window (answer.Floor floor) old new = (floor ≡ window_end window) × (old.stopped ≡ false) × (old.floor < window_end window) × (new ≡ device_raised (window_end window) old)
FloorsDevice window (answer.Sealed floor) old new = (floor ≡ old.floor) × (old.stopped ≡ false) × (window_end window ≤ old.floor) × (new ≡ old)
FloorsDevice window answer.Stopped old new = (old.stopped ≡ true) × (new ≡ old)

-- the shard runs, and its floor has reached the end of the window, by the shares that are held and by what has been seen
pub record HasRaised (window : ℕ) (v : View) : Type 0 where
  pub runs : (device_of v).stopped ≡ false
  pub reached : window_end window ≤ (device_of v).floor
  pub seen : window_end window ≤ shard_floor v.start (changes v.seen)

abbrev pub RaisesIfFloor : ℕ → FloorAnswer → View → Type 0
RaisesIfFloor window (answer.Floor floor) v = HasRaised window v
RaisesIfFloor window _ v = ⊤

-- ---- a Seal

abbrev pub seal_event : ℕ → ℕ → List ℕ → ℕ → Event
seal_event lane slot name window = said lane (Some slot) (call.Seal (key_of name) window) (reply.Seal name)

-- there is a series, and its floor is below the end of the window
abbrev pub is_open_to : ℕ → Option Packed → Bool
is_open_to window None = false
is_open_to window (Some s) = nat_lt s.floor (window_end window)

-- the two stand for what they did
pub record IsSameBoth (old new : Both) : Type 0 where
  pub cell : new.cell.live ≡ old.cell.live
  pub journal : new.journal.pending ≡ old.journal.pending

-- the series is sealed in both, and its kept blocks of the windows from `first` on are copied
pub record SealsIn (first window : ℕ) (old : Both) (made : Made) : Type 0 where
  pub told : IfSome old.cell.live (λ s. (made.name ≡ s.name) × (made.uid ≡ s.uid))
  pub cell : cells.ByShare old.cell.live (λ share. cells.Stands made.both.cell.live (Some (after_seal window share)))
  pub pieces : IfSome made.both.cell.live (λ s. ArePieces first window (points_of s) made.sealed.blocks.items)
  pub journal : (key : List ℕ) (share : JournalShare) → journals.Stands old.journal.pending share
      → journals.Stands made.both.journal.pending (journal_with (change.Seal key window) (OfSeries made.uid) share)

-- each series that is there in the slots below one is sealed up to the window, after these changes
abbrev pub AreSealed : Start → List Change → ℕ → ℕ → Type 0
AreSealed start C window slot = (key : List ℕ) → IfSome (row_after start C key) (λ row. row.slot < slot → window_end window ≤ row.floor)

-- and so of what a pass has seen
abbrev pub AreSealedBelow : ℕ → ℕ → View → Type 0
AreSealedBelow window slot v = AreSealed v.start (changes v.seen) window slot

-- the series of the slot was sealed by one event, and copies of its kept blocks of the windows from `first` on were made
pub record Seals (old : Pass) (slot first window : ℕ) (new : Pass) (r : SealReply) : Type 0 where
  pub event : HasEvent (view old) r.number (seal_event (lane_of old) slot r.name window) (view new)
  pub left : left_of_pass new + 1 ≡ left_of_pass old
  pub series : SealedSeries
  pub slot_is : series.slot ≡ slot
  pub uid_is : series.uid ≡ r.uid
  pub device : device_of (view new) ≡ device_sealed series (device_of (view old))
  pub pieces : ArePieces first window series.points r.sealed.blocks.items

-- no event was made
pub record SealsNone (old new : Pass) : Type 0 where
  pub more : SeesMore (view old) (view new)
  pub left : left_of_pass new ≡ left_of_pass old
  pub device : KeepsDevice (view old) (view new)

-- a series that was below the end of the window was sealed, or no event was made
abbrev pub SealsIfOpen : Pass → ℕ → ℕ → ℕ → Pass → Option SealReply → Type 0
SealsIfOpen old slot first window new None = SealsNone old new
SealsIfOpen old slot first window new (Some r) = Seals old slot first window new r

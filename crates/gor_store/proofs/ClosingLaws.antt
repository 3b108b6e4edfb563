-- What the pass of lane 8 makes by a flush.
use Rattle.std.proofs.Common.{◌≡◌, inl, inr, ℕ, ◌+◌, ◌≤◌, List, [], ◌∷◌, ◌++◌, length, refl, ap, ◌∙◌, subst, arith, Some, None}
use Rattle.std.specs.Prelude.{Option, reverse}
use Rattle.std.proofs.lemmas.List.{append-nil}
use Rattle.gor_rule.specs.Rule.{numbers}
use Rattle.gor_hall.specs.declared.pass.Pass.{Pass}
use Rattle.gor_hall.specs.declared.hall.Hall.{Hall}
use Rattle.gor_hall.specs.Halls.{IsPassOf}
use Rattle.gor_hall.specs.Passes.{seen, made, held, lane_of, left_of_pass}
use Rattle.gor_finish.specs.Flushes.{IsFlush, take_made, take_refused, done_made, stop_made}
use Rattle.gor_finish.specs.Made.{Numbered, HasMade}
use Rattle.gor_finish.specs.declared.reply.FlushReply.{FlushReply}
use Rattle.gor_finish.specs.declared.reply.FlushReply.TheVariants.{Flushed, Stopped, Fault}
use Rattle.gor_store.specs.Lines.{HasRun, RestsAgain}
use Rattle.gor_store.specs.Stories.{AllFrom}
use Rattle.gor_store.specs.Closings.{ClosesBy}
use Rattle.gor_store.specs.Stores.{FlushedBehind, stopped_by}
use Rattle.gor_store.specs.Works.{HasAdded}
use Rattle.gor_store.proofs.RunLaws.{flush_run, runs_on}
use Rattle.gor_store.proofs.Works.{added_newest_first, added_is_later}

higher : (low high : ℕ) (events : List Numbered) → low ≤ high → AllFrom high events → AllFrom low events
higher low high [] le all = tt
higher low high (e ∷ events) le all = (let a = all.0 in omega (arith, a, le), higher low high events le all.1)

module _ (before : ℕ) (old mid new : Pass) (same : lane_of mid ≡ lane_of old) (lane : lane_of new ≡ lane_of mid) (own : numbers (lane_of mid) (seen mid) ≡ made mid) (long : before ≤ length (seen mid))
    (waited : HasRun old mid []) where
  -- events of a flush, of which the newest stands first
  behind : (stopped : Option ℕ) (events : List Numbered) → HasMade mid new events → ClosesBy stopped (reverse events) → FlushedBehind before old new stopped
  behind stopped events made closes =
      let run = flush_run mid new events made in
      let all = runs_on old mid new [] events same waited run in record {
        events = reverse events;
        closes = closes;
        added = subst (λ (es : List Numbered). HasAdded old new (reverse es)) (append-nil events) (added_newest_first old new (events ++ []) (lane ∙ same) all.begins all.made_is all.each);
        from = higher before (length (seen mid)) (reverse events) long (added_is_later mid new (reverse events) (added_newest_first mid new events lane run.begins run.made_is run.each) own run.own);
      }

  pub flushed_behind : (reply : FlushReply) → lane_of mid ≡ 8 → IsFlush mid reply new → FlushedBehind before old new (stopped_by reply)
  flushed_behind (Flushed take taken done changes) eight f =
      behind None ((done, done_made (lane_of mid) f.0 changes) ∷ (take, take_made (lane_of mid) taken) ∷ []) f.1
      (take, done, changes, f.0, taken, ap (λ (l : ℕ). (take, take_made l taken) ∷ (done, done_made l f.0 changes) ∷ []) eight)
  flushed_behind (Stopped number) eight f =
      behind (Some 0) ((number, take_refused (lane_of mid)) ∷ []) f (refl, inl (number, ap (λ (l : ℕ). (number, take_refused l) ∷ []) eight))
  flushed_behind (Fault take taken stop) eight f =
      behind (Some 0) ((stop, stop_made (lane_of mid)) ∷ (take, take_made (lane_of mid) taken) ∷ []) f
      (refl, inr (take, stop, taken, ap (λ (l : ℕ). (take, take_made l taken) ∷ (stop, stop_made l) ∷ []) eight))

made_some : (old new : Pass) (reply : FlushReply) → IsFlush old reply new → (events : List Numbered) × HasMade old new events
made_some old new (Flushed take taken done changes) f = ((done, done_made (lane_of old) f.0 changes) ∷ (take, take_made (lane_of old) taken) ∷ [], f.1)
made_some old new (Stopped number) f = ((number, take_refused (lane_of old)) ∷ [], f)
made_some old new (Fault take taken stop) f = ((stop, stop_made (lane_of old)) ∷ (take, take_made (lane_of old) taken) ∷ [], f)

pub rests_behind : {V : Type 0} (shard : Hall V) (old mid new : Pass) (reply : FlushReply) → RestsAgain shard 0 old mid → IsPassOf shard new → lane_of new ≡ lane_of mid → left_of_pass mid ≤ left_of_pass new + 2 → held new ≡ []
    → IsFlush mid reply new → RestsAgain shard 2 old new
rests_behind shard old mid new reply waited pass lane most held_is f =
    let m = (made_some mid new reply f).1 in record {
      rests = record { pass = pass; held_is = held_is; legal = m.legal; own = ap (λ (l : ℕ). numbers l (seen new)) lane ∙ m.own };
      lane = lane ∙ waited.lane;
      left = let first = waited.left in omega (arith, first, most);
    }

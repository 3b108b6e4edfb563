-- The worked histories are legal, with the replies of `Rows`, and one reply changed makes each of them illegal.
use Rattle.std.proofs.Common.{◌≡◌, ◌≢◌, ℕ, ◌≤◌, List, [], ◌∷◌, Some, false, refl, sym, arith, inr, zero, suc, ◌∙◌}
use Rattle.std.specs.List.{AllByRecursion}
use Rattle.std.specs.Str.{IsAscii}
use Rattle.std.proofs.lemmas.Str.{IsUtf8-from_ascii}
use Rattle.gor_model.specs.declared.event.Call.{Call}
use Rattle.gor_model.specs.declared.event.Call.TheVariants.{Put, Get, Del, Floor, Seal, Take, Done}
use Rattle.gor_model.specs.declared.event.Reply.{Reply}
use Rattle.gor_model.specs.declared.event.Reply.TheVariants as reply
use Rattle.gor_model.specs.declared.start.Start.{Start}
use Rattle.gor_model.specs.PlainMap.{unused_slots}
use Rattle.gor_model.specs.Answers.{MayPut, Legal, answer}
use Rattle.gor_model.specs.Replies.{history_of}
use Rattle.gor_model.proofs.PlainNames.{IsPlain, plain_key}
use Rattle.gor_model.proofs.LegalRows.{MayAskAll, Legal-history_of, wrong_reply}

abbrev start_of : ℕ → Start
start_of slots = record { slots = slots; floor = 0; next = 1; rows = []; shards = 0; shard = 0; since = 0; faults = 0; fit = false }

plain : (n : ℕ) → 97 ≤ n → n ≤ 122 → AllByRecursion IsPlain (n ∷ [])
plain n low high = (record { low = omega arith; high = omega arith; lower = inr (omega arith) }, tt)

ascii : (n : ℕ) → n ≤ 122 → IsAscii (n ∷ [])
ascii n high zero = omega arith
ascii n high (suc i) = omega arith

-- a put of a name of one letter
may : (n time : ℕ) → 97 ≤ n → n ≤ 122 → time ≤ 4294965599 → MayPut (n ∷ []) (n ∷ []) time
may n time low high timely = record {
  named = record { text = IsUtf8-from_ascii (n ∷ []) (ascii n high); some = omega arith; short = omega arith; plain = ((omega arith, omega arith), tt) };
  keyed = sym (plain_key (n ∷ []) (plain n low high));
  timely = timely;
}

abbrev put : ℕ → ℕ → ℕ → Call
put n time word = Put (n ∷ []) (n ∷ []) time word

-- the history of some calls is legal, and the same with another reply to the last is not
record IsWorked (slots : ℕ) (last : Call) (older : List Call) (told other : Reply) : Type 0 where
  pub legal : Legal (start_of slots) (history_of (start_of slots) (last ∷ older))
  pub reply : answer (start_of slots) (history_of (start_of slots) older) last ≡ told
  pub refused : ¬ (Legal (start_of slots) (record { lane = 0; slot = Some 0; call = last; reply = other } ∷ history_of (start_of slots) older))

worked : (slots : ℕ) (last : Call) (older : List Call) (told other : Reply) → MayAskAll (start_of slots) (last ∷ older)
    → answer (start_of slots) (history_of (start_of slots) older) last ≡ told → other ≢ told → IsWorked slots last older told other
worked slots last older told other asked is differs = record {
  legal = Legal-history_of (start_of slots) (last ∷ older) asked;
  reply = is;
  refused = wrong_reply (start_of slots) (history_of (start_of slots) older) _ (λ same. differs (same ∙ is));
}

first : IsWorked 4 (Get (97 ∷ []) 0 4294965599) (put 97 1427162462 4620693217682128896 ∷ []) (reply.Points (record { time = 1427162462; word = 4620693217682128896 } ∷ [])) (reply.Points [])
unfolding unused_slots
first = worked 4 _ _ _ _ ((tt, may 97 1427162462 (omega arith) (omega arith) (omega arith)), tt) refl (λ e. cc)

a_delete : IsWorked 4 (Get (97 ∷ []) 0 2000) (put 97 500 2 ∷ Del (97 ∷ []) ∷ put 97 1000 1 ∷ []) (reply.Points (record { time = 500; word = 2 } ∷ [])) reply.Absent
unfolding unused_slots
a_delete = worked 4 _ _ _ _ ((((tt, may 97 1000 (omega arith) (omega arith) (omega arith)), tt), may 97 500 (omega arith) (omega arith) (omega arith)), tt) refl (λ e. cc)

full : IsWorked 2 (put 99 10 3) (put 98 10 2 ∷ put 97 10 1 ∷ []) (reply.Full 2) (reply.Stored false)
unfolding unused_slots
full =
    worked 2 _ _ _ _ (((tt, may 97 10 (omega arith) (omega arith) (omega arith)), may 98 10 (omega arith) (omega arith) (omega arith)), may 99 10 (omega arith) (omega arith) (omega arith)) refl (λ e. cc)

slots_again : IsWorked 2 (Get (97 ∷ []) 0 99) (Get (99 ∷ []) 0 99 ∷ put 99 10 3 ∷ Del (97 ∷ []) ∷ put 99 10 3 ∷ put 98 10 2 ∷ put 97 10 1 ∷ []) reply.Absent (reply.Points [])
unfolding unused_slots
slots_again =
    worked 2 _ _ _ _
    (((((((tt, may 97 10 (omega arith) (omega arith) (omega arith)), may 98 10 (omega arith) (omega arith) (omega arith)), may 99 10 (omega arith) (omega arith) (omega arith)), tt), may 99 10 (omega arith) (omega arith) (omega arith)), tt), tt)
    refl (λ e. cc)

tie : IsWorked 4 (Get (97 ∷ []) 1427162463 1427162463) (put 97 1427162463 1 ∷ put 97 1427162462 1 ∷ put 97 1427162462 0 ∷ []) (reply.Points (record { time = 1427162463; word = 1 } ∷ [])) (reply.Points [])
unfolding unused_slots
tie =
    worked 4 _ _ _ _
    ((((tt, may 97 1427162462 (omega arith) (omega arith) (omega arith)), may 97 1427162462 (omega arith) (omega arith) (omega arith)), may 97 1427162463 (omega arith) (omega arith) (omega arith)), tt)
    refl (λ e. cc)

-- a finish of a window closes it, and the next one is open
abbrev finished : List Call
finished = Done (Some 10) 0 ∷ Take ∷ Seal (97 ∷ []) 10 ∷ Floor 10 ∷ put 97 79000 1 ∷ []

may_finish : MayAskAll (start_of 4) finished
unfolding unused_slots
may_finish =
    (((((tt, may 97 79000 (omega arith) (omega arith) (omega arith)), omega arith), record { running = refl; there = omega arith; under_floor = omega arith }), tt), refl)

the_floor : IsWorked 4 (put 98 79199 4) (Floor 10 ∷ put 97 79200 3 ∷ put 97 79199 2 ∷ finished) (reply.Closed 79200) (reply.Stored false)
unfolding unused_slots
the_floor =
    worked 4 _ _ _ _
    ((((may_finish, may 97 79199 (omega arith) (omega arith) (omega arith)), may 97 79200 (omega arith) (omega arith) (omega arith)), omega arith), may 98 79199 (omega arith) (omega arith) (omega arith))
    refl (λ e. cc)

-- a day behind the floor is kept, and no more
abbrev first_day : List Call
first_day = Done (Some 12) 0 ∷ Take ∷ Seal (97 ∷ []) 12 ∷ Floor 12 ∷ put 97 7200 2 ∷ put 97 7199 1 ∷ []

may_first_day : MayAskAll (start_of 4) first_day
unfolding unused_slots
may_first_day =
    ((((((tt, may 97 7199 (omega arith) (omega arith) (omega arith)), may 97 7200 (omega arith) (omega arith) (omega arith)), omega arith), record { running = refl; there = omega arith; under_floor = omega arith }), tt), refl)

retention : IsWorked 4 (Get (97 ∷ []) 0 99999) first_day (reply.Points (record { time = 7200; word = 2 } ∷ [])) (reply.Points [])
unfolding unused_slots
retention = worked 4 _ _ _ _ (may_first_day, tt) refl (λ e. cc)

abbrev second_day : List Call
second_day = Done (Some 13) 0 ∷ Take ∷ Seal (97 ∷ []) 13 ∷ Floor 13 ∷ Get (97 ∷ []) 0 99999 ∷ first_day

may_second_day : MayAskAll (start_of 4) second_day
unfolding unused_slots
may_second_day = (((((may_first_day, tt), omega arith), record { running = refl; there = omega arith; under_floor = omega arith }), tt), refl)

retention_goes_on : IsWorked 4 (Get (97 ∷ []) 0 99999) second_day (reply.Points []) (reply.Points (record { time = 7200; word = 2 } ∷ []))
unfolding unused_slots
retention_goes_on = worked 4 _ _ _ _ (may_second_day, tt) refl (λ e. cc)

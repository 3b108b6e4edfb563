-- The changes of a legal history are allowed.
use Rattle.std.proofs.Common.{◌≡◌, ℕ, ◌<◌, ◌≤◌, List, [], ◌∷◌, Option, Some, None, refl, sym, ◌∙◌, arith, option_map, subst}
use Rattle.std.specs.Prelude.{nat_lt, nat_le, if◌then◌else◌, ⊤, length}
use Rattle.std.specs.List.{cons_option}
use Rattle.std.proofs.lemmas.Bool.{cond_both}
use Rattle.gor_model.specs.declared.point.Point.{Point}
use Rattle.gor_model.specs.declared.event.Call.{Call}
use Rattle.gor_model.specs.declared.event.Call.TheVariants as call
use Rattle.gor_model.specs.declared.event.Reply.{Reply}
use Rattle.gor_model.specs.declared.event.Reply.TheVariants as reply
use Rattle.gor_model.specs.declared.event.Change.{Change}
use Rattle.gor_model.specs.Windows.{window_end, kept}
use Rattle.gor_model.specs.Names.{key_of}
use Rattle.gor_model.specs.declared.start.Row.{Row}
use Rattle.gor_model.specs.declared.start.Start.{Start}
use Rattle.gor_model.specs.Changes.{History, changed, changes}
use Rattle.gor_model.specs.PlainMap.{row_after, shard_floor, slots_after, last_of}
use Rattle.gor_model.specs.Answers.{is_stopped, since_take, unless_stopped, put_after, answer_put, answer_get, answer_del, answer_seal, last_time, is_due, answer, Legal, MayAsk}
use Rattle.gor_image.proofs.Changes.{IsAllowed, IsTimely}

abbrev pub AreAllowed : Start → List Change → Type 0
AreAllowed start [] = ⊤
AreAllowed start (c ∷ C) = AreAllowed start C × IsAllowed start C c

abbrev pub OptionAllowed : Start → List Change → Option Change → Type 0
OptionAllowed start C None = ⊤
OptionAllowed start C (Some c) = IsAllowed start C c

module _ (start : Start) (H : History) where
  put_after_late : (name key : List ℕ) (t w : ℕ) → key ≡ key_of name → (row : Row) → row_after start (changes H) key ≡ Some row → row.floor ≤ t
      → (last : Option Point) → last_of (kept row.floor row.points) ≡ last
      → OptionAllowed start (changes H) (changed (call.Put name key t w) (put_after start H t (option_map (λ (p : Point). p.time) last)))
  put_after_late name key t w keyed row there low None none =
      (keyed, subst (IsTimely (shard_floor start (changes H)) t) (sym there) (low, λ p is. absurd (let both : None ≡ Some p = sym none ∙ is in cc)))
  put_after_late name key t w keyed row there low (Some l) some =
      cond_both (nat_le t l.time) (reply.Late l.time) (reply.Stored (is_due H)) (λ r. OptionAllowed start (changes H) (changed (call.Put name key t w) r)) (λ e. tt)
      (λ e. (
        keyed,
        subst (IsTimely (shard_floor start (changes H)) t) (sym there)
            (low, λ p is. let both : Some l ≡ Some p = sym some ∙ is in let it : l ≡ p = cc in subst (λ (q : Point). q.time < t) it (grind arith)),
      ))

  allowed_put : (name key : List ℕ) (t w : ℕ) → key ≡ key_of name → (row : Option Row) → row_after start (changes H) key ≡ row
      → OptionAllowed start (changes H) (changed (call.Put name key t w) (answer_put start H t row))
  allowed_put name key t w keyed (Some row) there =
      cond_both (nat_lt t row.floor) (reply.Closed row.floor) (put_after start H t (last_time row)) (λ r. OptionAllowed start (changes H) (changed (call.Put name key t w) r)) (λ e. tt)
      (λ e. put_after_late name key t w keyed row there (grind arith) (last_of (kept row.floor row.points)) refl)
  allowed_put name key t w keyed None absent =
      cond_both (nat_lt t (shard_floor start (changes H))) (reply.Closed (shard_floor start (changes H)))
      (if nat_le 1 (length (slots_after start (changes H)).free) then reply.Stored (is_due H) else reply.Full start.slots)
      (λ r. OptionAllowed start (changes H) (changed (call.Put name key t w) r)) (λ e. tt)
      (λ e. cond_both (nat_le 1 (length (slots_after start (changes H)).free)) (reply.Stored (is_due H)) (reply.Full start.slots) (λ r. OptionAllowed start (changes H) (changed (call.Put name key t w) r))
      (λ room. (keyed, subst (IsTimely (shard_floor start (changes H)) t) (sym absent) (grind arith))) (λ full. tt))

  allowed_get : (key : List ℕ) (from to : ℕ) (row : Option Row) → OptionAllowed start (changes H) (changed (call.Get key from to) (answer_get from to row))
  allowed_get key from to None = tt
  allowed_get key from to (Some row) = tt

  allowed_del : (key : List ℕ) (row : Option Row) → OptionAllowed start (changes H) (changed (call.Del key) (answer_del row))
  allowed_del key None = tt
  allowed_del key (Some row) = tt

  allowed_seal : (key : List ℕ) (w : ℕ) → window_end w ≤ shard_floor start (changes H) → (row : Option Row) → OptionAllowed start (changes H) (changed (call.Seal key w) (answer_seal row))
  allowed_seal key w under None = tt
  allowed_seal key w under (Some row) = under

  unless : (c : Call) (r : Reply) → OptionAllowed start (changes H) (changed c reply.Stopped) → OptionAllowed start (changes H) (changed c r) → OptionAllowed start (changes H) (changed c (unless_stopped H r))
  unless c r stopped fits = cond_both (is_stopped H) reply.Stopped r (λ a. OptionAllowed start (changes H) (changed c a)) (λ e. stopped) (λ e. fits)

  answer_allowed : (c : Call) → MayAsk start H c → OptionAllowed start (changes H) (changed c (answer start H c))
  answer_allowed (call.Put name key t w) may = unless (call.Put name key t w) (answer_put start H t (row_after start (changes H) key)) tt (allowed_put name key t w may.keyed (row_after start (changes H) key) refl)
  answer_allowed (call.Get key from to) may = allowed_get key from to (row_after start (changes H) key)
  answer_allowed (call.Del key) may = unless (call.Del key) (answer_del (row_after start (changes H) key)) tt (allowed_del key (row_after start (changes H) key))
  answer_allowed (call.Floor w) may = unless (call.Floor w) (if nat_le (window_end w) (shard_floor start (changes H)) then reply.Sealed (shard_floor start (changes H)) else reply.Floor (window_end w)) tt
      (cond_both (nat_le (window_end w) (shard_floor start (changes H))) (reply.Sealed (shard_floor start (changes H))) (reply.Floor (window_end w)) (λ r. OptionAllowed start (changes H) (changed (call.Floor w) r)) (λ e. tt) (λ e. tt))
  answer_allowed (call.Seal key w) may = allowed_seal key w may.under_floor (row_after start (changes H) key)
  answer_allowed call.Take may = unless call.Take (reply.Take (length (changes (since_take H)))) tt tt
  answer_allowed (call.Done w at) may = tt
  answer_allowed call.Stop may = tt

allowed_cons : (start : Start) (C : List Change) (c : Option Change) → AreAllowed start C → OptionAllowed start C c → AreAllowed start (cons_option c C)
allowed_cons start C None all here = all
allowed_cons start C (Some c) all here = (all, here)

pub legal_allowed : (start : Start) (H : History) → Legal start H → AreAllowed start (changes H)
legal_allowed start [] legal = tt
legal_allowed start (e ∷ H) legal =
    allowed_cons start (changes H) (changed e.call e.reply) (legal_allowed start H legal.0) (rw legal.1.reply (answer_allowed start H e.call legal.1.may))

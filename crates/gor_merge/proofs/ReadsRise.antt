-- What a get of a legal history gives rises in time: a start's rows do, and a put is stored behind the last point that is kept.
use Rattle.std.proofs.Common.{◌≡◌, ◌⊎◌, inl, inr, ℕ, ◌<◌, ◌≤◌, List, [], ◌∷◌, ◌++◌, Bool, true, false, Option, Some, None, length, max, refl, sym, ap, subst, ◌∙◌, arith, option_map, unwrap_or}
use Rattle.std.specs.Prelude.{filter, nat_le, nat_lt, if◌then◌else◌}
use Rattle.std.specs.List.{AllByRecursion, cons_option}
use Rattle.std.specs.Option.{option_or}
use Rattle.std.specs.Str.{bytes_eq}
use Rattle.std.proofs.lemmas.Bool.{cond_both, leb-false, ltb-false}
use Rattle.std.proofs.lemmas.List.{append-nil}
use Rattle.gor_model.specs.declared.point.Point.{Point}
use Rattle.gor_model.specs.declared.event.Call.{Call}
use Rattle.gor_model.specs.declared.event.Call.TheVariants as call
use Rattle.gor_model.specs.declared.event.Reply.{Reply}
use Rattle.gor_model.specs.declared.event.Reply.TheVariants as reply
use Rattle.gor_model.specs.declared.event.Change.{Change}
use Rattle.gor_model.specs.declared.event.Change.TheVariants.{Put, Del, Floor, Seal}
use Rattle.gor_model.specs.Windows.{window_end, is_kept, kept}
use Rattle.gor_model.specs.declared.start.Row.{Row}
use Rattle.gor_model.specs.declared.start.Start.{Start}
use Rattle.gor_model.specs.Starts.{row_in, IsRow, IsStart}
use Rattle.gor_model.specs.Changes.{History, changed, changes}
use Rattle.gor_model.specs.PlainMap.{last_of, shard_floor, slots_after, grown_row, row_after}
use Rattle.gor_model.specs.Answers.{is_stopped, is_due, since_take, in_range, last_time, put_after, answer_put, answer_get, answer_del, answer_seal, unless_stopped, answer, Legal}
use Rattle.gor_model.proofs.PlainMapLaws.{with_point, raised_to, row_after_change, row_after-cons}
use Rattle.gor_model.proofs.KeptLaws.{with_kept-with_point, with_kept-raised_to}
use Rattle.gor_model.proofs.SlotLaws.{bytes_tell, no_stray_seals}
use Rattle.gor_model.proofs.LegalLaws.{legal_fits}
use Rattle.gor_merge.specs.Heads.{TimesRise}

-- ---- lists

all_filter : (P : Point → Type 0) (f : Point → Bool) (ps : List Point) → AllByRecursion P ps → AllByRecursion P (filter f ps)
all_filter P f [] all = tt
all_filter P f (p ∷ ps) all = cond_both (f p) (p ∷ filter f ps) (filter f ps) (AllByRecursion P) (λ e. (all.0, all_filter P f ps all.1)) (λ e. all_filter P f ps all.1)

filter_rises : (f : Point → Bool) (ps : List Point) → TimesRise ps → TimesRise (filter f ps)
filter_rises f [] rises = tt
filter_rises f (p ∷ ps) rises = cond_both (f p) (p ∷ filter f ps) (filter f ps) TimesRise (λ e. (all_filter (λ q. p.time < q.time) f ps rises.0, filter_rises f ps rises.1)) (λ e. filter_rises f ps rises.1)

abbrev IsBefore : Option Point → ℕ → Type 0
IsBefore None time = Unit {0}
IsBefore (Some p) time = p.time < time

all_later : (x y : Point) (zs : List Point) → AllByRecursion (λ q. x.time < q.time) zs → x.time < y.time → AllByRecursion (λ q. x.time < q.time) (zs ++ y ∷ [])
all_later x y [] all less = (less, tt)
all_later x y (z ∷ zs) all less = (all.0, all_later x y zs all.1 less)

at_end : (P : Point → Type 0) (xs : List Point) (y : Point) → AllByRecursion P (xs ++ y ∷ []) → P y
at_end P [] y all = all.0
at_end P (x ∷ xs) y all = at_end P xs y all.1

push_rises : (ps : List Point) (y : Point) → TimesRise ps → IsBefore (last_of ps) y.time → TimesRise (ps ++ y ∷ [])
push_rises [] y rises before = (tt, tt)
push_rises (x ∷ []) y rises before = ((before, tt), (tt, tt))
push_rises (x ∷ z ∷ ps) y rises before =
    let rest : TimesRise ((z ∷ ps) ++ y ∷ []) = push_rises (z ∷ ps) y rises.1 before in
    (all_later x y (z ∷ ps) rises.0 (omega (arith, rises.0.0, at_end (λ q. z.time < q.time) ps y rest.0)), rest)

-- ---- rows

-- the kept points of a row that is there rise
abbrev RowRises : Option Row → Type 0
RowRises None = Unit {0}
RowRises (Some row) = TimesRise (kept row.floor row.points)

of_start : (slots : ℕ) (rows : List (List ℕ × Row)) (key : List ℕ) → AllByRecursion (λ r. IsRow slots r.0 r.1) rows → RowRises (row_in rows key)
of_start slots [] key all = tt
of_start slots (r ∷ rows) key all =
    cond_both (bytes_eq key r.0) (Some r.1) (row_in rows key) RowRises (λ e. filter_rises (is_kept r.1.floor) r.1.points all.0.rising) (λ e. of_start slots rows key all.1)

start_rises : (start : Start) (key : List ℕ) → IsStart start → RowRises (row_after start [] key)
start_rises start key is = whole (row_in start.rows key) (of_start start.slots start.rows key is.rows) where
  whole : (row : Option Row) → RowRises row → RowRises (option_map (grown_row [] []) (option_or row None))
  whole None rises = tt
  whole (Some row) rises = subst (λ (ps : List Point). TimesRise (kept row.floor ps)) (sym (append-nil row.points)) rises

raised : (floor : ℕ) (row : Option Row) → RowRises row → RowRises (option_map (raised_to floor) row)
raised floor None rises = tt
raised floor (Some row) rises =
    subst TimesRise (sym (ap (λ (r : Row). r.points) (with_kept-raised_to floor row))) (filter_rises (is_kept (max row.floor floor)) (kept row.floor row.points) rises)

module _ (start : Start) (H : History) (legal : Legal start H) (key : List ℕ) (before : RowRises (row_after start (changes H) key)) where
  abbrev C : List Change
  C = changes H

  abbrev After : Call → Reply → Type 0
  After c r = RowRises (row_after start (cons_option (changed c r) C) key)

  -- by the row before
  by_row : (c : Change) → ((fresh : List ℕ → Row) → ((name : List ℕ) → (fresh name).points ≡ []) → RowRises (row_after_change fresh key c (row_after start C key))) → RowRises (row_after start (c ∷ C) key)
  by_row c so = subst RowRises (sym (row_after-cons start c C key (no_stray_seals start C (legal_fits start H legal) key))) (so _ (λ name. refl))

  stored_there : (name k : List ℕ) (time word : ℕ) (row : Row) → row_after start C k ≡ Some row → row.floor ≤ time → IsBefore (last_of (kept row.floor row.points)) time → RowRises (row_after start (Put name k time word ∷ C) key)
  stored_there name k time word row there high later = by_row (Put name k time word) (λ fresh new. at fresh (bytes_tell key k)) where
    p : Point
    p = record { time = time; word = word }

    at : (fresh : List ℕ → Row) → ((bytes_eq key k ≡ true) × (key ≡ k)) ⊎ ((bytes_eq key k ≡ false) × (key ≡ k → ⊥)) → RowRises (row_after_change fresh key (Put name k time word) (row_after start C key))
    at fresh (inl same) = rw same.0 (subst (λ (o : Option Row). RowRises (Some (with_point p (unwrap_or o (fresh name))))) (sym (ap (row_after start C) same.1 ∙ there))
        (subst TimesRise (sym (ap (λ (r : Row). r.points) (with_kept-with_point p row high))) (push_rises (kept row.floor row.points) p (rises_there same.1) later))) where
          rises_there : key ≡ k → TimesRise (kept row.floor row.points)
          rises_there is = subst RowRises (ap (row_after start C) is ∙ there) before
    at fresh (inr other) = rw other.0 before

  stored_absent : (name k : List ℕ) (time word : ℕ) → row_after start C k ≡ None → RowRises (row_after start (Put name k time word ∷ C) key)
  stored_absent name k time word absent = by_row (Put name k time word) (λ fresh new. at fresh new (bytes_tell key k)) where
    p : Point
    p = record { time = time; word = word }

    alone : (row : Row) → row.points ≡ [] → RowRises (Some (with_point p row))
    alone row none = subst (λ (ps : List Point). TimesRise (kept row.floor (ps ++ p ∷ []))) (sym none) (filter_rises (is_kept row.floor) (p ∷ []) (tt, tt))

    at : (fresh : List ℕ → Row) → ((n : List ℕ) → (fresh n).points ≡ []) → ((bytes_eq key k ≡ true) × (key ≡ k)) ⊎ ((bytes_eq key k ≡ false) × (key ≡ k → ⊥)) → RowRises (row_after_change fresh key (Put name k time word) (row_after start C key))
    at fresh new (inl same) = rw same.0 (subst (λ (o : Option Row). RowRises (Some (with_point p (unwrap_or o (fresh name))))) (sym (ap (row_after start C) same.1 ∙ absent)) (alone (fresh name) (new name)))
    at fresh new (inr other) = rw other.0 before

  deleted : (k : List ℕ) → RowRises (row_after start (Del k ∷ C) key)
  deleted k = by_row (Del k) (λ fresh new. cond_both (bytes_eq key k) None (row_after start C key) RowRises (λ e. tt) (λ e. before))

  floored : (w : ℕ) → RowRises (row_after start (Floor w ∷ C) key)
  floored w = by_row (Floor w) (λ fresh new. before)

  sealed : (k : List ℕ) (w : ℕ) → RowRises (row_after start (Seal k w ∷ C) key)
  sealed k w = by_row (Seal k w) (λ fresh new. cond_both (bytes_eq key k) (option_map (raised_to (window_end w)) (row_after start C key)) (row_after start C key) RowRises
      (λ e. raised (window_end w) (row_after start C key) before) (λ e. before))

  unless : (c : Call) (r : Reply) → After c reply.Stopped → After c r → After c (unless_stopped H r)
  unless c r stopped other = cond_both (is_stopped H) reply.Stopped r (After c) (λ e. stopped) (λ e. other)

  put_there : (name k : List ℕ) (time word : ℕ) (row : Row) → row_after start C k ≡ Some row → row.floor ≤ time → (last : Option Point) → last_of (kept row.floor row.points) ≡ last
      → After (call.Put name k time word) (put_after start H time (option_map (λ p. p.time) last))
  put_there name k time word row there high None is = stored_there name k time word row there high (subst (λ o. IsBefore o time) (sym is) tt)
  put_there name k time word row there high (Some p) is =
      cond_both (nat_le time p.time) (reply.Late p.time) (reply.Stored (is_due H)) (After (call.Put name k time word)) (λ e. before)
      (λ e. stored_there name k time word row there high (subst (λ o. IsBefore o time) (sym is) (leb-false time p.time e)))

  put : (name k : List ℕ) (time word : ℕ) (row : Option Row) → row_after start C k ≡ row → After (call.Put name k time word) (answer_put start H time row)
  put name k time word (Some row) there =
      cond_both (nat_lt time row.floor) (reply.Closed row.floor) (put_after start H time (last_time row)) (After (call.Put name k time word)) (λ e. before)
      (λ e. put_there name k time word row there (ltb-false time row.floor e) (last_of (kept row.floor row.points)) refl)
  put name k time word None absent =
      cond_both (nat_lt time (shard_floor start C)) (reply.Closed (shard_floor start C)) (if nat_le 1 (length (slots_after start C).free) then reply.Stored (is_due H) else reply.Full start.slots) (After (call.Put name k time word)) (λ e. before)
      (λ e. cond_both (nat_le 1 (length (slots_after start C).free)) (reply.Stored (is_due H)) (reply.Full start.slots) (After (call.Put name k time word)) (λ room. stored_absent name k time word absent) (λ none. before))

  get : (k : List ℕ) (from to : ℕ) (row : Option Row) → After (call.Get k from to) (answer_get from to row)
  get k from to None = before
  get k from to (Some row) = before

  del : (k : List ℕ) (row : Option Row) → After (call.Del k) (answer_del row)
  del k None = before
  del k (Some row) = deleted k

  seal : (k : List ℕ) (w : ℕ) (row : Option Row) → After (call.Seal k w) (answer_seal row)
  seal k w None = before
  seal k w (Some row) = sealed k w

  step : (c : Call) → After c (answer start H c)
  step (call.Put name k time word) = unless (call.Put name k time word) (answer_put start H time (row_after start C k)) before (put name k time word (row_after start C k) refl)
  step (call.Get k from to) = get k from to (row_after start C k)
  step (call.Del k) = unless (call.Del k) (answer_del (row_after start C k)) before (del k (row_after start C k))
  step (call.Floor w) = unless (call.Floor w) (if nat_le (window_end w) (shard_floor start C) then reply.Sealed (shard_floor start C) else reply.Floor (window_end w)) before
      (cond_both (nat_le (window_end w) (shard_floor start C)) (reply.Sealed (shard_floor start C)) (reply.Floor (window_end w)) (After (call.Floor w)) (λ e. before) (λ e. floored w))
  step (call.Seal k w) = seal k w (row_after start C k)
  step call.Take = unless call.Take (reply.Take (length (changes (since_take H)))) before before
  step (call.Done w at) = before
  step call.Stop = before

rows_rise : (start : Start) (H : History) (key : List ℕ) → IsStart start → Legal start H → RowRises (row_after start (changes H) key)
rows_rise start [] key is legal = start_rises start key is
rows_rise start (e ∷ H) key is legal = rw legal.1.reply (step start H legal.0 key (rows_rise start H key is legal.0) e.call)

pub reads_rise : (start : Start) (H : History) (key : List ℕ) (from to : ℕ) (points : List Point) → IsStart start → Legal start H → answer start H (call.Get key from to) ≡ reply.Points points → TimesRise points
reads_rise start H key from to points is legal = by_row (row_after start (changes H) key) (rows_rise start H key is legal) where
  by_row : (row : Option Row) → RowRises row → answer_get from to row ≡ reply.Points points → TimesRise points
  by_row None rises given = absurd (let both : reply.Absent ≡ reply.Points points = given in cc)
  by_row (Some row) rises given =
      let both : reply.Points (filter (in_range from to) (kept row.floor row.points)) ≡ reply.Points points = given in
      let same : filter (in_range from to) (kept row.floor row.points) ≡ points = cc in
      subst TimesRise same (filter_rises (in_range from to) (kept row.floor row.points) rises)

-- The uid of a series that is there is the number of a change, or that of a row of the start.
use Rattle.std.proofs.Common.{◌≡◌, ℕ, ◌^◌, ◌≤◌, List, [], ◌∷◌, length, Bool, true, false, Option, Some, None, refl, ap, subst, arith}
use Rattle.std.specs.Prelude.{option_map, unwrap_or, if◌then◌else◌}
use Rattle.std.specs.List.{list_any, cons_option, AllByRecursion}
use Rattle.std.specs.Option.{option_or}
use Rattle.std.specs.Str.{bytes_eq}
use Rattle.gor_model.specs.declared.event.Change.{Change}
use Rattle.gor_model.specs.declared.event.Change.TheVariants.{Put, Del, Floor, Seal}
use Rattle.gor_model.specs.declared.start.Row.{Row}
use Rattle.gor_model.specs.declared.start.Start.{Start}
use Rattle.gor_model.specs.Changes.{changes, deletes}
use Rattle.gor_model.specs.Fields.{IsNumber}
use Rattle.gor_model.specs.PlainMap.{StoredPut, put_of, puts_since, seals_since, last_of, starting_row, begun_row, first_row, grown_row, row_after}
use Rattle.gor_model.specs.Starts.{row_in, IsRow, IsStart}
use Rattle.gor_model.proofs.AgreeLaws.{series_back}
use Rattle.gor_model.proofs.ObjectLaws.{slots}
use Rattle.gor_rule.specs.declared.view.View.{View}
use Rattle.gor_steps.specs.Views.{IsSound}
use Rattle.gor_steps.proofs.Bounds.{fewer_changes}
use Rattle.gor_steps.proofs.ViewLaws.{IsRowOf}

-- ---- the puts of a key have fewer changes before them

abbrev IsBefore : ℕ → StoredPut → Type 0
IsBefore n put = length put.before ≤ n

later : (n m : ℕ) → n ≤ m → (puts : List StoredPut) → AllByRecursion (IsBefore n) puts → AllByRecursion (IsBefore m) puts
later n m less [] all = tt
later n m less (p ∷ puts) all = ((let low = all.0 in omega arith), later n m less puts all.1)

own : (key : List ℕ) (c : Change) (C : List Change) (q : StoredPut) → put_of key c C ≡ Some q → IsBefore (length (c ∷ C)) q
own key (Put name k t w) C q is = at (bytes_eq key k) is where
  at : (b : Bool) → (if b then Some (record { name = name; point = record { time = t; word = w }; before = C }) else None) ≡ Some q → IsBefore (length (Put name k t w ∷ C)) q
  at true e = let same : record { name = name; point = record { time = t; word = w }; before = C } ≡ q = cc in subst (IsBefore (length (Put name k t w ∷ C))) same (omega arith)
  at false e = absurd (let wrong : None ≡ Some q = e in cc)
own key (Del k) C q is = absurd (let wrong : None ≡ Some q = is in cc)
own key (Floor w) C q is = absurd (let wrong : None ≡ Some q = is in cc)
own key (Seal k w) C q is = absurd (let wrong : None ≡ Some q = is in cc)

consed : (n : ℕ) (o : Option StoredPut) (puts : List StoredPut) → ((q : StoredPut) → o ≡ Some q → IsBefore n q) → AllByRecursion (IsBefore n) puts → AllByRecursion (IsBefore n) (cons_option o puts)
consed n None puts one all = all
consed n (Some q) puts one all = (one q refl, all)

puts_before : (key : List ℕ) (C : List Change) → AllByRecursion (IsBefore (length C)) (puts_since key C)
puts_before key [] = tt
puts_before key (c ∷ C) = at (deletes key c) refl (puts_before key C) where
  at : (b : Bool) → deletes key c ≡ b → AllByRecursion (IsBefore (length C)) (puts_since key C) → AllByRecursion (IsBefore (length (c ∷ C))) (puts_since key (c ∷ C))
  at true e all = rw e tt
  at false e all = rw e (consed (length (c ∷ C)) (put_of key c C) (puts_since key C) (own key c C) (later (length C) (length (c ∷ C)) (omega arith) (puts_since key C) all))

last_is : (P : StoredPut → Type 0) (xs : List StoredPut) → AllByRecursion P xs → (x : StoredPut) → last_of xs ≡ Some x → P x
last_is P [] all x is = absurd (let wrong : None ≡ Some x = is in cc)
last_is P (y ∷ ys) all x is = at (last_of ys) (last_is P ys all.1 x) is where
  at : (o : Option StoredPut) → (o ≡ Some x → P x) → Some (unwrap_or o y) ≡ Some x → P x
  at None more same = let one : y ≡ x = cc in subst P one all.0
  at (Some z) more same = more same

-- ---- rows

rows_number : (slots : ℕ) (rows : List (List ℕ × Row)) → AllByRecursion (λ r. IsRow slots r.0 r.1) rows → (key : List ℕ) (r : Row) → row_in rows key ≡ Some r → IsNumber r.uid
rows_number slots [] all key r is = absurd (let wrong : None ≡ Some r = is in cc)
rows_number slots (q ∷ rows) all key r is = at (bytes_eq key q.0) (rows_number slots rows all.1 key r) is where
  at : (b : Bool) → (row_in rows key ≡ Some r → IsNumber r.uid) → (if b then Some q.1 else row_in rows key) ≡ Some r → IsNumber r.uid
  at true more e = let same : q.1 ≡ r = cc in subst (λ (x : Row). IsNumber x.uid) same all.0.uid
  at false more e = more e

grown_uid : (seals : List ℕ) (puts : List StoredPut) (o : Option Row) (r : Row) → option_map (grown_row seals puts) o ≡ Some r → (b : Row) × (o ≡ Some b) × (b.uid ≡ r.uid)
grown_uid seals puts None r is = absurd (let wrong : None ≡ Some r = is in cc)
grown_uid seals puts (Some b) r is = (b, refl, let same : grown_row seals puts b ≡ r = (let both : Some (grown_row seals puts b) ≡ Some r = is in cc) in ap (λ (x : Row). x.uid) same)

module _ (start : Start) (sound : IsStart start) (C : List Change) (short : length C ≤ 2 ^ 44) (key : List ℕ) where
  starting : (b : Bool) (r : Row) → (if b then None else row_in start.rows key) ≡ Some r → IsNumber r.uid
  starting true r is = absurd (let wrong : None ≡ Some r = is in cc)
  starting false r is = rows_number start.slots start.rows sound.rows key r is

  begun_number : (put : StoredPut) → IsBefore (length C) put → IsNumber (begun_row start put).uid
  begun_number put low = ((let one = sound.next.0 in omega arith), (let top = sound.next.1 in omega arith))

  first_number : (counts : Option Row) (put : Option StoredPut) → ((r : Row) → counts ≡ Some r → IsNumber r.uid) → ((q : StoredPut) → put ≡ Some q → IsBefore (length C) q) → (b : Row)
      → option_or counts (option_map (begun_row start) put) ≡ Some b → IsNumber b.uid
  first_number (Some r) put there before b is = let same : r ≡ b = (let both : Some r ≡ Some b = is in cc) in subst (λ (x : Row). IsNumber x.uid) same (there r refl)
  first_number None None there before b is = absurd (let wrong : None ≡ Some b = is in cc)
  first_number None (Some q) there before b is = let same : begun_row start q ≡ b = (let both : Some (begun_row start q) ≡ Some b = is in cc) in subst (λ (x : Row). IsNumber x.uid) same (begun_number q (before q refl))

  pub row_number : (r : Row) → row_after start C key ≡ Some r → IsNumber r.uid
  row_number r is =
      let g = grown_uid (seals_since key C) (puts_since key C) (first_row start C key) r is in
      subst IsNumber g.2 (first_number (starting_row start C key) (last_of (puts_since key C)) (starting (list_any (deletes key) C)) (last_is (IsBefore (length C)) (puts_since key C) (puts_before key C)) g.0 g.1)

-- the uid of the series of a slot
pub slot_number : (v : View) → IsSound v → (slot : ℕ) (key : List ℕ) (row : Row) → IsRowOf v slot key row → IsNumber row.uid
slot_number v sound slot key row is =
    let r = series_back v.start v.at (slots v.start sound.start v.at sound.legal) slot key row is in
    let few = fewer_changes v.at in let short = sound.short in
    subst (λ (x : Row). IsNumber x.uid) r.2 (row_number v.start sound.start (changes v.at) (omega arith) key r.0 r.1)

-- A file that is changed in its place.
use Rattle.std.proofs.Common.{◌≡◌, ◌≢◌, ⊎_elim, ℕ, zero, suc, take, drop, ◌<◌, ◌≤◌, true, false, List, [], ◌∷◌, ◌++◌, ◌+◌, length, get_or, Result, Ok, Err, OnOk, OnErr, refl, sym, ◌∙◌, ap, arith}
use Rattle.std.proofs.Math.ListN.{set}
use Rattle.std.proofs.lemmas.List.{append-nil}
use Rattle.gor_disk.specs.Disk.{overwritten}
use Rattle.gor_disk.specs.declared.disk.FileId.{FileId}
use Rattle.gor_disk.specs.declared.files.File.{File}
use Rattle.gor_disk.specs.Names.{same_file}
use Rattle.gor_disk.specs.Memory.{contents, place}
use Rattle.gor_disk.proofs.Lookups.{same_is, either, place_true, place_false, choose_true, choose_false, set_here, set_others}

-- the file that is found has the name, and its bytes are the contents
found : (files : List File) (name : FileId) (d : File) → place files name < length files
    → ((get_or files (place files name) d).name ≡ name) × (contents files name ≡ (get_or files (place files name) d).bytes.items)
found [] name d within = absurd (omega arith)
found (file ∷ files) name d within = ⊎_elim
    (λ (is : same_file name file.name ≡ true).
    let at = place_true file files name is in (
      ap (λ (i : ℕ). (get_or (file ∷ files) i d).name) at ∙ sym (same_is name file.name is),
      choose_true _ _ _ is ∙ sym (ap (λ (i : ℕ). (get_or (file ∷ files) i d).bytes.items) at),
    ))
    (λ (is : same_file name file.name ≡ false).
    let at = place_false file files name is in
    let rest = found files name d (omega (arith, at)) in (
      ap (λ (i : ℕ). (get_or (file ∷ files) i d).name) at ∙ rest.0,
      choose_false _ _ _ is ∙ rest.1 ∙ sym (ap (λ (i : ℕ). (get_or (file ∷ files) i d).bytes.items) at),
    ))
    (either (same_file name file.name))

-- a file that is not found is empty
pub absent : (files : List File) (name : FileId) → length files ≤ place files name → contents files name ≡ []
absent [] name past = refl
absent (file ∷ files) name past = ⊎_elim
    (λ (is : same_file name file.name ≡ true). absurd (omega (arith, place_true file files name is)))
    (λ (is : same_file name file.name ≡ false). choose_false _ _ _ is ∙ absent files name (omega (arith, place_false file files name is)))
    (either (same_file name file.name))

module _ (files : List File) (name : FileId) (i : ℕ) (old new : File) (at : i ≡ place files name) (within : i < length files) (is : old ≡ get_or files i old) (named : new.name ≡ old.name) where
  there : place files name < length files
  there = omega (arith, at, within)

  old_is : old ≡ get_or files (place files name) old
  old_is = is ∙ ap (λ (k : ℕ). get_or files k old) at

  pub old_bytes : contents files name ≡ old.bytes.items
  old_bytes = (found files name old there).1 ∙ ap (λ (f : File). f.bytes.items) (sym old_is)

  new_name : new.name ≡ name
  new_name = named ∙ ap (λ (f : File). f.name) old_is ∙ (found files name old there).0

  pub edited_here : contents (set files i new) name ≡ new.bytes.items
  edited_here = ap (λ (k : ℕ). contents (set files k new) name) at ∙ set_here files name new new_name there

  pub edited_others : (f : FileId) → f ≢ name → contents (set files i new) f ≡ contents files f
  edited_others f apart = ap (λ (k : ℕ). contents (set files k new) f) at ∙ set_others files name new new_name there f apart

  pub written_done : {T E : Type 0} (result : Result T E) (place : ℕ) (bytes : List ℕ) → OnOk result (new.bytes.items ≡ overwritten place bytes old.bytes.items)
      → OnOk result (contents (set files i new) name ≡ overwritten place bytes (contents files name))
  written_done (Ok x) place bytes done = edited_here ∙ done ∙ ap (λ (l : List ℕ). overwritten place bytes l) (sym old_bytes)
  written_done (Err e) place bytes done = tt

  pub written_err : {T E : Type 0} (result : Result T E) → OnErr result (new.bytes.items ≡ old.bytes.items) → OnErr result (contents (set files i new) name ≡ contents files name)
  written_err (Ok x) same = tt
  written_err (Err e) same = edited_here ∙ same ∙ sym old_bytes

pub take_nil : (n : ℕ) → take {A = ℕ} n [] ≡ []
take_nil zero = refl
take_nil (suc n) = refl

pub drop_nil : (n : ℕ) → drop {A = ℕ} n [] ≡ []
drop_nil zero = refl
drop_nil (suc n) = refl

-- a write into an empty file
pub overwritten_none : (at : ℕ) (bytes s : List ℕ) → s ≡ [] → overwritten at bytes s ≡ bytes
overwritten_none at bytes s is =
    ap (λ (l : List ℕ). overwritten at bytes l) is
    ∙ ap (λ (l : List ℕ). (l ++ bytes) ++ drop {A = ℕ} (at + length bytes) []) (take_nil at)
    ∙ ap (λ (l : List ℕ). bytes ++ l) (drop_nil (at + length bytes))
    ∙ append-nil bytes

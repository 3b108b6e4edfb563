-- Files by their names.
use Rattle.std.proofs.Common.{◌≡◌, ◌≢◌, ◌⊎◌, ℕ, suc, ◌<◌, ◌≤◌, ◌==◌, Bool, true, false, if◌then◌else◌, List, [], ◌∷◌, ◌++◌, length, refl, sym, ◌∙◌, ap, arith, inl, inr, ⊎_elim}
use Rattle.std.proofs.Math.ListN.{set}
use Rattle.std.proofs.lemmas.Bool.Decides.{nat_tests}
use Rattle.gor_disk.specs.declared.disk.FileId.{FileId}
use Rattle.gor_disk.specs.declared.disk.FileId.TheVariants.{Marks, Keys, Log, Block}
use Rattle.gor_disk.specs.declared.files.File.{File}
use Rattle.gor_disk.specs.Names.{same_file}
use Rattle.gor_disk.specs.Memory.{contents, place}

number_same : (a b : ℕ) → (a == b) ≡ true → a ≡ b
number_same a b h = grind (arith, nat_tests)

number_refl : (a : ℕ) → (a == a) ≡ true
number_refl a = grind (arith, nat_tests)

-- the test tells one file from another
pub same_is : (a b : FileId) → same_file a b ≡ true → a ≡ b
same_is Marks Marks h = refl
same_is Marks (Keys b) h = absurd (cc h)
same_is Marks (Log b) h = absurd (cc h)
same_is Marks (Block b) h = absurd (cc h)
same_is (Keys a) Marks h = absurd (cc h)
same_is (Keys a) (Keys b) h = ap Keys (number_same a b h)
same_is (Keys a) (Log b) h = absurd (cc h)
same_is (Keys a) (Block b) h = absurd (cc h)
same_is (Log a) Marks h = absurd (cc h)
same_is (Log a) (Keys b) h = absurd (cc h)
same_is (Log a) (Log b) h = ap Log (number_same a b h)
same_is (Log a) (Block b) h = absurd (cc h)
same_is (Block a) Marks h = absurd (cc h)
same_is (Block a) (Keys b) h = absurd (cc h)
same_is (Block a) (Log b) h = absurd (cc h)
same_is (Block a) (Block b) h = ap Block (number_same a b h)

pub same_refl : (a : FileId) → same_file a a ≡ true
same_refl Marks = refl
same_refl (Keys a) = number_refl a
same_refl (Log a) = number_refl a
same_refl (Block a) = number_refl a

pub differs : (a b : FileId) → a ≢ b → same_file a b ≡ false
differs a b apart = told (same_file a b) refl
  where
    told : (v : Bool) → same_file a b ≡ v → same_file a b ≡ false
    told true is = absurd (apart (same_is a b is))
    told false is = is

pub choose_true : (b : Bool) (x y : List ℕ) → b ≡ true → (if b then x else y) ≡ x
choose_true b x y is = ap (λ (v : Bool). if v then x else y) is

pub choose_false : (b : Bool) (x y : List ℕ) → b ≡ false → (if b then x else y) ≡ y
choose_false b x y is = ap (λ (v : Bool). if v then x else y) is

pub either : (b : Bool) → (b ≡ true) ⊎ (b ≡ false)
either true = inl refl
either false = inr refl

pub place_true : (file : File) (files : List File) (name : FileId) → same_file name file.name ≡ true → place (file ∷ files) name ≡ 0
place_true file files name is = ap (λ (v : Bool). if v then 0 else suc (place files name)) is

pub place_false : (file : File) (files : List File) (name : FileId) → same_file name file.name ≡ false → place (file ∷ files) name ≡ suc (place files name)
place_false file files name is = ap (λ (v : Bool). if v then 0 else suc (place files name)) is

-- what a write to the file's place leaves
pub set_here : (files : List File) (name : FileId) (new : File) → new.name ≡ name → place files name < length files → contents (set files (place files name) new) name ≡ new.bytes.items
set_here [] name new called within = absurd (omega arith)
set_here (file ∷ files) name new called within = ⊎_elim
    (λ (is : same_file name file.name ≡ true).
    ap (λ (i : ℕ). contents (set (file ∷ files) i new) name) (place_true file files name is)
    ∙ choose_true _ _ _ (ap (λ (f : FileId). same_file name f) called ∙ same_refl name))
    (λ (is : same_file name file.name ≡ false).
    ap (λ (i : ℕ). contents (set (file ∷ files) i new) name) (place_false file files name is)
    ∙ choose_false _ _ _ is
    ∙ set_here files name new called (omega (arith, place_false file files name is)))
    (either (same_file name file.name))

pub set_others : (files : List File) (name : FileId) (new : File) → new.name ≡ name → place files name < length files → (f : FileId) → f ≢ name → contents (set files (place files name) new) f ≡ contents files f
set_others [] name new called within f apart = absurd (omega arith)
set_others (file ∷ files) name new called within f apart = ⊎_elim
    (λ (is : same_file name file.name ≡ true).
    ap (λ (i : ℕ). contents (set (file ∷ files) i new) f) (place_true file files name is)
    ∙ choose_false _ _ _ (ap (λ (n : FileId). same_file f n) called ∙ differs f name apart)
    ∙ sym (choose_false _ _ _ (ap (λ (n : FileId). same_file f n) (sym (same_is name file.name is)) ∙ differs f name apart)))
    (λ (is : same_file name file.name ≡ false).
    ap (λ (i : ℕ). contents (set (file ∷ files) i new) f) (place_false file files name is)
    ∙ ap (λ (rest : List ℕ). if same_file f file.name then file.bytes.items else rest) (set_others files name new called (omega (arith, place_false file files name is)) f apart))
    (either (same_file name file.name))

-- and a file that was not there
pub push_here : (files : List File) (name : FileId) (new : File) → new.name ≡ name → length files ≤ place files name → contents (files ++ new ∷ []) name ≡ new.bytes.items
push_here [] name new called past = choose_true _ _ _ (ap (λ (f : FileId). same_file name f) called ∙ same_refl name)
push_here (file ∷ files) name new called past = ⊎_elim
    (λ (is : same_file name file.name ≡ true). absurd (omega (arith, place_true file files name is)))
    (λ (is : same_file name file.name ≡ false). choose_false _ _ _ is ∙ push_here files name new called (omega (arith, place_false file files name is)))
    (either (same_file name file.name))

pub push_others : (files : List File) (name : FileId) (new : File) → new.name ≡ name → (f : FileId) → f ≢ name → contents (files ++ new ∷ []) f ≡ contents files f
push_others [] name new called f apart = choose_false _ _ _ (ap (λ (n : FileId). same_file f n) called ∙ differs f name apart)
push_others (file ∷ files) name new called f apart = ap (λ (rest : List ℕ). if same_file f file.name then file.bytes.items else rest) (push_others files name new called f apart)

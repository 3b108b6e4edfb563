use Rattle.std.proofs.Common.{◌≡◌, ◌<◌, length, List, ℕ, [], take, refl, sym, ◌∙◌, ap, arith}
use Rattle.gor_disk.specs.declared.files.File.{File}
use Rattle.gor_disk.specs.Memory.{contents, place}
use Rattle.gor_disk.proofs.Edits.{absent, take_nil, old_bytes, edited_here, edited_others}
use Rattle.gor_disk.proofs.files.cut_file.Goals as goal

pub returns-then-i-len-clause-done : goal.returns-then-i-len-clause-done
returns-then-i-len-clause-done c =
    let files = c.args.files.now.items in
    let old = c.index_mut.result.now in
    let new : File = record { name = old.name; bytes = c.truncate.new.self } in
    let at : c.place_of-i.result ≡ place files c.args.name = c.place_of-i.ensures ∙ ap (λ (l : List File). place l c.args.name) c.deref.ensures.value in
    let within : c.place_of-i.result < length files = omega (arith, c.if-i-len.true, c.len.ensures) in
    edited_here files c.args.name c.place_of-i.result old new at within c.index_mut.ensures.value refl
    ∙ c.truncate.ensures.items
    ∙ ap (λ (l : List ℕ). take c.args.len l) (sym (old_bytes files c.args.name c.place_of-i.result old new at within c.index_mut.ensures.value refl))

pub returns-then-i-len-clause-others : goal.returns-then-i-len-clause-others
returns-then-i-len-clause-others c =
    let files = c.args.files.now.items in
    let old = c.index_mut.result.now in
    let new : File = record { name = old.name; bytes = c.truncate.new.self } in
    let at : c.place_of-i.result ≡ place files c.args.name = c.place_of-i.ensures ∙ ap (λ (l : List File). place l c.args.name) c.deref.ensures.value in
    edited_others files c.args.name c.place_of-i.result old new at (omega (arith, c.if-i-len.true, c.len.ensures)) c.index_mut.ensures.value refl

pub returns-else-i-len-clause-done : goal.returns-else-i-len-clause-done
returns-else-i-len-clause-done c =
    let files = c.args.files.now.items in
    let at : c.place_of-i.result ≡ place files c.args.name = c.place_of-i.ensures ∙ ap (λ (l : List File). place l c.args.name) c.deref.ensures.value in
    let none : contents files c.args.name ≡ [] = absent files c.args.name (omega (arith, at, c.if-i-len.false, c.len.ensures)) in
    none ∙ sym (take_nil c.args.len) ∙ ap (λ (l : List ℕ). take c.args.len l) (sym none)

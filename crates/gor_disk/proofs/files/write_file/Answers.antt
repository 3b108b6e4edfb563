use Rattle.std.proofs.Common.{rules, ◌≡◌, ◌<◌, ◌≤◌, List, length, refl, sym, ◌∙◌, ap, arith}
use Rattle.gor_disk.specs.declared.files.File.{File}
use Rattle.gor_disk.specs.Memory.{contents, place}
use Rattle.gor_disk.proofs.Lookups.{push_here, push_others}
use Rattle.gor_disk.proofs.Edits.{absent, overwritten_none, old_bytes, edited_others, written_done, written_err}
use Rattle.gor_disk.proofs.files.write_file.Goals as goal

pub write_over-requires : goal.write_over-requires
write_over-requires c =
    let files = c.args.files.now.items in
    let old = c.index_mut.result.now in
    let at : c.place_of-i.result ≡ place files c.args.name = c.place_of-i.ensures ∙ ap (λ (l : List File). place l c.args.name) c.deref.ensures.value in
    let within : c.place_of-i.result < length files = omega (arith, c.if-i-len.true, c.len.ensures) in
    let bytes = old_bytes files c.args.name c.place_of-i.result old old at within c.index_mut.ensures.value refl in
    omega (arith, ap length bytes, c.requires)

pub returns-then-i-len-clause-done : goal.returns-then-i-len-clause-done
returns-then-i-len-clause-done c =
    let files = c.args.files.now.items in
    let old = c.index_mut.result.now in
    let new : File = record { name = old.name; bytes = c.write_over.new.old } in
    let at : c.place_of-i.result ≡ place files c.args.name = c.place_of-i.ensures ∙ ap (λ (l : List File). place l c.args.name) c.deref.ensures.value in
    let within : c.place_of-i.result < length files = omega (arith, c.if-i-len.true, c.len.ensures) in
    written_done files c.args.name c.place_of-i.result old new at within c.index_mut.ensures.value refl c.write_over.result c.args.at c.args.bytes.now c.write_over.ensures.items

pub returns-then-i-len-clause-others : goal.returns-then-i-len-clause-others
returns-then-i-len-clause-others c =
    let files = c.args.files.now.items in
    let old = c.index_mut.result.now in
    let new : File = record { name = old.name; bytes = c.write_over.new.old } in
    let at : c.place_of-i.result ≡ place files c.args.name = c.place_of-i.ensures ∙ ap (λ (l : List File). place l c.args.name) c.deref.ensures.value in
    edited_others files c.args.name c.place_of-i.result old new at (omega (arith, c.if-i-len.true, c.len.ensures)) c.index_mut.ensures.value refl

pub returns-then-i-len-clause-err : goal.returns-then-i-len-clause-err
returns-then-i-len-clause-err c =
    let files = c.args.files.now.items in
    let old = c.index_mut.result.now in
    let new : File = record { name = old.name; bytes = c.write_over.new.old } in
    let at : c.place_of-i.result ≡ place files c.args.name = c.place_of-i.ensures ∙ ap (λ (l : List File). place l c.args.name) c.deref.ensures.value in
    let within : c.place_of-i.result < length files = omega (arith, c.if-i-len.true, c.len.ensures) in
    written_err files c.args.name c.place_of-i.result old new at within c.index_mut.ensures.value refl c.write_over.result c.write_over.ensures.err

pub returns-clause-done : goal.returns-clause-done
returns-clause-done c =
    let files = c.args.files.now.items in
    let new : File = record { name = c.args.name; bytes = c.in_ok-bytes.bytes } in
    let at : c.place_of-i.result ≡ place files c.args.name = c.place_of-i.ensures ∙ ap (λ (l : List File). place l c.args.name) c.deref.ensures.value in
    let past : length files ≤ place files c.args.name = omega (arith, at, c.if-i-len.false, c.len.ensures) in
    let e : c.in_ok-bytes.bytes.items ≡ c.args.bytes.now = search rules in
    ap (λ (l : List File). contents l c.args.name) c.in_ok-push.ensures.items
    ∙ push_here files c.args.name new refl past
    ∙ e
    ∙ sym (overwritten_none c.args.at c.args.bytes.now (contents files c.args.name) (absent files c.args.name past))

pub returns-clause-fits : goal.returns-clause-fits
returns-clause-fits c =
    let files = c.args.files.now.items in
    let at : c.place_of-i.result ≡ place files c.args.name = c.place_of-i.ensures ∙ ap (λ (l : List File). place l c.args.name) c.deref.ensures.value in
    let past : length files ≤ place files c.args.name = omega (arith, at, c.if-i-len.false, c.len.ensures) in
    omega (arith, ap length (absent files c.args.name past), c.requires)

pub returns-clause-others : goal.returns-clause-others
returns-clause-others c = λ f apart.
    let files = c.args.files.now.items in
    let new : File = record { name = c.args.name; bytes = c.in_ok-bytes.bytes } in
    ap (λ (l : List File). contents l f) c.in_ok-push.ensures.items ∙ push_others files c.args.name new refl f apart

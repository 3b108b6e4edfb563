use Rattle.std.proofs.Common.{◌≡◌, List, refl, ◌∙◌, ap}
use Rattle.gor_disk.specs.Disk.{IsImage}
use Rattle.gor_disk.specs.declared.files.File.{File}
use Rattle.gor_disk.specs.Memory.{contents}
use Rattle.gor_disk.proofs.Steps.{effected_by}
use Rattle.gor_disk.proofs.images.advance.Goals as goal

pub returns-clause-image : goal.returns-clause-image
returns-clause-image c =
    effected_by IsImage c.args.call c.args.given.now c.args.given.now c.bytes_of.result.now (contents c.args.files.now.items c.args.call.file) c.in_ok-next.next.items (contents c.set_bytes.new.files.items c.args.call.file)
    refl (c.bytes_of.ensures ∙ ap (λ (l : List File). contents l c.args.call.file) c.deref.ensures.value) c.in_ok-set_bytes.ensures.bytes c.in_ok-next.ensures.image

pub returns-clause-stable : goal.returns-clause-stable
returns-clause-stable c = λ none.
    effected_by (λ held bytes. bytes ≡ held.stable) c.args.call c.args.given.now c.args.given.now c.bytes_of.result.now (contents c.args.files.now.items c.args.call.file) c.in_ok-next.next.items (contents c.set_bytes.new.files.items c.args.call.file)
    refl (c.bytes_of.ensures ∙ ap (λ (l : List File). contents l c.args.call.file) c.deref.ensures.value) c.in_ok-set_bytes.ensures.bytes (c.in_ok-next.ensures.stable none)

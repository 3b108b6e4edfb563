use Rattle.std.proofs.Common.{◌≡◌, ◌<◌, ◌^◌, slice_index, length, rules, sym, ap, subst, arith}
use Rattle.gor_disk.specs.Disk.{IsImage, wrote}
use Rattle.gor_disk.proofs.StillImages.{wrote_failed, torn_done}
use Rattle.gor_disk.proofs.images.torn_write.Goals as goal

pub returns-then-eq-clause-image : goal.returns-then-eq-clause-image
returns-then-eq-clause-image c = λ held image.
    let e : c.in_ok-next.next.items ≡ c.args.old.now = search rules in
    subst (IsImage (wrote c.args.at c.args.len held)) (sym e) (wrote_failed held c.args.old.now c.args.at c.args.len image)

pub returns-clause-image : goal.returns-clause-image
returns-clause-image c = λ held image.
    torn_done held c.args.old.now _ c.as_slice.result.now c.args.at c.args.len image (omega arith) c.in_ok-next-2.ensures.items c.in_ok-next-2.ensures.fits
    (λ i. subst (λ l. slice_index l i < 2 ^ 8) (sym c.as_slice.ensures.value) (c.in_ok-some.ensures.each i))
    (omega (arith, ap length c.as_slice.ensures.value, c.in_ok-some.ensures.len, c.if-given-len.false))

use Rattle.std.proofs.Common.{◌≡◌, ℕ, Vec, Global, replicate, ◌-◌, ◌*◌, ◌≤◌, List, ◌++◌, length, ap, ◌∙◌, arith, refl}
use Rattle.std.proofs.lemmas.List.{length-drop}
use Rattle.gor_slab.specs.Spelling.{blocks, slab_len, slabs_for, rest_of_slab, version, greatest_part}
use Rattle.gor_slab.proofs.Rows.{count_len}
use Rattle.gor_slab.proofs.Writers.{closed, reads}
use Rattle.gor_slab.proofs.writing.SlabWriter.finish.Goals as goal

pub returns-clause-file : goal.returns-clause-file
returns-clause-file c = λ unit entries w.
    let old = c.args.self.now in
    let b = c.make_room.new.bytes in
    let used : c.saturating_sub-used.result ≡ length (blocks entries) = omega (arith, c.saturating_sub-used.ensures, c.len.ensures, old.bytes.ok, ap length w.bytes, length-drop 24 old.bytes.items) in
    let slabs : c.div_ceil-slabs.result ≡ slabs_for (length (blocks entries)) = c.div_ceil-slabs.ensures ∙ ap slabs_for used in
    let rest : c.div_ceil-slabs.result * slab_len - c.saturating_sub-used.result ≡ rest_of_slab (length (blocks entries)) = rw (slabs, used) refl in
    let count : c.len-count.result ≡ length entries = omega (arith, c.len-count.ensures, old.rows.ok, ap length w.rows, count_len 0 entries) in
    let long : 24 ≤ length b.items = omega (arith, c.in_ok-make_room.ensures.room, b.ok) in
    let padding = c.div_ceil-slabs.result * slab_len - c.saturating_sub-used.result in
    let file_is : c.replace-file.result.items ≡ b.items = ap (λ (v : Vec ℕ Global). v.items) c.replace-file.ensures.value ∙ c.in_ok-reserve.ensures.items in
    closed unit entries b.items c.push_zeros.new.out.items c.push_rows.new.out.items c.fill_header.new.file.items c.version.result c.div_ceil-slabs.result c.len-count.result
    padding c.deref.result.now
    (c.in_ok-make_room.ensures.kept ∙ w.bytes) long (c.push_zeros.ensures.items ∙ ap (λ (x : List ℕ). x ++ replicate padding 0) file_is) c.push_rows.ensures.items c.fill_header.ensures (c.deref.ensures.value ∙ w.rows) (c.version.ensures ∙ ap version w.unit) slabs count rest

pub returns-clause-read : goal.returns-clause-read
returns-clause-read c = λ unit entries w last within.
    let old = c.args.self.now in
    let room : length (blocks entries) ≤ greatest_part = omega (arith, c.if-used-gt-GREATEST_PART.false, c.saturating_sub-used.ensures, c.len.ensures, old.bytes.ok, ap length w.bytes, length-drop 24 old.bytes.items) in
    let rows : length entries * 24 ≤ greatest_part = omega (arith, c.if-count-gt-GREATEST_ROWS.false, c.len-count.ensures, old.rows.ok, ap length w.rows, count_len 0 entries) in
    reads last unit entries c.fill_header.new.file.items w.limits within room rows (returns-clause-file c unit entries w)

use Rattle.std.proofs.Common.{◌≡◌, ℕ, suc, ◌+◌, ◌-◌, ◌*◌, ◌<◌, drop, arith, sym, ap, subst, ◌∙◌}
use Rattle.std.proofs.lemmas.Result.{err_from_is_err_and}
use Rattle.std.proofs.lemmas.List.{drop-drop}
use Rattle.gor_model.specs.Fields.{with_front}
use Rattle.gor_slab.specs.Reading.{rows_in}
use Rattle.gor_slab.proofs.Rows.{rows_more, rows_ends, rows_end, used_push}
use Rattle.gor_slab.proofs.reading.rows_of.Goals as goal

-- while rows are left, the next one is among them
left : (count index : ℕ) → index < count → count - index ≡ suc (count - (index + 1))
left count index lt = omega arith

next : (start index : ℕ) → start + index * 24 + 24 ≡ start + (index + 1) * 24
next start index = omega arith

pub returns-in_err-row-clause-read : goal.returns-in_err-row-clause-read
returns-in_err-row-clause-read c =
    let at = 24 + c.args.sizes.room + c.loop-index.index * 24 in
    let rest = drop at c.args.bytes.now in
    let n = c.args.sizes.rows - (c.loop-index.index + 1) in
    let total = rows_in c.args.last c.args.sizes.room (24 + c.args.sizes.room) 0 c.args.sizes.rows (drop (24 + c.args.sizes.room) c.args.bytes.now) in
    let so_far : with_front c.loop-index.rows.items (rows_in c.args.last c.args.sizes.room at c.loop-index.used (suc n) rest) ≡ total =
    subst (λ (n : ℕ). with_front c.loop-index.rows.items (rows_in c.args.last c.args.sizes.room at c.loop-index.used n rest) ≡ total) (left c.args.sizes.rows c.loop-index.index c.loop-index-test.true) c.loop-index.invariant.read in
    let p = err_from_is_err_and c.from_residual.result c.from_residual.ensures.1 in
    rw (p.1, p.2) (rows_ends c.in_err-row.field-0.0 c.args.last c.args.sizes.room at c.loop-index.used n rest c.loop-index.rows.items total
    (rw (← c.split_at.ensures.back) c.in_err-row.ensures.read) so_far)

pub loop-index-preserved : goal.loop-index-preserved
loop-index-preserved c =
    let at = 24 + c.args.sizes.room + c.loop-index.index * 24 in
    let rest = drop at c.args.bytes.now in
    let n = c.args.sizes.rows - (c.loop-index.index + 1) in
    let total = rows_in c.args.last c.args.sizes.room (24 + c.args.sizes.room) 0 c.args.sizes.rows (drop (24 + c.args.sizes.room) c.args.bytes.now) in
    let so_far : with_front c.loop-index.rows.items (rows_in c.args.last c.args.sizes.room at c.loop-index.used (suc n) rest) ≡ total =
    subst (λ (n : ℕ). with_front c.loop-index.rows.items (rows_in c.args.last c.args.sizes.room at c.loop-index.used n rest) ≡ total) (left c.args.sizes.rows c.loop-index.index c.loop-index-test.true) c.loop-index.invariant.read in
    let more = rows_more c.args.last c.args.sizes.room at c.loop-index.used n rest c.in_ok-row.row c.loop-index.rows.items total
    (rw (← c.split_at.ensures.back) c.in_ok-row.ensures.read) so_far in
    let after : drop 24 rest ≡ drop (24 + c.args.sizes.room + (c.loop-index.index + 1) * 24) c.args.bytes.now =
    drop-drop 24 at c.args.bytes.now ∙ ap (λ (k : ℕ). drop k c.args.bytes.now) (next (24 + c.args.sizes.room) c.loop-index.index) in
    record {
      used = rw c.in_ok-push.ensures.items (ap (λ (k : ℕ). k + c.in_ok-row.row.length) c.loop-index.invariant.used ∙ sym (used_push c.loop-index.rows.items c.in_ok-row.row));
      fits = c.in_ok-row.ensures.fits;
      read = rw (c.in_ok-push.ensures.items, ← after, ← next (24 + c.args.sizes.room) c.loop-index.index) more;
    }

pub returns-clause-read : goal.returns-clause-read
returns-clause-read c =
    let start = 24 + c.args.sizes.room in
    let at = start + c.loop-index.index * 24 in
    let total = rows_in c.args.last c.args.sizes.room start 0 c.args.sizes.rows (drop start c.args.bytes.now) in
    let none : c.args.sizes.rows - c.loop-index.index ≡ 0 = omega (arith, c.loop-index-test.false) in
    rows_end c.args.last c.args.sizes.room at c.loop-index.used (drop at c.args.bytes.now) c.loop-index.rows.items total
    (subst (λ (n : ℕ). with_front c.loop-index.rows.items (rows_in c.args.last c.args.sizes.room at c.loop-index.used n (drop at c.args.bytes.now)) ≡ total) none c.loop-index.invariant.read)

-- The bytes in which bodies wait.
use Rattle.std.proofs.Common.{◌≡◌, ℕ, zero, suc, ◌+◌, ◌-◌, ◌≤◌, List, [], ◌∷◌, ◌++◌, take, drop, refl, sym, ap, ◌∙◌, arith, Option}
use Rattle.std.specs.Int.{w64, to_be_bytes}
use Rattle.gor_journal.specs.declared.entry.Entry.{Entry}
use Rattle.gor_journal.specs.Bodies.{Pending, with_entry, stored, key_body, log_body, begun_body}
use Rattle.gor_journal.specs.Entries.{key_bytes, log_bytes, entry_weight, entry_window, greater}

keys_out : (k : List ℕ) → drop 9 (stored (key_body k)) ≡ k
keys_out [] = refl
keys_out (b ∷ k) = refl

log_out : (n : ℕ) (r : List ℕ) → 1 ≤ n → drop 25 (stored (begun_body n r)) ≡ r
log_out zero r some = absurd (omega arith)
log_out (suc n) r some = refl

-- bytes of key records that stand behind a head are those behind it
pub keys_behind : (items k : List ℕ) → items ≡ stored (key_body k) → drop 9 items ≡ k
keys_behind items k is = ap (λ (l : List ℕ). drop 9 l) is ∙ keys_out k

pub keys_wait : (items k : List ℕ) → items ≡ stored (key_body k) → items ≡ stored (key_body (drop 9 items))
keys_wait items k is = is ∙ ap (λ (l : List ℕ). stored (key_body l)) (sym (keys_behind items k is))

pub log_behind : (n : ℕ) (items r : List ℕ) → items ≡ stored (begun_body (n + 1) r) → drop 25 items ≡ r
log_behind n items r is = ap (λ (l : List ℕ). drop 25 l) is ∙ log_out (n + 1) r (omega arith)

pub log_waits : (n : ℕ) (items r : List ℕ) → items ≡ stored (begun_body (n + 1) r) → items ≡ stored (begun_body (n + 1) (drop 25 items))
log_waits n items r is = is ∙ ap (λ (l : List ℕ). stored (begun_body (n + 1) l)) (sym (log_behind n items r is))

-- a batch whose numbers are written
pub closed : (n next : ℕ) (old new : List ℕ) → 1 ≤ n → old ≡ stored (begun_body n (drop 25 old))
    → new ≡ take 9 old ++ (to_be_bytes w64 (next - n) ++ (to_be_bytes w64 (next - 1) ++ drop 25 old)) → new ≡ stored (log_body n next (drop 25 old))
closed zero next old new some waits is = absurd (omega arith)
closed (suc n) next old new some waits is =
    is ∙ ap (λ (l : List ℕ). take 9 l ++ (to_be_bytes w64 (next - suc n) ++ (to_be_bytes w64 (next - 1) ++ drop 25 old))) waits

-- what waits with an entry more, part by part
pub added : (e : Entry) (p : Pending) (keys log : List ℕ) (weight : ℕ) (window top : Option ℕ) → keys ≡ p.keys ++ key_bytes p.next e → log ≡ p.log ++ log_bytes p.next e
    → weight ≡ entry_weight e → window ≡ entry_window e → top ≡ greater window p.top
    → ◌≡◌ {A = Pending} (record { keys = keys; log = log; changes = p.changes + 1; next = p.next + 1; buffered = p.buffered + weight; top = top; stopped = p.stopped }) (with_entry e p)
added e p keys log weight window top keys_are log_are weight_is window_is top_is =
    let highest : top ≡ greater (entry_window e) p.top = top_is ∙ ap (λ w. greater w p.top) window_is in
    λ i. record { keys = keys_are i; log = log_are i; changes = p.changes + 1; next = p.next + 1; buffered = p.buffered + weight_is i; top = highest i; stopped = p.stopped }

-- A pause is called at a bound that has a ghost value, which the borrow checker does not pick.
use Rattle.std.proofs.Common.{[], ◌∷◌, refl, ap}
use mir.Syntax.{a_type, dcons, dnil, named, w32, w64}
use mir.Val.{Val, vunit, vint, vptr, vstruct, vcons, vnil}
use mir.MapTy.{inst_fn}
use base.Logic.{SProp, id⊢}
use base.Fml.{ftrue, fsep, flft}
use types.Kit.{‵, raw, ◌⊛◌, some, later, ◌$◌, ◌∵◌, !, qed, by, move, keep, drop, use1, split, join, fsplit, fjoin, feq_i, feq_l, pick, await}
use types.Run.{of_opd, unit_lit, no_more, and_then, returns, enter}
use types.ByLocal.{alloc_all, pass_all, free_all, look_at, get, sets, lands_as}
use types.Part.{agg}
use contract.BorrowLft.{◌⊑◌}
use contract.Monad.{fact}
use contract.Running.{tables}
use denote.Exit.{yes}
use denote.RattleType.{RattleType, owns}
use denote.Signature.{types_at, plain}
use denote.Builtin.{RefOf, u32, u64, unit}
use denote.Ref.{shr_vals, shr_Tells}
use denote.Plain.{uint_vals, uint_Tells}
use denote.Struct.Laws.{vals, tells, owed, u32-laws}
use denote.Steps.{nothing, only}
use denote.Param.{param, bounded}
use denote.Triple.Spec.{triple_of}
use denote.Triple.Call.{calls_at}
use denote.Triple.Clauses.{Lasts, lasts, at_exit}
use denote.Triple.Table.{framed}
use denote.Triple.Walked.{Stays, stay_dropped, walk_of, Goes-dropped}
use Rattle.std.proofs.raw_atomic.Walks.{proved, leaves}
use Rattle.gor_hall.specs.contracts.pass.Pass as pass'
use Rattle.gor_hall.specs.contracts.permit.Permit as permit'
use Rattle.gor_outside.specs.contracts.pause.Pause.at as callee
use Rattle.gor_steps.specs.contracts.pause.call.{ended, clauses}
use Rattle.gor_steps.specs.contracts.pause.call.Key.{name as #self}
use Rattle.gor_steps.proofs.pause.call.Statement.{statement}
use Rattle.gor_steps.proofs.pause.call.Code as code

pub call_spec : {M : Type 1} → statement M
call_spec 𝓤 𝓛 𝓜 𝓡 wired P laws g d met =
    let H = 𝓛.H in let 𝓣 = tables 𝓤 H 𝓜 𝓡 𝓡.env in let R : RattleType = param 0 P in let Z : RattleType = pass'.the_row in let Y : RattleType = permit'.the_row in let En = ended P g d in let c = clauses P g d 𝓛 𝓜.mem 𝓡.returns in
    let inst = bounded (a_type ∷ []) (P, tt) (dcons d dnil) in let fn = inst_fn inst code.function in
    let self = RefOf (0 ∷ []) tt (plain (λ _. R)) (λ _. tt) in let of = RefOf (1 ∷ []) tt (plain (λ _. Z)) (λ _. tt) in let word = plain (λ _. u32) in let one = plain (λ _. Y) in let long = plain (λ _. u64) in
    let hs : Stays En.signature.params En.kept = (stay_dropped self yes, (stay_dropped word yes, (stay_dropped word yes, (stay_dropped of yes, (stay_dropped one yes, (stay_dropped long yes, tt)))))) in
    proved 𝓛 En hs c 𝓜 𝓡 (Goes-dropped 𝓛 3 self yes (λ κs x f. refl), (Goes-dropped 𝓛 3 word yes (λ κs x f. refl), (Goes-dropped 𝓛 3 word yes (λ κs x f. refl), (Goes-dropped 𝓛 3 of yes (λ κs x f. refl), (Goes-dropped 𝓛 3 one yes (λ κs x f. refl), (Goes-dropped 𝓛 3 long yes (λ κs x f. refl), tt))))))
    (#self inst) fn (code.unfolded 𝓤 H 𝓜 𝓡 wired (P, tt) d)
    (λ κs. (shr_vals, (uint_vals w32, (uint_vals w32, (shr_vals, (vals permit'.the_type (u32-laws, tt), (uint_vals w64, tt))))))) (λ κs. (shr_Tells (named 0) κs.0 R, (uint_Tells w32, (uint_Tells w32, (shr_Tells (named 1) κs.1.0 Z, (tells permit'.the_type (u32-laws, tt), (uint_Tells w64, tt))))))) (λ κs qs bounds a gh are.
    let at : Val = vptr a.0.ref_ptr.0 a.0.ref_ptr.1 in let lane : Val = vint w32 a.1.0 in let place : Val = vint w32 a.1.1.0 in
    let pass : Val = vptr a.1.1.1.0.ref_ptr.0 a.1.1.1.0.ref_ptr.1 in let permit : Val = vstruct (vcons (vint w32 a.1.1.1.1.0.lane) vnil) in let number : Val = vint w64 a.1.1.1.1.1.0 in
    let y : (walk_of 𝓛 En hs c).Ghost = ((κs, qs, bounds, a, (at ∷ [], (lane ∷ [], (place ∷ [], (pass ∷ [], (permit ∷ [], (number ∷ [], tt))))))), gh) in let fit = (owed permit'.the_type (u32-laws, tt) a.1.1.1.1.0 (permit ∷ []) are.1.1.1.1.0).0.1 in let Post : Val → SProp 𝓤 = (walk_of 𝓛 En hs c).post y in
    let E = callee.ended P g d in let k = triple_of 𝓛 (callee.signature P) (callee.spec P g d 𝓛 𝓜.mem 𝓡.returns) in
    let z : k.Ghost = (((κs.0, (κs.1.1.0, tt)), (qs.0, (qs.1.1.0, tt)), bounds, (a.0, (a.1.0, (a.1.1.0, tt))), (at ∷ [], (lane ∷ [], (place ∷ [], tt)))), a.1.1.1.1.1.0) in
    qed 𝓛 ((‵ (fsep (flft κs.0 qs.0) (fsep (flft κs.1.0 qs.1.0) (fsep (flft κs.1.1.0 qs.1.1.0) ftrue))) ⊛ ‵ (owns (types_at En.signature.params κs) a y.0.4)) ∷ raw (fact 𝓤 (κs.1.1.0 ⊑ P.lives)) ∷ raw (fact 𝓤 _) ∷ []) ∵
    keep ! (0 ∷ 1 ∷ []) $ split ! $ move ! (1 ∷ []) $ fsplit ! $ move ! (1 ∷ []) $ fsplit ! $ move ! (1 ∷ []) $ fsplit ! $ move ! (1 ∷ []) $ drop ! $
    -- [place; lane; the pause; the tokens; the bound]
    nothing ! $ move ! (1 ∷ 0 ∷ []) $ fjoin ! $ move ! (1 ∷ 0 ∷ []) $ fjoin ! $ move ! (1 ∷ 0 ∷ []) $ fjoin ! $ move ! (1 ∷ []) $
    -- [the tokens; what the callee is handed; the bound]
    fsplit ! $ move ! (1 ∷ []) $ fsplit ! $ move ! (2 ∷ 1 ∷ []) $ fjoin ! $
    -- [the tokens of the call; that of the pass; what the callee is handed; the bound]
    move ! (0 ∷ 2 ∷ []) $ join ! $ move ! (2 ∷ []) $ nothing ! $ move ! (1 ∷ 0 ∷ []) $ join ! $ move ! (1 ∷ 0 ∷ []) $ join ! $ use1 𝓛 (raw (k.pre z)) (id⊢ 𝓤 _) $
    enter ! 𝓣.C 𝓣.Λ fn (at ∷ lane ∷ place ∷ pass ∷ permit ∷ number ∷ []) Post $ alloc_all ! (λ l. pass_all ! refl ((tt, tt), ((tt, record { fits = are.1.0.1 }), ((tt, record { fits = are.1.1.0.1 }), ((tt, tt), ((tt, (record { fits = fit }, tt)), ((tt, record { fits = are.1.1.1.1.1.0.1 }), tt)))))) $
    sets ! (agg ! (and_then ! (get ! refl) (and_then ! (get ! refl) (and_then ! (get ! refl) (no_more !))))) refl (tt, (tt, ((record { fits = fit }, tt), (record { fits = are.1.1.1.1.1.0.1 }, tt)))) $
    calls_at ! (framed 𝓤 H 𝓜 𝓣) k met.at z (and_then ! (get ! refl) (and_then ! (get ! refl) (and_then ! (get ! refl) (no_more !)))) (λ v.
    use1 𝓛 (later (some (λ (r : Unit {0}). (‵ (fsep (flft κs.0 qs.0) (fsep (flft κs.1.1.0 qs.1.1.0) ftrue)) ⊛ ‵ (unit.own_val r (v ∷ []))) ⊛ some (λ (ws : Lasts E z.0.0 z.0.3). ‵ (lasts E z.0.0 z.0.3 ws) ⊛ raw ((callee.clauses P g d 𝓛 𝓜.mem 𝓡.returns z.0.0 z.0.3).ensures z.1 r (at_exit E z.0.0 z.0.3 ws)))))) (id⊢ 𝓤 _) $
    await ! tt $ pick ! (λ r. split ! $ split ! $ move ! (2 ∷ []) $ pick ! (λ ws. split ! $ drop ! $ move ! (2 ∷ []) $ feq_l ! (λ is_unit.
    lands_as ! (ap only is_unit) refl (tt, tt) $ sets ! (of_opd ! (unit_lit !)) refl (tt, tt) $
    -- [the `ensures`; the tokens of the call; that of the pass]
    move ! (1 ∷ []) $ fsplit ! $ move ! (3 ∷ 1 ∷ []) $ fjoin ! $ move ! (1 ∷ 0 ∷ []) $ fjoin ! $
    feq_i ! _ (vunit ∷ []) _ refl $ nothing ! $ nothing ! $ fjoin ! $ nothing ! $ fjoin ! $ nothing ! $ fjoin ! $ nothing ! $ fjoin ! $ nothing ! $ fjoin ! $ nothing ! $ fjoin ! $
    returns ! (look_at ! 0 refl) $ free_all ! refl $ keep ! (2 ∷ 0 ∷ 1 ∷ 3 ∷ []) $ by ! (leaves 𝓛 En hs c y vunit tt (tt, (tt, (tt, (tt, (tt, (tt, tt)))))) (tt, (tt, (tt, (tt, (tt, (tt, tt)))))))))))))

-- `into_loose` compares the address with null, and puts the handle beside it where there is a page.
use Rattle.std.proofs.Common.{◌≡◌, List, [], ◌∷◌, ◌++◌, Some, None, refl, sym, ap, subst, ◌∙◌, lit<}
use mir.Val.{Val, vcons, vnil}
use base.Logic.{SProp, ent, emp, id⊢}
use prog.Wp.{WpFn}
use types.Kit.{‵, raw, ◌⊛◌, at_ret, ◌$◌, ◌∵◌, !, qed, by, move, keep, split, fsplit, fjoin, suffices, rewrite, use0, use1}
use types.Run.{stop, fld, lit, of_opd, bin, no_more, and_then, first, branches, skips, exec, returns, returns_within, enter}
use types.ByLocal.{alloc_all, pass_all, free_all, look_at, get, get_in, sets, env}
use types.Part.{agg, sub, whole}
use types.Match.{live}
use contract.Monad.{fact, fact_i}
use contract.Running.{tables}
use denote.Param.{layout}
use denote.RattleType.{RattleType, owns}
use denote.RawPtr.{Ptr, block_ptr, null_ptr, tests_null, Testable}
use denote.Signature.{types_at, type_at, plain}
use denote.Steps.{nothing}
use denote.Triple.Entry.{alive}
use denote.Triple.Walked.{Stays, stay_dropped, walk_of, Goes-dropped}
use Rattle.core.proofs.alloc.Calls.{Goes-blank}
use Rattle.core.proofs.atomic.Steps.{Ptr-Good}
use Rattle.core.proofs.cell.Inside.{Good, one}
use Rattle.core.proofs.option.Made.{Some-of, none_of}
use Rattle.std.specs.contracts.alloc.Global as heap
use Rattle.std.proofs.alloc.Global.TheLaws as heap_laws
use Rattle.std.specs.contracts.impls.GlobalAllocator.TheImpl.{ghosts}
use Rattle.std_alloc.proofs.RcSteps.{word, word-Good}
use Rattle.std_alloc.proofs.ResultValues.{and_tt}
use Rattle.std.proofs.raw_atomic.Walks.{proved_at, leaves}
use Rattle.phys_bank.specs.Ownership.{Block}
use Rattle.phys_bank.proofs.Values.{Slot, Loose, held_by, loose_good, loose_in, page_out, by_page}
use Rattle.phys_bank.specs.contracts.page.Page.into_loose as f
use Rattle.phys_bank.proofs.page.Page.into_loose.Statement.{statement}
use Rattle.phys_bank.proofs.page.Page.into_loose.Code as code

pub into_loose_spec : {M : Type 1} → statement M
into_loose_spec 𝓤 𝓛 𝓜 𝓡 wired =
    let 𝓣 = tables 𝓤 𝓛.H 𝓜 𝓡 𝓡.env in let c = f.clauses 𝓛 𝓜.mem 𝓡.returns in let L = heap_laws.the_row_laws in let Boxed = Loose Block heap.the_row L ghosts in
    let hs : Stays f.ended.signature.params f.ended.kept = (stay_dropped (plain (λ _. Slot)) f.ended.kept.0, (stay_dropped (plain (λ _. heap.the_row)) f.ended.kept.1.0, tt)) in
    proved_at 𝓛 f.ended hs c 𝓜 𝓡 (Goes-blank 𝓛 0 (plain (λ _. Slot)) f.ended.kept.0 (λ κs x w. tt), (Goes-dropped 𝓛 0 (plain (λ _. heap.the_row)) f.ended.kept.1.0 (λ κs x w. refl), tt))
    f.Key.name code.function (code.unfolded 𝓤 𝓛.H 𝓜 𝓡 wired) (λ y are.
    let Post : Val → SProp 𝓤 = (walk_of 𝓛 f.ended hs c).post y in let Run : List Val → SProp 𝓤 = λ vs. WpFn 𝓤 𝓛.H 𝓣.C 𝓣.Λ code.function vs Post in
    let Out : RattleType = type_at f.ended.signature.result y.0.0 in let d = y.0.3.0 in let a = y.0.3.1.0 in
    let handle = one (layout heap.the_row) y.0.4.1.0 ((L.lawful 𝓛).typed a y.0.4.1.0 are.1.0) in let h = handle.0 in
    qed 𝓛 ((raw (alive 𝓛 f.ended.signature y.0.0 y.0.1) ⊛ ‵ (owns (types_at f.ended.signature.params y.0.0) y.0.3 y.0.4)) ∷ raw ((c y.0.0 y.0.3).requires y.1) ∷ []) ∵
    split ! $ move ! (1 ∷ []) $ fsplit ! $ page_out ! d y.0.4.0 (λ vals. move ! (1 ∷ []) $ fsplit ! $ rewrite ! 0 (λ (us : List Val). ‵ (heap.the_row.own_val a us)) handle.1 refl $ move ! (2 ∷ []) $
    let passed : (p : Ptr) → d.at ≡ p → ent 𝓤 (Run (word p ∷ h ∷ [])) (Run (y.0.4.0 ++ (y.0.4.1.0 ++ []))) = λ p at.
    subst (λ (us : List Val). ent 𝓤 (Run (word p ∷ h ∷ [])) (Run us)) (sym (λ i. (vals ∙ ap (λ q. word q ∷ []) at) i ++ (handle.1 i ++ []))) (id⊢ 𝓤 (Run (word p ∷ h ∷ []))) in
    by_page ! d
    -- [the handle; the other parameters; the tokens; the `requires`]
    (λ empty at. suffices ! (Run (word null_ptr ∷ h ∷ [])) (passed null_ptr at) $
    enter ! 𝓣.C 𝓣.Λ code.function (word null_ptr ∷ h ∷ []) Post $ alloc_all ! (λ l. pass_all ! refl (word-Good [] null_ptr, (handle.2, tt)) $
    sets ! (of_opd ! (get_in ! (fld ! refl (stop !)) (sub ! 0 refl (whole !)))) refl (Ptr-Good null_ptr) $ sets ! (bin ! (get ! refl) (lit ! tt) tt) refl (tt, tt) $
    first ! $ branches ! (get ! refl)
    (λ _. sets ! (agg ! (and_then ! (lit ! tt) (no_more !))) refl (tt, (record { fits = lit< tt }, tt)) $
    use0 𝓛 (‵ (Out.own_val None (live 0 vnil ∷ []))) (none_of 𝓛 Boxed) $ use0 𝓛 (raw (fact 𝓤 (d.held ≡ None))) (fact_i 𝓤 (d.held ≡ None) (emp 𝓤) empty) $ nothing ! $ nothing ! $ fjoin ! $ nothing ! $ fjoin ! $
    returns_within ! Post refl (look_at ! 0 refl) $ free_all ! refl $ keep ! (5 ∷ 0 ∷ 2 ∷ 1 ∷ []) $ by ! (leaves 𝓛 f.ended hs c y (live 0 vnil) None (tt, (tt, tt)) (tt, (tt, tt))))
    (λ wrong. absurd wrong)))
    -- [the page; the handle; the other parameters; the tokens; the `requires`]
    (λ b o bytes full at. let p : Ptr = block_ptr b o in let boxed : Val = held_by b o h in let typed = loose_good Block heap.the_row L ghosts b o h handle.2 in
    let made : Boxed.Denot = record { at = p; alloc = a; value = bytes } in let out : Val = live 1 (vcons boxed vnil) in let good : Good (layout Out) out = (and_tt _ typed.0, (record { fits = lit< tt }, (typed.1, tt))) in
    suffices ! (Run (word p ∷ h ∷ [])) (passed p at) $
    enter ! 𝓣.C 𝓣.Λ code.function (word p ∷ h ∷ []) Post $ alloc_all ! (λ l. pass_all ! refl (word-Good [] p, (handle.2, tt)) $
    sets ! (of_opd ! (get_in ! (fld ! refl (stop !)) (sub ! 0 refl (whole !)))) refl (tt, tt) $ sets ! (bin ! (get ! refl) (lit ! tt) (tests_null p (subst Testable at d.low))) refl (tt, tt) $
    first ! $ branches ! (get ! refl) (λ wrong. absurd wrong)
    (λ _. skips ! $ exec ! 𝓣.C 𝓣.Λ (env code.Mir.locals l) code.Mir.t-4 (at_ret _ Post) $
    sets ! (agg ! (and_then ! (get ! refl) (and_then ! (get ! refl) (no_more !)))) refl typed $ sets ! (agg ! (and_then ! (lit ! tt) (and_then ! (get ! refl) (no_more !)))) refl good $
    loose_in Block heap.the_row L ghosts ! b o h a bytes $ use1 𝓛 (‵ (Out.own_val (Some made) (out ∷ []))) (Some-of 𝓛 Boxed made boxed) $
    use0 𝓛 (raw (fact 𝓤 (d.held ≡ Some bytes))) (fact_i 𝓤 (d.held ≡ Some bytes) (emp 𝓤) full) $ nothing ! $ nothing ! $ fjoin ! $ nothing ! $ fjoin ! $
    returns ! (look_at ! 0 refl) $ free_all ! refl $ keep ! (4 ∷ 0 ∷ 2 ∷ 1 ∷ []) $ by ! (leaves 𝓛 f.ended hs c y out (Some made) (tt, (tt, tt)) (tt, (tt, tt))))))))

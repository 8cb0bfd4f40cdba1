-- `of` keeps the address. What the box owned lies behind it, and an address that may be freed may be compared with null.
use Rattle.std.proofs.Common.{◌≡◌, List, [], ◌∷◌, ◌++◌, Some, refl, sym, subst}
use mir.Val.{Val}
use base.Logic.{SProp, ent, emp, id⊢}
use prog.Wp.{WpFn}
use types.Kit.{‵, raw, ◌⊛◌, ◌$◌, ◌∵◌, !, qed, by, move, keep, split, fsplit, fjoin, suffices, use0}
use types.Run.{stop, fld, of_opd, no_more, and_then, returns, enter}
use types.ByLocal.{alloc_all, pass_all, free_all, look_at, get, get_in, sets}
use types.Part.{agg, sub, whole}
use contract.Monad.{fact, fact_i}
use contract.Running.{tables}
use denote.RattleType.{owns}
use denote.RawPtr.{block_ptr}
use denote.Signature.{types_at, plain}
use denote.Steps.{nothing}
use denote.Triple.Entry.{alive}
use denote.Triple.Walked.{Stays, stay_dropped, walk_of}
use Rattle.core.proofs.alloc.Calls.{Goes-blank}
use Rattle.std.specs.contracts.alloc.Global as heap
use Rattle.std.proofs.alloc.Global.TheLaws as heap_laws
use Rattle.std.specs.contracts.impls.GlobalAllocator.TheImpl.{ghosts}
use Rattle.std_alloc.proofs.RcSteps.{word}
use Rattle.std.proofs.raw_atomic.Walks.{proved_at, leaves}
use Rattle.phys_bank.specs.Ownership.{Block}
use Rattle.phys_bank.proofs.Values.{Slot, Loose, held_by, loose_good, loose_out, page_in, tested, some_is_not_none}
use Rattle.phys_bank.specs.contracts.page.Page.of as f
use Rattle.phys_bank.proofs.page.Page.of.Statement.{statement}
use Rattle.phys_bank.proofs.page.Page.of.Code as code

pub of_spec : {M : Type 1} → statement M
of_spec 𝓤 𝓛 𝓜 𝓡 wired =
    let 𝓣 = tables 𝓤 𝓛.H 𝓜 𝓡 𝓡.env in let c = f.clauses 𝓛 𝓜.mem 𝓡.returns in let L = heap_laws.the_row_laws in
    let slot = plain (λ _. Loose Block heap.the_row L ghosts) in
    let hs : Stays f.ended.signature.params f.ended.kept = (stay_dropped slot f.ended.kept.0, tt) in
    proved_at 𝓛 f.ended hs c 𝓜 𝓡 (Goes-blank 𝓛 0 slot f.ended.kept.0 (λ κs x w. tt), tt) f.Key.name code.function (code.unfolded 𝓤 𝓛.H 𝓜 𝓡 wired) (λ y are.
    let Post : Val → SProp 𝓤 = (walk_of 𝓛 f.ended hs c).post y in let Run : List Val → SProp 𝓤 = λ vs. WpFn 𝓤 𝓛.H 𝓣.C 𝓣.Λ code.function vs Post in let d = y.0.3.0 in
    qed 𝓛 ((raw (alive 𝓛 f.ended.signature y.0.0 y.0.1) ⊛ ‵ (owns (types_at f.ended.signature.params y.0.0) y.0.3 y.0.4)) ∷ raw ((c y.0.0 y.0.3).requires y.1) ∷ []) ∵
    split ! $ move ! (1 ∷ []) $ fsplit ! $ loose_out Block heap.the_row L ghosts ! d y.0.4.0 (λ b o handle at vals fits. tested ! d.alloc (block_ptr b o) d.value (λ low.
    -- [the box's memory; the handle; the other parameters; the tokens; the `requires`]
    suffices ! (Run (held_by b o handle ∷ [])) (subst (λ (us : List Val). ent 𝓤 (Run (held_by b o handle ∷ [])) (Run us)) (sym (λ i. vals i ++ [])) (id⊢ 𝓤 (Run (held_by b o handle ∷ [])))) $
    enter ! 𝓣.C 𝓣.Λ code.function (held_by b o handle ∷ []) Post $ alloc_all ! (λ l. pass_all ! refl (loose_good Block heap.the_row L ghosts b o handle fits, tt) $
    sets ! (of_opd ! (get_in ! (fld ! refl (stop !)) (sub ! 0 refl (whole !)))) refl (tt, tt) $ sets ! (agg ! (and_then ! (get ! refl) (no_more !))) refl (tt, (tt, tt)) $
    let made : Slot.Denot = record { at = block_ptr b o; held = Some d.value; null = λ e. some_is_not_none d.value e; low = low } in
    page_in ! made $ use0 𝓛 (raw (fact 𝓤 (made.held ≡ Some d.value))) (fact_i 𝓤 (made.held ≡ Some d.value) (emp 𝓤) refl) $ nothing ! $ nothing ! $ fjoin ! $
    returns ! (look_at ! 0 refl) $ free_all ! refl $ keep ! (5 ∷ 0 ∷ 2 ∷ 1 ∷ []) $
    by ! (leaves 𝓛 f.ended hs c y (word (block_ptr b o)) made (tt, tt) (tt, tt))))))

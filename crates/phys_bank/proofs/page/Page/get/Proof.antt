-- `get` reads the address, compares it with null, and hands out a `&` to the page behind it.
use Rattle.std.proofs.Common.{◌≡◌, List, [], ◌∷◌, Some, None, refl, sym, ap, subst, ◌∙◌, lit<}
use mir.Syntax.{named}
use mir.Val.{Val, vptr, vcons, vnil}
use base.Logic.{SProp, emp}
use base.Fml.{Lft, Share, ftrue, fhide, flft}
use types.Logic.{Logic}
use types.Kit.{‵, raw, ◌⊛◌, at_ret, ◌$◌, ◌∵◌, !, qed, by, move, keep, drop, split, join, fsplit, fjoin, rewrite, use0, use1, feq_i}
use types.Run.{stop, fld, hop, lit, addr, load, of_opd, bin, no_more, and_then, first, blocks, branches, skips, exec, returns, returns_within, enter}
use types.ByLocal.{alloc_all, pass_all, free_all, look_at, get, through, sets, sets_last, env}
use types.Part.{agg, sub, whole, look_in}
use types.Match.{live}
use contract.Monad.{fact, fact_i}
use contract.Running.{tables}
use denote.Builtin.{RefOf}
use denote.Copied.{Copied, plain_Copied, Struct-Copied}
use denote.Laws.{Is, shows}
use denote.Memory.{cell_at, hidden_shr}
use denote.Opens.{hide, unhide}
use denote.Param.{layout}
use denote.RattleType.{RattleType, owns}
use denote.RawPtr.{Ptr, block_ptr, null_ptr, tests_null, Testable, coded_ptr, ptr_own, rawptr_pure, ptr_val, RawPtr}
use denote.Ref.{ShrRef, shr_vals, shr_Tells}
use denote.Signature.{Slot as Param, type_at, plain}
use denote.Steps.{looks, shuts, peeks, nothing}
use denote.Struct.Field.{RawPtr-field}
use denote.Struct.Laws.{RawPtr-laws, spells, tellss}
use denote.Struct.Lending.{lent_out}
use denote.Struct.Owning.{shape}
use denote.Struct.Struct.{Struct, Struct-Tells}
use denote.Triple.Walked.{Stays, stay_dropped, walk_of, Goes-dropped}
use Rattle.core.proofs.atomic.Steps.{Ptr-Good}
use Rattle.core.proofs.cell.Inside.{Good}
use Rattle.core.proofs.option.Made.{Some-of, none_of}
use Rattle.std_alloc.proofs.RcSteps.{word}
use Rattle.std.proofs.raw_atomic.Walks.{proved, leaves}
use Rattle.phys_bank.specs.Ownership.{Block, page_lent}
use Rattle.phys_bank.specs.contracts.page.Page as C
use Rattle.phys_bank.proofs.Values.{Slot, by_lent}
use Rattle.phys_bank.specs.contracts.page.Page.get as f
use Rattle.phys_bank.proofs.page.Page.get.Statement.{statement}
use Rattle.phys_bank.proofs.page.Page.get.Code as code

abbrev Word : RattleType
Word = Struct (shape C.the_type)

word_copied : {M : Type 1} {𝓤 : seplogic.Ra.Ura.Ura M} (𝓛 : Logic 𝓤) → Copied 𝓛 Word
word_copied 𝓛 = Struct-Copied 𝓛 (shape C.the_type) (refl, tt) (plain_Copied 𝓛 Ptr coded_ptr RawPtr.mir ptr_own rawptr_pure ptr_val RawPtr-laws.tells, tt)

-- its machine value is the pointer's
spelled : (at : Ptr) (vs : List Val) → Is Word (at, tt) vs → vs ≡ word at ∷ []
spelled at vs = Struct-Tells (shape C.the_type) (spells (RawPtr-field ∷ []) (RawPtr-laws, tt)) (tellss (RawPtr-field ∷ []) (RawPtr-laws, tt)) (at, tt) vs

abbrev slot : Param 1
slot = RefOf (0 ∷ []) tt (plain (λ _. Slot)) (λ _. tt)

abbrev stayed : Stays f.ended.signature.params f.ended.kept
stayed = (stay_dropped slot f.ended.kept.0, tt)

pub get_spec : {M : Type 1} → statement M
get_spec 𝓤 𝓛 𝓜 𝓡 wired =
    let 𝓣 = tables 𝓤 𝓛.H 𝓜 𝓡 𝓡.env in let c = f.clauses 𝓛 𝓜.mem 𝓡.returns in
    proved 𝓛 f.ended stayed c 𝓜 𝓡 (Goes-dropped 𝓛 1 slot f.ended.kept.0 (λ κs x w. refl), tt) f.Key.name code.function (code.unfolded 𝓤 𝓛.H 𝓜 𝓡 wired)
    (λ κs. (shr_vals, tt)) (λ κs. (shr_Tells (named 0) κs.0 Slot, tt)) (λ κs qs bounds a g are.
    let κ : Lft = κs.0 in let q : Share = qs.0 in let b = a.0.ref_ptr.0 in let o = a.0.ref_ptr.1 in let d = a.0.now in
    let y : (walk_of 𝓛 f.ended stayed c).Ghost = ((κs, qs, bounds, a, (shr_vals a.0, tt)), g) in let Post : Val → SProp 𝓤 = (walk_of 𝓛 f.ended stayed c).post y in
    let Out : RattleType = type_at f.ended.signature.result κs in let Ref : RattleType = ShrRef (named 0) κ Block in
    qed 𝓛 (((‵ (flft κ q) ⊛ ‵ ftrue) ⊛ ‵ (owns (ShrRef (named 0) κ Slot ∷ []) a (shr_vals a.0, tt))) ∷ ‵ ftrue ∷ []) ∵ split ! $ split ! $ move ! (2 ∷ []) $ fsplit ! $ fsplit ! $ drop ! $ keep ! (0 ∷ 2 ∷ []) $
    use1 𝓛 (‵ (hidden_shr Word κ (d.at, tt) b o) ⊛ ‵ (fhide (page_lent d.at d.held κ))) (lent_out 𝓛 C.struct C.the_codes C.the_heap C.the_lent κ d b o) $ split ! $ move ! (1 ∷ []) $ unhide ! $
    by_lent ! κ d
    -- [the address in memory; the token]
    (λ empty at. enter ! 𝓣.C 𝓣.Λ code.function (vptr b o ∷ []) Post $ alloc_all ! (λ l. pass_all ! refl ((tt, tt), tt) $
    looks ! tt Word (word_copied 𝓛).opens (d.at, tt) b o (λ q' vs. move ! (1 ∷ []) $ peeks ! Word (Is Word) (shows 𝓛 Word) (d.at, tt) vs (λ is.
    let told : vs ≡ word null_ptr ∷ [] = spelled d.at vs is ∙ ap (λ p. word p ∷ []) at in
    rewrite ! 1 (λ (us : List Val). ‵ (cell_at q' Word.mir us b o)) told refl $
    -- [what the word owns; its cell; what shuts it; the word]
    sets ! (of_opd ! (load ! (through ! refl (fld ! refl (stop !))) (look_in ! 1 (sub ! 0 refl (whole !))))) refl (Ptr-Good null_ptr) $
    rewrite ! 1 (λ (us : List Val). ‵ (cell_at q' Word.mir us b o)) (sym told) refl $ move ! (1 ∷ 0 ∷ []) $ shuts ! tt Word q' (d.at, tt) vs b o $
    sets ! (bin ! (get ! refl) (lit ! tt) tt) refl (tt, tt) $ first ! $ branches ! (get ! refl)
    (λ _. sets ! (agg ! (and_then ! (lit ! tt) (no_more !))) refl (tt, (record { fits = lit< tt }, tt)) $
    use0 𝓛 (‵ (Out.own_val None (live 0 vnil ∷ []))) (none_of 𝓛 Ref) $ use0 𝓛 (raw (fact 𝓤 (d.held ≡ None))) (fact_i 𝓤 (d.held ≡ None) (emp 𝓤) empty) $ nothing ! $ nothing ! $ fjoin ! $
    nothing ! $ move ! (4 ∷ 0 ∷ []) $ join ! $
    returns_within ! Post refl (look_at ! 0 refl) $ free_all ! refl $ keep ! (0 ∷ 1 ∷ 3 ∷ 2 ∷ []) $ by ! (leaves 𝓛 f.ended stayed c y (live 0 vnil) None (tt, tt) (tt, tt)))
    (λ wrong. absurd wrong)))))
    -- [the page; the address in memory; the token]
    (λ pb po bytes full at. let p : Ptr = block_ptr pb po in let x : Ref.Denot = record { ref_ptr = (pb, po); now = bytes } in
    let out : Val = live 1 (vcons (vptr pb po) vnil) in let good : Good (layout Out) out = (tt, (record { fits = lit< tt }, (tt, tt))) in
    hide ! $ move ! (1 ∷ 2 ∷ []) $ enter ! 𝓣.C 𝓣.Λ code.function (vptr b o ∷ []) Post $ alloc_all ! (λ l. pass_all ! refl ((tt, tt), tt) $
    looks ! tt Word (word_copied 𝓛).opens (d.at, tt) b o (λ q' vs. move ! (1 ∷ []) $ peeks ! Word (Is Word) (shows 𝓛 Word) (d.at, tt) vs (λ is.
    let told : vs ≡ word p ∷ [] = spelled d.at vs is ∙ ap (λ r. word r ∷ []) at in
    rewrite ! 1 (λ (us : List Val). ‵ (cell_at q' Word.mir us b o)) told refl $
    sets ! (of_opd ! (load ! (through ! refl (fld ! refl (stop !))) (look_in ! 1 (sub ! 0 refl (whole !))))) refl (tt, tt) $
    sets ! (bin ! (get ! refl) (lit ! tt) (tests_null p (subst Testable at d.low))) refl (tt, tt) $ first ! $ branches ! (get ! refl) (λ wrong. absurd wrong)
    (λ _. skips ! $ exec ! 𝓣.C 𝓣.Λ (env code.Mir.locals l) code.Mir.t-4 (at_ret (env code.Mir.locals l) Post) $ first ! $ blocks ! $
    sets ! (addr ! (through ! refl (fld ! refl (hop ! (look_in ! 1 (sub ! 0 refl (whole !))) (stop !))))) refl (tt, tt) $
    sets_last ! (agg ! (and_then ! (lit ! tt) (and_then ! (get ! refl) (no_more !)))) refl good $
    exec ! 𝓣.C 𝓣.Λ (env code.Mir.locals l) code.Mir.t-5 (at_ret (env code.Mir.locals l) Post) $ sets ! (of_opd ! (get ! refl)) refl good $
    rewrite ! 1 (λ (us : List Val). ‵ (cell_at q' Word.mir us b o)) (sym told) refl $ move ! (1 ∷ 0 ∷ []) $ shuts ! tt Word q' (d.at, tt) vs b o $
    -- [the token; the address; the page]
    move ! (2 ∷ []) $ feq_i ! (List Val) (vptr pb po ∷ []) (vptr pb po ∷ []) refl $ fjoin ! $ use1 𝓛 (‵ (Out.own_val (Some x) (out ∷ []))) (Some-of 𝓛 Ref x (vptr pb po)) $
    use0 𝓛 (raw (fact 𝓤 (d.held ≡ Some bytes))) (fact_i 𝓤 (d.held ≡ Some bytes) (emp 𝓤) full) $ nothing ! $ nothing ! $ fjoin ! $ nothing ! $ move ! (4 ∷ 0 ∷ []) $ join ! $
    returns ! (look_at ! 0 refl) $ free_all ! refl $ keep ! (0 ∷ 1 ∷ 3 ∷ 2 ∷ []) $ by ! (leaves 𝓛 f.ended stayed c y out (Some x) (tt, tt) (tt, tt))))))))

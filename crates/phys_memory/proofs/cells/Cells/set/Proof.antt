-- `set` gives one byte its value, whatever lay there.
use mathlib.Core.Path.{◌≡◌, refl, sym, subst, ◌∙◌}
use Prim.Native.Nat.{ℕ, ◌+◌, ◌<◌, ◌^◌}
use mathlib.Core.List.{List, [], ◌∷◌, ◌++◌}
use lib.ListN.{length, set, get_or, length-set}
use seplogic.Ra.Ura.{Ura}
use base.Fraction.{full_share}
use mir.Syntax.{named, w8, w64, ty_int}
use mir.Val.{Val, vptr, vint, vunit}
use base.Logic.{SProp, ent, never, id⊢}
use base.Fml.{Lft, GName, Share, ftrue, fat, flft, fobs, fbor, froom}
use prog.Memory.{Memory}
use prog.Routine.{Routine}
use prog.Wp.{Env, Calls, Loops, WpFn, Tables}
use types.Logic.{Logic}
use contract.Monad.{Fun}
use contract.Running.{tables, tables_of}
use sound.WpLaws.{WpFn-mono}
use types.Kit.{Item, ⋆, ‵, ◌⊛◌, at_ret, ◌$◌, ◌∵◌, !, qed, by, move, keep, use1, use2, split, join, rewrite, fsplit, fsplit3, fjoin, fjoin3, feq_i, feq_l, flt_l, flt_i, suffices, frame, done}
use types.Part.{whole, sub}
use types.Run.{init, stop, fld, unit_lit, of_opd, bin, assigns_last, first, blocks, exec, returns, enter}
use types.ByLocal.{alloc_all, pass_all, free_all, look_at, get, get_in, through, take_at, give_at, sets, env}
use types.SemTy.{Body as Borrowed}
use denote.RattleType.{owns}
use denote.Memory.{mem}
use denote.Param.{layout}
use denote.Plain.{uint_in}
use denote.RawPtr.{Ptr, in_a_block}
use denote.Ref.{MutBor, MutRef}
use denote.Builtin.{u8, unit, usize}
use denote.Signature.{plain}
use denote.Steps.{nothing, opens, closes}
use denote.Triple.Clauses.{Clauses, closing}
use denote.Triple.Entry.{on_entry}
use denote.Triple.Spec.{Meets, triple_of}
use denote.Triple.Table.{entered}
use denote.Triple.Walked.{Stays, stay_dropped, stay_ref, walk_of, ends_at, Goes-dropped, Goes-ref, walk_Meets}
use Rattle.std_alloc.proofs.VecSteps.Shapes.{after}
use Rattle.std_alloc.proofs.RcSteps.{word, word-Good}
use Rattle.std.specs.Prelude.{Some, None}
use Rattle.phys_memory.specs.Ownership.{cell, cells, cells_own}
use Rattle.phys_memory.proofs.Memory.{Row, Handle, word_had, Besides, cell_out, cell_in, cell-room, needs_both, says_both}
use Rattle.phys_memory.specs.contracts.cells.Cells.set as f
use Rattle.phys_memory.proofs.cells.Cells.set.Statement.{statement}
use Rattle.phys_memory.proofs.cells.Cells.set.Code as code

abbrev stayed : Stays f.ended.signature.params f.ended.kept
stayed = (stay_ref (0 ∷ []) tt (plain (λ _. Row)), (stay_dropped (plain (λ _. Handle)) f.ended.kept.1.0, (stay_dropped (plain (λ _. usize)) f.ended.kept.1.1.0, (stay_dropped (plain (λ _. u8)) f.ended.kept.1.1.1.0, tt))))

module _ {M : Type 1} {𝓤 : Ura M} (𝓛 : Logic 𝓤) (at_mem : Memory → SProp 𝓤) (run : Routine → Fun 𝓤) where
  abbrev clauses : Clauses 𝓤 f.ended
  clauses = f.clauses 𝓛 at_mem run

  module _ (C : Calls 𝓤 𝓛.H) (Λ : Loops 𝓤 𝓛.H) (κ : Lft) (q : Share) (rb ro : ℕ) (γ : GName) (d : Row.Denot) (base : Handle.Denot) (index value : ℕ) (us0 us1 us2 us3 : List Val) where
    open 𝓛 use {H, A}

    abbrev self : MutBor Row.Denot
    self = record { ref_ptr = (rb, ro); ghost_name = γ; now = d }

    abbrev bound : (walk_of 𝓛 f.ended stayed clauses).Ghost
    bound = (((κ, tt), (q, tt), tt, (self, (base, (index, (value, tt)))), (us0, (us1, (us2, (us3, tt))))), tt)

    abbrev Post : Val → SProp 𝓤
    Post = (walk_of 𝓛 f.ended stayed clauses).post bound

    abbrev new : Row.Denot
    new = record d { slots = set d.slots index (Some value) }

    abbrev Borrow : Item 𝓤
    Borrow = ‵ (fbor κ (Borrowed (mem Row) rb ro γ))

    exits : us0 ≡ vptr rb ro ∷ [] → ent 𝓤 (⋆ 𝓛 (‵ (fobs γ (Row.coded.code new)) ∷ Borrow ∷ ‵ (flft κ q) ∷ ‵ (unit.own_val tt (vunit ∷ [])) ∷ [])) (Post vunit)
    exits passed =
        qed 𝓛 (‵ (fobs γ (Row.coded.code new)) ∷ Borrow ∷ ‵ (flft κ q) ∷ ‵ (unit.own_val tt (vunit ∷ [])) ∷ []) ∵
        suffices ! _ (ends_at 𝓛 f.ended stayed clauses bound vunit tt (new, (tt, (tt, (tt, tt)))) (tt, (tt, (tt, (tt, tt))))) $ says_both ! refl refl $
        nothing ! $ move ! (3 ∷ 0 ∷ []) $ join ! $ frame ! $ feq_i ! (List Val) us0 (vptr rb ro ∷ []) passed $ fjoin3 ! $ nothing ! $ nothing ! $ fjoin ! $ nothing ! $ fjoin ! $ nothing ! $ fjoin ! $ move ! (1 ∷ 0 ∷ []) $ fjoin ! $ done !

    abbrev Had : List (Item 𝓤)
    Had = ‵ (fobs γ (Row.coded.code d)) ∷ Borrow ∷ ‵ (flft κ q) ∷ []

    walk : us0 ≡ vptr rb ro ∷ [] → base.ptr ≡ d.at → index < length d.slots → index < 2 ^ 64 → value < 2 ^ 8 → ent 𝓤 (⋆ 𝓛 Had) (WpFn 𝓤 H C Λ code.function (vptr rb ro ∷ word base.ptr ∷ vint w64 index ∷ vint w8 value ∷ []) Post)
    walk passed place within fits_index fits =
        qed 𝓛 Had ∵ enter ! C Λ code.function (vptr rb ro ∷ word base.ptr ∷ vint w64 index ∷ vint w8 value ∷ []) _ $
        alloc_all ! (λ l. pass_all ! refl ((tt, tt), (word-Good [] base.ptr, ((tt, record { fits = fits_index }), ((tt, record { fits = fits }), tt)))) $
        let En : Env 𝓤 H = env (code.function).locals l in
        opens ! tt Row {h = d} rb ro (λ vs. move ! (1 ∷ []) $ fsplit ! $ move ! (1 ∷ []) $
        in_a_block ! d.at (λ p. cells_own p d.slots) (id⊢ 𝓤 (never 𝓤)) (λ b o e. fsplit ! $ flt_l ! (λ small.
        take_at ! 2 $ rewrite ! 0 (λ (p : Ptr). ‵ (fat full_share (layout Handle) (l 2) 0 (word p))) (place ∙ e) refl $ give_at ! 2 $ first ! $ blocks ! $
        sets ! (bin ! (get_in ! (fld ! refl (stop !)) (sub ! 0 refl (whole !))) (get ! refl) tt) refl (tt, tt) $
        use1 𝓛 (‵ (cell b (index + o) (get_or d.slots index None)) ⊛ ‵ (Besides 𝓛 b o d.slots index)) (cell_out 𝓛 b o d.slots index within) $ split ! $
        use1 𝓛 (‵ (froom (ty_int w8) b (index + o))) (cell-room 𝓛 b (index + o) (get_or d.slots index None)) $
        -- [the room; the other bytes; the mark; its cell; the open borrow; obs; auth]
        assigns_last ! (of_opd ! (get ! refl)) (through ! refl (stop !)) (init ! 0 refl (tt, record { fits = fits })) $
        exec ! C Λ En (after 1 (code.function).body) (at_ret En Post) $ sets ! (of_opd ! (unit_lit !)) refl (tt, tt) $
        use1 𝓛 (‵ (cell b (index + o) (Some value))) (uint_in 𝓛 full_share w8 value b (index + o)) $
        use2 𝓛 (‵ (cells b o (set d.slots index (Some value)))) (cell_in 𝓛 b o d.slots index within (Some value)) $
        flt_i ! (length (set d.slots index (Some value))) (2 ^ 63) (subst (λ k. k < 2 ^ 63) (sym (length-set d.slots index (Some value))) small) $ fjoin ! $
        rewrite ! 0 (λ (p : Ptr). ‵ (cells_own p (set d.slots index (Some value)))) (sym e) refl $ move ! (1 ∷ 0 ∷ []) $ fjoin ! $ move ! (1 ∷ 0 ∷ []) $ closes ! tt Row new vs rb ro $
        returns ! (look_at ! 0 refl) $ free_all ! refl $ keep ! (0 ∷ 1 ∷ 2 ∷ []) $ feq_i ! (List Val) (vunit ∷ []) (vunit ∷ []) refl $ move ! (1 ∷ 2 ∷ 3 ∷ 0 ∷ []) $ by ! (exits passed)))))

    entry : base.ptr ≡ d.at → index < length d.slots → ent 𝓤 (on_entry 𝓛 f.signature (κ, tt) (q, tt) (self, (base, (index, (value, tt)))) (us0, (us1, (us2, (us3, tt))))) (WpFn 𝓤 H C Λ code.function (us0 ++ (us1 ++ (us2 ++ (us3 ++ [])))) Post)
    entry place within =
        qed 𝓛 ((‵ (flft κ q) ⊛ ‵ ftrue) ∷ ‵ (owns (MutRef (named 0) κ Row ∷ Handle ∷ usize ∷ u8 ∷ []) (self, (base, (index, (value, tt)))) (us0, (us1, (us2, (us3, tt))))) ∷ []) ∵
        split ! $ move ! (2 ∷ []) $ fsplit ! $ fsplit3 ! $ feq_l ! (λ e0. move ! (2 ∷ []) $ fsplit ! $ word_had ! base.ptr us1 (λ e1.
        fsplit ! $ fsplit ! $ feq_l ! (λ e2. flt_l ! (λ fits_index. fsplit ! $ fsplit ! $ feq_l ! (λ e3. flt_l ! (λ fits. keep ! (1 ∷ 2 ∷ 3 ∷ []) $
        by ! (subst (λ (ws : List Val × List Val × List Val × List Val). ent 𝓤 (⋆ 𝓛 Had) (WpFn 𝓤 H C Λ code.function (ws.0 ++ (ws.1 ++ (ws.2 ++ (ws.3 ++ [])))) Post))
        (λ j. (sym e0 j, sym e1 j, sym e2 j, sym e3 j)) (walk e0 place within fits_index fits))))))))

  meets : (𝓣 : Tables 𝓤 𝓛.H) → Meets 𝓛 f.signature (WpFn 𝓤 𝓛.H 𝓣.C 𝓣.Λ code.function) (closing 𝓛 f.ended clauses)
  meets 𝓣 =
      walk_Meets 𝓛 f.ended stayed (
        Goes-ref 𝓛 1 0 tt (plain (λ _. Row)),
        (
          Goes-dropped 𝓛 1 (plain (λ _. Handle)) f.ended.kept.1.0 (λ κs x w. refl),
          (
            Goes-dropped 𝓛 1 (plain (λ _. usize)) f.ended.kept.1.1.0 (λ κs x w. refl),
            (Goes-dropped 𝓛 1 (plain (λ _. u8)) f.ended.kept.1.1.1.0 (λ κs x w. refl), tt),
          ),
        ),
      ) clauses (WpFn 𝓤 𝓛.H 𝓣.C 𝓣.Λ code.function) (WpFn-mono 𝓤 𝓛.H 𝓛.laws 𝓣 code.function)
      (λ z. let a = z.0.3 in let vss = z.0.4 in needs_both 𝓤 (a.1.0.ptr ≡ a.0.now.at) (a.1.1.0 < length a.0.now.slots) _
      (entry 𝓣.C 𝓣.Λ z.0.0.0 z.0.1.0 a.0.ref_ptr.0 a.0.ref_ptr.1 a.0.ghost_name a.0.now a.1.0 a.1.1.0 a.1.1.1.0 vss.0 vss.1.0 vss.1.1.0 vss.1.1.1.0))

pub set_spec : {M : Type 1} → statement M
unfolding tables_of
set_spec 𝓤 𝓛 𝓜 𝓡 wired =
    let 𝓣 : Tables 𝓤 𝓛.H = tables_of 𝓤 𝓛.H 𝓜 (tables 𝓤 𝓛.H 𝓜 𝓡 𝓡.env) in
    entered 𝓤 𝓛.H (triple_of 𝓛 f.signature (f.spec 𝓛 𝓜.mem 𝓡.returns)) 𝓣.C 𝓣.Λ f.Key.name code.function (code.unfolded 𝓤 𝓛.H 𝓜 𝓡 wired) (meets 𝓛 𝓜.mem 𝓡.returns 𝓣)

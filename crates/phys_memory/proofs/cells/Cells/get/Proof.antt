-- `get` shows one byte that the row lends.
use mathlib.Core.Path.{◌≡◌, refl, sym, subst, ◌∙◌}
use Prim.Native.Nat.{ℕ, ◌+◌, ◌<◌, ◌^◌}
use mathlib.Core.List.{List, [], ◌∷◌, ◌++◌}
use lib.ListN.{get_or}
use seplogic.Ra.Ura.{Ura}
use base.Fraction.{full_share}
use mir.Syntax.{named, w64}
use mir.Val.{Val, vptr, vint}
use base.Logic.{SProp, ent, never, id⊢}
use base.Fml.{Lft, Share, ftrue, fat, flft}
use prog.Memory.{Memory}
use prog.Routine.{Routine}
use prog.Wp.{Env, Calls, Loops, WpFn, Tables}
use types.Logic.{Logic}
use contract.Monad.{Fun}
use contract.Running.{tables, tables_of}
use sound.WpLaws.{WpFn-mono}
use types.Kit.{Item, ⋆, ‵, ◌⊛◌, at_ret, ◌$◌, ◌∵◌, !, qed, by, move, keep, drop, use1, split, join, rewrite, fsplit, fjoin, feq_i, feq_l, flt_l, suffices, frame, done}
use types.Part.{whole, sub}
use types.Run.{stop, fld, of_opd, addr, bin, first, blocks, exec, returns, enter}
use types.ByLocal.{alloc_all, pass_all, free_all, look_at, get, get_in, through, take_at, give_at, sets, sets_last, env}
use denote.Builtin.{u8, usize}
use denote.RattleType.{owns}
use denote.Memory.{hidden_shr}
use denote.Param.{layout}
use denote.RawPtr.{Ptr, in_a_block}
use denote.Ref.{Bor, ShrRef}
use denote.Builtin.{RefOf}
use denote.Signature.{plain}
use denote.Opens.{hide, unhide}
use denote.Steps.{nothing}
use denote.Triple.Clauses.{Clauses, closing}
use denote.Triple.Entry.{on_entry}
use denote.Triple.Spec.{Meets, triple_of}
use denote.Triple.Table.{entered}
use denote.Triple.Walked.{says, Stays, stay_dropped, walk_of, ends_at, Goes-dropped, walk_Meets}
use Rattle.std_alloc.proofs.VecSteps.Shapes.{after}
use Rattle.std_alloc.proofs.RcSteps.{word, word-Good}
use Rattle.std.proofs.lemmas.Option.{slice_get_within, get_or_from_slice_get}
use Rattle.std.specs.Prelude.{Option, Some, None, slice_get}
use Rattle.phys_memory.specs.Ownership.{cell_lent, cells_lent}
use Rattle.phys_memory.proofs.Memory.{Row, Handle, word_had, cell_seen, needs_both}
use Rattle.phys_memory.specs.contracts.cells.Cells.get as f
use Rattle.phys_memory.proofs.cells.Cells.get.Statement.{statement}
use Rattle.phys_memory.proofs.cells.Cells.get.Code as code

abbrev stayed : Stays f.ended.signature.params f.ended.kept
stayed = (stay_dropped (RefOf (0 ∷ []) tt (plain (λ _. Row)) (λ _. tt)) f.ended.kept.0, (stay_dropped (plain (λ _. Handle)) f.ended.kept.1.0, (stay_dropped (plain (λ _. usize)) f.ended.kept.1.1.0, tt)))

module _ {M : Type 1} {𝓤 : Ura M} (𝓛 : Logic 𝓤) (at_mem : Memory → SProp 𝓤) (run : Routine → Fun 𝓤) where
  abbrev clauses : Clauses 𝓤 f.ended
  clauses = f.clauses 𝓛 at_mem run

  module _ (C : Calls 𝓤 𝓛.H) (Λ : Loops 𝓤 𝓛.H) (κ : Lft) (q : Share) (rb ro : ℕ) (d : Row.Denot) (base : Handle.Denot) (index : ℕ) (us0 us1 us2 : List Val) where
    open 𝓛 use {H, A}

    abbrev self : Bor Row.Denot
    self = record { ref_ptr = (rb, ro); now = d }

    abbrev bound : (walk_of 𝓛 f.ended stayed clauses).Ghost
    bound = (((κ, tt), (q, tt), tt, (self, (base, (index, tt))), (us0, (us1, (us2, tt)))), tt)

    abbrev Post : Val → SProp 𝓤
    Post = (walk_of 𝓛 f.ended stayed clauses).post bound

    exits : (r : Bor ℕ) (v : Val) → slice_get d.slots index ≡ Some (Some r.now) → ent 𝓤 (⋆ 𝓛 (‵ (flft κ q) ∷ ‵ ((ShrRef (named 0) κ u8).own_val r (v ∷ [])) ∷ [])) (Post v)
    exits r v is =
        qed 𝓛 (‵ (flft κ q) ∷ ‵ ((ShrRef (named 0) κ u8).own_val r (v ∷ [])) ∷ []) ∵
        suffices ! _ (ends_at 𝓛 f.ended stayed clauses bound v r (tt, (tt, (tt, tt))) (tt, (tt, (tt, tt)))) $ says ! is $
        nothing ! $ move ! (1 ∷ 0 ∷ []) $ join ! $ frame ! $ nothing ! $ nothing ! $ fjoin ! $ nothing ! $ fjoin ! $ nothing ! $ fjoin ! $ done !

    abbrev Had : List (Item 𝓤)
    Had = ‵ (hidden_shr Row κ d rb ro) ∷ ‵ (flft κ q) ∷ []

    walk : base.ptr ≡ d.at → (x : ℕ) → slice_get d.slots index ≡ Some (Some x) → index < 2 ^ 64 → ent 𝓤 (⋆ 𝓛 Had) (WpFn 𝓤 H C Λ code.function (vptr rb ro ∷ word base.ptr ∷ vint w64 index ∷ []) Post)
    walk place x there fits =
        let within = slice_get_within d.slots index (Some x) there in let is = get_or_from_slice_get d.slots index (Some x) None there in
        qed 𝓛 Had ∵ enter ! C Λ code.function (vptr rb ro ∷ word base.ptr ∷ vint w64 index ∷ []) _ $ alloc_all ! (λ l. pass_all ! refl ((tt, tt), (word-Good [] base.ptr, ((tt, record { fits = fits }), tt))) $
        let En : Env 𝓤 H = env (code.function).locals l in
        unhide ! $ fsplit ! $ drop ! $ in_a_block ! d.at (λ p. cells_lent p d.slots κ) (id⊢ 𝓤 (never 𝓤)) (λ b o e. fsplit ! $ flt_l ! (λ small.
        take_at ! 2 $ rewrite ! 0 (λ (p : Ptr). ‵ (fat full_share (layout Handle) (l 2) 0 (word p))) (place ∙ e) refl $ give_at ! 2 $ first ! $ blocks ! $
        sets ! (bin ! (get_in ! (fld ! refl (stop !)) (sub ! 0 refl (whole !))) (get ! refl) tt) refl (tt, tt) $
        use1 𝓛 (‵ (cell_lent b (index + o) (get_or d.slots index None) κ)) (cell_seen 𝓛 b κ o d.slots index within) $
        rewrite ! 0 (λ (c : Option ℕ). ‵ (cell_lent b (index + o) c κ)) is refl $ hide ! $
        sets_last ! (addr ! (through ! refl (stop !))) refl (tt, tt) $ exec ! C Λ En (after 1 (code.function).body) (at_ret En Post) $ sets ! (of_opd ! (get ! refl)) refl (tt, tt) $
        feq_i ! (List Val) (vptr b (index + o) ∷ []) (vptr b (index + o) ∷ []) refl $ fjoin ! $
        returns ! (look_at ! 0 refl) $ free_all ! refl $ keep ! (1 ∷ 0 ∷ []) $ by ! (exits (record { ref_ptr = (b, index + o); now = x }) (vptr b (index + o)) there))))

    entry : base.ptr ≡ d.at → (x : ℕ) × (slice_get d.slots index ≡ Some (Some x)) → ent 𝓤 (on_entry 𝓛 f.signature (κ, tt) (q, tt) (self, (base, (index, tt))) (us0, (us1, (us2, tt)))) (WpFn 𝓤 H C Λ code.function (us0 ++ (us1 ++ (us2 ++ []))) Post)
    entry place written =
        qed 𝓛 ((‵ (flft κ q) ⊛ ‵ ftrue) ∷ ‵ (owns (ShrRef (named 0) κ Row ∷ Handle ∷ usize ∷ []) (self, (base, (index, tt))) (us0, (us1, (us2, tt)))) ∷ []) ∵
        split ! $ move ! (2 ∷ []) $ fsplit ! $ fsplit ! $ feq_l ! (λ e0. move ! (1 ∷ []) $ fsplit ! $ word_had ! base.ptr us1 (λ e1.
        fsplit ! $ fsplit ! $ feq_l ! (λ e2. flt_l ! (λ fits. keep ! (1 ∷ 2 ∷ []) $
        by ! (subst (λ (ws : List Val × List Val × List Val). ent 𝓤 (⋆ 𝓛 Had) (WpFn 𝓤 H C Λ code.function (ws.0 ++ (ws.1 ++ (ws.2 ++ []))) Post)) (λ j. (sym e0 j, sym e1 j, sym e2 j)) (walk place written.0 written.1 fits))))))

  meets : (𝓣 : Tables 𝓤 𝓛.H) → Meets 𝓛 f.signature (WpFn 𝓤 𝓛.H 𝓣.C 𝓣.Λ code.function) (closing 𝓛 f.ended clauses)
  meets 𝓣 =
      walk_Meets 𝓛 f.ended stayed (Goes-dropped 𝓛 1 (RefOf (0 ∷ []) tt (plain (λ _. Row)) (λ _. tt)) f.ended.kept.0 (λ κs x w. refl), (Goes-dropped 𝓛 1 (plain (λ _. Handle)) f.ended.kept.1.0 (λ κs x w. refl), (Goes-dropped 𝓛 1 (plain (λ _. usize)) f.ended.kept.1.1.0 (λ κs x w. refl), tt)))
      clauses (WpFn 𝓤 𝓛.H 𝓣.C 𝓣.Λ code.function) (WpFn-mono 𝓤 𝓛.H 𝓛.laws 𝓣 code.function)
      (λ z. let a = z.0.3 in let vss = z.0.4 in needs_both 𝓤 (a.1.0.ptr ≡ a.0.now.at) ((x : ℕ) × (slice_get a.0.now.slots a.1.1.0 ≡ Some (Some x))) _
      (entry 𝓣.C 𝓣.Λ z.0.0.0 z.0.1.0 a.0.ref_ptr.0 a.0.ref_ptr.1 a.0.now a.1.0 a.1.1.0 vss.0 vss.1.0 vss.1.1.0))

pub get_spec : {M : Type 1} → statement M
unfolding tables_of
get_spec 𝓤 𝓛 𝓜 𝓡 wired =
    let 𝓣 : Tables 𝓤 𝓛.H = tables_of 𝓤 𝓛.H 𝓜 (tables 𝓤 𝓛.H 𝓜 𝓡 𝓡.env) in
    entered 𝓤 𝓛.H (triple_of 𝓛 f.signature (f.spec 𝓛 𝓜.mem 𝓡.returns)) 𝓣.C 𝓣.Λ f.Key.name code.function (code.unfolded 𝓤 𝓛.H 𝓜 𝓡 wired) (meets 𝓛 𝓜.mem 𝓡.returns 𝓣)

-- What the walks of the unsafe functions share.
--     Row, Handle, Mark      the rows of `Cells` and `Base`, and of the one field of `Cells`, which takes no bytes
--     word_had, word_made, mark_had, mark_made      a value of one pointer, and one of no bytes
--     three_val, three_of      a value of three parts.        needs_both, says_both      a `requires` and an `ensures` of two facts
--     cell_out, cell_in, cell_seen      one byte is taken out of the row, put back, or seen
--     of_room, to_room      room for an array of bytes is a row of bytes that are not written
use mathlib.Core.Path.{◌≡◌, refl, sym, ap, subst, ◌∙◌}
use Prim.Native.Nat.{ℕ, zero, suc, ◌+◌, ◌<◌, ◌≤◌}
use native.Mathlib.Omega.{arith}
use mathlib.Core.List.{List, [], ◌∷◌, ◌++◌}
use lib.ListN.{length, take, drop, set, get_or, replicate, take-append-drop, length-take}
use lib.Seq.{drop-cons, set_split}
use seplogic.Ra.Ura.{Ura}
use base.Fraction.{full_share}
use mir.Syntax.{w8, ty_int, ty_array}
use mir.Val.{Val, vint, vstruct, vcons, vnil, of_list}
use base.Logic.{SProp, ent, sep, emp, via, fst∗, snd∗, mono_r, id⊢}
use base.Fml.{Fml, Lft, ftrue, fsep, fat, froom}
use types.Logic.{Logic, sem}
use contract.Monad.{fact, fact_i, fact_use}
use types.Kit.{Item, Goal, Seq, Step, step, prop, ‵, raw, ◌⊛◌, ◌$◌, ◌∵◌, !, qed, by, move, keep, drop as skip, use0, use1, use2, split, frame, fsplit, fjoin, fpick, fpack, feq_i, feq_l, rewrite, done}
use denote.RattleType.{RattleType, Valss}
use denote.Builtin.{u8}
use denote.Memory.{part_at}
use denote.Plain.{uint_out}
use denote.RawPtr.{Ptr, RawPtr, ptr_val}
use denote.Shadow.{makes_shadow}
use denote.Steps.{nothing}
use denote.Struct.Declared as Declared
use denote.Struct.Tuple.{Tuple, tuple_type}
use denote.Triple.Walked.{needs}
use denote.Struct.Struct.{Shape, Struct, within}
use denote.Struct.Owning.{shape}
use Rattle.std.specs.Prelude.{Option, Some, None}
use Rattle.std_alloc.proofs.RcSteps.{word}
use Rattle.phys_memory.specs.Ownership.{cell, cells, cell_lent, cells_in}
use Rattle.phys_memory.specs.contracts.cells.Cells as C-type
use Rattle.phys_memory.specs.contracts.cells.Base as B-type

abbrev pub Row : RattleType
Row = C-type.the_row

abbrev pub Handle : RattleType
Handle = B-type.the_row

abbrev pub Mark : RattleType
Mark = Struct (shape C-type.the_type)

abbrev one_field : Shape
one_field = record { name = []; args = []; types = []; fields = RawPtr ∷ [] }

abbrev pub Word : RattleType
Word = Struct one_field

abbrev pub mark : Val
mark = vstruct (vcons (vstruct vnil) vnil)

pub mark_made : {M : Type 1} {𝓤 : Ura M} (𝓛 : Logic 𝓤) → ent 𝓤 (emp 𝓤) (sem 𝓛 (Mark.own_val (tt, tt) (mark ∷ [])))
mark_made 𝓛 = makes_shadow 𝓛 (Mark.own_val (tt, tt) (mark ∷ [])) (λ vss. (tt, ((λ uss. (tt, tt)), tt))) ((vstruct vnil ∷ [], tt), (refl, ((tt, (refl, tt)), tt)))

module _ {M : Type 1} {𝓤 : Ura M} {𝓛 : Logic 𝓤} {K : Type 0} {Γ : List (Item 𝓤)} {G : Goal 𝓤 𝓛.H} where
  pub word_had : K → (c : Ptr) (vs : List Val) → (vs ≡ word c ∷ [] → Seq K 𝓛 Γ G) → Seq K 𝓛 (‵ (Word.own_val (c, tt) vs) ∷ Γ) G
  word_had t c vs k = fpick t (λ vss. fsplit t $ feq_l t (λ ev. fsplit t $ feq_l t (λ e. skip t $ k (subst (λ (ws : List Val). vs ≡ vstruct (of_list (ws ++ [])) ∷ []) e ev))))

  pub word_made : K → (c : Ptr) → Step K 𝓛 (‵ (Word.own_val (c, tt) (word c ∷ [])) ∷ Γ) G Γ G
  word_made t c = step (λ s.
      nothing t $ feq_i t (List Val) (ptr_val c ∷ []) (ptr_val c ∷ []) refl $ fjoin t $ feq_i t (List Val) (word c ∷ []) (word c ∷ []) refl $ fjoin t $
      fpack t (Valss (RawPtr ∷ [])) (within one_field (c, tt) (word c ∷ [])) (ptr_val c ∷ [], tt) $ s)

  pub mark_had : K → (vs : List Val) → (vs ≡ mark ∷ [] → Seq K 𝓛 Γ G) → Seq K 𝓛 (‵ (Mark.own_val (tt, tt) vs) ∷ Γ) G
  mark_had t vs k = fpick t (λ vss. fsplit t $ feq_l t (λ ev. fsplit t $ fpick t (λ uss. fsplit t $ feq_l t (λ e. skip t $ skip t $
      k (subst (λ (ws : List Val). vs ≡ vstruct (of_list (ws ++ [])) ∷ []) e ev)))))

abbrev pub three_val : Val → Val → Val → Val
three_val u v w = vstruct (vcons u (vcons v (vcons w vnil)))

pub three_of : {M : Type 1} {𝓤 : Ura M} (𝓛 : Logic 𝓤) (R S T : RattleType) (x : R.Denot) (y : S.Denot) (z : T.Denot) (u v w : Val)
    → ent 𝓤 (sep 𝓤 (sem 𝓛 (R.own_val x (u ∷ []))) (sep 𝓤 (sem 𝓛 (S.own_val y (v ∷ []))) (sem 𝓛 (T.own_val z (w ∷ []))))) (sem 𝓛 ((Tuple (R ∷ S ∷ T ∷ [])).own_val (x, y, z) (three_val u v w ∷ [])))
three_of 𝓛 R S T x y z u v w =
    qed 𝓛 (‵ (R.own_val x (u ∷ [])) ∷ ‵ (S.own_val y (v ∷ [])) ∷ ‵ (T.own_val z (w ∷ [])) ∷ []) ∵ nothing ! $ move ! (3 ∷ 0 ∷ []) $ fjoin ! $ move ! (2 ∷ 0 ∷ []) $ fjoin ! $ move ! (1 ∷ 0 ∷ []) $ fjoin ! $
    feq_i ! (List Val) (three_val u v w ∷ []) (three_val u v w ∷ []) refl $ fjoin ! $
    fpack ! (Valss (R ∷ S ∷ T ∷ [])) (within (Declared.shape (tuple_type (R ∷ S ∷ T ∷ []))) (x, (y, (z, tt))) (three_val u v w ∷ [])) (u ∷ [], (v ∷ [], (w ∷ [], tt))) $ done !

-- a `requires` of two facts is learned
pub needs_both : {M : Type 1} (𝓤 : Ura M) (φ ψ : Type 0) (P : SProp 𝓤) {Q : SProp 𝓤} → (φ → ψ → ent 𝓤 P Q) → ent 𝓤 (sep 𝓤 P (sep 𝓤 (fact 𝓤 φ) (fact 𝓤 ψ))) Q
needs_both 𝓤 φ ψ P k =
    let S : SProp 𝓤 = sep 𝓤 (fact 𝓤 φ) (fact 𝓤 ψ) in
    fact_use 𝓤 φ (via 𝓤 S (snd∗ 𝓤 P S) (fst∗ 𝓤 (fact 𝓤 φ) (fact 𝓤 ψ))) (λ x. via 𝓤 (sep 𝓤 P (fact 𝓤 ψ)) (mono_r 𝓤 P {Q = S} {Q' = fact 𝓤 ψ} (snd∗ 𝓤 (fact 𝓤 φ) (fact 𝓤 ψ))) (needs 𝓤 ψ P (k x)))

module _ {M : Type 1} {𝓤 : Ura M} {𝓛 : Logic 𝓤} {K : Type 0} {Γ : List (Item 𝓤)} where
  -- an `ensures` of two facts is shown
  pub says_both : K → {φ ψ : Type 0} {P : SProp 𝓤} → φ → ψ → Step K 𝓛 Γ (prop P) Γ (prop (sep 𝓤 P (sep 𝓤 (fact 𝓤 φ) (fact 𝓤 ψ))))
  says_both t {φ} {ψ} {P} x y = step (λ s. record {
    prf = via 𝓤 P s.prf (qed 𝓛 (raw P ∷ []) {P = sep 𝓤 P (sep 𝓤 (fact 𝓤 φ) (fact 𝓤 ψ))} (
        frame ! $ use0 𝓛 (raw (fact 𝓤 ψ)) (fact_i 𝓤 ψ (emp 𝓤) y) $ use0 𝓛 (raw (fact 𝓤 φ)) (fact_i 𝓤 φ (emp 𝓤) x) $ done !));
  })

module _ {M : Type 1} {𝓤 : Ura M} (𝓛 : Logic 𝓤) (b : ℕ) where
  open 𝓛 use {H}

  cut : (xs ys : List (Option ℕ)) (o at : ℕ) → at ≡ length xs + o → ent 𝓤 (sem 𝓛 (cells b o (xs ++ ys))) (sep 𝓤 (sem 𝓛 (cells b o xs)) (sem 𝓛 (cells b at ys)))
  cut [] ys o at e = qed 𝓛 (‵ (cells b o ys) ∷ []) ∵ rewrite ! 0 (λ (k : ℕ). ‵ (cells b k ys)) {x = at} (omega arith) refl $ nothing ! $ done !
  cut (x ∷ xs) ys o at e = let more : at ≡ suc (length xs) + o = e in qed 𝓛 (‵ (cells b o (x ∷ xs ++ ys)) ∷ []) ∵ fsplit ! $ move ! (1 ∷ []) $
      use1 𝓛 (‵ (cells b (o + 1) xs) ⊛ ‵ (cells b at ys)) (cut xs ys (o + 1) at (omega arith)) $ split ! $ move ! (2 ∷ 0 ∷ []) $ fjoin ! $ done !

  glue : (xs ys : List (Option ℕ)) (o at : ℕ) → at ≡ length xs + o → ent 𝓤 (sep 𝓤 (sem 𝓛 (cells b o xs)) (sem 𝓛 (cells b at ys))) (sem 𝓛 (cells b o (xs ++ ys)))
  glue [] ys o at e = qed 𝓛 (‵ ftrue ∷ ‵ (cells b at ys) ∷ []) ∵ skip ! $ rewrite ! 0 (λ (k : ℕ). ‵ (cells b k ys)) {x = o} (omega arith) refl $ done !
  glue (x ∷ xs) ys o at e = let more : at ≡ suc (length xs) + o = e in qed 𝓛 (‵ (cells b o (x ∷ xs)) ∷ ‵ (cells b at ys) ∷ []) ∵ fsplit ! $ move ! (1 ∷ 2 ∷ []) $
      use2 𝓛 (‵ (cells b (o + 1) (xs ++ ys))) (glue xs ys (o + 1) at (omega arith)) $ move ! (1 ∷ 0 ∷ []) $ fjoin ! $ done !

  module _ (o : ℕ) (cs : List (Option ℕ)) (i : ℕ) where
    -- the bytes but for the i-th
    abbrev pub Besides : Fml
    Besides = fsep (cells b o (take i cs)) (cells b (i + o + 1) (drop (suc i) cs))

    before : i ≤ length cs → i + o ≡ length (take i cs) + o
    before le = omega (arith, length-take i cs)

    pub cell_out : i < length cs → ent 𝓤 (sem 𝓛 (cells b o cs)) (sep 𝓤 (sem 𝓛 (cell b (i + o) (get_or cs i None))) (sem 𝓛 Besides))
    cell_out lt = qed 𝓛 (‵ (cells b o cs) ∷ []) ∵
        rewrite ! 0 (λ (l : List (Option ℕ)). ‵ (cells b o l)) (sym (take-append-drop i cs) ∙ ap (λ l. take i cs ++ l) (drop-cons cs i None lt)) refl $
        use1 𝓛 (‵ (cells b o (take i cs)) ⊛ ‵ (cells b (i + o) (get_or cs i None ∷ drop (suc i) cs))) (cut (take i cs) (get_or cs i None ∷ drop (suc i) cs) o (i + o) (before (omega arith))) $
        split ! $ move ! (1 ∷ []) $ fsplit ! $ move ! (2 ∷ 1 ∷ []) $ fjoin ! $ move ! (1 ∷ []) $ done !

    pub cell_in : i < length cs → (c : Option ℕ) → ent 𝓤 (sep 𝓤 (sem 𝓛 (cell b (i + o) c)) (sem 𝓛 Besides)) (sem 𝓛 (cells b o (set cs i c)))
    cell_in lt c = qed 𝓛 (‵ (cell b (i + o) c) ∷ ‵ Besides ∷ []) ∵ move ! (1 ∷ []) $ fsplit ! $ move ! (2 ∷ 1 ∷ []) $ fjoin ! $ move ! (1 ∷ 0 ∷ []) $
        use2 𝓛 (‵ (cells b o (take i cs ++ c ∷ drop (suc i) cs))) (glue (take i cs) (c ∷ drop (suc i) cs) o (i + o) (before (omega arith))) $
        rewrite ! 0 (λ (l : List (Option ℕ)). ‵ (cells b o l)) (sym (set_split cs i c lt)) refl $ done !

  -- what lies in a byte may be forgotten
  pub cell-room : (o : ℕ) (c : Option ℕ) → ent 𝓤 (sem 𝓛 (cell b o c)) (H.room (ty_int w8) b o)
  cell-room o (Some x) = qed 𝓛 (‵ (part_at u8 full_share x b o) ∷ []) ∵ use1 𝓛 (‵ (fat full_share (ty_int w8) b o (vint w8 x))) (uint_out 𝓛 full_share w8 x b o) $ by ! (𝓛.laws.at_room (ty_int w8) b o (vint w8 x))
  cell-room o None = id⊢ 𝓤 (H.room (ty_int w8) b o)

  pub of_room : (n o : ℕ) → ent 𝓤 (H.room (ty_array (ty_int w8) n) b o) (sem 𝓛 (cells b o (replicate n None)))
  of_room zero o = qed 𝓛 (‵ (froom (ty_array (ty_int w8) 0) b o) ∷ []) ∵ keep ! [] $ done !
  of_room (suc n) o = qed 𝓛 (‵ (froom (ty_array (ty_int w8) (suc n)) b o) ∷ []) ∵
      use1 𝓛 (‵ (froom (ty_int w8) b o) ⊛ ‵ (froom (ty_array (ty_int w8) n) b (o + 1))) (𝓛.laws.room_uncons (ty_int w8) n b o) $ split ! $ frame ! $ by ! (of_room n (o + 1))

  pub to_room : (cs : List (Option ℕ)) (o : ℕ) → ent 𝓤 (sem 𝓛 (cells b o cs)) (H.room (ty_array (ty_int w8) (length cs)) b o)
  to_room [] o = 𝓛.laws.room_nil (ty_int w8) b o
  to_room (c ∷ cs) o = qed 𝓛 (‵ (cell b o c) ∷ ‵ (cells b (o + 1) cs) ∷ []) ∵
      use1 𝓛 (‵ (froom (ty_int w8) b o)) (cell-room o c) $ move ! (1 ∷ []) $
      use1 𝓛 (‵ (froom (ty_array (ty_int w8) (length cs)) b (o + 1))) (to_room cs (o + 1)) $ move ! (1 ∷ []) $ by ! (𝓛.laws.room_cons (ty_int w8) (length cs) b o)

  module _ (κ : Lft) where
    from_on : (cs : List (Option ℕ)) (i o at : ℕ) → i ≤ length cs → at ≡ i + o → ent 𝓤 (sem 𝓛 (cells_in b o cs κ)) (sem 𝓛 (cells_in b at (drop i cs) κ))
    from_on cs zero o at le e = let same : o ≡ at = omega arith in subst (λ k. ent 𝓤 (sem 𝓛 (cells_in b o cs κ)) (sem 𝓛 (cells_in b k cs κ))) same (id⊢ 𝓤 _)
    from_on [] (suc i) o at le e = absurd (omega arith)
    from_on (c ∷ cs) (suc i) o at le e =
        via 𝓤 (sem 𝓛 (cells_in b (o + 1) cs κ)) (snd∗ 𝓤 (sem 𝓛 (cell_lent b o c κ)) (sem 𝓛 (cells_in b (o + 1) cs κ))) (from_on cs i (o + 1) at (omega arith) (omega arith))

    pub cell_seen : (o : ℕ) (cs : List (Option ℕ)) (i : ℕ) → i < length cs → ent 𝓤 (sem 𝓛 (cells_in b o cs κ)) (sem 𝓛 (cell_lent b (i + o) (get_or cs i None) κ))
    cell_seen o cs i lt = qed 𝓛 (‵ (cells_in b o cs κ) ∷ []) ∵ use1 𝓛 (‵ (cells_in b (i + o) (drop i cs) κ)) (from_on cs i o (i + o) (omega arith) refl) $
        rewrite ! 0 (λ (l : List (Option ℕ)). ‵ (cells_in b (i + o) l κ)) (drop-cons cs i None lt) refl $ fsplit ! $ keep ! (0 ∷ []) $ done !

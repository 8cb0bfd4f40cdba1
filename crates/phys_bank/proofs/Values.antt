-- The machine values of a `Page` and of a `Loose`, and what each owns beside them. Assumes `Logic`.
--     page_out, page_in      a `Page` is its pointer, and what lies behind that
--     loose_out, loose_in      a `Loose` is its pointer with a handle, and the value in memory with the right to free it
--     by_page, by_lent      a page, or none and a null address
--     tested      a page's address may be compared with null
use Rattle.std.proofs.Common.{◌≡◌, ℕ, List, [], ◌∷◌, ◌++◌, Option, Some, None, refl, subst}
use lib.Dec.{T}
use seplogic.Ra.Ura.{Ura}
use mir.Syntax.{impl, tnil, dnil}
use mir.Raw.{raw as bare}
use mir.Val.{Val, vptr, vstruct, vcons, vnil, of_list, has_ty, WT}
use mathlib.Core.Bool.{◌&&◌, true}
use base.Logic.{never, via, fst∗, snd∗, guard_i}
use base.Fml.{Lft}
use contract.Monad.{fact_use}
use types.Logic.{Logic, sem}
use types.Kit.{Item, Goal, Seq, Step, step, ‵, given, learn, use1, ◌$◌, move, drop, fsplit, fjoin, fpick, fpack, feq_i, feq_l}
use denote.RattleType.{RattleType, Valss}
use denote.Builtin.{RawPtr}
use denote.Memory.{lone, shared_of}
use denote.Param.{layout}
use denote.Param.Laws.{Laws}
use denote.RawPtr.{Ptr, block_ptr, null_ptr, ptr_val, in_a_block, lies_at, Testable}
use denote.Steps.{nothing}
use denote.Struct.Lending.{lent_at}
use denote.Struct.Owning.{shape}
use denote.Struct.Struct.{within}
use base.Fraction.{full_share}
use Rattle.core.specs.declared.alloc.Allocator.{Ghosts}
use Rattle.core.proofs.alloc.Calls.{Al, handle_tells}
use Rattle.core.proofs.cell.Inside.{Good}
use Rattle.std.proofs.GlobalToken.{dealloc_token-Testable}
use Rattle.std.specs.contracts.alloc.Global as heap
use Rattle.std.specs.contracts.impls.GlobalAllocator.TheImpl.{ghosts}
use Rattle.std_alloc.specs.Box.Ownership.{box_owns}
use Rattle.std_alloc.proofs.RcSteps.{word}
use Rattle.std_alloc.proofs.ResultValues.{and_tt}
use Rattle.phys_memory.proofs.Memory.{word_had, word_made}
use Rattle.phys_bank.specs.Ownership.{Block, heap_token, page_owns, page_lent}
use Rattle.phys_bank.specs.contracts.loose.Loose as loose
use Rattle.phys_bank.specs.contracts.page.Page as page

abbrev pub Slot : RattleType
Slot = page.the_row

-- an address and a handle
abbrev pub held_by : ℕ → ℕ → Val → Val
held_by b o handle = vstruct (vcons (vptr b o) (vcons handle vnil))

module _ {M : Type 1} {𝓤 : Ura M} {𝓛 : Logic 𝓤} {K : Type 0} {Γ : List (Item 𝓤)} {G : Goal 𝓤 𝓛.H} where
  pub page_out : K → (d : Slot.Denot) (vs : List Val) → (vs ≡ word d.at ∷ [] → Seq K 𝓛 (‵ (page_owns d.at d.held) ∷ Γ) G) → Seq K 𝓛 (‵ (Slot.own_val d vs) ∷ Γ) G
  page_out t d vs k = fsplit t $ word_had t d.at vs k

  pub page_in : K → (d : Slot.Denot) → Step K 𝓛 (‵ (Slot.own_val d (word d.at ∷ [])) ∷ Γ) G (‵ (page_owns d.at d.held) ∷ Γ) G
  page_in t d = step (λ s. word_made t d.at $ fjoin t $ s)

  -- there is no page and the address is null, or there is one in a block
  pub by_page : K → (d : Slot.Denot) → (d.held ≡ None → d.at ≡ null_ptr → Seq K 𝓛 Γ G)
      → ((b o : ℕ) (bytes : List ℕ) → d.held ≡ Some bytes → d.at ≡ block_ptr b o → Seq K 𝓛 (‵ (box_owns heap_token Block (block_ptr b o) bytes) ∷ Γ) G) → Seq K 𝓛 (‵ (page_owns d.at d.held) ∷ Γ) G
  by_page t d none some = either d.held refl
    where
      either : (held : Option (List ℕ)) → d.held ≡ held → Seq K 𝓛 (‵ (page_owns d.at held) ∷ Γ) G
      either None is = drop t $ none is (d.null is)
      either (Some bytes) is = in_a_block t d.at (λ p. box_owns heap_token Block p bytes) (fst∗ 𝓤 (never 𝓤) (sem 𝓛 (heap_token (bare (lone Block.mir)) null_ptr))) (λ b o at. some b o bytes is at)

  -- the same behind a `&`
  pub by_lent : K → (κ : Lft) (d : Slot.Denot) → (d.held ≡ None → d.at ≡ null_ptr → Seq K 𝓛 Γ G)
      → ((b o : ℕ) (bytes : List ℕ) → d.held ≡ Some bytes → d.at ≡ block_ptr b o → Seq K 𝓛 (‵ (shared_of Block bytes b o κ) ∷ Γ) G) → Seq K 𝓛 (‵ (page_lent d.at d.held κ) ∷ Γ) G
  by_lent t κ d none some = either d.held refl
    where
      either : (held : Option (List ℕ)) → d.held ≡ held → Seq K 𝓛 (‵ (page_lent d.at held κ) ∷ Γ) G
      either None is = drop t $ none is (d.null is)
      either (Some bytes) is = in_a_block t d.at (λ p. lent_at Block p bytes κ) (fst∗ 𝓤 (never 𝓤) (sem 𝓛 (shared_of Block bytes 0 0 κ))) (λ b o at. fsplit t $ drop t $ some b o bytes is at)

  pub tested : K → (a : heap.the_row.Denot) (p : Ptr) (bytes : List ℕ)
      → (Testable p → Seq K 𝓛 (‵ (box_owns (ghosts.dealloc_token a) Block p bytes) ∷ Γ) G) → Seq K 𝓛 (‵ (box_owns (ghosts.dealloc_token a) Block p bytes) ∷ Γ) G
  tested t a p bytes k = let Owned = box_owns (ghosts.dealloc_token a) Block p bytes in let τ = bare (lone Block.mir) in
      use1 𝓛 (given (Testable p) (‵ Owned)) (fact_use 𝓤 (Testable p)
      (via 𝓤 _ (snd∗ 𝓤 (sem 𝓛 (lies_at Block full_share p bytes)) (sem 𝓛 (ghosts.dealloc_token a τ p))) (dealloc_token-Testable 𝓛 a τ p)) (guard_i 𝓤 (Testable p) (sem 𝓛 Owned))) $ learn t k

module _ (R Z : RattleType) (L : Laws Z) (g : Ghosts Z.Denot) where
  abbrev pub Loose : RattleType
  Loose = loose.the_row R Z g

  abbrev al : Al
  al = record { row = Z; laws = L; g = g; d = impl [] tnil dnil; drops = impl [] tnil dnil }

  pub loose_good : (b o : ℕ) (handle : Val) → Good (layout Z) handle → T (has_ty (layout Z) handle && true) × WT (held_by b o handle)
  loose_good b o handle fits = (and_tt (has_ty (layout Z) handle) fits.0, (tt, (fits.1, tt)))

  module _ {M : Type 1} {𝓤 : Ura M} {𝓛 : Logic 𝓤} {K : Type 0} {Γ : List (Item 𝓤)} {G : Goal 𝓤 𝓛.H} where
    pub loose_out : K → (d : Loose.Denot) (vs : List Val)
        → ((b o : ℕ) (handle : Val) → d.at ≡ block_ptr b o → vs ≡ held_by b o handle ∷ [] → Good (layout Z) handle
        → Seq K 𝓛 (‵ (box_owns (g.dealloc_token d.alloc) R (block_ptr b o) d.value) ∷ ‵ (Z.own_val d.alloc (handle ∷ [])) ∷ Γ) G)
        → Seq K 𝓛 (‵ (Loose.own_val d vs) ∷ Γ) G
    loose_out t d vs k =
        fsplit t $ fpick t (λ vss. fsplit t $ feq_l t (λ whole. fsplit t $ feq_l t (λ first. fsplit t $ handle_tells al t d.alloc vss.1.0 (λ handle second fits. move t (1 ∷ []) $ drop t $ move t (1 ∷ []) $
        in_a_block t d.at (λ p. box_owns (g.dealloc_token d.alloc) R p d.value) (fst∗ 𝓤 (never 𝓤) (sem 𝓛 (g.dealloc_token d.alloc (bare (lone R.mir)) null_ptr))) (λ b o is.
        let split : vs ≡ vstruct (of_list (ptr_val d.at ∷ handle ∷ [])) ∷ [] = (let Of : List Val → List Val → Type 0 = λ ps hs. vs ≡ vstruct (of_list (ps ++ (hs ++ []))) ∷ [] in
        subst (Of (ptr_val d.at ∷ [])) second (subst (λ ps. Of ps vss.1.0) first whole)) in
        k b o handle is (subst (λ (p : Ptr). vs ≡ vstruct (of_list (ptr_val p ∷ handle ∷ [])) ∷ []) is split) fits)))))

    pub loose_in : K → (b o : ℕ) (handle : Val) (a : Z.Denot) (x : R.Denot)
        → Step K 𝓛 (‵ (Loose.own_val (record { at = block_ptr b o; alloc = a; value = x }) (held_by b o handle ∷ [])) ∷ Γ) G (‵ (box_owns (g.dealloc_token a) R (block_ptr b o) x) ∷ ‵ (Z.own_val a (handle ∷ [])) ∷ Γ) G
    loose_in t b o handle a x = step (λ s.
        nothing t $ move t (2 ∷ 0 ∷ []) $ fjoin t $ feq_i t (List Val) (vptr b o ∷ []) (vptr b o ∷ []) refl $ fjoin t $ feq_i t (List Val) (held_by b o handle ∷ []) (held_by b o handle ∷ []) refl $ fjoin t $
        fpack t (Valss (RawPtr ∷ Z ∷ [])) (within (shape (loose.the_type R Z g)) (block_ptr b o, (a, tt)) (held_by b o handle ∷ [])) (vptr b o ∷ [], (handle ∷ [], tt)) $ fjoin t $ s)

pub some_is_not_none : {A B : Type 0} (x : A) → Some x ≡ None → B
some_is_not_none x e = cc

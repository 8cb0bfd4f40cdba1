-- `none` stores null, behind which nothing is owned.
use Rattle.std.proofs.Common.{◌≡◌, [], ◌∷◌, None, refl, lit<}
use mir.Val.{Val}
use base.Logic.{SProp}
use types.Kit.{raw, ◌⊛◌, ◌$◌, ◌∵◌, !, qed, by, keep, split, use0}
use types.Run.{lit, no_more, and_then, returns, enter}
use types.ByLocal.{alloc_all, free_all, look_at, pass_all, sets}
use types.Part.{agg}
use contract.Monad.{fact, fact_i}
use contract.Running.{tables}
use base.Logic.{emp}
use base.Fml.{ftrue}
use types.Kit.{‵}
use denote.RawPtr.{null_ptr}
use denote.Steps.{nothing}
use denote.Triple.Entry.{alive}
use denote.Triple.Walked.{Stays, walk_of}
use Rattle.std_alloc.proofs.RcSteps.{word}
use Rattle.std.proofs.raw_atomic.Walks.{proved_at, leaves}
use Rattle.phys_bank.proofs.Values.{Slot, page_in}
use Rattle.phys_bank.specs.contracts.page.Page.none as f
use Rattle.phys_bank.proofs.page.Page.none.Statement.{statement}
use Rattle.phys_bank.proofs.page.Page.none.Code as code

abbrev made : Slot.Denot
made = record { at = null_ptr; held = None; null = λ e. refl; low = lit< tt }

pub none_spec : {M : Type 1} → statement M
none_spec 𝓤 𝓛 𝓜 𝓡 wired =
    let 𝓣 = tables 𝓤 𝓛.H 𝓜 𝓡 𝓡.env in let c = f.clauses 𝓛 𝓜.mem 𝓡.returns in let hs : Stays f.ended.signature.params f.ended.kept = tt in
    proved_at 𝓛 f.ended hs c 𝓜 𝓡 tt f.Key.name code.function (code.unfolded 𝓤 𝓛.H 𝓜 𝓡 wired) (λ y are.
    let Post : Val → SProp 𝓤 = (walk_of 𝓛 f.ended hs c).post y in
    qed 𝓛 ((raw (alive 𝓛 f.ended.signature y.0.0 y.0.1) ⊛ ‵ ftrue) ∷ ‵ ftrue ∷ []) ∵ split ! $
    enter ! 𝓣.C 𝓣.Λ code.function [] Post $ alloc_all ! (λ l. pass_all ! refl tt $
    sets ! (agg ! (and_then ! (lit ! tt) (no_more !))) refl (tt, (record { fits = lit< tt }, tt)) $
    nothing ! $ page_in ! made $ use0 𝓛 (raw (fact 𝓤 (made.held ≡ None))) (fact_i 𝓤 (made.held ≡ None) (emp 𝓤) refl) $
    returns ! (look_at ! 0 refl) $ free_all ! refl $ keep ! (2 ∷ 3 ∷ 1 ∷ 0 ∷ []) $
    by ! (leaves 𝓛 f.ended hs c y (word null_ptr) made tt tt)))

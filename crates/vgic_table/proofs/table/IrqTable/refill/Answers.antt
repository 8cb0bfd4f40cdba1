use Rattle.std.proofs.Common.{◌≤◌, false, List, refl, ◌≡◌, ℕ, ◌<◌, nat_lt, true, Some, sym, ap, subst, ◌∙◌, arith}
use Rattle.std.proofs.lemmas.Bool.Decides.{nat_tests}
use Rattle.bao_types.specs.ListReg.{ListRegData}
use Rattle.bao_types.specs.Controller.{id_end}
use Rattle.vgic_iface.specs.Interface.{best_listed, listed_rank}
use Rattle.vgic_iface.specs.Rank.{no_rank}
use Rattle.vgic_iface.proofs.LeastLemmas.{least_le_none}
use Rattle.vgic_table.specs.Interrupts.{Interrupts, best}
use Rattle.vgic_table.specs.Registers.{is_due, joined, left_by_registers, registers}
use Rattle.vgic_table.proofs.JoinedLemmas.{cores-joined}
use Rattle.vgic_table.proofs.table.IrqTable.refill.Goals as goal

pub fill-requires : goal.fill-requires
fill-requires c =
    subst (λ (t : Interrupts). c.args.core < t.cores) (sym (c.collect.ensures ∙ ap (λ (t : Interrupts). joined t c.args.core c.args.lists.now) c.known_best-best.ensures.same))
    (subst (λ n. c.args.core < n) (sym (cores-joined c.args.self.now c.args.core c.args.lists.now)) c.requires)

due : (a b first second : ℕ) → first ≡ a → second ≡ b → first < second → nat_lt a b ≡ true
due a b first second first_is second_is less = grind (arith, nat_tests)

pub returns-clause-lists : goal.returns-clause-lists
returns-clause-lists c =
    let is : is_due c.args.self.now c.args.core c.args.lists.now ≡ true =
    due (best c.args.self.now c.args.core) (best_listed c.args.lists.now) c.known_best-best.result c.best_listed.result
    c.known_best-best.ensures.value c.best_listed.ensures.value c.if-best-best_listed.false in
    rw is (ap Some (c.fill.ensures.lists ∙ ap (λ (t : Interrupts). registers 4 t c.args.core) (c.collect.ensures ∙ ap (λ (t : Interrupts). joined t c.args.core c.args.lists.now) c.known_best-best.ensures.same)))

pub returns-clause-left : goal.returns-clause-left
returns-clause-left c =
    let is : is_due c.args.self.now c.args.core c.args.lists.now ≡ true =
    due (best c.args.self.now c.args.core) (best_listed c.args.lists.now) c.known_best-best.result c.best_listed.result
    c.known_best-best.ensures.value c.best_listed.ensures.value c.if-best-best_listed.false in
    rw is (c.fill.ensures.left ∙ ap (λ (t : Interrupts). left_by_registers 4 t c.args.core) (c.collect.ensures ∙ ap (λ (t : Interrupts). joined t c.args.core c.args.lists.now) c.known_best-best.ensures.same))

not-less : (a b : ℕ) → b ≤ no_rank → a ≡ no_rank → nat_lt a b ≡ false
not-less a b within is = grind (arith, nat_tests)

-- nothing is to be listed where there is nothing to take
not-due : (vm : Interrupts) (core n : ℕ) (lists : List ListRegData) → n ≡ best vm core → n ≡ no_rank → is_due vm core lists ≡ false
not-due vm core n lists is none = not-less (best vm core) (best_listed lists) (least_le_none (listed_rank lists) id_end) (sym is ∙ none)

pub returns-then-best-clause-lists : goal.returns-then-best-clause-lists
returns-then-best-clause-lists c =
    rw (not-due c.args.self.now c.args.core c.known_best-best.result c.args.lists.now c.known_best-best.ensures.value c.if-best.true) refl

pub returns-then-best-clause-left : goal.returns-then-best-clause-left
returns-then-best-clause-left c =
    rw (not-due c.args.self.now c.args.core c.known_best-best.result c.args.lists.now c.known_best-best.ensures.value c.if-best.true)
    c.known_best-best.ensures.same

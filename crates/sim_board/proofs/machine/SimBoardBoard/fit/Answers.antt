use Rattle.std.proofs.Common.{◌≡◌, ◌≤◌, arith, All, List, sym, ap, subst, ◌∙◌, length, map, replicate, rules}
use Rattle.std.specs.Prelude.{IsTrue}
use Rattle.std.specs.List.{list_any}
use Rattle.std.proofs.lemmas.List.{length-map}
use Rattle.bao_types.specs.declared.range.ByteRange.{ByteRange}
use Rattle.bao_types.specs.ByteRange.{is_in_one, lies_in}
use Rattle.bao_types.specs.ListReg.{free_registers}
use Rattle.bao_types.specs.Region.{no_region}
use Rattle.bao_types.specs.Shape.{shape_data}
use Rattle.a64_state.specs.Registers.{reset_core}
use Rattle.phys_bank.specs.Banks.{BanksData, is_kept}
use Rattle.board.specs.Machine.{is_used}
use Rattle.sim_board.specs.Sound.{IsConfined}
use Rattle.sim_board.proofs.Confined.{zeros_are_confined}
use Rattle.sim_board.proofs.Standard.{few_bytes}
use Rattle.sim_board.proofs.machine.SimBoardBoard.fit.Goals as goal

pub reserve-requires-clause-bytes : goal.reserve-requires-clause-bytes
reserve-requires-clause-bytes g c = few_bytes _ c.requires.new

pub invariant_of-self-2 : goal.invariant_of-self-2
invariant_of-self-2 g c =
    let lists : c.in_ok-tables.tables.items ≡ map (λ place. replicate place.entries no_region) c.args.shape.now.cores.items =
    search rules in
    let copied : shape_data c.in_ok-copy.copy ≡ shape_data c.args.shape.now = search rules in
    let places : c.in_ok-copy.copy.cores.items ≡ c.args.shape.now.cores.items = ap (λ s. s.cores) copied in
    let reset : c.in_ok-cores.cores.items ≡ map (λ place. reset_core place.affinity) c.args.shape.now.cores.items =
    search rules in
    let free : c.in_ok-lists.lists.items ≡ map (λ place. free_registers) c.args.shape.now.cores.items = search rules in
    let few : length c.args.shape.now.cores.items ≤ 8 = omega (arith, c.deref-3.ensures.0, c.deref-3.ensures.1, ap length c.deref-3.ensures.0) in
    let spots : c.stand.new.self.spots.items ≡ c.args.shape.now.ports.items = search rules in
    let lie : All (λ range. IsTrue (list_any (lies_in range) c.deref.result.now)) c.deref-2.result.now =
    subst (λ (used : List ByteRange). All (λ range. IsTrue (list_any (lies_in range) c.deref.result.now)) used) (sym c.deref-2.ensures.0)
    (subst (λ (banks : List ByteRange). All (λ range. IsTrue (list_any (lies_in range) banks)) c.args.shape.now.used.items) (sym c.deref.ensures.0)
    c.requires.fittable.used) in
    record {
      sound = record {
        used = λ banks is at held.
            let same : c.in_ok-memory.memory ≡ banks = cc in
            subst (λ (b : BanksData). IsTrue (is_kept b at)) same
            (c.in_ok-memory.ensures.used lie at
            (subst (λ (used : List ByteRange). IsTrue (is_in_one (λ range. range) used at)) (sym c.deref-2.ensures.0)
            (subst (λ s. IsTrue (is_used s at)) copied held)));
        few = omega (arith, few, ap length places);
        lists = ap length free ∙ length-map _ _ ∙ sym (ap length places);
        cores = ap length reset ∙ length-map _ _ ∙ sym (ap length places);
        entries_len = ap length lists ∙ length-map _ _ ∙ sym (ap length places);
        confined = subst (All (All (IsConfined (shape_data c.in_ok-copy.copy)))) (sym lists) (zeros_are_confined (shape_data c.in_ok-copy.copy) _);
        spots = spots ∙ sym (ap (λ s. s.ports) copied);
        within = search rules;
        events = search rules;
      };
    }

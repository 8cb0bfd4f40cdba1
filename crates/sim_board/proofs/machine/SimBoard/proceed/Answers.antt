use Rattle.std.proofs.Common.{◌≡◌, ◌<◌, List, sym, subst, All, length, arith, rules}
use Rattle.std.specs.Prelude.{Some}
use Rattle.std.proofs.lemmas.List.Elements.{All-get_or}
use Rattle.bao_types.specs.declared.region.Region.{Region}
use Rattle.bao_types.specs.Shape.{shape_data}
use Rattle.phys_bank.specs.Banks.{is_kept}
use Rattle.sim_board.specs.Sound.{IsConfined}
use Rattle.sim_board.proofs.Confined.{contained}
use Rattle.sim_board.proofs.Kept.{still_used}
use Rattle.sim_board.proofs.machine.SimBoard.proceed.Goals as goal

pub step_core-exit-requires-clause-contained : goal.step_core-exit-requires-clause-contained
step_core-exit-requires-clause-contained g c =
    let self = c.args.self.now in
    let lists : List (List Region) = self.tables.items in
    let core = c.from-at.result in
    let entries = c.index_mut-3.result.now in
    let low : core < length lists = omega (arith, self.sound.entries_len, c.requires.core, c.from-at.ensures) in
    let confined : All (IsConfined (shape_data self.shape)) entries =
    subst (All (IsConfined (shape_data self.shape))) (sym c.index_mut-3.ensures.value)
    (All-get_or (All (IsConfined (shape_data self.shape))) lists core entries low self.sound.confined) in
    let memory : c.args.self.now.memory ≡ Some c.in-Some.memory = search rules in
    contained (shape_data self.shape) entries self.devices.spots.items (is_kept c.in-Some.memory) confined self.sound.spots
    (self.sound.used c.in-Some.memory memory)

pub invariant_of-self : goal.invariant_of-self
invariant_of-self g c =
    let self = c.args.self.now in
    let memory : c.args.self.now.memory ≡ Some c.in-Some.memory = search rules in
    record {
      sound = record {
        used = still_used (shape_data self.shape) self.memory c.in-Some.memory c.step_core-exit.new.memory memory c.step_core-exit.ensures.kept self.sound.used;
        few = self.sound.few;
        cores = search rules;
        lists = search rules;
        entries_len = search rules;
        confined = search rules;
        spots = search rules;
        within = omega (arith, self.sound.within);
        events = self.sound.events;
      };
    }

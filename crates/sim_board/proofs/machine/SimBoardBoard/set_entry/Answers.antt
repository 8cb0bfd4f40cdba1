use Rattle.std.proofs.Common.{All, ◌<◌, List, [], get_or, set, length, sym, subst, ◌∙◌, arith}
use Rattle.std.proofs.lemmas.List.Elements.{All-get_or, All-set}
use Rattle.bao_types.specs.declared.region.Region.{Region}
use Rattle.bao_types.specs.Shape.{shape_data}
use Rattle.sim_board.specs.Sound.{IsConfined}
use Rattle.sim_board.proofs.Confined.{safe_is_confined}
use Rattle.sim_board.proofs.machine.SimBoardBoard.set_entry.Goals as goal

pub invariant_of-self : goal.invariant_of-self
invariant_of-self g c =
    let self = c.args.self.now in let core = c.from.result in let index = c.from-2.result in
    let lists : List (List Region) = self.tables.items in
    let low : core < length lists = omega (arith, self.sound.entries_len, c.requires.core, c.from.ensures) in
    record {
      sound = record {
        used = self.sound.used;
        few = self.sound.few;
        cores = self.sound.cores;
        lists = self.sound.lists;
        entries_len = c.set_one.ensures.len ∙ self.sound.entries_len;
        confined =
            subst (All (All (IsConfined (shape_data self.shape)))) (sym c.set_one.ensures.items)
            (All-set (All (IsConfined (shape_data self.shape))) lists core (set (get_or lists core []) index c.args.entry)
            (All-set (IsConfined (shape_data self.shape)) (get_or lists core []) index c.args.entry
            (safe_is_confined (shape_data self.shape) c.args.entry c.requires.safe)
            (All-get_or (All (IsConfined (shape_data self.shape))) lists core [] low self.sound.confined))
            self.sound.confined);
        spots = self.sound.spots;
        within = self.sound.within;
        events = self.sound.events;
      };
    }

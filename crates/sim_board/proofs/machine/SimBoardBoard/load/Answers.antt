use Rattle.std.proofs.Common.{◌≡◌, rules}
use Rattle.std.specs.Prelude.{Some}
use Rattle.bao_types.specs.Shape.{shape_data}
use Rattle.sim_board.proofs.Kept.{still_used}
use Rattle.sim_board.proofs.machine.SimBoardBoard.load.Goals as goal

pub copy_in-requires : goal.copy_in-requires
copy_in-requires g c =
    let self = c.args.self.now in let memory : c.args.self.now.memory ≡ Some c.in-Some.memory = search rules in
    λ a from to. self.sound.used c.in-Some.memory memory a (c.requires.used a from to)

pub invariant_of-self : goal.invariant_of-self
invariant_of-self g c =
    let self = c.args.self.now in
    let memory : c.args.self.now.memory ≡ Some c.in-Some.memory = search rules in
    record {
      sound = record {
        used = still_used (shape_data self.shape) self.memory c.in-Some.memory c.copy_in.new.memory memory c.copy_in.ensures.kept self.sound.used;
        few = self.sound.few;
        cores = self.sound.cores;
        lists = self.sound.lists;
        entries_len = self.sound.entries_len;
        confined = self.sound.confined;
        spots = self.sound.spots;
        within = self.sound.within;
        events = self.sound.events;
      };
    }

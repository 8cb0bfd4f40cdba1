use Rattle.std.proofs.Common.{rules, ◌∙◌, refl, ◌≡◌, length}
use Rattle.ports.specs.PortState.{new_port, PortState}
use Rattle.sim_board.proofs.Listed.{one_more, console_at, scratch_at, ticker_at, all_standard}
use Rattle.ports.specs.declared.port.PortKind.TheVariants as PortKind
use Rattle.sim_board.specs.contracts.machine.SimBoard.new.{dyn-1-ghosts}
use Rattle.bao_command.proofs.machine.play.OwnLists.{own-1, lawful-own-1, at-1-1, at-1-2, at-1-3}
use denote.Param.Object.{read_made}
use Rattle.bao_command.proofs.machine.play.Goals as goal

-- src/lib.rt:23:5
pub loop-init : goal.loop-init
loop-init g c = search rules

-- src/lib.rt:23:5
pub loop-preserved : goal.loop-preserved
loop-preserved g c =
    let made : ((dyn-1-ghosts (own-1, lawful-own-1)).0.entry c.into_dyn_box.result.vtable).1.state c.into_dyn_box.result.value ≡ new_port PortKind.Console =
    read_made own-1 (own-1.entry at-1-1) at-1-1 refl PortState (λ j. j.1.state) c.into_dyn_box.result.vtable
    c.into_dyn_box.result.value c.in_ok-new.field-0.value c.into_dyn_box.ensures.1
    ∙ search (c.new.ensures.state, c.in_ok-new.ensures)
    in
    record {
      count = search rules;
      standard =
          one_more (λ port. ((dyn-1-ghosts (own-1, lawful-own-1)).0.entry port.vtable).1.state port.value) c.loop.ports.items c.push.new.self.items c.into_dyn_box.result
          c.loop.invariant.standard (search rules) (made ∙ console_at (length c.loop.ports.items) (search rules));
    }

-- src/lib.rt:26:5
pub loop-2-init : goal.loop-2-init
loop-2-init g c = search rules

-- src/lib.rt:26:5
pub loop-2-preserved : goal.loop-2-preserved
loop-2-preserved g c =
    let made : ((dyn-1-ghosts (own-1, lawful-own-1)).0.entry c.into_dyn_box-in_ok-new-2.result.vtable).1.state c.into_dyn_box-in_ok-new-2.result.value ≡ new_port PortKind.Scratch =
    read_made own-1 (own-1.entry at-1-2) at-1-2 refl PortState (λ j. j.1.state) c.into_dyn_box-in_ok-new-2.result.vtable
    c.into_dyn_box-in_ok-new-2.result.value c.in_ok-new-2.field-0.value c.into_dyn_box-in_ok-new-2.ensures.1
    ∙ search (c.new-in-loop-2.ensures, c.in_ok-new-2.ensures)
    in
    record {
      count = search rules;
      standard =
          one_more (λ port. ((dyn-1-ghosts (own-1, lawful-own-1)).0.entry port.vtable).1.state port.value) c.loop-2.ports.items c.push-in-loop-2.new.self.items c.into_dyn_box-in_ok-new-2.result
          c.loop-2.invariant.standard (search rules) (made ∙ scratch_at (length c.loop-2.ports.items) (search rules) (search rules));
    }

-- src/lib.rt:29:5
pub loop-3-init : goal.loop-3-init
loop-3-init g c = search rules

-- src/lib.rt:29:5
pub loop-3-preserved : goal.loop-3-preserved
loop-3-preserved g c =
    let made : ((dyn-1-ghosts (own-1, lawful-own-1)).0.entry c.into_dyn_box-in_ok-new-3.result.vtable).1.state c.into_dyn_box-in_ok-new-3.result.value ≡ new_port PortKind.Ticker =
    read_made own-1 (own-1.entry at-1-3) at-1-3 refl PortState (λ j. j.1.state) c.into_dyn_box-in_ok-new-3.result.vtable
    c.into_dyn_box-in_ok-new-3.result.value c.in_ok-new-3.field-0.value c.into_dyn_box-in_ok-new-3.ensures.1
    ∙ search (c.new-in-loop-3.ensures, c.in_ok-new-3.ensures)
    in
    record {
      count = search rules;
      standard =
          one_more (λ port. ((dyn-1-ghosts (own-1, lawful-own-1)).0.entry port.vtable).1.state port.value) c.loop-3.ports.items c.push-in-loop-3.new.self.items c.into_dyn_box-in_ok-new-3.result
          c.loop-3.invariant.standard (search rules) (made ∙ ticker_at (length c.loop-3.ports.items) (search rules) (search rules));
    }

-- src/lib.rt:32:8
pub new-board-requires-clause-count : goal.new-board-requires-clause-count
new-board-requires-clause-count g c = search rules

-- src/lib.rt:32:8
pub new-board-requires-clause-new : goal.new-board-requires-clause-new
new-board-requires-clause-new g c = all_standard (λ port. ((dyn-1-ghosts (own-1, lawful-own-1)).0.entry port.vtable).1.state port.value) c.loop-3.ports.items 16 c.loop-3.invariant.standard (search rules)

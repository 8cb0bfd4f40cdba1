use Rattle.std.proofs.Common.{◌≡◌, ◌<◌, ◌+◌, length, map, set, sym, ap, ◌∙◌, arith}
use Rattle.std.proofs.lemmas.List.{length-map}
use Rattle.bao_types.specs.ListReg.{free_registers}
use Rattle.bao_config.specs.Data.{ConfigData}
use Rattle.bao_wellformed.specs.Checked.{checked_data}
use Rattle.bao_wellformed.specs.Map.{owner}
use Rattle.board.specs.Machine.{Machine, core_started}
use Rattle.a64_state.specs.Registers.{reset_core}
use Rattle.vm_model.specs.Boot.{boot_core, boot_cores}
use Rattle.vm_create.specs.Boot.{start_of}
use Rattle.vm_create.proofs.Filled.{length_places}
use Rattle.vm_create.proofs.Mixed.{mixed, mixed_all}
use Rattle.vm_create.proofs.Free.{free_set}
use Rattle.vm_create.proofs.Started.{length_cores, starts, waits, with_cores}
use Rattle.vm_create.proofs.booting.start_cores.Goals as goal
use Rattle.vm_create.proofs.booting.start_cores.Goals.{in-Some, in_default}

pub reset_core-requires-clause-core : goal.reset_core-requires-clause-core
reset_core-requires-clause-core g c =
    let old = g.B.Board.state c.args.board.now in let now = g.B.Board.state c.loop-core.board in
    let cfg = checked_data c.args.checked.now in
    omega (
      arith,
      length_cores cfg old.shape.events now.shape (ap (λ (m : Machine). m.shape) c.loop-core.invariant ∙ c.requires.shape),
      ap (λ (cfg : ConfigData). length cfg.platform.cores) c.config-config.ensures,
      c.len-core-end.ensures.value,
      c.loop-core-test.true,
    )

pub loop-core-preserved : goal.loop-core-preserved
loop-core-preserved g c =
    let old = g.B.Board.state c.args.board.now in let now = g.B.Board.state c.loop-core.board in
    let cfg = checked_data c.args.checked.now in let core = c.loop-core.core in
    let shape = ap (λ (m : Machine). m.shape) c.loop-core.invariant ∙ c.requires.shape in
    let low : core < length cfg.platform.cores =
    omega (arith, ap (λ (cfg : ConfigData). length cfg.platform.cores) c.config-config.ensures, c.len-core-end.ensures.value, c.loop-core-test.true) in
    let begins = ap (λ (cfg : ConfigData). start_of (owner cfg core) core) (sym c.config-config.ensures) ∙ sym c.start_of.ensures in
    let reset = c.requires.reset ∙ ap (λ (m : Machine). map (λ place. reset_core place.affinity) m.shape.cores) (sym c.loop-core.invariant) in
    let freed = set now.lists core free_registers in
    let free : freed ≡ old.lists =
    ap (λ lists. set lists core free_registers) (ap (λ (m : Machine). m.lists) c.loop-core.invariant ∙ c.requires.free)
    ∙ free_set old.shape.cores core ∙ sym c.requires.free in
    elim c.match-start_of.branch [
      | in-Some w ↦
          let started = set now.cores core (core_started now.shape core w.in-Some.start 0) in
          ap g.B.Board.state w.board-is
          ∙ w.reset_core.ensures
          ∙ ap (λ (m : Machine). record m { cores = started; lists = freed }) c.loop-core.invariant
          ∙ ap (λ lists. record old { cores = started; lists = lists }) free
          ∙ ap (with_cores old)
          (starts cfg old.shape.events now.shape shape core low old.cores reset now.cores (core + 1) w.in-Some.start (begins ∙ w.in-Some.is) (omega arith)
          (ap (λ (m : Machine). m.cores) c.loop-core.invariant))
      | in_default w ↦
          ap g.B.Board.state w.board-is ∙ c.loop-core.invariant
          ∙ ap (with_cores old)
          (waits cfg old.shape.events now.shape shape core low old.cores reset (core + 1) (begins ∙ w.in_default.is) (omega arith))
    ]

pub returns : goal.returns
returns g c =
    let old = g.B.Board.state c.args.board.now in let cfg = checked_data c.args.checked.now in
    let counts = cfg.platform.cores in
    let last = ap (λ (cfg : ConfigData). length cfg.platform.cores) c.config-config.ensures in
    let boots = length_places (λ place. boot_core (owner cfg place.0) place.0) 0 counts in
    let reset = length_cores cfg old.shape.events old.shape c.requires.shape in
    c.loop-core.invariant
    ∙ ap (λ i. with_cores old (mixed i (boot_cores cfg) old.cores))
    (let whole : c.loop-core.core ≡ length (boot_cores cfg) = omega (arith, last, boots, c.len-core-end.ensures.value, c.loop-core-test.false, c.loop-core.auto.core-end) in whole)
    ∙ ap (with_cores old)
    (mixed_all (boot_cores cfg) old.cores
    (boots ∙ sym reset ∙ sym (length-map old.shape.cores (λ place. reset_core place.affinity)) ∙ ap length (sym c.requires.reset)))

-- What a run leaves of the board.
use Rattle.std.proofs.Common.{◌≡◌, ℕ, ◌+◌, List, length, sym, ap, ◌∙◌, arith}
use Rattle.bao_config.specs.Fits.{ConfigFits}
use Rattle.bao_wellformed.specs.WellFormed.{IsWellFormed}
use Rattle.board.specs.Machine.{Machine}
use Rattle.vgic_table.specs.Interrupts.{tables_of}
use Rattle.vm_model.specs.Flat.{Flat, FlatEvent, flat_run, entered_count}
use Rattle.vm_model.specs.Project.{project}
use Rattle.hypervisor.specs.Hyp.{HypData, stands_for}
use Rattle.hypervisor.specs.Shape.{shape_of}
use Rattle.hypervisor.specs.Tidy.{Tidy}
use Rattle.hypervisor.proofs.Models.{tidy_packed}
use Rattle.bao_run.specs.Call.{InputData}
use Rattle.bao_run.specs.Play.{IsRunThrough, booted, final}

-- a run of the input's events from a state that is the model's at boot
module _ (input : InputData) (start : Flat) (begun : start ≡ booted input) (events : List FlatEvent) (same : events ≡ input.events)
    (hyp : HypData) (m : Machine) (state : stands_for input.cfg hyp m ≡ flat_run input.cfg start events) where
  -- it ends where the model's ends
  pub final_of : stands_for input.cfg hyp m ≡ final input
  final_of = state ∙ ap (flat_run input.cfg start) same ∙ ap (λ f. flat_run input.cfg f input.events) begun

  pub run_through : IsWellFormed input.cfg → ConfigFits input.cfg → Tidy input.cfg hyp m → m.shape ≡ shape_of input.cfg (length input.events)
      → (before : ℕ) → before ≡ 0 → m.entered ≡ before + entered_count input.cfg start events
      → IsRunThrough m input
  run_through well_formed fits tidy shape before none entered = record {
    fitted = tidy.fitted;
    shape = shape;
    packed = record { realised = (tidy_packed input.cfg hyp m tidy well_formed fits).realised };
    entries = tidy.entries;
    entered =
        let alike : entered_count input.cfg start events ≡ entered_count input.cfg (booted input) input.events =
        ap (entered_count input.cfg start) same ∙ ap (λ f. entered_count input.cfg f input.events) begun in
        omega (arith, none, entered, alike);
    kept = hyp.tables;
    held = tidy.held;
    state =
        ap (λ powers. project input.cfg powers (tables_of hyp.tables) m) (sym (ap (λ (f : Flat). f.powers) final_of)) ∙ final_of;
  }

-- What the summary shows of a VM depends on what is its own alone.
use Rattle.std.proofs.Common.{◌≡◌, ℕ, true, List, [], ◌∷◌, ◌++◌, length, refl, sym, ap, ◌∙◌, arith}
use Rattle.std.specs.Prelude.{IsTrue, ◌==◌, if◌then◌else◌, slice_get, option_to_list}
use Rattle.std.specs.List.{list_any}
use Rattle.std.proofs.lemmas.Bool.Decides.{nat_tests}
use Rattle.a64_state.specs.Registers.{x_of}
use Rattle.bao_config.specs.Data.{ConfigData, VmData}
use Rattle.bao_config.specs.declared.config.Dev.{Dev}
use Rattle.bao_wellformed.specs.Map.{has_core, has_port}
use Rattle.board.specs.Ports.{outputs}
use Rattle.ports.specs.PortState.{output_of}
use Rattle.vm_model.specs.Agree.{Agree}
use Rattle.vm_model.specs.Boot.{boot}
use Rattle.vm_model.specs.Flat.{Flat, flat_run}
use Rattle.vm_model.specs.Lone.{lone}
use Rattle.vm_model.proofs.Run.{runs_as_if_alone}
use Rattle.report.specs.Section.{is_console}
use Rattle.report.specs.Summary.{first_x0, dev_output, joined_output, summary_line, checksum, vm_summary, summary_of}
use Rattle.report.specs.Alone.{SumsAsIfAlone}
use Rattle.report.proofs.Shown.{in_rest}

module _ (cfg : ConfigData) (v : ℕ) (vm : VmData) (f g : Flat) (agree : Agree cfg v vm f g) where
  first_x0_alike : (cores : List ℕ) → ((c : ℕ) → IsTrue (list_any (λ own. own == c) cores) → IsTrue (has_core c vm))
      → first_x0 f.cores cores ≡ first_x0 g.cores cores
  first_x0_alike [] all = refl
  first_x0_alike (core ∷ cores) all =
      let self : (core == core) ≡ true = grind (arith, nat_tests) in
      ap (λ c. x_of c 0) (agree.cores core (all core (rw self refl)))

  output_alike : (devs : List Dev) → ((port : ℕ) → IsTrue (list_any (λ dev. dev.port == port) devs) → IsTrue (has_port port vm))
      → joined_output (outputs f.ports) devs ≡ joined_output (outputs g.ports) devs
  output_alike [] all = refl
  output_alike (dev ∷ devs) all =
      let self : (dev.port == dev.port) ≡ true = grind (arith, nat_tests) in
      ap (λ output. (if is_console dev.port then output else []) ++ joined_output (outputs f.ports) devs)
      (ap output_of (agree.ports dev.port (all dev.port (rw self refl))))
      ∙ ap (λ t. dev_output (outputs g.ports) dev ++ t)
      (output_alike devs (λ port h. all port (in_rest (dev.port == port) _ h)))

  -- the line of a VM on which two machines agree
  pub summary_alike : vm_summary f.cores (outputs f.ports) vm ≡ vm_summary g.cores (outputs g.ports) vm
  summary_alike =
      let output = joined_output (outputs f.ports) vm.devs in
      ap (λ x0. summary_line vm.name x0 (length output) (checksum output)) (first_x0_alike vm.cores (λ c h. h))
      ∙ ap (λ (output : List ℕ). summary_line vm.name (first_x0 g.cores vm.cores) (length output) (checksum output))
      (output_alike vm.devs (λ port h. h))

pub sums_as_if_alone : SumsAsIfAlone
sums_as_if_alone cfg images events v vm apart steps =
    let agree = runs_as_if_alone cfg images events v vm apart steps in
    ap (summary_of (flat_run cfg (boot cfg images) events)) apart.place
    ∙ summary_alike cfg v vm (flat_run cfg (boot cfg images) events) (lone cfg images events v) agree
    ∙ sym (ap (λ o. summary_of (lone cfg images events v) (slice_get (option_to_list o) 0)) apart.place)

-- Report and summary show each VM as it is alone.
use Rattle.std.proofs.Common.{◌≡◌, ℕ, suc, ◌+◌, List, [], ◌∷◌, ◌++◌, All, map, refl, sym, subst, ap, ◌∙◌, arith}
use Rattle.std.specs.Prelude.{Some, slice_get}
use Rattle.std.proofs.lemmas.List.Elements.{All-cons, All-nil}
use Rattle.std.specs.List.{flat_map}
use Rattle.bao_config.specs.Data.{ConfigData, VmData}
use Rattle.report.specs.Lines.{done_line}
use Rattle.board.specs.Ports.{outputs}
use Rattle.report.specs.Section.{section, section_of, sections, vm_text}
use Rattle.report.specs.Summary.{summary_at, summary_of, vm_summary}
use Rattle.report.proofs.Shown.{shows_as_if_alone}
use Rattle.report.proofs.Summarised.{sums_as_if_alone}
use Rattle.vm_model.specs.Flat.{Flat}
use Rattle.vm_model.specs.Alone.{IsOfSchedule}
use Rattle.vm_model.specs.Lone.{only, lone}
use Rattle.vm_model.proofs.WellFormed.{well_formed_apart, well_formed_granular}
use Rattle.hypervisor.specs.declared.event.Event.{Event}
use Rattle.hypervisor.specs.declared.event.Event.TheVariants as event
use Rattle.hypervisor.specs.Event.{flat_event}
use Rattle.bao_run.specs.Words.{Command, Run, Check, Generate, Unknown}
use Rattle.bao_run.specs.Call.{InputData}
use Rattle.bao_run.specs.Play.{final}
use Rattle.bao_run.specs.Outcome.{IsRunnable, ending, lone_ending, lone_texts}

-- a schedule has steps and inputs alone
scheduled : (e : Event) → IsOfSchedule (flat_event e)
scheduled (event.Step core count) = tt
scheduled (event.Input port byte) = tt

all_scheduled : (events : List Event) → All IsOfSchedule (map flat_event events)
all_scheduled [] = All-nil IsOfSchedule
all_scheduled (e ∷ events) = All-cons IsOfSchedule (flat_event e) (map flat_event events) (scheduled e) (all_scheduled events)

module _ (input : InputData) (runnable : IsRunnable input) where
  scheduled_all : All IsOfSchedule input.events
  scheduled_all = subst (All IsOfSchedule) (sym runnable.taken) (all_scheduled runnable.said)

  -- the section of the VM at a place, and its line
  section_alone : (v : ℕ) (vm : VmData) → slice_get input.cfg.vms v ≡ Some vm
      → vm_text input.cfg (final input) vm ≡ section (only input.cfg v) (lone input.cfg input.images input.events v) 0
  section_alone v vm is =
      sym (ap (section_of input.cfg (final input)) is)
      ∙ shows_as_if_alone input.cfg input.images input.events v vm
      (well_formed_apart input.cfg input.images v vm runnable.well_formed runnable.fits runnable.rooms is)
      (well_formed_granular input.cfg v vm runnable.fits is) scheduled_all

  line_alone : (v : ℕ) (vm : VmData) → slice_get input.cfg.vms v ≡ Some vm
      → vm_summary (final input).cores (outputs (final input).ports) vm
      ≡ summary_at (only input.cfg v) (lone input.cfg input.images input.events v) 0
  line_alone v vm is =
      sym (ap (summary_of (final input)) is)
      ∙ sums_as_if_alone input.cfg input.images input.events v vm
      (well_formed_apart input.cfg input.images v vm runnable.well_formed runnable.fits runnable.rooms is) scheduled_all

  -- what is told of all VMs from a place on that stand there, if what is told of each is what it is alone
  module _ (text : ConfigData → Flat → ℕ → List ℕ) (one : VmData → List ℕ) (all : List VmData → List ℕ) (none : all [] ≡ [])
      (more : (vm : VmData) (vms : List VmData) → all (vm ∷ vms) ≡ one vm ++ all vms)
      (alone : (v : ℕ) (vm : VmData) → slice_get input.cfg.vms v ≡ Some vm
      → one vm ≡ text (only input.cfg v) (lone input.cfg input.images input.events v) 0) where
    texts_alone : (v : ℕ) (vms : List VmData)
        → ((k : ℕ) (vm : VmData) → slice_get vms k ≡ Some vm → slice_get input.cfg.vms (v + k) ≡ Some vm)
        → all vms ≡ lone_texts text input v vms
    unfolding lone_texts
    texts_alone v [] stand = none
    texts_alone v (vm ∷ vms) stand =
        let here : v + 0 ≡ v = omega arith in
        more vm vms
        ∙ ap (λ t. t ++ all vms) (alone v vm (ap (λ n. slice_get input.cfg.vms n) (sym here) ∙ stand 0 vm refl))
        ∙ ap (λ t. text (only input.cfg v) (lone input.cfg input.images input.events v) 0 ++ t)
        (texts_alone (v + 1) vms (λ k other is.
        let place : v + 1 + k ≡ v + suc k = omega arith in
        ap (λ n. slice_get input.cfg.vms n) place ∙ stand (suc k) other is))

    of_all : all input.cfg.vms ≡ lone_texts text input 0 input.cfg.vms
    of_all = texts_alone 0 input.cfg.vms (λ k vm is. let here : 0 + k ≡ k = omega arith in ap (λ n. slice_get input.cfg.vms n) here ∙ is)

  sections_alone : sections input.cfg (final input) input.cfg.vms ≡ lone_texts section input 0 input.cfg.vms
  unfolding sections
  sections_alone =
      of_all section (vm_text input.cfg (final input)) (sections input.cfg (final input)) refl (λ vm vms. refl) section_alone

  lines_alone : flat_map (vm_summary (final input).cores (outputs (final input).ports)) input.cfg.vms
      ≡ lone_texts summary_at input 0 input.cfg.vms
  lines_alone =
      of_all summary_at (vm_summary (final input).cores (outputs (final input).ports))
      (flat_map (vm_summary (final input).cores (outputs (final input).ports))) refl (λ vm vms. refl) line_alone

  -- the text with which a command ends shows each VM as it is alone
  pub ending-alone : (command : Command) → ending command input.cfg (final input) ≡ lone_ending command input
  ending-alone (Run config schedule) = ap (λ t. t ++ done_line) sections_alone
  ending-alone (Check config) = refl
  ending-alone (Generate number) = ap (λ t. t ++ done_line) lines_alone
  ending-alone Unknown = refl

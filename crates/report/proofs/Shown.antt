-- What the report shows of a VM depends on what is its own alone.
use Rattle.std.proofs.Common.{◌≡◌, ℕ, zero, suc, ◌+◌, ◌%◌, ◌<◌, Bool, true, false, List, [], ◌∷◌, ◌++◌, refl, sym, ap, subst, ◌∙◌, arith}
use Rattle.std.specs.Prelude.{IsTrue, ◌&&◌, ◌||◌, ◌==◌, not, if◌then◌else◌, slice_get, option_to_list}
use Rattle.std.specs.List.{list_any}
use Rattle.std.proofs.lemmas.Bool.Decides.{nat_tests}
use Rattle.bao_config.specs.Data.{ConfigData, VmData}
use Rattle.bao_config.specs.declared.config.Dev.{Dev}
use Rattle.bao_wellformed.specs.declared.map.Kind.{Kind}
use Rattle.bao_wellformed.specs.declared.map.Kind.TheVariants.{Ram, Port, Window, Hole}
use Rattle.bao_wellformed.specs.Map.{kind_at, has_core, has_port}
use Rattle.board.specs.Machine.{core_at}
use Rattle.board.specs.View.{view_of}
use Rattle.vm_model.specs.Flat.{Flat, flat_run}
use Rattle.vm_model.specs.Boot.{boot}
use Rattle.vm_model.specs.Lone.{only, view, lone}
use Rattle.ports.specs.PortState.{output_of}
use Rattle.board.specs.Ports.{outputs}
use Rattle.report.specs.Lines.{vm_line, end_line, console_line, memory_line}
use Rattle.report.specs.Registers.{registers_text}
use Rattle.report.specs.Section.{power_line, core_text, cores_text, is_console, console_text, consoles_text, run_of, is_memory, are_zero, group_text, memory_text, all_groups, vm_text, section_of, section}
use Rattle.vm_model.specs.Agree.{is_present, Agree}
use Rattle.vm_model.specs.Apart.{IsGranular}
use Rattle.report.specs.Alone.{ShowsAsIfAlone, ShowsNothingElse}
use Rattle.vm_model.proofs.Run.{runs_as_if_alone}

-- memory is in the map
memory_present : (kind : Kind) → IsTrue (is_memory kind) → IsTrue (is_present kind)
memory_present (Ram write exec) h = refl
memory_present (Port id) h = refl
memory_present (Window shmem write) h = refl
memory_present Hole h = cc

pub in_rest : (b rest : Bool) → IsTrue rest → IsTrue (b || rest)
in_rest true rest h = refl
in_rest false rest h = h

run_alike : (f g : ℕ → ℕ) (at n : ℕ) → ((k : ℕ) → k < n → f (at + k) ≡ g (at + k)) → run_of f at n ≡ run_of g at n
unfolding run_of
run_alike f g at zero same = refl
run_alike f g at (suc n) same =
    let first : f at ≡ g at =
    (let e : at + 0 ≡ at = omega arith in sym (ap f e) ∙ same 0 (omega arith) ∙ ap g e) in
    ap (λ b. b ∷ run_of f (at + 1) n) first
    ∙ ap (λ bs. g at ∷ bs)
    (run_alike f g (at + 1) n
    (λ k low. let e : at + 1 + k ≡ at + suc k = omega arith in ap f e ∙ same (suc k) (omega arith) ∙ sym (ap g e)))

module _ (cfg : ConfigData) (v : ℕ) (vm : VmData) (f g : Flat) (agree : Agree cfg v vm f g) (granular : IsGranular cfg vm) where
  core_alike : (j core : ℕ) → IsTrue (has_core core vm) → core_text f.powers f.cores j core ≡ core_text g.powers g.cores j core
  unfolding core_text
  core_alike j core has =
      ap (λ p. power_line j p ++ registers_text (view_of (core_at f.cores core))) (agree.powers core has)
      ∙ ap (λ c. power_line j (slice_get g.powers core) ++ registers_text (view_of c)) (agree.cores core has)

  cores_alike : (j : ℕ) (cores : List ℕ) → ((c : ℕ) → IsTrue (list_any (λ own. own == c) cores) → IsTrue (has_core c vm))
      → cores_text f.powers f.cores j cores ≡ cores_text g.powers g.cores j cores
  unfolding cores_text
  cores_alike j [] all = refl
  cores_alike j (core ∷ cores) all =
      let self : (core == core) ≡ true = grind (arith, nat_tests) in
      ap (λ t. t ++ cores_text f.powers f.cores (j + 1) cores) (core_alike j core (all core (rw self refl)))
      ∙ ap (λ t. core_text g.powers g.cores j core ++ t) (cores_alike (j + 1) cores (λ c h. all c (in_rest (core == c) _ h)))

  consoles_alike : (devs : List Dev) → ((port : ℕ) → IsTrue (list_any (λ dev. dev.port == port) devs) → IsTrue (has_port port vm))
      → consoles_text (outputs f.ports) devs ≡ consoles_text (outputs g.ports) devs
  unfolding consoles_text console_text
  consoles_alike [] all = refl
  consoles_alike (dev ∷ devs) all =
      let self : (dev.port == dev.port) ≡ true = grind (arith, nat_tests) in
      ap (λ output. (if is_console dev.port then console_line dev.port output else []) ++ consoles_text (outputs f.ports) devs)
      (ap output_of (agree.ports dev.port (all dev.port (rw self refl))))
      ∙ ap (λ t. console_text (outputs g.ports) dev ++ t)
      (consoles_alike devs (λ port h. all port (in_rest (dev.port == port) _ h)))

  by_memory : (at : ℕ) (m : Bool) → is_memory (kind_at cfg vm at) ≡ m → at % 16 ≡ 0
      → (if m && not (are_zero (run_of f.bytes at 16)) then memory_line at (run_of f.bytes at 16) else [])
      ≡ (if m && not (are_zero (run_of g.bytes at 16)) then memory_line at (run_of g.bytes at 16) else [])
  by_memory at true e aligned =
      ap (λ bs. if true && not (are_zero bs) then memory_line at bs else [])
      (run_alike f.bytes g.bytes at 16
      (λ k low. agree.bytes (at + k)
      (subst (λ kind. IsTrue (is_present kind)) (sym (granular at k aligned low)) (memory_present (kind_at cfg vm at) e))))
  by_memory at false e aligned = refl

  memory_alike : (n at : ℕ) → at % 16 ≡ 0 → memory_text (kind_at cfg vm) f.bytes n at ≡ memory_text (kind_at cfg vm) g.bytes n at
  unfolding memory_text group_text
  memory_alike zero at aligned = refl
  memory_alike (suc n) at aligned =
      ap (λ t. t ++ memory_text (kind_at cfg vm) f.bytes n (at + 16)) (by_memory at (is_memory (kind_at cfg vm at)) refl aligned)
      ∙ ap (λ t. group_text (kind_at cfg vm) g.bytes at ++ t) (memory_alike n (at + 16) (omega arith))

  pub text_alike : vm_text cfg f vm ≡ vm_text cfg g vm
  unfolding vm_text
  text_alike =
      ap (λ t. vm_line vm.name ++ (t ++ (consoles_text (outputs f.ports) vm.devs ++ (memory_text (kind_at cfg vm) f.bytes all_groups 0 ++ end_line vm.name))))
      (cores_alike 0 vm.cores (λ c h. h))
      ∙ ap (λ t. vm_line vm.name ++ (cores_text g.powers g.cores 0 vm.cores ++ (t ++ (memory_text (kind_at cfg vm) f.bytes all_groups 0 ++ end_line vm.name))))
      (consoles_alike vm.devs (λ port h. h))
      ∙ ap (λ t. vm_line vm.name ++ (cores_text g.powers g.cores 0 vm.cores ++ (consoles_text (outputs g.ports) vm.devs ++ (t ++ end_line vm.name))))
      (memory_alike all_groups 0 refl)

-- what is shown of a VM doesn't depend on the list of VMs
text_same : (cfg : ConfigData) (vms : List VmData) (vm : VmData) (g : Flat) → vm_text cfg g vm ≡ vm_text (record cfg { vms = vms }) g vm
unfolding vm_text
text_same cfg vms vm g = refl

pub shows_as_if_alone : ShowsAsIfAlone
shows_as_if_alone cfg images events v vm apart granular steps =
    let agree = runs_as_if_alone cfg images events v vm apart steps in
    ap (section_of cfg (flat_run cfg (boot cfg images) events)) apart.place
    ∙ text_alike cfg v vm (flat_run cfg (boot cfg images) events) (lone cfg images events v) agree granular
    ∙ text_same cfg (option_to_list (slice_get cfg.vms v)) vm (lone cfg images events v)
    ∙ sym (ap (λ o. section_of (only cfg v) (lone cfg images events v) (slice_get (option_to_list o) 0)) apart.place)

pub shows_nothing_else : ShowsNothingElse
shows_nothing_else one other images others events turns v w vm wm apart apart' granular granular' steps steps' part image seen =
    shows_as_if_alone one images events v vm apart granular steps
    ∙ ap (λ c. section c (flat_run c (boot c (option_to_list (slice_get images v))) (view one (boot one images) v events)) 0) part
    ∙ ap
    (λ i. section (only other w)
    (flat_run (only other w) (boot (only other w) (option_to_list i)) (view one (boot one images) v events)) 0)
    image
    ∙ ap
    (λ e. section (only other w)
    (flat_run (only other w) (boot (only other w) (option_to_list (slice_get others w))) e) 0)
    seen
    ∙ sym (shows_as_if_alone other others turns w wm apart' granular' steps')

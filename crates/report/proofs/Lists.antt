-- Texts of lists, element by element: what is left before an element and after it, and after the last.
use Rattle.std.proofs.Common.{◌≡◌, ℕ, suc, ◌+◌, ◌<◌, ◌≤◌, List, [], ◌++◌, length, get_or, drop, map, refl, sym, ap, subst, ◌∙◌, add-one, arith, drop-cons}
use Rattle.std.proofs.Math.ListN.{drop_of_length-le}
use Rattle.std.specs.List.{flat_map}
use Rattle.std.specs.Prelude.{Option}
use Rattle.bao_types.specs.declared.region.Region.{Region}
use Rattle.bao_config.specs.declared.config.Dev.{Dev}
use Rattle.bao_config.specs.declared.config.Vm.{Vm}
use Rattle.bao_config.specs.Data.{ConfigData, VmData, vm_data}
use Rattle.mpu_packer.specs.declared.entries.Plan.{Plan}
use Rattle.outside.specs.Sink.{grown, TakesPart}
use Rattle.outside.proofs.Puts.{Reached, further, finished, stopped}
use Rattle.vm_model.specs.Flat.{Flat}
use Rattle.a64_state.specs.Core.{CoreData}
use Rattle.hypercalls.specs.declared.power.Power.{Power}
use Rattle.report.specs.Section.{core_text, cores_text, console_text, consoles_text, vm_text, sections}
use Rattle.report.specs.Lines.{nonzero_line}
use Rattle.report.specs.Registers.{Named, nonzero_lines}
use Rattle.report.specs.Packing.{entry_line, entries_text, packed_text, cores_packed}

-- a loop that puts out piece by piece, with what is left said in its own words
module _ (start now : Option (List ℕ)) (whole left : List ℕ) (reached : Reached start now whole left) where
  pub goes_past : (new : Option (List ℕ)) (piece behind : List ℕ) → left ≡ piece ++ behind → new ≡ grown now piece
      → Reached start new whole behind
  goes_past new piece behind splits put = further start now new whole piece behind (subst (Reached start now whole) splits reached) put

  pub stops_within : (new : Option (List ℕ)) (piece behind : List ℕ) → left ≡ piece ++ behind → TakesPart now new piece
      → TakesPart start new whole
  stops_within new piece behind splits part =
      stopped start now new whole piece behind (subst (Reached start now whole) splits reached) part

  pub ends_whole : left ≡ [] → now ≡ grown start whole
  ends_whole none = finished start now whole (subst (Reached start now whole) none reached)

-- the cores of a VM
pub cores_next : (powers : List Power) (all : List CoreData) (cores : List ℕ) (j : ℕ) → j < length cores
    → cores_text powers all j (drop j cores) ≡ core_text powers all j (get_or cores j 0) ++ cores_text powers all (j + 1) (drop (j + 1) cores)
unfolding cores_text
cores_next powers all cores j low = rw (drop-cons cores j 0 low, add-one) refl

pub cores_none : (powers : List Power) (all : List CoreData) (cores : List ℕ) (j : ℕ) → length cores ≤ j → cores_text powers all j (drop j cores) ≡ []
unfolding cores_text
cores_none powers all cores j high = rw (drop_of_length-le cores high) refl

-- named registers
pub registers_next : {X : Type 0} (shown : X → Named) (registers : List X) (i : ℕ) (d : X) → i < length registers
    → nonzero_lines (map shown (drop i registers))
    ≡ nonzero_line (shown (get_or registers i d)).name (shown (get_or registers i d)).value
    ++ nonzero_lines (map shown (drop (i + 1) registers))
unfolding nonzero_lines
registers_next shown registers i d low = rw (drop-cons registers i d low, add-one) refl

pub registers_none : {X : Type 0} (shown : X → Named) (registers : List X) (i : ℕ) → length registers ≤ i
    → nonzero_lines (map shown (drop i registers)) ≡ []
unfolding nonzero_lines
registers_none shown registers i high = rw (drop_of_length-le registers high) refl

-- its consoles
pub consoles_next : (console : ℕ → List ℕ) (devs : List Dev) (i : ℕ) (dev : Dev) → i < length devs → dev ≡ get_or devs i dev
    → consoles_text console (drop i devs) ≡ console_text console dev ++ consoles_text console (drop (i + 1) devs)
unfolding consoles_text
consoles_next console devs i dev low at =
    rw add-one (ap (consoles_text console) (drop-cons devs i dev low)
    ∙ ap (λ d. console_text console d ++ consoles_text console (drop (suc i) devs)) (sym at))

pub consoles_none : (console : ℕ → List ℕ) (devs : List Dev) (i : ℕ) → length devs ≤ i → consoles_text console (drop i devs) ≡ []
unfolding consoles_text
consoles_none console devs i high = rw (drop_of_length-le devs high) refl

-- the VMs
pub sections_next : (cfg : ConfigData) (f : Flat) (vms : List Vm) (i : ℕ) (vm : Vm) → i < length vms → vm ≡ get_or vms i vm
    → sections cfg f (map vm_data (drop i vms)) ≡ vm_text cfg f (vm_data vm) ++ sections cfg f (map vm_data (drop (i + 1) vms))
unfolding sections
sections_next cfg f vms i vm low at =
    rw add-one (ap (λ v. sections cfg f (map vm_data v)) (drop-cons vms i vm low)
    ∙ ap (λ v. vm_text cfg f (vm_data v) ++ sections cfg f (map vm_data (drop (suc i) vms))) (sym at))

pub sections_none : (cfg : ConfigData) (f : Flat) (vms : List Vm) (i : ℕ) → length vms ≤ i → sections cfg f (map vm_data (drop i vms)) ≡ []
unfolding sections
sections_none cfg f vms i high = rw (drop_of_length-le vms high) refl

-- the lines of the VMs in a summary
pub summaries_next : (line : VmData → List ℕ) (vms : List Vm) (i : ℕ) (vm : Vm) → i < length vms → vm ≡ get_or vms i vm
    → flat_map line (map vm_data (drop i vms)) ≡ line (vm_data vm) ++ flat_map line (map vm_data (drop (i + 1) vms))
summaries_next line vms i vm low at =
    rw add-one (ap (λ v. flat_map line (map vm_data v)) (drop-cons vms i vm low)
    ∙ ap (λ v. line (vm_data v) ++ flat_map line (map vm_data (drop (suc i) vms))) (sym at))

pub summaries_none : (line : VmData → List ℕ) (vms : List Vm) (i : ℕ) → length vms ≤ i → flat_map line (map vm_data (drop i vms)) ≡ []
summaries_none line vms i high = rw (drop_of_length-le vms high) refl

-- the packings of the cores
abbrev pub entries_of : Plan → List Region
entries_of plan = plan.entries.items

pub packed_next : (cfg : ConfigData) (plans : List Plan) (core : ℕ) (plan : Plan) → core < length plans → plan ≡ get_or plans core plan
    → cores_packed cfg core (map entries_of (drop core plans))
    ≡ packed_text cfg core plan.entries.items ++ cores_packed cfg (core + 1) (map entries_of (drop (core + 1) plans))
unfolding cores_packed
packed_next cfg plans core plan low at =
    let next : suc core ≡ core + 1 = omega arith in
    ap (λ p. cores_packed cfg core (map entries_of p)) (drop-cons plans core plan low)
    ∙ ap (λ p. packed_text cfg core (entries_of p) ++ cores_packed cfg (core + 1) (map entries_of (drop (suc core) plans))) (sym at)
    ∙ ap (λ n. packed_text cfg core plan.entries.items ++ cores_packed cfg (core + 1) (map entries_of (drop n plans))) next

pub packed_none : (cfg : ConfigData) (plans : List Plan) (core : ℕ) → length plans ≤ core
    → cores_packed cfg core (map entries_of (drop core plans)) ≡ []
unfolding cores_packed
packed_none cfg plans core high = rw (drop_of_length-le plans high) refl

-- the entries of a core
pub entries_next : (entries : List Region) (i : ℕ) (entry : Region) → i < length entries → entry ≡ get_or entries i entry
    → entries_text i (drop i entries) ≡ entry_line i entry ++ entries_text (i + 1) (drop (i + 1) entries)
unfolding entries_text
entries_next entries i entry low at =
    let next : suc i ≡ i + 1 = omega arith in
    ap (entries_text i) (drop-cons entries i entry low)
    ∙ ap (λ e. entry_line i e ++ entries_text (i + 1) (drop (suc i) entries)) (sym at)
    ∙ ap (λ n. entry_line i entry ++ entries_text (i + 1) (drop n entries)) next

pub entries_none : (entries : List Region) (i : ℕ) → length entries ≤ i → entries_text i (drop i entries) ≡ []
unfolding entries_text
entries_none entries i high = rw (drop_of_length-le entries high) refl

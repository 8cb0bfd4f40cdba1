-- What a core's acknowledgement takes of the raised lines: its timer's line, or that of a port of its VM.
use Rattle.std.proofs.Common.{◌≡◌, ℕ, zero, suc, ◌<◌, ◌≤◌, ◌==◌, Bool, true, false, ◌&&◌, not, cond, List, [], ◌∷◌, map, filter, find, length, get_or, set, slice_get, Option, Some, None, is_some, refl, sym, ap, subst, ◌∙◌, arith}
use Rattle.std.specs.Prelude.{IsTrue, ◌||◌, if◌then◌else◌, slice_index_or, option_and_then, IfSome}
use Rattle.std.specs.Int.{bit_at}
use Rattle.std.specs.List.{list_any}
use Rattle.std.specs.Option.{option_map}
use Rattle.std.proofs.lemmas.Bool.{and_from, and_left, and_parts, and_right, both_ways, eq-eqb, eqb-true, or_from}
use Rattle.std.proofs.lemmas.Bool.Decides.{nat_tests}
use Rattle.std.proofs.lemmas.List.{get_or-set_other}
use Rattle.std.proofs.lemmas.List.Folds.{list_any-append, list_any_at}
use Rattle.gic_core.specs.declared.port_line.PortLine.{PortLine}
use Rattle.gic_core.specs.Least.{IsLeast}
use Rattle.gic_core.specs.Lines.{LinesData, after_ack, least_raised, raised_intids, raised_ppis, raised_spis}
use Rattle.gic_core.specs.PortLine.{acknowledged_by, is_raised_for, quiet_line, reaches}
use Rattle.gic_core.proofs.LeastLemmas.{least_is_least}
use Rattle.gic_core.proofs.LinesLemmas.{length-raised_intids-without_intid}
use Rattle.bao_config.specs.declared.config.Dev.{Dev}
use Rattle.bao_config.specs.declared.config.PortPlace.{PortPlace}
use Rattle.bao_config.specs.Data.{ConfigData, VmData}
use Rattle.bao_config.specs.Fits.{ConfigFits, DevFits, PortFits, VmFits}
use Rattle.bao_wellformed.specs.Laws.{IsVm}
use Rattle.bao_wellformed.specs.Map.{has_core, has_port}
use Rattle.bao_wellformed.specs.WellFormed.{IsWellFormed}
use Rattle.bao_wellformed.proofs.Empty.{any_got, left_empty, map_empty, none_passes, right_empty}
use Rattle.bao_wellformed.proofs.Fits.{found_fits, got_fits}
use Rattle.bao_wellformed.proofs.Once.{ids_once, spis_once}
use Rattle.board.specs.Interrupts.{is_raised}
use Rattle.vm_model.specs.Interrupts.{RaisedLines, irq_of_port, is_line_at, stands_at, timer_irq}
use Rattle.vm_model.specs.Project.{is_port_raised}
use Rattle.vm_model.proofs.Lists.{found_got}
use Rattle.hypervisor.specs.Seat.{irq_of_line}
use Rattle.hypervisor.specs.Shape.{core_mask, port_spot}
use Rattle.hypervisor.specs.Tidy.{quieted}
use Rattle.hypervisor.proofs.Raised.{AreLinesOf, got_any, is_timer_raised}
use Rattle.hypervisor.proofs.RaisedMasks.{found_none, mask_given, none_found, same_tests}

-- which lines of a board are raised, as a core sees them
abbrev pub board_lines : LinesData → ℕ → RaisedLines
board_lines lines core = record { timer = is_timer_raised lines core; ports = is_port_raised lines.ports }

-- the port of the platform to which a line belongs
record IsLineOf (cfg : ConfigData) (ports : List PortPlace) (k : ℕ) (line : PortLine) : Type 0 where
  port : PortPlace
  at : slice_get ports k ≡ Some port
  id : line.port ≡ port.id
  spi : line.spi ≡ port.spi
  cores : line.cores ≡ core_mask (find (has_port line.port) cfg.vms)

line_of_place : (cfg : ConfigData) (ports : List PortPlace) (lines : List PortLine) → AreLinesOf cfg ports lines → (k : ℕ) (line : PortLine)
    → slice_get lines k ≡ Some line → IsLineOf cfg ports k line
line_of_place cfg ports [] same k line got = cc
line_of_place cfg [] (one ∷ lines) same k line got = cc
line_of_place cfg (port ∷ ports) (one ∷ lines) same zero line got =
    let first : quieted one ≡ quiet_line (port_spot cfg port) = cc in
    let this : one ≡ line = cc in
    let id : line.port ≡ port.id = ap (λ (l : PortLine). l.port) (sym this) ∙ ap (λ (l : PortLine). l.port) first in
    record {
      port = port;
      at = refl;
      id = id;
      spi = ap (λ (l : PortLine). l.spi) (sym this) ∙ ap (λ (l : PortLine). l.spi) first;
      cores =
          ap (λ (l : PortLine). l.cores) (sym this) ∙ ap (λ (l : PortLine). l.cores) first
          ∙ ap (λ other. core_mask (find (has_port other) cfg.vms)) (sym id);
    }
line_of_place cfg (port ∷ ports) (one ∷ lines) same (suc k) line got =
    let rest : map quieted lines ≡ map quiet_line (map (port_spot cfg) ports) = cc in
    let there = line_of_place cfg ports lines rest k line got in
    record { port = there.port; at = there.at; id = there.id; spi = there.spi; cores = there.cores }

-- the id of a port is none in a VM that isn't given it
irq_of_port-none : (vm : VmData) (port : ℕ) → has_port port vm ≡ false → irq_of_port vm port ≡ None
irq_of_port-none vm port none = ap (option_map (λ (dev : Dev). dev.irq)) (found_none (λ dev. dev.port == port) vm.devs none)

-- a test of one id apart from that of the others
one_less : (test : ℕ → Bool) (id : ℕ) (ports : List PortPlace)
    → list_any (λ port. test port.id) ports
    ≡ (list_any (λ port. test port.id && not (port.id == id)) ports || test id && list_any (λ port. port.id == id) ports)
one_less test id [] = none (test id)
  where
    none : (a : Bool) → false ≡ (a && false)
    none true = refl
    none false = refl
one_less test id (port ∷ ports) =
    ap (λ rest. test port.id || rest) (one_less test id ports)
    ∙ one (test port.id) (port.id == id) _ (test id) _ (by_place (port.id == id) refl)
  where
    by_place : (here : Bool) → (port.id == id) ≡ here → (test port.id && here) ≡ (test id && here)
    by_place true e = ap (λ other. test other && true) (eqb-true port.id id e)
    by_place false e = none (test port.id) (test id)
      where
        none : (a b : Bool) → (a && false) ≡ (b && false)
        none true true = refl
        none true false = refl
        none false true = refl
        none false false = refl

    one : (this here rest that later : Bool) → (this && here) ≡ (that && here)
        → (this || (rest || that && later)) ≡ ((this && not here || rest) || that && (here || later))
    one this here rest that later e = grind arith

-- what of raised lines stands at a place, and of those without one port's
ports_less : (cfg : ConfigData) (vm : VmData) (number at id : ℕ) (timer : Bool) (was after : ℕ → Bool)
    → was id ≡ true → list_any (λ port. port.id == id) cfg.platform.ports ≡ true → ((other : ℕ) → after other ≡ (was other && not (other == id)))
    → is_line_at cfg (Some vm) number (record { timer = timer; ports = was }) at
    ≡ (is_line_at cfg (Some vm) number (record { timer = timer; ports = after }) at || stands_at number (irq_of_port vm id) at)
ports_less cfg vm number at id timer was after up there less =
    ap (λ rest. timer && stands_at number (Some timer_irq) at || rest)
    (one_less (λ port. was port && stands_at number (irq_of_port vm port) at) id cfg.platform.ports)
    ∙ arranged (timer && stands_at number (Some timer_irq) at) _ (was id) (stands_at number (irq_of_port vm id) at) _ up there
    ∙ ap (λ (test : ℕ → Bool). (timer && stands_at number (Some timer_irq) at || list_any (λ (port : PortPlace). test port.id) cfg.platform.ports)
    || stands_at number (irq_of_port vm id) at)
    (λ i port. swapped port i)
  where
    arranged : (a rest b c d : Bool) → b ≡ true → d ≡ true → (a || (rest || (b && c) && d)) ≡ ((a || rest) || c)
    arranged a rest b c d e f = grind arith

    moved : (a b c : Bool) → ((a && b) && c) ≡ ((a && c) && b)
    moved a b c = grind arith

    swapped : (port : ℕ)
        → ((was port && stands_at number (irq_of_port vm port) at) && not (port == id)) ≡ (after port && stands_at number (irq_of_port vm port) at)
    swapped port =
        moved (was port) (stands_at number (irq_of_port vm port) at) (not (port == id))
        ∙ ap (λ up. up && stands_at number (irq_of_port vm port) at) (sym (less port))

-- no id stands at a place for a VM, none of whose lines is raised
nothing_at : (cfg : ConfigData) (vm : VmData) (number : ℕ) (timer : Bool) (raised : ℕ → Bool) → timer ≡ false
    → ((port : ℕ) → IsTrue (has_port port vm) → raised port ≡ false) → (at : ℕ)
    → is_line_at cfg (Some vm) number (record { timer = timer; ports = raised }) at ≡ false
nothing_at cfg vm number timer raised down quiet at =
    ap (λ up. up && stands_at number (Some timer_irq) at || list_any (λ port. raised port.id && stands_at number (irq_of_port vm port.id) at) cfg.platform.ports) down
    ∙ nowhere cfg.platform.ports
  where
    by_given : (port : ℕ) (given : Bool) → has_port port vm ≡ given → (raised port && stands_at number (irq_of_port vm port) at) ≡ false
    by_given port true e = and_left _ _ (quiet port e)
    by_given port false e = and_right _ _ (ap (λ irq. stands_at number irq at) (irq_of_port-none vm port e))

    nowhere : (ports : List PortPlace) → list_any (λ port. raised port.id && stands_at number (irq_of_port vm port.id) at) ports ≡ false
    nowhere [] = refl
    nowhere (port ∷ ports) =
        ap (λ b. b || list_any (λ port. raised port.id && stands_at number (irq_of_port vm port.id) at) ports)
        (by_given port.id (has_port port.id vm) refl)
        ∙ nowhere ports

none_of : (o : Option ℕ) → is_some o ≡ false → o ≡ None
none_of None none = refl
none_of (Some x) none = cc

left_false : (a b : Bool) → (a && b) ≡ false → b ≡ true → a ≡ false
left_false true b none passes = absurd (both_ways b none passes)
left_false false b none passes = refl

-- the timer's number, where its line is raised
abbrev timer_id : Bool → List ℕ
timer_id up = if up then timer_irq ∷ [] else []

-- the id of a raised line, by whether it is the timer's
abbrev irq_by : ConfigData → VmData → ℕ → Bool → Option ℕ
irq_by cfg vm intid timer =
    if timer then Some timer_irq
    else option_and_then (λ (port : PortPlace). irq_of_port vm port.id) (find (λ port. port.spi == intid) cfg.platform.ports)

-- no line of a VM is raised for its core
pub record IsQuiet (cfg : ConfigData) (vm : VmData) (core : ℕ) (lines : LinesData) : Type 0 where
  pub timer : is_timer_raised lines core ≡ false
  pub ports : (port : ℕ) → IsTrue (has_port port vm) → is_port_raised lines.ports port ≡ false
  pub at : (number at : ℕ) → is_line_at cfg (Some vm) number (board_lines lines core) at ≡ false

-- The core has taken its timer's line. The ports' lines stay.
pub record IsTimerTaken (core : ℕ) (lines after : LinesData) : Type 0 where
  pub was : IsTrue (is_timer_raised lines core)
  pub timers : (other : ℕ) → is_timer_raised after other ≡ (is_timer_raised lines other && not (other == core))
  pub ports : after.ports ≡ lines.ports

-- The core has taken the line of a port of its VM. The timers' lines stay.
pub record IsPortTaken (cfg : ConfigData) (vm : VmData) (intid : ℕ) (lines after : LinesData) : Type 0 where
  pub place : ℕ
  pub port : PortPlace
  pub at : slice_get cfg.platform.ports place ≡ Some port
  pub spi : port.spi ≡ intid
  pub given : IsTrue (has_port port.id vm)
  pub was : IsTrue (is_port_raised lines.ports port.id)
  pub ports : (other : ℕ) → is_port_raised after.ports other ≡ (is_port_raised lines.ports other && not (other == port.id))
  pub timers : after.ppis ≡ lines.ppis

-- The core has taken a line. What is pending of its lines together is as before, once the line's id is, wherever that stands;
-- the lines that it leaves to other cores are as before; and there are fewer for it.
pub record IsTaken (cfg : ConfigData) (vm : VmData) (core intid : ℕ) (lines after : LinesData) : Type 0 where
  pub at : (number at : ℕ)
      → is_line_at cfg (Some vm) number (board_lines lines core) at
      ≡ (is_line_at cfg (Some vm) number (board_lines after core) at
      || stands_at number (irq_of_line cfg vm intid) at)
  pub timers : (other : ℕ) → (is_timer_raised after other && not (other == core)) ≡ (is_timer_raised lines other && not (other == core))
  pub ports : (port : ℕ)
      → (is_port_raised after.ports port && not (has_port port vm)) ≡ (is_port_raised lines.ports port && not (has_port port vm))
  pub fewer : length (raised_intids after core) < length (raised_intids lines core)

-- a number is among the interrupts of the lines that are raised for a core
any_spi : (ports : List PortLine) (core intid : ℕ)
    → list_any (λ number. number == intid) (raised_spis ports core) ≡ list_any (λ line. is_raised_for line core && line.spi == intid) ports
any_spi [] core intid = refl
any_spi (line ∷ ports) core intid =
    by_test (is_raised_for line core) (filter (λ other. is_raised_for other core) ports) (any_spi ports core intid)
  where
    by_test : {tail : Bool} (b : Bool) (rest : List PortLine) → list_any (λ number. number == intid) (map (λ other. other.spi) rest) ≡ tail
        → list_any (λ number. number == intid) (map (λ other. other.spi) (cond b (line ∷ rest) rest)) ≡ (b && line.spi == intid || tail)
    by_test true rest e = ap (λ later. line.spi == intid || later) e
    by_test false rest e = e

-- an acknowledgement of a number that no line has leaves the lines
none_acknowledged : (core intid : ℕ) (ports : List PortLine)
    → ((k : ℕ) (line : PortLine) → slice_get ports k ≡ Some line → (line.spi == intid) ≡ false) → map (acknowledged_by core intid) ports ≡ ports
none_acknowledged core intid [] other = refl
none_acknowledged core intid (line ∷ ports) other =
    (λ t. first t ∷ none_acknowledged core intid ports (λ k. other (suc k)) t)
  where
    kept : (was : Bool) → (was && true) ≡ was
    kept true = refl
    kept false = refl

    first : acknowledged_by core intid line ≡ line
    first =
        ap (λ it. record line { raised = line.raised && not (it && reaches line core) }) (other 0 line refl)
        ∙ ap (λ up. record line { raised = up }) (kept line.raised)

-- one of the number of one line lowers this one alone
one_acknowledged : (core intid id : ℕ) (ports : List PortLine)
    → ((k : ℕ) (line : PortLine) → slice_get ports k ≡ Some line → (line.spi == intid && reaches line core) ≡ (line.port == id))
    → (port : ℕ) → is_port_raised (map (acknowledged_by core intid) ports) port ≡ (is_port_raised ports port && not (port == id))
one_acknowledged core intid id [] it port = refl
one_acknowledged core intid id (line ∷ ports) it port =
    ap (λ this. line.port == port && (line.raised && not this) || is_port_raised (map (acknowledged_by core intid) ports) port) (it 0 line refl)
    ∙ ap (λ rest. line.port == port && (line.raised && not (line.port == id)) || rest) (one_acknowledged core intid id ports (λ k. it (suc k)) port)
    ∙ one (line.port == port) line.raised (line.port == id) (is_port_raised ports port) (port == id) (same_port line.port port id)
  where
    same_port : (a b c : ℕ) → (a == b && a == c) ≡ (a == b && b == c)
    same_port a b c = grind (arith, nat_tests)

    one : (at was this rest taken : Bool) → (at && this) ≡ (at && taken)
        → (at && (was && not this) || rest && not taken) ≡ ((at && was || rest) && not taken)
    one at was this rest taken e = grind arith

-- a flag that is cleared
cleared : (flags : List Bool) (i : ℕ) → get_or (set flags i false) i false ≡ false
cleared [] i = refl
cleared (flag ∷ flags) zero = refl
cleared (flag ∷ flags) (suc i) = cleared flags i

flag_cleared : (flags : List Bool) (i j : ℕ) → get_or (set flags i false) j false ≡ (get_or flags j false && not (j == i))
flag_cleared flags i j = by_place (j == i) refl
  where
    none : (was : Bool) → false ≡ (was && false)
    none true = refl
    none false = refl

    all : (was : Bool) → was ≡ (was && true)
    all true = refl
    all false = refl

    by_place : (here : Bool) → (j == i) ≡ here → get_or (set flags i false) j false ≡ (get_or flags j false && not here)
    by_place true e = ap (λ k. get_or (set flags i false) k false) (eqb-true j i e) ∙ cleared flags i ∙ none (get_or flags j false)
    by_place false e = get_or-set_other flags i j false false (λ same. both_ways (j == i) e (eq-eqb j i same)) ∙ all (get_or flags j false)

module _ (cfg : ConfigData) (well_formed : IsWellFormed cfg) (v core : ℕ) (vm : VmData) (place : IsVm cfg v vm) (has : IsTrue (has_core core vm))
    (lines : LinesData) (same : AreLinesOf cfg cfg.platform.ports lines.ports) where
  of_place : (k : ℕ) (line : PortLine) → slice_get lines.ports k ≡ Some line → IsLineOf cfg cfg.platform.ports k line
  of_place = line_of_place cfg cfg.platform.ports lines.ports same

  -- a line reaches a core exactly where the core's VM is given its port
  pub reaches_given : (k : ℕ) (line : PortLine) → slice_get lines.ports k ≡ Some line → reaches line core ≡ has_port line.port vm
  reaches_given k line got =
      ap (λ mask. bit_at mask core == 1) (of_place k line got).cores ∙ mask_given cfg well_formed v core vm place has line.port

  -- where nothing is raised for a core, no line of its VM is
  pub quiet_lines_of : is_raised lines core ≡ false → IsQuiet cfg vm core lines
  quiet_lines_of quiet = record { timer = timer; ports = ports; at = λ number. nothing_at cfg vm number _ _ timer ports }
    where
      nothing : raised_intids lines core ≡ []
      nothing =
          subst (λ answer. IsLeast answer (raised_intids lines core)) (none_of (least_raised lines core) quiet)
          (least_is_least (raised_intids lines core))

      down : (up : Bool) → timer_id up ≡ [] → up ≡ false
      down true e = cc
      down false e = refl

      timer : is_timer_raised lines core ≡ false
      timer = down (is_timer_raised lines core) (left_empty (raised_ppis lines core) (raised_spis lines.ports core) nothing)

      no_line : (k : ℕ) (line : PortLine) → slice_get lines.ports k ≡ Some line → is_raised_for line core ≡ false
      no_line =
          none_passes (λ line. is_raised_for line core) lines.ports
          (map_empty (λ (line : PortLine). line.spi) _ (right_empty (raised_ppis lines core) (raised_spis lines.ports core) nothing))

      ports : (port : ℕ) → IsTrue (has_port port vm) → is_port_raised lines.ports port ≡ false
      ports port given = none_raised lines.ports no_line reaches_given
        where
          here : (line : PortLine) → is_raised_for line core ≡ false → reaches line core ≡ has_port line.port vm → (this : Bool)
              → (line.port == port) ≡ this → (this && line.raised) ≡ false
          here line none reached true e =
              left_false line.raised (reaches line core) none (reached ∙ ap (λ other. has_port other vm) (eqb-true line.port port e) ∙ given)
          here line none reached false e = refl

          none_raised : (ports : List PortLine)
              → ((k : ℕ) (line : PortLine) → slice_get ports k ≡ Some line → is_raised_for line core ≡ false)
              → ((k : ℕ) (line : PortLine) → slice_get ports k ≡ Some line → reaches line core ≡ has_port line.port vm)
              → is_port_raised ports port ≡ false
          none_raised [] none reached = refl
          none_raised (line ∷ ports) none reached =
              or_from _ _ (here line (none 0 line refl) (reached 0 line refl) (line.port == port) refl)
              (none_raised ports (λ k. none (suc k)) (λ k. reached (suc k)))

  module _ (fits : ConfigFits cfg) (intid : ℕ) (is : least_raised lines core ≡ Some intid) where
    abbrev after : LinesData
    after = after_ack lines core (Some intid)

    -- the number is that of the core's timer, whose line is raised, or of a line that is raised for the core
    among : (list_any (λ number. number == intid) (raised_ppis lines core)
        || list_any (λ line. is_raised_for line core && line.spi == intid) lines.ports) ≡ true
    among =
        let first : IsLeast (Some intid) (raised_intids lines core) =
        subst (λ answer. IsLeast answer (raised_intids lines core)) is (least_is_least (raised_intids lines core)) in
        sym (ap (λ later. list_any (λ number. number == intid) (raised_ppis lines core) || later) (any_spi lines.ports core intid))
        ∙ sym (list_any-append (λ number. number == intid) (raised_ppis lines core) (raised_spis lines.ports core))
        ∙ list_any_at (λ number. number == intid) (raised_intids lines core) first.0.0 intid first.0.1 (eq-eqb _ intid first.0.2)

    shared : (k : ℕ) (line : PortLine) → slice_get lines.ports k ≡ Some line → 32 ≤ line.spi
    shared k line got =
        let of = of_place k line got in
        let fit : PortFits of.port = subst (λ o. IfSome o PortFits) of.at (got_fits PortFits cfg.platform.ports k fits.platform.ports.each) in
        omega (arith, of.spi, fit.spi.least)

    -- the core takes its timer's line
    pub timer_taken : (intid == timer_irq) ≡ true → IsTimerTaken core lines after
    timer_taken timer = record {
      was = up (is_timer_raised lines core) (or_left_alone _ _ among no_spi);
      timers = λ other.
          ap (λ this. slice_index_or (if this then set lines.ppis core false else lines.ppis) other false) timer
          ∙ flag_cleared lines.ppis core other;
      ports = none_acknowledged core intid lines.ports other_spi;
    }
      where
        other_spi : (k : ℕ) (line : PortLine) → slice_get lines.ports k ≡ Some line → (line.spi == intid) ≡ false
        other_spi k line got = below line.spi intid (shared k line got) (eqb-true intid timer_irq timer)
          where
            below : (spi n : ℕ) → 32 ≤ spi → n ≡ 27 → (spi == n) ≡ false
            below spi n low e = grind (arith, nat_tests)

        no_spi : list_any (λ line. is_raised_for line core && line.spi == intid) lines.ports ≡ false
        no_spi = nowhere lines.ports other_spi
          where
            nowhere : (ports : List PortLine) → ((k : ℕ) (line : PortLine) → slice_get ports k ≡ Some line → (line.spi == intid) ≡ false)
                → list_any (λ line. is_raised_for line core && line.spi == intid) ports ≡ false
            nowhere [] other = refl
            nowhere (line ∷ ports) other = or_from _ _ (and_right _ _ (other 0 line refl)) (nowhere ports (λ k. other (suc k)))

        or_left_alone : (a b : Bool) → (a || b) ≡ true → b ≡ false → a ≡ true
        or_left_alone true b one none = refl
        or_left_alone false b one none = absurd (both_ways b none one)

        up : (was : Bool) → list_any (λ number. number == intid) (timer_id was) ≡ true → was ≡ true
        up true e = refl
        up false e = cc

    -- the core takes the line of a port of its VM
    pub port_taken : (intid == timer_irq) ≡ false → IsPortTaken cfg vm intid lines after
    port_taken other = by_line (any_got (λ line. is_raised_for line core && line.spi == intid) lines.ports (or_right_alone _ _ among no_timer))
      where
        or_right_alone : (a b : Bool) → (a || b) ≡ true → a ≡ false → b ≡ true
        or_right_alone true b one none = cc
        or_right_alone false b one none = one

        turned : (a b : ℕ) → (a == b) ≡ (b == a)
        turned a b = grind (arith, nat_tests)

        no_timer : list_any (λ number. number == intid) (raised_ppis lines core) ≡ false
        no_timer = by_test (is_timer_raised lines core)
          where
            by_test : (up : Bool) → list_any (λ number. number == intid) (timer_id up) ≡ false
            by_test true = or_from _ _ (turned 27 intid ∙ other) refl
            by_test false = refl

        by_line : (k : ℕ) × (line : PortLine) × (slice_get lines.ports k ≡ Some line) × ((is_raised_for line core && line.spi == intid) ≡ true)
            → IsPortTaken cfg vm intid lines after
        by_line (k, line, got, passes) = record {
          place = k;
          port = of.port;
          at = of.at;
          spi = spi;
          given = given;
          was = got_any (λ one. one.port == of.port.id && one.raised) lines.ports k line got (and_from _ _ (eq-eqb line.port of.port.id of.id) raised.0);
          ports = one_acknowledged core intid of.port.id lines.ports this;
          timers = ap (λ timer. if timer then set lines.ppis core false else lines.ppis) other;
        }
          where
            of : IsLineOf cfg cfg.platform.ports k line
            of = of_place k line got

            parts : (is_raised_for line core ≡ true) × ((line.spi == intid) ≡ true)
            parts = and_parts _ _ passes

            raised : (line.raised ≡ true) × (reaches line core ≡ true)
            raised = and_parts _ _ parts.0

            spi : of.port.spi ≡ intid
            spi = sym of.spi ∙ eqb-true line.spi intid parts.1

            given : IsTrue (has_port of.port.id vm)
            given = ap (λ port. has_port port vm) (sym of.id) ∙ sym (reaches_given k line got) ∙ raised.1

            this : (j : ℕ) (one : PortLine) → slice_get lines.ports j ≡ Some one → (one.spi == intid && reaches one core) ≡ (one.port == of.port.id)
            this j one there = same_tests _ _ by_spi by_id
              where
                its : IsLineOf cfg cfg.platform.ports j one
                its = of_place j one there

                same_port : j ≡ k → its.port ≡ of.port
                same_port e =
                    let both : Some its.port ≡ Some of.port = sym its.at ∙ ap (slice_get cfg.platform.ports) e ∙ of.at in cc

                by_spi : (one.spi == intid && reaches one core) ≡ true → (one.port == of.port.id) ≡ true
                by_spi both =
                    let e : its.port.spi ≡ of.port.spi = sym its.spi ∙ eqb-true one.spi intid (and_parts _ _ both).0 ∙ sym spi in
                    eq-eqb one.port of.port.id
                    (its.id ∙ ap (λ (p : PortPlace). p.id) (same_port (spis_once cfg well_formed j k its.port of.port its.at of.at e)))

                by_id : (one.port == of.port.id) ≡ true → (one.spi == intid && reaches one core) ≡ true
                by_id equal =
                    let e : one.port ≡ of.port.id = eqb-true one.port of.port.id equal in
                    let p : its.port ≡ of.port = same_port (ids_once cfg well_formed j k its.port of.port its.at of.at (sym its.id ∙ e)) in
                    and_from _ _ (eq-eqb one.spi intid (its.spi ∙ ap (λ (q : PortPlace). q.spi) p ∙ spi))
                    (reaches_given j one there ∙ ap (λ port. has_port port vm) e ∙ given)

    -- the id of a port's line is that of the port
    irq_of_taken : (intid == timer_irq) ≡ false → (taken : IsPortTaken cfg vm intid lines after) → irq_of_line cfg vm intid ≡ irq_of_port vm taken.port.id
    irq_of_taken other taken =
        ap (irq_by cfg vm intid) other
        ∙ ap (option_and_then (λ (port : PortPlace). irq_of_port vm port.id)) (by_found (find (λ port. port.spi == intid) cfg.platform.ports) refl)
      where
        by_found : (found : Option PortPlace) → find (λ port. port.spi == intid) cfg.platform.ports ≡ found → found ≡ Some taken.port
        by_found None e =
            absurd (both_ways (taken.port.spi == intid) (none_found (λ (port : PortPlace). port.spi == intid) cfg.platform.ports e taken.place taken.port taken.at)
            (eq-eqb taken.port.spi intid taken.spi))
        by_found (Some port) e =
            let got = found_got (λ (port : PortPlace). port.spi == intid) cfg.platform.ports port e in
            let place = spis_once cfg well_formed got.0 taken.place port taken.port got.1 taken.at (eqb-true port.spi intid got.2 ∙ sym taken.spi) in
            sym got.1 ∙ ap (slice_get cfg.platform.ports) place ∙ taken.at

    -- the core takes a line
    pub line_taken : IsTaken cfg vm core intid lines after
    line_taken = by_test (intid == timer_irq) refl
      where
        fewer : length (raised_intids after core) < length (raised_intids lines core)
        fewer = length-raised_intids-without_intid lines core intid is

        by_test : (timer : Bool) → (intid == timer_irq) ≡ timer → IsTaken cfg vm core intid lines after
        by_test true timer = of_timer (timer_taken timer)
          where
            none : (a : Bool) → (a && false) ≡ false
            none true = refl
            none false = refl

            gone : (was here : Bool) → (was && not here && not here) ≡ (was && not here)
            gone true true = refl
            gone true false = refl
            gone false here = refl

            more : (stands rest : Bool) → (stands || rest) ≡ (rest || stands)
            more true true = refl
            more true false = refl
            more false true = refl
            more false false = refl

            of_timer : IsTimerTaken core lines after → IsTaken cfg vm core intid lines after
            of_timer taken = record {
              at = λ number at.
                  ap (λ up. up && stands_at number (Some timer_irq) at || its_ports number at lines) taken.was
                  ∙ more (stands_at number (Some timer_irq) at) (its_ports number at lines)
                  ∙ sym (ap (λ rest. rest || stands_at number (irq_of_line cfg vm intid) at)
                  (ap (λ up. up && stands_at number (Some timer_irq) at || its_ports number at after) down ∙ ap (ports_at number at) taken.ports)
                  ∙ ap (λ irq. its_ports number at lines || stands_at number irq at) its_irq);
              timers = λ other. ap (λ up. up && not (other == core)) (taken.timers other) ∙ gone (is_timer_raised lines other) (other == core);
              ports = λ port. ap (λ ports. is_port_raised ports port && not (has_port port vm)) taken.ports;
              fewer = fewer;
            }
              where
                ports_at : ℕ → ℕ → List PortLine → Bool
                ports_at number at ports = list_any (λ port. is_port_raised ports port.id && stands_at number (irq_of_port vm port.id) at) cfg.platform.ports

                its_ports : ℕ → ℕ → LinesData → Bool
                its_ports number at lines = ports_at number at lines.ports

                down : is_timer_raised after core ≡ false
                down = taken.timers core ∙ ap (λ here. is_timer_raised lines core && not here) (eq-eqb core core refl) ∙ none (is_timer_raised lines core)

                its_irq : irq_of_line cfg vm intid ≡ Some timer_irq
                its_irq = ap (irq_by cfg vm intid) timer
        by_test false other = of_port (port_taken other)
          where
            of_port : IsPortTaken cfg vm intid lines after → IsTaken cfg vm core intid lines after
            of_port taken = record {
              at = λ number at. port_at taken number at;
              timers = λ one. ap (λ ppis. slice_index_or ppis one false && not (one == core)) taken.timers;
              ports = λ port.
                  ap (λ up. up && not (has_port port vm)) (taken.ports port)
                  ∙ ours (is_port_raised lines.ports port) (port == taken.port.id) (has_port port vm)
                  (λ e. ap (λ one. has_port one vm) (eqb-true port taken.port.id e) ∙ taken.given);
              fewer = fewer;
            }
              where
                ours : (was this given : Bool) → (this ≡ true → given ≡ true) → (was && not this && not given) ≡ (was && not given)
                ours false this given e = refl
                ours true false given e = refl
                ours true true given e = ap not (sym (e refl))

                port_at : (taken : IsPortTaken cfg vm intid lines after) (number at : ℕ)
                    → is_line_at cfg (Some vm) number (board_lines lines core) at
                    ≡ (is_line_at cfg (Some vm) number (board_lines after core) at
                    || stands_at number (irq_of_line cfg vm intid) at)
                port_at taken number at =
                    ports_less cfg vm number at taken.port.id (is_timer_raised lines core) (is_port_raised lines.ports) (is_port_raised after.ports)
                    taken.was (got_any (λ one. one.id == taken.port.id) cfg.platform.ports taken.place taken.port taken.at (eq-eqb taken.port.id taken.port.id refl))
                    taken.ports
                    ∙ ap (λ ppis. is_line_at cfg (Some vm) number (record { timer = slice_index_or ppis core false; ports = is_port_raised after.ports }) at
                    || stands_at number (irq_of_port vm taken.port.id) at) (sym taken.timers)
                    ∙ ap (λ irq. is_line_at cfg (Some vm) number (board_lines after core) at || stands_at number irq at)
                    (sym (irq_of_taken other taken))

-- what is down where it is ours, and as before elsewhere, is as before without ours
settled : (now was here : Bool) → (here ≡ true → now ≡ false) → (now && not here) ≡ (was && not here) → now ≡ (was && not here)
settled true was true down e = absurd (both_ways true (down refl) refl)
settled false was true down e = e
settled true was false down e = e
settled false was false down e = e

-- Once a core has taken all of its lines, and left the others, the lines are those of before without its own.
module _ (cfg : ConfigData) (vm : VmData) (core : ℕ) (lines after : LinesData) (quiet : IsQuiet cfg vm core after) where
  pub all_timers_taken : ((other : ℕ) → (is_timer_raised after other && not (other == core)) ≡ (is_timer_raised lines other && not (other == core)))
      → (other : ℕ) → is_timer_raised after other ≡ (is_timer_raised lines other && not (other == core))
  all_timers_taken left other =
      settled (is_timer_raised after other) (is_timer_raised lines other) (other == core)
      (λ e. ap (is_timer_raised after) (eqb-true other core e) ∙ quiet.timer) (left other)

  pub all_ports_taken : ((port : ℕ)
      → (is_port_raised after.ports port && not (has_port port vm)) ≡ (is_port_raised lines.ports port && not (has_port port vm)))
      → (port : ℕ) → is_port_raised after.ports port ≡ (is_port_raised lines.ports port && not (has_port port vm))
  all_ports_taken left port =
      settled (is_port_raised after.ports port) (is_port_raised lines.ports port) (has_port port vm) (quiet.ports port) (left port)

-- a core at a place of a VM's list is one of its cores
pub has_core_at : (vm : VmData) (own core : ℕ) → slice_get vm.cores own ≡ Some core → IsTrue (has_core core vm)
has_core_at vm own core at = got_any (λ one. one == core) vm.cores own core at (eq-eqb core core refl)

-- what an id of a line is, by the bounds of a VM
module _ (vm : VmData) (fits : VmFits vm) where
  irq_of_port-bounds : (port id : ℕ) → irq_of_port vm port ≡ Some id → (32 ≤ id) × (id < 96)
  irq_of_port-bounds port id is = by_dev (find (λ dev. dev.port == port) vm.devs) (found_fits DevFits (λ dev. dev.port == port) vm.devs fits.devs.each) is
    where
      by_dev : (found : Option Dev) → IfSome found DevFits → option_map (λ (dev : Dev). dev.irq) found ≡ Some id → (32 ≤ id) × (id < 96)
      by_dev None fit is = cc
      by_dev (Some dev) fit is =
          let e : dev.irq ≡ id = cc in (omega (arith, e, fit.irq.least), omega (arith, e, fit.irq.most))

  module _ (cfg : ConfigData) (intid id : ℕ) (is : irq_of_line cfg vm intid ≡ Some id) where
    -- of a port's line
    pub irq_of_line-port : (intid == timer_irq) ≡ false → (32 ≤ id) × (id < 96)
    irq_of_line-port other =
        by_port (find (λ port. port.spi == intid) cfg.platform.ports)
        (sym (ap (irq_by cfg vm intid) other) ∙ is)
      where
        by_port : (found : Option PortPlace) → option_and_then (λ (port : PortPlace). irq_of_port vm port.id) found ≡ Some id → (32 ≤ id) × (id < 96)
        by_port None e = cc
        by_port (Some port) e = irq_of_port-bounds port.id id e

    -- of the timer's
    pub irq_of_line-timer : (intid == timer_irq) ≡ true → id ≡ timer_irq
    irq_of_line-timer timer =
        let e : Some timer_irq ≡ Some id =
        sym (ap (irq_by cfg vm intid) timer) ∙ is in
        cc

    -- of any
    pub irq_of_line-bound : id < 96
    irq_of_line-bound = by_test (intid == timer_irq) refl
      where
        by_test : (timer : Bool) → (intid == timer_irq) ≡ timer → id < 96
        by_test true timer = let e = irq_of_line-timer timer in omega (arith, e)
        by_test false other = (irq_of_line-port other).1

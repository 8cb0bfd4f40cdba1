-- Which lines are raised, on a board and in the model: what a timer, ports and an acknowledgement make of them.
use Rattle.std.proofs.Common.{◌≡◌, ℕ, zero, suc, ◌-◌, ◌<◌, ◌==◌, Bool, true, false, ◌&&◌, List, [], ◌∷◌, map, find, length, get_or, set, slice_get, Option, Some, None, refl, ap, ◌∙◌, arith}
use Rattle.std.specs.Prelude.{IsTrue, ◌||◌, if◌then◌else◌, slice_index_or}
use Rattle.std.specs.List.{list_any}
use Rattle.std.specs.Option.{option_map}
use Rattle.std.proofs.lemmas.Bool.{both_ways, eq-eqb, eqb-true, or_left, or_right}
use Rattle.std.proofs.lemmas.Bool.Decides.{nat_tests}
use Rattle.std.proofs.lemmas.List.{get_or-set_other, get_or-set_same, length-set}
use Rattle.bao_types.specs.ByteRange.{is_within}
use Rattle.bao_types.specs.Shape.{port_range}
use Rattle.a64_state.specs.Core.{CoreData}
use Rattle.generic_timer.specs.Timer.{rises}
use Rattle.ports.specs.Registers.{line_of_input}
use Rattle.gic_core.specs.declared.port_line.PortLine.{PortLine}
use Rattle.gic_core.specs.Lines.{LinesData, after_ack, with_port}
use Rattle.gic_core.specs.PortLine.{acknowledged_by, quiet_line, raised_by}
use Rattle.bao_config.specs.declared.config.PortPlace.{PortPlace}
use Rattle.bao_config.specs.Data.{ConfigData}
use Rattle.board.specs.Interrupts.{lines_accessed, lines_given, lines_timed, with_port_if}
use Rattle.board.specs.Ports.{PortAccess, PortByte, PortStates, ReadPort, WritePort, accessed, port_of, raises, raises_line}
use Rattle.board.specs.Reached.{ReachesPort}
use Rattle.board.specs.Stage.{Stage}
use Rattle.board.proofs.Reached.{AllTouched, weaker_touched}
use Rattle.vm_model.specs.Flat.{platform_places}
use Rattle.vm_model.specs.Project.{is_port_raised}
use Rattle.vm_model.proofs.Lists.{found_got}
use Rattle.hypervisor.specs.Shape.{port_spot}
use Rattle.hypervisor.specs.Tidy.{quieted}

-- whether the timer's line of a core is raised
abbrev pub is_timer_raised : LinesData → ℕ → Bool
is_timer_raised lines core = slice_index_or lines.ppis core false

-- a port has a line
abbrev pub has_line : List PortLine → ℕ → Bool
has_line lines port = list_any (λ line. line.port == port) lines

-- the lines are those of these ports of a configuration's platform
abbrev pub AreLinesOf : ConfigData → List PortPlace → List PortLine → Type 0
AreLinesOf cfg ports lines = map quieted lines ≡ map quiet_line (map (port_spot cfg) ports)

-- what passes at a place passes somewhere
pub got_any : {A : Type 0} (p : A → Bool) (xs : List A) (k : ℕ) (x : A) → slice_get xs k ≡ Some x → p x ≡ true → list_any p xs ≡ true
got_any p [] k x got e = cc
got_any p (y ∷ ys) zero x got e = let same : y ≡ x = cc in or_left (p y) (list_any p ys) (ap p same ∙ e)
got_any p (y ∷ ys) (suc k) x got e = or_right (p y) (list_any p ys) (got_any p ys k x got e)

-- one flag of a list is set
flag_set : (flags : List Bool) (i j : ℕ) (flag : Bool) → i < length flags
    → slice_index_or (set flags i flag) j false ≡ (if j == i then flag else slice_index_or flags j false)
flag_set flags i j flag low = by_place (j == i) refl
  where
    by_place : (here : Bool) → (j == i) ≡ here → get_or (set flags i flag) j false ≡ (if here then flag else get_or flags j false)
    by_place true e = ap (λ k. get_or (set flags i flag) k false) (eqb-true j i e) ∙ get_or-set_same flags i flag false low
    by_place false e = get_or-set_other flags i j flag false (λ same. both_ways (j == i) e (eq-eqb j i same))

module _ (lines : LinesData) (core : ℕ) (c : CoreData) (count : ℕ) where
  -- once a core's timer is looked at, its line is raised where it was or where the timer's level rises
  pub lines_timed-timer : core < length lines.ppis → (other : ℕ)
      → is_timer_raised (lines_timed lines core c count) other ≡ (is_timer_raised lines other || other == core && rises c.timer count)
  lines_timed-timer low other = by_test (rises c.timer count)
    where
      flagged : (here was : Bool) → (if here then true else was) ≡ (was || here && true)
      flagged true true = refl
      flagged true false = refl
      flagged false true = refl
      flagged false false = refl

      still : (here was : Bool) → was ≡ (was || here && false)
      still true true = refl
      still true false = refl
      still false true = refl
      still false false = refl

      by_test : (up : Bool) → is_timer_raised (if up then record lines { ppis = set lines.ppis core true } else lines) other
          ≡ (is_timer_raised lines other || other == core && up)
      by_test true = flag_set lines.ppis core other true low ∙ flagged (other == core) (is_timer_raised lines other)
      by_test false = still (other == core) (is_timer_raised lines other)

  -- the ports' lines stay
  pub lines_timed-ports : (lines_timed lines core c count).ports ≡ lines.ports
  lines_timed-ports = by_test (rises c.timer count)
    where
      by_test : (up : Bool) → (if up then record lines { ppis = set lines.ppis core true } else lines).ports ≡ lines.ports
      by_test true = refl
      by_test false = refl

  -- and so does the number of timers' lines
  pub lines_timed-length : length (lines_timed lines core c count).ppis ≡ length lines.ppis
  lines_timed-length = by_test (rises c.timer count)
    where
      by_test : (up : Bool) → length (if up then record lines { ppis = set lines.ppis core true } else lines).ppis ≡ length lines.ppis
      by_test true = length-set lines.ppis core true
      by_test false = refl

-- where the line of a port is raised, it is raised where it was, or where the port is this one, which has a line
raised_by-one : (port other : ℕ) (ports : List PortLine)
    → is_port_raised (map (raised_by port) ports) other ≡ (is_port_raised ports other || other == port && has_line ports port)
raised_by-one port other [] = nowhere (other == port)
  where
    nowhere : (here : Bool) → false ≡ (here && false)
    nowhere true = refl
    nowhere false = refl
raised_by-one port other (line ∷ ports) =
    ap (λ rest. line.port == other && (line.raised || line.port == port) || rest) (raised_by-one port other ports)
    ∙ one (line.port == other) line.raised (line.port == port) (is_port_raised ports other) (other == port) (has_line ports port)
    (same_port line.port other port)
  where
    same_port : (a b c : ℕ) → (a == b && a == c) ≡ (b == c && a == c)
    same_port a b c = grind (arith, nat_tests)

    one : (at was to rest here has : Bool) → (at && to) ≡ (here && to)
        → (at && (was || to) || (rest || here && has)) ≡ (at && was || rest || here && (to || has))
    one at was to rest here has e = grind arith

-- raising the line of a port leaves which ports have one
has_line-raised_by : (port other : ℕ) (ports : List PortLine) → has_line (map (raised_by port) ports) other ≡ has_line ports other
has_line-raised_by port other [] = refl
has_line-raised_by port other (line ∷ ports) = ap (λ rest. line.port == other || rest) (has_line-raised_by port other ports)

quieted-raised_by : (port : ℕ) (ports : List PortLine) → map quieted (map (raised_by port) ports) ≡ map quieted ports
quieted-raised_by port [] = refl
quieted-raised_by port (line ∷ ports) = ap (λ rest. quieted line ∷ rest) (quieted-raised_by port ports)

module _ (up : Bool) (port : ℕ) (lines : LinesData) where
  with_port_if-raised : IsTrue (has_line lines.ports port) → (other : ℕ)
      → is_port_raised (with_port_if up port lines).ports other ≡ (is_port_raised lines.ports other || other == port && up)
  with_port_if-raised has other = by_test up
    where
      still : (was here : Bool) → was ≡ (was || here && false)
      still true true = refl
      still true false = refl
      still false true = refl
      still false false = refl

      by_test : (up : Bool) → is_port_raised (if up then with_port lines port else lines).ports other
          ≡ (is_port_raised lines.ports other || other == port && up)
      by_test true = raised_by-one port other lines.ports ∙ ap (λ b. is_port_raised lines.ports other || other == port && b) has
      by_test false = still (is_port_raised lines.ports other) (other == port)

  with_port_if-has : (other : ℕ) → has_line (with_port_if up port lines).ports other ≡ has_line lines.ports other
  with_port_if-has other = by_test up
    where
      by_test : (up : Bool) → has_line (if up then with_port lines port else lines).ports other ≡ has_line lines.ports other
      by_test true = has_line-raised_by port other lines.ports
      by_test false = refl

  with_port_if-ppis : (with_port_if up port lines).ppis ≡ lines.ppis
  with_port_if-ppis = by_test up
    where
      by_test : (up : Bool) → (if up then with_port lines port else lines).ppis ≡ lines.ppis
      by_test true = refl
      by_test false = refl

  with_port_if-quieted : map quieted (with_port_if up port lines).ports ≡ map quieted lines.ports
  with_port_if-quieted = by_test up
    where
      by_test : (up : Bool) → map quieted (if up then with_port lines port else lines).ports ≡ map quieted lines.ports
      by_test true = quieted-raised_by port lines.ports
      by_test false = refl

-- after a port is given a byte, its line is raised where it was or where the byte raises it; all others stay
module _ (states : PortStates) (port : ℕ) (lines : LinesData) where
  pub lines_given-ports : IsTrue (has_line lines.ports port) → (other : ℕ)
      → is_port_raised (lines_given states port lines).ports other
      ≡ (is_port_raised lines.ports other || other == port && line_of_input (states port))
  lines_given-ports = with_port_if-raised (line_of_input (states port)) port lines

  pub lines_given-ppis : (lines_given states port lines).ppis ≡ lines.ppis
  lines_given-ppis = with_port_if-ppis (line_of_input (states port)) port lines

  pub lines_given-quieted : map quieted (lines_given states port lines).ports ≡ map quieted lines.ports
  lines_given-quieted = with_port_if-quieted (line_of_input (states port)) port lines

-- after accesses to ports that have lines, a line is raised where it was or where an access raises it
pub lines_accessed-ports : (accesses : List PortAccess) (states : PortStates) (lines : LinesData)
    → AllTouched (λ port. IsTrue (has_line lines.ports port)) accesses → (port : ℕ)
    → is_port_raised (lines_accessed accesses states lines).ports port ≡ (is_port_raised lines.ports port || raises_line accesses states port)
unfolding AllTouched
lines_accessed-ports [] states lines all port = still (is_port_raised lines.ports port)
  where
    still : (was : Bool) → was ≡ (was || false)
    still true = refl
    still false = refl
lines_accessed-ports (ReadPort touched offset width ∷ accesses) states lines all port =
    lines_accessed-ports accesses (accessed (ReadPort touched offset width) states) lines all.1 port
lines_accessed-ports (WritePort touched offset width value ∷ accesses) states lines all port =
    let access = WritePort touched offset width value in
    let up = raises access states in
    lines_accessed-ports accesses (accessed access states) (with_port_if up touched lines)
    (weaker_touched (λ other. IsTrue (has_line lines.ports other)) (λ other. IsTrue (has_line (with_port_if up touched lines).ports other))
    (λ other has. with_port_if-has up touched lines other ∙ has) accesses all.1) port
    ∙ ap (λ b. b || raises_line accesses (accessed access states) port) (with_port_if-raised up touched lines all.0 port)
    ∙ one (is_port_raised lines.ports port) up (raises_line accesses (accessed access states) port) (port == touched) (touched == port)
    (turned port touched)
  where
    turned : (a b : ℕ) → (a == b) ≡ (b == a)
    turned a b = grind (arith, nat_tests)

    one : (was up later here there : Bool) → here ≡ there → (was || here && up || later) ≡ (was || (up && there || later))
    one was up later here there e = grind arith

-- all else stays
pub lines_accessed-ppis : (accesses : List PortAccess) (states : PortStates) (lines : LinesData)
    → (lines_accessed accesses states lines).ppis ≡ lines.ppis
lines_accessed-ppis [] states lines = refl
lines_accessed-ppis (access ∷ accesses) states lines =
    lines_accessed-ppis accesses (accessed access states) (with_port_if (raises access states) (port_of access) lines)
    ∙ with_port_if-ppis (raises access states) (port_of access) lines

pub lines_accessed-quieted : (accesses : List PortAccess) (states : PortStates) (lines : LinesData)
    → map quieted (lines_accessed accesses states lines).ports ≡ map quieted lines.ports
lines_accessed-quieted [] states lines = refl
lines_accessed-quieted (access ∷ accesses) states lines =
    lines_accessed-quieted accesses (accessed access states) (with_port_if (raises access states) (port_of access) lines)
    ∙ with_port_if-quieted (raises access states) (port_of access) lines

-- the ports that have lines are those of the platform
module _ (cfg : ConfigData) where
  has_line-of : (ports : List PortPlace) (lines : List PortLine) → AreLinesOf cfg ports lines → (port : ℕ)
      → has_line lines port ≡ list_any (λ place. place.id == port) ports
  has_line-of [] [] same port = refl
  has_line-of [] (line ∷ lines) same port = cc
  has_line-of (place ∷ ports) [] same port = cc
  has_line-of (place ∷ ports) (line ∷ lines) same port =
      let first : quieted line ≡ quiet_line (port_spot cfg place) = cc in
      let rest : map quieted lines ≡ map quiet_line (map (port_spot cfg) ports) = cc in
      ap (λ (one : PortLine). one.port == port || has_line lines port) first
      ∙ ap (λ later. place.id == port || later) (has_line-of ports lines rest port)

  module _ (lines : List PortLine) (same : AreLinesOf cfg cfg.platform.ports lines) where
    pub has_line-platform : (port : ℕ) → has_line lines port ≡ list_any (λ place. place.id == port) cfg.platform.ports
    has_line-platform port = has_line-of cfg.platform.ports lines same port

    -- a port that a core reaches has a line
    pub reached_has_line : (stage : Stage) (port : ℕ) → ReachesPort stage (platform_places cfg) port → IsTrue (has_line lines port)
    reached_has_line stage port reached =
        has_line-platform port ∙ by_found (find (λ place. is_within (port_range place.base) reached.at) cfg.platform.ports) refl reached.place
      where
        by_found : (found : Option PortPlace) → find (λ place. is_within (port_range place.base) reached.at) cfg.platform.ports ≡ found
            → option_map {U = PortByte} (λ place. record { port = place.id; offset = reached.at - place.base }) found
            ≡ Some (record { port = port; offset = reached.offset })
            → list_any (λ place. place.id == port) cfg.platform.ports ≡ true
        by_found None e is = cc
        by_found (Some place) e is =
            let byte : PortByte = record { port = place.id; offset = reached.at - place.base } in
            let other : PortByte = record { port = port; offset = reached.offset } in
            let same_byte : byte ≡ other = cc in
            let got = found_got (λ one. is_within (port_range one.base) reached.at) cfg.platform.ports place e in
            got_any (λ one. one.id == port) cfg.platform.ports got.0 place got.1 (eq-eqb place.id port (ap (λ (b : PortByte). b.port) same_byte))

    -- so accesses of what a core reaches are of ports that have lines
    pub touched_have_lines : (stage : Stage) (accesses : List PortAccess) → AllTouched (ReachesPort stage (platform_places cfg)) accesses
        → AllTouched (λ port. IsTrue (has_line lines port)) accesses
    touched_have_lines stage =
        weaker_touched (ReachesPort stage (platform_places cfg)) (λ port. IsTrue (has_line lines port)) (reached_has_line stage)

-- an acknowledgement leaves which lines there are
pub quieted-acknowledged : (core intid : ℕ) (ports : List PortLine)
    → map quieted (map (acknowledged_by core intid) ports) ≡ map quieted ports
quieted-acknowledged core intid [] = refl
quieted-acknowledged core intid (line ∷ ports) = ap (λ rest. quieted line ∷ rest) (quieted-acknowledged core intid ports)

pub after_ack-quieted : (lines : LinesData) (core : ℕ) (taken : Option ℕ) → map quieted (after_ack lines core taken).ports ≡ map quieted lines.ports
after_ack-quieted lines core None = refl
after_ack-quieted lines core (Some intid) = quieted-acknowledged core intid lines.ports

pub after_ack-length : (lines : LinesData) (core : ℕ) (taken : Option ℕ) → length (after_ack lines core taken).ppis ≡ length lines.ppis
after_ack-length lines core None = refl
after_ack-length lines core (Some intid) = by_test (intid == 27)
  where
    by_test : (timer : Bool) → length (if timer then set lines.ppis core false else lines.ppis) ≡ length lines.ppis
    by_test true = length-set lines.ppis core false
    by_test false = refl

-- List registers that are all free: what they hold together with a table, and lines that are all quiet.
use Rattle.std.proofs.Common.{◌≡◌, ℕ, zero, suc, Bool, true, false, List, [], ◌∷◌, map, set, replicate, refl, ap, ◌∙◌}
use Rattle.std.specs.Prelude.{◌==◌, ◌&&◌, ◌||◌, slice_index_or}
use Rattle.bao_types.specs.ListReg.{ListRegData, free_registers, lists_at}
use Rattle.bao_types.specs.declared.shape.CorePlace.{CorePlace}
use Rattle.bao_types.specs.declared.shape.PortSpot.{PortSpot}
use Rattle.gic_core.specs.PortLine.{quiet_line}
use Rattle.vgic_table.specs.Interrupts.{Interrupts}
use Rattle.vgic_table.specs.Registers.{Tidy, joined}
use Rattle.vgic_table.specs.Cores.{AreTidy, joined_cores}
use Rattle.vgic_table.proofs.CoresLemmas.{free-tidy}
use Rattle.vm_model.specs.Project.{is_port_raised}
use Rattle.hypervisor.specs.Tidy.{quieted}

-- the list registers of a board that was just fitted with these cores
abbrev pub all_free : List CorePlace → List (List ListRegData)
all_free places = map (λ place. free_registers) places

-- a core that gives up free registers has them still
pub free_set : (places : List CorePlace) (core : ℕ) → set (all_free places) core free_registers ≡ all_free places
free_set [] core = refl
free_set (place ∷ places) zero = refl
free_set (place ∷ places) (suc core) = ap (λ rest. free_registers ∷ rest) (free_set places core)

-- the registers of one core hold nothing, and fit every table
free_at : (places : List CorePlace) (core : ℕ) (vm : Interrupts) (v : ℕ)
    → (joined vm v (lists_at (all_free places) core) ≡ vm) × Tidy vm v (lists_at (all_free places) core)
free_at [] core vm v = (refl, tt)
free_at (place ∷ places) zero vm v = (refl, free-tidy vm v)
free_at (place ∷ places) (suc core) vm v = free_at places core vm v

-- and so those of several cores
pub free_of : (places : List CorePlace) (cores : List ℕ) (first : ℕ) (vm : Interrupts)
    → (joined_cores first (map (λ core. lists_at (all_free places) core) cores) vm ≡ vm)
    × AreTidy first (map (λ core. lists_at (all_free places) core) cores) vm
free_of places [] first vm = (refl, tt)
free_of places (core ∷ cores) first vm =
    let rest = free_of places cores (suc first) vm in
    let here = free_at places core vm first in
    (ap (λ table. joined table first (lists_at (all_free places) core)) rest.0 ∙ here.0, (here.1, rest.1))

-- no timer's line is raised
pub quiet_timer : (count core : ℕ) → slice_index_or (replicate count false) core false ≡ false
quiet_timer zero core = refl
quiet_timer (suc count) zero = refl
quiet_timer (suc count) (suc core) = quiet_timer count core

-- nor a port's
not_this : (test rest : Bool) → rest ≡ false → ((test && false) || rest) ≡ false
not_this true rest none = none
not_this false rest none = none

pub quiet_port : (spots : List PortSpot) (port : ℕ) → is_port_raised (map quiet_line spots) port ≡ false
quiet_port [] port = refl
quiet_port (spot ∷ spots) port = not_this (spot.id == port) (is_port_raised (map quiet_line spots) port) (quiet_port spots port)

pub quiet_ports : (spots : List PortSpot) → map quieted (map quiet_line spots) ≡ map quiet_line spots
quiet_ports [] = refl
quiet_ports (spot ∷ spots) = ap (λ rest. quiet_line spot ∷ rest) (quiet_ports spots)

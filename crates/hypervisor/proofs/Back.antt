-- One core's list registers are back in its VM's table.
use Rattle.std.proofs.Common.{◌≡◌, ◌<◌, List, length, ap, sym, subst, ◌∙◌, arith}
use Rattle.std.specs.Prelude.{slice_set}
use Rattle.std.proofs.lemmas.List.{get_or-set_same, set-set}
use Rattle.bao_types.specs.ListReg.{ListRegData, free_registers, lists_at}
use Rattle.bao_config.specs.Data.{ConfigData}
use Rattle.bao_config.specs.Fits.{ConfigFits}
use Rattle.bao_wellformed.specs.WellFormed.{IsWellFormed}
use Rattle.board.specs.Machine.{Machine}
use Rattle.vgic_table.specs.Interrupts.{Interrupts, quiet_interrupts, tables_of}
use Rattle.vgic_table.proofs.FrameLemmas.{frame-joined}
use Rattle.vm_model.specs.Project.{joined_tables}
use Rattle.hypervisor.specs.Hyp.{HypData}
use Rattle.hypervisor.specs.Seat.{IsSeat, taken_back}
use Rattle.hypervisor.specs.declared.seat.Seat.{Seat}
use Rattle.hypervisor.specs.Tidy.{AreHeld, Tidy}
use Rattle.hypervisor.proofs.Moves.{Hold, collected}
use Rattle.hypervisor.proofs.Seats.{on_platform}

module _ (tables : List Interrupts) (lists : List (List ListRegData)) (seat : Seat) (there : seat.vm < length tables) where
  abbrev back : Interrupts
  back = taken_back tables lists seat

  table_is : tables_of (slice_set tables seat.vm back) seat.vm ≡ back
  table_is = get_or-set_same tables seat.vm back (quiet_interrupts 0) there

  -- the core is one of the VM's as before
  pub own_back : seat.own < (tables_of tables seat.vm).cores → seat.own < (tables_of (slice_set tables seat.vm back) seat.vm).cores
  own_back low =
      subst (λ (table : Interrupts). seat.own < table.cores) (sym table_is)
      (subst (λ n. seat.own < n) (sym (frame-joined (tables_of tables seat.vm) seat.own (lists_at lists seat.core)).cores) low)

  -- what changes the table then is a change of it with the registers
  pub changed_back : (change : Interrupts → Interrupts)
      → slice_set (slice_set tables seat.vm back) seat.vm (change (tables_of (slice_set tables seat.vm back) seat.vm))
      ≡ slice_set tables seat.vm (change back)
  changed_back change =
      ap (λ t. slice_set (slice_set tables seat.vm back) seat.vm (change t)) table_is ∙ set-set tables seat.vm back (change back)

-- tables and registers hold together what they held before
module _ (cfg : ConfigData) (well_formed : IsWellFormed cfg) (fits : ConfigFits cfg) (old new : HypData) (before after : Machine)
    (tidy : Tidy cfg old before) (seat : Seat) (is : IsSeat cfg seat)
    (tables : new.tables ≡ slice_set old.tables seat.vm (taken_back old.tables before.lists seat))
    (lists : after.lists ≡ slice_set before.lists seat.core free_registers) where
  abbrev back_tables : List Interrupts
  back_tables = slice_set old.tables seat.vm (taken_back old.tables before.lists seat)

  low : seat.core < length before.lists
  low = let on = on_platform cfg old before well_formed tidy seat is in let count = tidy.held.registers in omega (arith, on, count)

  holds : Hold cfg back_tables (slice_set before.lists seat.core free_registers) (joined_tables cfg before.lists (tables_of old.tables))
  holds = collected cfg well_formed fits seat.vm seat.own seat.core is.vm is.place is.core old.tables before.lists tidy.held low

  pub all_back : joined_tables cfg after.lists (tables_of new.tables) ≡ joined_tables cfg before.lists (tables_of old.tables)
  all_back =
      ap (λ ts. joined_tables cfg after.lists (tables_of ts)) tables
      ∙ ap (λ l. joined_tables cfg l (tables_of back_tables)) lists ∙ holds.all_is

  pub held_back : AreHeld cfg new.tables after.lists
  held_back =
      subst (λ ts. AreHeld cfg ts after.lists) (sym tables) (subst (λ l. AreHeld cfg back_tables l) (sym lists) holds.held)

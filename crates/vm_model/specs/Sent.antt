-- Interrupts that a core sends to cores of its VM, by a write of ICC_SGI1R_EL1 (GICv3, "ICC_SGI1R_EL1, Interrupt Controller Software
-- Generated Interrupt Group 1 Register"). The affinities of a VM's cores have one number each, their virtual number.
use Rattle.std.specs.Prelude.{ℕ, zero, suc, ◌==◌, ◌&&◌, ◌||◌, not, nat_lt, Bool, false, if◌then◌else◌}
use Rattle.bao_types.specs.Bits.{field}
use Rattle.a64_state.specs.Core.{CoreData}
use Rattle.a64_state.specs.Registers.{x_of}
use Rattle.exceptions.specs.declared.class.Class.TheVariants.{SystemRegister}
use Rattle.vgic_table.specs.Interrupts.{Interrupts, place}
use Rattle.vgic_table.specs.Changes.{pended_at}
use Rattle.vm_model.specs.Syndrome.{is_of_class}

-- the exception is that of such a write: no other access to a system register goes to EL2
abbrev pub is_send : ℕ → Bool
is_send esr = is_of_class SystemRegister esr

-- the value that is written: Rt
abbrev pub sent_value : CoreData → ℕ → ℕ
sent_value core esr = x_of core (field esr 9 5)

-- the id: INTID
abbrev pub sent_id : ℕ → ℕ
sent_id value = field value 27 24

-- IRM: to all but the sender
abbrev pub is_to_others : ℕ → Bool
is_to_others value = field value 40 40 == 1

-- Aff3, RS, Aff2 and Aff1 are 0, as those of every core are
abbrev pub is_near : ℕ → Bool
is_near value = field value 55 48 == 0 && field value 47 44 == 0 && field value 39 32 == 0 && field value 23 16 == 0

-- the core with a number is a target of what the core with the other number sends
abbrev pub is_target : ℕ → ℕ → ℕ → Bool
is_target own value core =
    if is_to_others value then not (core == own) else is_near value && nat_lt core 16 && field value core core == 1

-- the id of one of this many cores, each of which is a target, stands at this place of their VM's table
abbrev pub is_sent_at : ℕ → ℕ → ℕ → ℕ → Bool
is_sent_at own value zero at = false
is_sent_at own value (suc core) at = is_target own value core && place core (sent_id value) == at || is_sent_at own value core at

-- the VM's interrupts, once the id is pending at each target
abbrev pub sent : ℕ → ℕ → Interrupts → Interrupts
sent own value table = pended_at (is_sent_at own value table.cores) table

-- A run ends for each VM where the VM's own run ends.
use Rattle.std.proofs.Common.{◌≡◌, List, [], ◌∷◌, map, All, sym, ap, subst, ◌∙◌}
use Rattle.std.proofs.lemmas.List.Elements.{All-nil, All-cons}
use Rattle.bao_config.specs.Data.{ConfigData}
use Rattle.bao_config.specs.Fits.{ConfigFits}
use Rattle.bao_wellformed.specs.WellFormed.{IsWellFormed}
use Rattle.vm_model.specs.Agree.{Agree}
use Rattle.vm_model.specs.Alone.{IsOfSchedule}
use Rattle.vm_model.specs.Flat.{Flat, FlatEvent, flat_run}
use Rattle.vm_model.specs.Lone.{lone}
use Rattle.vm_model.proofs.Run.{runs_as_if_alone}
use Rattle.vm_model.proofs.WellFormed.{well_formed_apart}
use Rattle.hypervisor.specs.Event.{flat_event}
use Rattle.hypervisor.specs.declared.event.Event.{Event}
use Rattle.hypervisor.specs.declared.event.Event.TheVariants as event
use Rattle.core_interleave.specs.Run.{EndsAsAlone}

-- the events of a schedule are such of the model
is_scheduled : (e : Event) → IsOfSchedule (flat_event e)
is_scheduled (event.Step core count) = tt
is_scheduled (event.Input port byte) = tt

pub all_scheduled : (events : List Event) → All IsOfSchedule (map flat_event events)
all_scheduled [] = All-nil IsOfSchedule
all_scheduled (e ∷ events) = All-cons IsOfSchedule (flat_event e) (map flat_event events) (is_scheduled e) (all_scheduled events)

pub ends_as_alone : (cfg : ConfigData) (start end : Flat) (events : List FlatEvent) → IsWellFormed cfg → ConfigFits cfg
    → All IsOfSchedule events → end ≡ flat_run cfg start events → EndsAsAlone cfg start events end
ends_as_alone cfg start end events well_formed fits scheduled ran =
    λ images v vm booted rooms is.
    subst (λ f. Agree cfg v vm f (lone cfg images events v)) (sym (ran ∙ ap (λ f. flat_run cfg f events) booted))
    (runs_as_if_alone cfg images events v vm (well_formed_apart cfg images v vm well_formed fits rooms is) scheduled)

use Rattle.std.proofs.Common.{sym, ap, ◌∙◌, rules}
use Rattle.std.specs.Prelude.{unwrap_or}
use Rattle.std.proofs.lemmas.Option.{slice_get_within}
use Rattle.bao_config.specs.Config.{config_data}
use Rattle.bao_wellformed.specs.Map.{has_core}
use Rattle.vm_model.proofs.Lists.{placed_got}
use Rattle.hypervisor.proofs.Seats.{has_owner, no_owner, seat_there}
use Rattle.hypervisor.proofs.seat.seat_of.Goals as goal

pub returns-in_default-clause-there : goal.returns-in_default-clause-there
returns-in_default-clause-there c =
    sym (no_owner (config_data c.args.config.now) c.args.core (search rules))

pub vm_at-requires : goal.vm_at-requires
vm_at-requires c =
    let cfg = config_data c.args.config.now in
    let got = placed_got (has_core c.args.core) cfg.vms c.in-Some.vm (sym c.place.ensures ∙ c.in-Some.is) in
    slice_get_within cfg.vms c.in-Some.vm got.0 got.1

pub returns-clause-there : goal.returns-clause-there
returns-clause-there c =
    let cfg = config_data c.args.config.now in
    sym (has_owner cfg c.args.core c.in-Some.vm (sym c.place.ensures ∙ c.in-Some.is))

pub returns-clause-seat : goal.returns-clause-seat
returns-clause-seat c =
    let cfg = config_data c.args.config.now in
    seat_there cfg c.args.core c.in-Some.vm (sym c.place.ensures ∙ c.in-Some.is) _ c.unwrap_or-own.result c.vm_at.ensures
    (c.unwrap_or-own.ensures ∙ ap (λ o. unwrap_or o 0) c.virtual_core.ensures)

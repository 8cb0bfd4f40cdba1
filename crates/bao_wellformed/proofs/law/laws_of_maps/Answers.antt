use Rattle.bao_wellformed.proofs.Absent.{frames_absent, hypervisor_absent}
use Rattle.bao_wellformed.proofs.Places.{cores_of_platform, places_own, starts_executable, maps_granular, maps_in_space, hypervisor_in_space}
use Rattle.bao_wellformed.proofs.law.laws_of_maps.Goals as goal

pub returns : goal.returns
returns c = record { cores = cores_of_platform; places = places_own; starts = starts_executable; granular = maps_granular; in_space = maps_in_space; hypervisor_in_space = hypervisor_in_space; hypervisor_absent = hypervisor_absent; frames_absent = frames_absent }

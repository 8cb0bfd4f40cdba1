-- The shape that a well-formed configuration asks for is one that a board can be fitted with.
use Rattle.std.proofs.Common.{◌≡◌, ℕ, suc, ◌+◌, ◌%◌, ◌<◌, ◌≤◌, Bool, true, false, List, [], ◌∷◌, ◌++◌, map, filter, get_or, slice_get, All, Some, nat_lt, cond, sum, sum_by, refl, arith}
use Rattle.std.specs.Prelude.{IsFalse}
use Rattle.std.specs.List.{AllPairs, enumerate_from, flat_map}
use Rattle.std.proofs.lemmas.Bool.{ltb-false}
use Rattle.std.proofs.lemmas.List.Sums.{sum-map, sum_by-cons}
use Rattle.std.proofs.lemmas.List.Elements.{All-append, All-cons, All-head, All-map, All-nil, All-tail, All-weaker}
use Rattle.std.proofs.lemmas.Option.{slice_get-get_or}
use Rattle.bao_types.specs.declared.range.ByteRange.{ByteRange}
use Rattle.bao_types.specs.ByteRange.{address_space_end, end, overlaps}
use Rattle.bao_types.specs.Shape.{event_limit, port_range, port_size, memory_limit}
use Rattle.bao_config.specs.Bounds.{IsInBounds, entries}
use Rattle.bao_config.specs.Data.{ConfigData, VmData}
use Rattle.bao_config.specs.Fits.{ConfigFits, PortFits}
use Rattle.bao_wellformed.specs.Rules.{all_ranges, are_too_near, distributor, passing_bank, pieces, plain, redistributors, vm_ranges}
use Rattle.bao_wellformed.specs.WellFormed.{IsWellFormed}
use Rattle.bao_wellformed.proofs.Empty.{all_fail, map_empty, none_passes_in}
use Rattle.bao_wellformed.proofs.Kept.{IsKept, kept}
use Rattle.board.specs.Ports.{port_count}
use Rattle.board.specs.Machine.{IsFittable}
use Rattle.vm_model.proofs.Banks.{IsInABank, bank_at, off_ports, pair_fails, regions_in_banks, shmems_in_banks}
use Rattle.hypervisor.specs.Shape.{core_place, port_spot, shape_of, used_ranges}

-- what holds of each element of joined lists, of numbered elements, and of the ranges in use
all_joined : {A B : Type 0} (P : B → Type 0) (f : A → List B) (xs : List A)
    → ((k : ℕ) (x : A) → slice_get xs k ≡ Some x → All P (f x)) → All P (flat_map f xs)
all_joined P f [] each = All-nil P
all_joined P f (x ∷ xs) each =
    All-append P (f x) (flat_map f xs) (each 0 x refl) (all_joined P f xs (λ k y got. each (suc k) y got))

all_numbered : (P : ℕ → Type 0) (n : ℕ) (xs : List ℕ) → All P xs → All (λ (p : ℕ × ℕ). P p.1) (enumerate_from n xs)
all_numbered P n [] all = All-nil (λ (p : ℕ × ℕ). P p.1)
all_numbered P n (x ∷ xs) all =
    All-cons (λ (p : ℕ × ℕ). P p.1) (n, x) (enumerate_from (n + 1) xs) (All-head P x xs all)
    (all_numbered P (n + 1) xs (All-tail P x xs all))

-- where no bank passes the limit, the sizes together don't
sizes_below : (total : ℕ) (banks : List ByteRange) → passing_bank total banks ≡ [] → total ≤ memory_limit
    → total + sum_by (λ bank. bank.size) banks ≤ memory_limit
sizes_below total [] e low = omega (arith, low)
sizes_below total (bank ∷ banks) e low = by_test (nat_lt memory_limit (total + bank.size)) refl e (sizes_below (total + bank.size) banks)
  where
    by_test : (b : Bool) → nat_lt memory_limit (total + bank.size) ≡ b → cond b (bank ∷ []) (passing_bank (total + bank.size) banks) ≡ []
        → (passing_bank (total + bank.size) banks ≡ [] → total + bank.size ≤ memory_limit → total + bank.size + sum_by (λ bank. bank.size) banks ≤ memory_limit)
        → total + sum_by (λ bank. bank.size) (bank ∷ banks) ≤ memory_limit
    by_test true t e rest = cc
    by_test false t e rest =
        omega (arith, rest e (ltb-false memory_limit (total + bank.size) t), sum_by-cons (λ (bank : ByteRange). bank.size) bank banks)

abbrev is_outside : ByteRange → Bool
is_outside range = nat_lt address_space_end (end range)

module _ (cfg : ConfigData) (keeps : IsKept cfg) where
  banks_apart : AllPairs (λ one other. IsFalse (overlaps one other)) cfg.platform.banks
  banks_apart i j d less low =
      let all = cfg.platform.banks in
      pair_fails are_too_near (pieces cfg) (map_empty _ _ keeps.r3) i j (plain (get_or all i d)) (plain (get_or all j d)) (bank_at cfg keeps i (get_or all i d) (slice_get-get_or all i d (omega (arith, less, low))))
      (bank_at cfg keeps j (get_or all j d) (slice_get-get_or all j d low)) less

  abbrev frames_and_ports : List ByteRange
  frames_and_ports = distributor cfg ∷ redistributors cfg ∷ map (λ port. port_range port.base) cfg.platform.ports

  abbrev hyp_and_shmems : List ByteRange
  hyp_and_shmems = cfg.hyp ∷ map (λ shmem. shmem.range) cfg.shmems

  bank_ends : All (λ bank. end bank ≤ address_space_end) cfg.platform.banks
  bank_ends =
      let banks_and_frames = cfg.platform.banks ++ frames_and_ports in
      let none : filter is_outside (all_ranges cfg) ≡ [] = map_empty _ _ keeps.r1 in
      let platform = (none_passes_in is_outside (banks_and_frames ++ hyp_and_shmems) (flat_map vm_ranges cfg.vms) none).0 in
      let of_banks = (none_passes_in is_outside cfg.platform.banks frames_and_ports (none_passes_in is_outside banks_and_frames hyp_and_shmems platform).0).0 in
      All-weaker (λ range. is_outside range ≡ false) (λ range. end range ≤ address_space_end) (λ range h. ltb-false address_space_end (end range) h)
      cfg.platform.banks (all_fail is_outside cfg.platform.banks of_banks)

  bank_sizes : sum (map (λ bank. bank.size) cfg.platform.banks) ≤ memory_limit
  bank_sizes =
      let few = sizes_below 0 cfg.platform.banks (map_empty _ _ keeps.r2) (omega arith) in
      omega (arith, few, sum-map (λ (bank : ByteRange). bank.size) cfg.platform.banks)

  used_in_banks : All (IsInABank cfg keeps) (used_ranges cfg)
  used_in_banks =
      All-append (IsInABank cfg keeps) (flat_map (λ vm. map (λ region. region.range) vm.regions) cfg.vms) (map (λ shmem. shmem.range) cfg.shmems)
      (all_joined (IsInABank cfg keeps) (λ (vm : VmData). map (λ region. region.range) vm.regions) cfg.vms
      (λ v vm is. All-map (IsInABank cfg keeps) (λ region. region.range) vm.regions (regions_in_banks cfg keeps v vm is)))
      (All-map (IsInABank cfg keeps) (λ shmem. shmem.range) cfg.shmems (shmems_in_banks cfg keeps))

pub shape_fits : (cfg : ConfigData) (events : ℕ) → IsWellFormed cfg → ConfigFits cfg → events ≤ event_limit → IsFittable (shape_of cfg events)
shape_fits cfg events well_formed fits few =
    let keeps = kept cfg well_formed in
    record {
      bank_count = fits.platform.banks.short_enough;
      banks_apart = banks_apart cfg keeps;
      bank_ends = bank_ends cfg keeps;
      bank_sizes = bank_sizes cfg keeps;
      port_numbers = All-map (λ port. port.id < port_count) (port_spot cfg) cfg.platform.ports
          (All-weaker PortFits (λ port. port.id < port_count) (λ port fit. omega (arith, fit.id.most)) cfg.platform.ports fits.platform.ports.each);
      port_bases = All-map (λ port. port.base % port_size ≡ 0) (port_spot cfg) cfg.platform.ports
          (All-weaker PortFits (λ port. port.base % port_size ≡ 0) (λ port fit. fit.base.multiple) cfg.platform.ports fits.platform.ports.each);
      used = used_in_banks cfg keeps;
      ports_apart = All-weaker (IsInABank cfg keeps) (λ range. All (λ port. IsFalse (overlaps range (port_range port.base))) (map (port_spot cfg) cfg.platform.ports))
          (λ range lies. All-map (λ port. IsFalse (overlaps range (port_range port.base))) (port_spot cfg) cfg.platform.ports (off_ports cfg keeps range lies))
          (used_ranges cfg) (used_in_banks cfg keeps);
      entry_counts = All-map (λ place. place.entries ≤ 32) (λ (place : ℕ × ℕ). core_place cfg place.0 place.1) (enumerate_from 0 cfg.platform.cores)
          (all_numbered (λ count. count ≤ 32) 0 cfg.platform.cores
          (All-weaker (IsInBounds entries) (λ count. count ≤ 32) (λ count fit. fit.most) cfg.platform.cores fits.platform.cores.each));
      events = few;
    }

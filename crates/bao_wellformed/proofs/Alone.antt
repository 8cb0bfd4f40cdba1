-- One VM of a well-formed configuration alone makes a well-formed configuration.
use Rattle.std.proofs.Common.{◌≡◌, ℕ, zero, suc, ◌+◌, ◌<◌, ◌==◌, ◌⊎◌, inl, inr, nat_lt, Bool, true, false, ◌&&◌, List, [], ◌∷◌, ◌++◌, map, filter, slice_get, option_to_list, Option, Some, None, refl, sym, ap, ◌∙◌, arith}
use Rattle.std.specs.List.{enumerate_from, flat_map}
use Rattle.std.proofs.lemmas.Bool.{cases_order, eq-eqb}
use Rattle.std.proofs.lemmas.List.{append-nil}
use Rattle.std.proofs.lemmas.List.Elements.{filter-append}
use Rattle.bao_types.specs.declared.range.ByteRange.{ByteRange}
use Rattle.bao_types.specs.ByteRange.{address_space_end, end}
use Rattle.bao_config.specs.Data.{ConfigData, VmData}
use Rattle.bao_wellformed.specs.declared.claim.Claim.{Claim}
use Rattle.bao_wellformed.specs.declared.claim.Claimed.{Claimed}
use Rattle.bao_types.specs.Shape.{port_range}
use Rattle.bao_wellformed.specs.declared.claim.Claimed.TheVariants.{Cores, Ports, Shmems, Irqs}
use Rattle.bao_wellformed.specs.declared.ill.Ill.{Ill}
use Rattle.bao_wellformed.specs.Break.{broken, in_each_vm, indexed, pairs}
use Rattle.bao_wellformed.specs.ByteRules.{first_instruction, least_lacking, place_not_ram, rule_20, rule_21, rule_22, start_not_executable}
use Rattle.bao_wellformed.specs.Map.{map_of}
use Rattle.bao_wellformed.specs.WellFormed.{breaks, byte_breaks, device_breaks, memory_breaks, platform_breaks, vm_breaks}
use Rattle.bao_wellformed.proofs.Kept.{IsKept, kept}
use Rattle.bao_wellformed.specs.Claims.{claims, numbers_of}
use Rattle.bao_wellformed.specs.Rules.{are_one, are_one_in_vm, claimed_twice, devs_without_port, distributor, foreign_cores, ipcs_without_irqs, ipcs_without_shmem, redistributors, regions_of_the_hypervisor, regions_outside, vm_ranges, rule_1, rule_2, rule_3, rule_4, rule_5, rule_6, rule_7, rule_8, rule_9, rule_10, rule_11, rule_12, rule_13, rule_14, rule_15, rule_16, rule_17, rule_18, rule_19}
use Rattle.bao_wellformed.specs.Laws.{AloneWellFormed, IsVm, alone}
use Rattle.bao_wellformed.proofs.Empty.{indexed_got, is_pair, map_empty, none_in_each, none_passes, none_passes_in, none_passes_of}
use Rattle.bao_wellformed.proofs.Once.{claim_got}
use Rattle.std.proofs.lemmas.Bool.Decides.{nat_tests}

-- what no pair of places passes, no pair passes
record IsFrom {A : Type 0} (xs : List A) (x y : A) : Type 0 where
  i : ℕ
  j : ℕ
  order : i < j
  first : slice_get xs i ≡ Some x
  second : slice_get xs j ≡ Some y

none_at_any : {A : Type 0} (p : A → Bool) (xs : List A) → ((k : ℕ) (x : A) → slice_get xs k ≡ Some x → p x ≡ false) → filter p xs ≡ []
none_at_any p [] none = refl
none_at_any p (x ∷ xs) none = let e = none 0 x refl in rw e (none_at_any p xs (λ k y got. none (suc k) y got))

left_from : {A : Type 0} (one : A) (later : List A) (k : ℕ) (x y : A) → slice_get {X = A × A} (map (λ other. (one, other)) later) k ≡ Some (x, y)
    → (one ≡ x) × (slice_get later k ≡ Some y)
left_from one [] k x y got = cc
left_from {A} one (other ∷ later) zero x y got = let e : ◌≡◌ {A = A × A} (one, other) (x, y) = cc in (ap (λ (p : A × A). p.0) e, ap (λ (p : A × A). Some p.1) e)
left_from one (other ∷ later) (suc k) x y got = left_from one later k x y got

-- what stands in joined lists stands in one of them
split_got : {A : Type 0} (xs ys : List A) (k : ℕ) (x : A) → slice_get (xs ++ ys) k ≡ Some x
    → (slice_get xs k ≡ Some x) ⊎ ((j : ℕ) × (slice_get ys j ≡ Some x))
split_got [] ys k x got = inr (k, got)
split_got (z ∷ zs) ys zero x got = inl got
split_got (z ∷ zs) ys (suc k) x got = split_got zs ys k x got

pair_from : {A : Type 0} (xs : List A) (k : ℕ) (x y : A) → slice_get {X = A × A} (pairs xs) k ≡ Some (x, y) → IsFrom xs x y
pair_from [] k x y got = cc
pair_from {A} (one ∷ later) k x y got = by_part (split_got (map (λ other. (one, other)) later) (pairs later) k (x, y) got) (λ j rest. pair_from later j x y rest)
  where
    by_part : (slice_get {X = A × A} (map (λ other. (one, other)) later) k ≡ Some (x, y)) ⊎ ((j : ℕ) × (slice_get {X = A × A} (pairs later) j ≡ Some (x, y)))
        → ((j : ℕ) → slice_get {X = A × A} (pairs later) j ≡ Some (x, y) → IsFrom later x y) → IsFrom (one ∷ later) x y
    by_part (inl here) among =
        let r = left_from one later k x y here in
        record { i = 0; j = suc k; order = omega arith; first = ap Some r.0; second = r.1 }
    by_part (inr (j, rest)) among =
        let r = among j rest in
        record { i = suc r.i; j = suc r.j; order = (let o = r.order in omega arith); first = r.first; second = r.second }

mapped_from : {A B : Type 0} (f : A → B) (xs : List A) (k : ℕ) (y : B) → slice_get (map f xs) k ≡ Some y → (x : A) × (slice_get xs k ≡ Some x) × (y ≡ f x)
mapped_from f [] k y got = cc
mapped_from f (z ∷ zs) zero y got = let e : f z ≡ y = cc in (z, refl, sym e)
mapped_from f (z ∷ zs) (suc k) y got = mapped_from f zs k y got

numbered_from : {A : Type 0} (n : ℕ) (xs : List A) (k : ℕ) (p : ℕ × A) → slice_get (enumerate_from n xs) k ≡ Some p → slice_get xs k ≡ Some p.1
numbered_from n [] k p got = cc
numbered_from {A} n (z ∷ zs) zero p got = let e : ◌≡◌ {A = ℕ × A} (n, z) p = cc in ap (λ (q : ℕ × A). Some q.1) e
numbered_from n (z ∷ zs) (suc k) p got = numbered_from (n + 1) zs k p got

-- the same list of items reported otherwise
renamed : {A B : Type 0} (f g : A → B) (xs : List A) → map f xs ≡ [] → map g xs ++ [] ≡ []
renamed f g [] e = refl
renamed f g (x ∷ xs) e = cc

renamed_option : {A B : Type 0} (f g : A → B) (o : Option A) → map f (option_to_list o) ≡ [] → map g (option_to_list o) ++ [] ≡ []
renamed_option f g None e = refl
renamed_option f g (Some x) e = cc

-- the claims of the VM alone
module _ (cfg : ConfigData) (v : ℕ) (vm : VmData) (is : IsVm cfg v vm) (claimed : Claimed) (rule : ℕ) (same : Claim → Claim → Bool)
    (nothing : claimed_twice rule same (claims claimed cfg) ≡ [])
    (to_number : (i j n m : ℕ) → same (record { vm = v; item = i; number = n }) (record { vm = v; item = j; number = m }) ≡ false → (n == m) ≡ false)
    (from_number : (i j n m : ℕ) → (n == m) ≡ false → same (record { vm = 0; item = i; number = n }) (record { vm = 0; item = j; number = m }) ≡ false) where
  abbrev numbers : List ℕ
  numbers = numbers_of claimed vm

  abbrev claim : ℕ → ℕ × ℕ → Claim
  claim w (j, number) = record { vm = w; item = j; number = number }

  differ_in_order : (p q i j n m : ℕ) → slice_get (claims claimed cfg) p ≡ Some (claim v (i, n)) → slice_get (claims claimed cfg) q ≡ Some (claim v (j, m))
      → p < q → (n == m) ≡ false
  differ_in_order p q i j n m first second less =
      let test : Claim × Claim → Bool = λ (one, other). same one other in
      let pair = is_pair (claims claimed cfg) p q (claim v (i, n)) (claim v (j, m)) first second less in
      to_number i j n m (none_passes test (pairs (claims claimed cfg)) (map_empty _ _ nothing) pair.place (claim v (i, n), claim v (j, m)) pair.got)

  differ : (i j n m : ℕ) → i < j → slice_get numbers i ≡ Some n → slice_get numbers j ≡ Some m → (n == m) ≡ false
  differ i j n m less one two = by_places (claim_got cfg claimed v vm i n is one) (claim_got cfg claimed v vm j m is two)
    where
      by_order : (p q : ℕ) → slice_get (claims claimed cfg) p ≡ Some (claim v (i, n)) → slice_get (claims claimed cfg) q ≡ Some (claim v (j, m))
          → (p ≡ q) ⊎ ((p < q) ⊎ (q < p)) → (n == m) ≡ false
      by_order p q first second (inl equal) =
          let e : Some (claim v (i, n)) ≡ Some (claim v (j, m)) = sym first ∙ ap (slice_get (claims claimed cfg)) equal ∙ second in
          let c : claim v (i, n) ≡ claim v (j, m) = cc in
          let items : i ≡ j = ap (λ (x : Claim). x.item) c in absurd (omega arith)
      by_order p q first second (inr (inl before)) = differ_in_order p q i j n m first second before
      by_order p q first second (inr (inr after)) =
          let e = differ_in_order q p j i m n second first after in grind (arith, nat_tests)

      by_places : (p : ℕ) × (slice_get (claims claimed cfg) p ≡ Some (claim v (i, n))) → (q : ℕ) × (slice_get (claims claimed cfg) q ≡ Some (claim v (j, m)))
          → (n == m) ≡ false
      by_places (p, first) (q, second) = by_order p q first second (cases_order p q)

  abbrev own : List Claim
  own = map (claim 0) (indexed numbers)

  pair_fails : (k : ℕ) (two : Claim × Claim) → slice_get (pairs own) k ≡ Some two → same two.0 two.1 ≡ false
  pair_fails k (x, y) got =
      let r = pair_from own k x y got in
      let one = mapped_from (claim 0) (indexed numbers) r.i x r.first in
      let two = mapped_from (claim 0) (indexed numbers) r.j y r.second in
      let n = numbered_from 0 numbers r.i one.0 one.1 in let m = numbered_from 0 numbers r.j two.0 two.1 in
      ap (λ a. same a y) one.2 ∙ ap (same (claim 0 one.0)) two.2
      ∙ from_number one.0.0 two.0.0 one.0.1 two.0.1 (differ r.i r.j one.0.1 two.0.1 r.order n m)

  pub alone_claims : claimed_twice rule same (claims claimed (alone cfg vm)) ≡ []
  alone_claims =
      let test : Claim × Claim → Bool = λ (one, other). same one other in
      ap (λ all. claimed_twice rule same all) (append-nil own)
      ∙ ap (map (λ (two : Claim × Claim). record (broken rule) { vm = two.1.vm; item = two.1.item })) (none_at_any test (pairs own) pair_fails)

both_empty : {A : Type 0} (xs ys : List A) → xs ≡ [] → ys ≡ [] → xs ++ ys ≡ []
both_empty xs ys a b = ap (λ l. l ++ ys) a ∙ b

module _ (cfg : ConfigData) (v : ℕ) (vm : VmData) (keeps : IsKept cfg) (is : IsVm cfg v vm) where
  abbrev is_outside : ByteRange → Bool
  is_outside range = nat_lt address_space_end (end range)

  abbrev front : List ByteRange
  front =
      cfg.platform.banks ++ distributor cfg ∷ redistributors cfg ∷ map (λ port. port_range port.base) cfg.platform.ports
      ++ cfg.hyp ∷ map (λ shmem. shmem.range) cfg.shmems

  ranges_alone : rule_1 (alone cfg vm) ≡ []
  ranges_alone =
      let parts = none_passes_in is_outside front (flat_map vm_ranges cfg.vms) (map_empty _ _ keeps.r1) in
      let own = none_passes_of is_outside vm_ranges cfg.vms parts.1 v vm is in
      ap (map (λ (range : ByteRange). record (broken 1) { first = range }))
      (filter-append is_outside front (vm_ranges vm ++ [])
      ∙ both_empty (filter is_outside front) (filter is_outside (vm_ranges vm ++ [])) parts.0 (ap (filter is_outside) (append-nil (vm_ranges vm)) ∙ own))

  abbrev at_place : ℕ × VmData
  at_place = (v, vm)

  placed : slice_get (indexed cfg.vms) v ≡ Some at_place
  placed = indexed_got v cfg.vms vm is

  in_this : (found : ℕ → VmData → List Ill) → in_each_vm found cfg ≡ [] → found v vm ≡ []
  in_this found nothing = none_in_each (λ (v, vm). found v vm) (indexed cfg.vms) nothing v at_place placed

  platform_alone : platform_breaks (alone cfg vm) ≡ []
  platform_alone =
      both_empty (rule_1 (alone cfg vm)) _ ranges_alone
      (both_empty (rule_2 cfg) _ keeps.r2 (both_empty (rule_3 cfg) (rule_4 cfg) keeps.r3 keeps.r4))

  memory_alone : memory_breaks (alone cfg vm) ≡ []
  memory_alone = both_empty (rule_5 cfg) _ keeps.r5 (both_empty (rule_6 cfg) _ keeps.r6 (both_empty (rule_7 cfg) (rule_8 cfg) keeps.r7 keeps.r8))

  cores_alone : rule_11 (alone cfg vm) ≡ []
  cores_alone = alone_claims cfg v vm is Cores 11 are_one keeps.r11 (λ i j n m e. e) (λ i j n m e. e)

  ports_alone : rule_15 (alone cfg vm) ≡ []
  ports_alone = alone_claims cfg v vm is Ports 15 are_one keeps.r15 (λ i j n m e. e) (λ i j n m e. e)

  of_vm : (n m : ℕ) → (v == v && n == m) ≡ false → (n == m) ≡ false
  of_vm n m e = let t = eq-eqb v v refl in rw t at e

  shmems_alone : rule_17 (alone cfg vm) ≡ []
  shmems_alone = alone_claims cfg v vm is Shmems 17 are_one_in_vm keeps.r17 (λ i j n m e. of_vm n m e) (λ i j n m e. e)

  irqs_alone : rule_19 (alone cfg vm) ≡ []
  irqs_alone = alone_claims cfg v vm is Irqs 19 are_one_in_vm keeps.r19 (λ i j n m e. of_vm n m e) (λ i j n m e. e)

  vm_alone : vm_breaks (alone cfg vm) ≡ []
  vm_alone =
      both_empty (rule_9 (alone cfg vm)) _ refl
      (both_empty (rule_10 (alone cfg vm)) _ (renamed _ _ _ (in_this (foreign_cores cfg) keeps.r10))
      (both_empty (rule_11 (alone cfg vm)) _ cores_alone
      (both_empty (rule_12 (alone cfg vm)) (rule_13 (alone cfg vm)) (renamed _ _ _ (in_this (regions_outside cfg) keeps.r12))
      (renamed _ _ _ (in_this (regions_of_the_hypervisor cfg) keeps.r13)))))

  device_alone : device_breaks (alone cfg vm) ≡ []
  device_alone =
      both_empty (rule_14 (alone cfg vm)) _ (renamed _ _ _ (in_this (devs_without_port cfg) keeps.r14))
      (both_empty (rule_15 (alone cfg vm)) _ ports_alone
      (both_empty (rule_16 (alone cfg vm)) _ (renamed _ _ _ (in_this (ipcs_without_shmem cfg) keeps.r16))
      (both_empty (rule_17 (alone cfg vm)) _ shmems_alone
      (both_empty (rule_18 (alone cfg vm)) (rule_19 (alone cfg vm)) (renamed _ _ _ (in_this (ipcs_without_irqs cfg) keeps.r18)) irqs_alone))))

  byte_alone : byte_breaks (alone cfg vm) ≡ []
  byte_alone =
      both_empty (rule_20 (alone cfg vm)) _
      (renamed_option _ _ (least_lacking false vm.place (map_of cfg vm)) (in_this (place_not_ram cfg) keeps.r20))
      (both_empty (rule_21 (alone cfg vm)) (rule_22 (alone cfg vm))
      (renamed_option _ _ (least_lacking true (first_instruction vm) (map_of cfg vm)) (in_this (start_not_executable cfg) keeps.r21)) refl)

pub alone_well_formed : AloneWellFormed
unfolding breaks
alone_well_formed cfg v vm well_formed is =
    let keeps = kept cfg well_formed in
    both_empty (platform_breaks (alone cfg vm)) _ (platform_alone cfg v vm keeps is)
    (both_empty (memory_breaks (alone cfg vm)) _ (memory_alone cfg v vm keeps is)
    (both_empty (vm_breaks (alone cfg vm)) _ (vm_alone cfg v vm keeps is)
    (both_empty (device_breaks (alone cfg vm)) (byte_breaks (alone cfg vm)) (device_alone cfg v vm keeps is) (byte_alone cfg v vm keeps is))))

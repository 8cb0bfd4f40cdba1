-- Nothing is claimed twice.
use Rattle.std.proofs.Common.{◌≡◌, ℕ, ◌<◌, ◌==◌, Bool, true, false, ◌⊎◌, inl, inr, ◌||◌, List, [], ◌∷◌, map, slice_get, Some, refl, sym, ap, ◌∙◌, arith, ◌+◌}
use Rattle.std.specs.List.{list_any}
use Rattle.std.proofs.lemmas.Bool.{cases_order, eq-eqb, eqb-true}
use Rattle.bao_config.specs.declared.config.Dev.{Dev}
use Rattle.bao_config.specs.declared.config.PortPlace.{PortPlace}
use Rattle.bao_config.specs.Data.{ConfigData, VmData}
use Rattle.bao_wellformed.specs.declared.claim.Claim.{Claim}
use Rattle.bao_wellformed.specs.declared.claim.Claimed.{Claimed}
use Rattle.bao_wellformed.specs.declared.claim.Claimed.TheVariants.{Cores, Ports}
use Rattle.bao_wellformed.specs.Break.{pairs, indexed}
use Rattle.bao_wellformed.specs.Claims.{claims, claims_of_vm, numbers_of}
use Rattle.bao_wellformed.specs.Map.{has_core}
use Rattle.bao_wellformed.specs.Rules.{are_one, claimed_twice}
use Rattle.bao_wellformed.specs.WellFormed.{IsWellFormed}
use Rattle.bao_wellformed.specs.Laws.{CoresApart, CoresOwned, IsVm, PortsApart}
use Rattle.bao_wellformed.proofs.Empty.{any_got, flat_got, indexed_got, is_pair, map_empty, map_got, none_passes, only_position}
use Rattle.bao_wellformed.proofs.Kept.{kept}

module _ (cfg : ConfigData) (claimed : Claimed) where
  abbrev pub claim : ℕ → ℕ → ℕ → Claim
  claim v j number = record { vm = v; item = j; number = number }

  pub claim_got : (v : ℕ) (vm : VmData) (j number : ℕ) → IsVm cfg v vm → slice_get (numbers_of claimed vm) j ≡ Some number
      → (place : ℕ) × (slice_get (claims claimed cfg) place ≡ Some (claim v j number))
  claim_got v vm j number is got =
      let one : ℕ × ℕ → Claim = λ (j, number). claim v j number in
      let all : ℕ × VmData → List Claim = λ (v, vm). claims_of_vm claimed v vm in
      flat_got all (indexed cfg.vms) v (v, vm) j (claim v j number) (indexed_got v cfg.vms vm is)
      (map_got one (indexed (numbers_of claimed vm)) j (j, number) (indexed_got j (numbers_of claimed vm) number got))

module _ (cfg : ConfigData) (claimed : Claimed) (rule : ℕ) (nothing : claimed_twice rule are_one (claims claimed cfg) ≡ []) where
  not_two : (p q : ℕ) (one other : Claim) → slice_get (claims claimed cfg) p ≡ Some one → slice_get (claims claimed cfg) q ≡ Some other
      → p < q → one.number ≡ other.number → ⊥
  not_two p q one other first second less same =
      let test : Claim × Claim → Bool = λ (one, other). are_one one other in
      let pair = is_pair (claims claimed cfg) p q one other first second less in
      let no = none_passes test (pairs (claims claimed cfg)) (map_empty _ _ nothing) pair.place (one, other) pair.got in
      let yes = eq-eqb one.number other.number same in
      let x : true ≡ false = sym yes ∙ no in cc

  pub once : (v w : ℕ) (vm other : VmData) (i j number : ℕ) → IsVm cfg v vm → IsVm cfg w other
      → slice_get (numbers_of claimed vm) i ≡ Some number → slice_get (numbers_of claimed other) j ≡ Some number → (v ≡ w) × (i ≡ j)
  once v w vm other i j number one two has has_too =
      by_order (claim_got cfg claimed v vm i number one has) (claim_got cfg claimed w other j number two has_too)
    where
      by_places : (p q : ℕ) → slice_get (claims claimed cfg) p ≡ Some (claim cfg claimed v i number) → slice_get (claims claimed cfg) q ≡ Some (claim cfg claimed w j number)
          → (p ≡ q) ⊎ ((p < q) ⊎ (q < p)) → (v ≡ w) × (i ≡ j)
      by_places p q first second (inl same) =
          let e : Some (claim cfg claimed v i number) ≡ Some (claim cfg claimed w j number) = sym first ∙ ap (slice_get (claims claimed cfg)) same ∙ second in
          let c : claim cfg claimed v i number ≡ claim cfg claimed w j number = cc in (ap (λ (x : Claim). x.vm) c, ap (λ (x : Claim). x.item) c)
      by_places p q first second (inr (inl less)) = absurd (not_two p q (claim cfg claimed v i number) (claim cfg claimed w j number) first second less refl)
      by_places p q first second (inr (inr more)) = absurd (not_two q p (claim cfg claimed w j number) (claim cfg claimed v i number) second first more refl)

      by_order : (p : ℕ) × (slice_get (claims claimed cfg) p ≡ Some (claim cfg claimed v i number)) → (q : ℕ) × (slice_get (claims claimed cfg) q ≡ Some (claim cfg claimed w j number)) → (v ≡ w) × (i ≡ j)
      by_order (p, first) (q, second) = by_places p q first second (cases_order p q)

-- a number that passes the test for one is at a place
number_got : (numbers : List ℕ) (number : ℕ) → list_any (λ own. own == number) numbers ≡ true → (place : ℕ) × (slice_get numbers place ≡ Some number)
number_got numbers number h =
    let r = any_got (λ own. own == number) numbers h in (r.0, r.2 ∙ ap Some (eqb-true r.1 number r.3))

pub cores_apart : CoresApart
cores_apart cfg v w vm other core well_formed one two has has_too =
    let i = number_got vm.cores core has in let j = number_got other.cores core has_too in
    (once cfg Cores 11 (kept cfg well_formed).r11 v w vm other i.0 j.0 core one two i.1 j.1).0

-- a core stands once in its VM's list
pub cores_once : (cfg : ConfigData) (v : ℕ) (vm : VmData) (i j core : ℕ) → IsWellFormed cfg → IsVm cfg v vm
    → slice_get vm.cores i ≡ Some core → slice_get vm.cores j ≡ Some core → i ≡ j
cores_once cfg v vm i j core well_formed is one two =
    (once cfg Cores 11 (kept cfg well_formed).r11 v v vm vm i j core is is one two).1

-- a port that a VM has is among the numbers of its devs
port_listed :
    (devs : List Dev) (port : ℕ) → list_any (λ dev. dev.port == port) devs ≡ list_any (λ own. own == port) (map (λ dev. dev.port) devs)
port_listed [] port = refl
port_listed (dev ∷ devs) port = ap (λ later. (dev.port == port) || later) (port_listed devs port)

pub ports_apart : PortsApart
ports_apart cfg v w vm other port well_formed one two has has_too =
    let i = number_got (numbers_of Ports vm) port (sym (port_listed vm.devs port) ∙ has) in
    let j = number_got (numbers_of Ports other) port (sym (port_listed other.devs port) ∙ has_too) in
    (once cfg Ports 15 (kept cfg well_formed).r15 v w vm other i.0 j.0 port one two i.1 j.1).0

pub cores_owned : CoresOwned
cores_owned cfg v vm core well_formed is has =
    only_position (has_core core) cfg.vms 0 v vm is has (λ w other there has_too. cores_apart cfg w v other vm core well_formed there is has_too has)
    ∙ (let place : 0 + v ≡ v = omega arith in ap Some place)

-- two ports of the platform that have one id, or one interrupt number, are one
module _ (cfg : ConfigData) (well_formed : IsWellFormed cfg) where
  not_alike : (p q : ℕ) (one other : PortPlace) → slice_get cfg.platform.ports p ≡ Some one → slice_get cfg.platform.ports q ≡ Some other
      → p < q → (one.id == other.id || one.spi == other.spi) ≡ true → ⊥
  not_alike p q one other first second less same =
      let pair = is_pair cfg.platform.ports p q one other first second less in
      let test : PortPlace × PortPlace → Bool = λ (one, other). one.id == other.id || one.spi == other.spi in
      let no = none_passes test (pairs cfg.platform.ports) (map_empty _ _ (kept cfg well_formed).r4) pair.place (one, other) pair.got in
      let x : true ≡ false = sym same ∙ no in cc

  alike_once : (p q : ℕ) (one other : PortPlace) → slice_get cfg.platform.ports p ≡ Some one → slice_get cfg.platform.ports q ≡ Some other
      → (one.id == other.id || one.spi == other.spi) ≡ true → (other.id == one.id || other.spi == one.spi) ≡ true → p ≡ q
  alike_once p q one other first second same back = by_places (cases_order p q)
    where
      by_places : (p ≡ q) ⊎ ((p < q) ⊎ (q < p)) → p ≡ q
      by_places (inl e) = e
      by_places (inr (inl less)) = absurd (not_alike p q one other first second less same)
      by_places (inr (inr more)) = absurd (not_alike q p other one second first more back)

  pub ids_once : (p q : ℕ) (one other : PortPlace) → slice_get cfg.platform.ports p ≡ Some one → slice_get cfg.platform.ports q ≡ Some other
      → one.id ≡ other.id → p ≡ q
  ids_once p q one other first second same =
      alike_once p q one other first second (by_id (one.id == other.id) (one.spi == other.spi) (eq-eqb one.id other.id same))
      (by_id (other.id == one.id) (other.spi == one.spi) (eq-eqb other.id one.id (sym same)))
    where
      by_id : (b c : Bool) → b ≡ true → (b || c) ≡ true
      by_id b c e = ap (λ x. x || c) e

  pub spis_once : (p q : ℕ) (one other : PortPlace) → slice_get cfg.platform.ports p ≡ Some one → slice_get cfg.platform.ports q ≡ Some other
      → one.spi ≡ other.spi → p ≡ q
  spis_once p q one other first second same =
      alike_once p q one other first second (by_spi (one.id == other.id) (one.spi == other.spi) (eq-eqb one.spi other.spi same))
      (by_spi (other.id == one.id) (other.spi == one.spi) (eq-eqb other.spi one.spi (sym same)))
    where
      by_spi : (b c : Bool) → c ≡ true → (b || c) ≡ true
      by_spi true c e = refl
      by_spi false c e = e

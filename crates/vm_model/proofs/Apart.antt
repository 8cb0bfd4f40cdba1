-- The pair's VMs are apart, so the laws speak of them.
use Rattle.std.proofs.Common.{◌≡◌, ◌≢◌, ℕ, zero, suc, ◌-◌, ◌≤◌, Bool, true, false, List, [], ◌∷◌, length, refl, sym, ap, subst, arith}
use Rattle.std.specs.Prelude.{IsTrue, IsFalse, ◌==◌, ◌||◌, Option, None, Some, slice_get}
use Rattle.std.proofs.lemmas.Bool.Decides.{nat_tests}
use Rattle.bao_types.specs.declared.access.Access.TheVariants.{Read, Write}
use Rattle.bao_config.specs.Data.{VmData}
use Rattle.bao_types.specs.ByteRange.{is_within}
use Rattle.bao_wellformed.specs.Map.{has_core, has_port}
use Rattle.bao_wellformed.specs.Map.{by_map}
use Rattle.board.specs.Stage.{is_allowed}
use Rattle.board.specs.Ports.{PortByte}
use Rattle.board.specs.Reached.{ReachesPort}
use Rattle.vm_model.specs.Flat.{platform_places}
use Rattle.vm_model.specs.Lone.{is_core_of, is_in_window}
use Rattle.vm_model.specs.Agree.{IsInMap}
use Rattle.vm_model.specs.Apart.{IsApart}
use Rattle.vm_model.specs.Pair.{pair, vm_a, vm_b, AreFit}

-- the number of the port that has a byte
abbrev number_of : Option PortByte → ℕ
number_of None = 0
number_of (Some byte) = byte.port

abbrev byte_of : ℕ → ℕ → Option PortByte
byte_of port offset = Some (record { port = port; offset = offset })

module _ (core at : ℕ) where
  abbrev hyp : Bool
  hyp = is_within (record { base = 0; size = 0x10000 }) at

  abbrev memory_a : Bool
  memory_a = is_within (record { base = 0x100000; size = 0x10000 }) at

  abbrev memory_b : Bool
  memory_b = is_within (record { base = 0x140000; size = 0x10000 }) at

  abbrev shared : Bool
  shared = is_within (record { base = 0x180000; size = 0x1000 }) at

  abbrev port_a : Bool
  port_a = is_within (record { base = 0x9c090000; size = 64 }) at

  abbrev port_b : Bool
  port_b = is_within (record { base = 0x9c0a0000; size = 64 }) at

  -- where VM b may store and the byte is in VM a's map, it is a window
  stores_of_b : (h ma mb s pa pb : Bool) → hyp ≡ h → memory_a ≡ ma → memory_b ≡ mb → shared ≡ s → port_a ≡ pa → port_b ≡ pb
      → (0 == core) ≡ false → (c : Bool) → (1 == core) ≡ c → IsTrue (is_allowed (by_map pair core Write at))
      → IsInMap pair vm_a at → IsTrue (is_in_window pair (Some vm_a) at)
  unfolding by_map
  stores_of_b h ma mb true pa pb eh ea eb es epa epb other c own may in_map = rw es refl
  stores_of_b true ma mb false pa pb eh ea eb es epa epb other false own may in_map =
      let x : false ≡ true = rw (other, own, eh) at may in cc
  stores_of_b false ma mb false pa pb eh ea eb es epa epb other false own may in_map =
      let x : false ≡ true = rw (other, own, eh) at may in cc
  stores_of_b true ma mb false pa pb eh ea eb es epa epb other true own may in_map =
      let x : false ≡ true = rw (other, own, eh) at may in cc
  stores_of_b false false mb false false pb eh ea eb es epa epb other true own may in_map =
      let x : false ≡ true = rw (es, epa, ea) at in_map in cc
  stores_of_b false true mb false false true eh ea eb es epa epb other true own may in_map = absurd (grind (arith, nat_tests))
  stores_of_b false true true false false false eh ea eb es epa epb other true own may in_map = absurd (grind (arith, nat_tests))
  stores_of_b false true false false false false eh ea eb es epa epb other true own may in_map =
      let x : false ≡ true = rw (other, own, eh, es, epb, eb) at may in cc
  stores_of_b false ma mb false true true eh ea eb es epa epb other true own may in_map = absurd (grind (arith, nat_tests))
  stores_of_b false ma true false true false eh ea eb es epa epb other true own may in_map = absurd (grind (arith, nat_tests))
  stores_of_b false ma false false true false eh ea eb es epa epb other true own may in_map =
      let x : false ≡ true = rw (other, own, eh, es, epb, eb) at may in cc

  -- and the other way round
  stores_of_a : (h ma mb s pa pb : Bool) → hyp ≡ h → memory_a ≡ ma → memory_b ≡ mb → shared ≡ s → port_a ≡ pa → port_b ≡ pb
      → (1 == core) ≡ false → (c : Bool) → (0 == core) ≡ c → IsTrue (is_allowed (by_map pair core Write at))
      → IsInMap pair vm_b at → IsTrue (is_in_window pair (Some vm_b) at)
  unfolding by_map
  stores_of_a h ma mb true pa pb eh ea eb es epa epb other c own may in_map = rw es refl
  stores_of_a true ma mb false pa pb eh ea eb es epa epb other false own may in_map =
      let x : false ≡ true = rw (own, other, eh) at may in cc
  stores_of_a false ma mb false pa pb eh ea eb es epa epb other false own may in_map =
      let x : false ≡ true = rw (own, other, eh) at may in cc
  stores_of_a true ma mb false pa pb eh ea eb es epa epb other true own may in_map =
      let x : false ≡ true = rw (own, eh) at may in cc
  stores_of_a false ma false false pa false eh ea eb es epa epb other true own may in_map =
      let x : false ≡ true = rw (es, epb, eb) at in_map in cc
  stores_of_a false ma true false true false eh ea eb es epa epb other true own may in_map = absurd (grind (arith, nat_tests))
  stores_of_a false true true false false false eh ea eb es epa epb other true own may in_map = absurd (grind (arith, nat_tests))
  stores_of_a false false true false false false eh ea eb es epa epb other true own may in_map =
      let x : false ≡ true = rw (own, eh, es, epa, ea) at may in cc
  stores_of_a false ma mb false true true eh ea eb es epa epb other true own may in_map = absurd (grind (arith, nat_tests))
  stores_of_a false true mb false false true eh ea eb es epa epb other true own may in_map = absurd (grind (arith, nat_tests))
  stores_of_a false false mb false false true eh ea eb es epa epb other true own may in_map =
      let x : false ≡ true = rw (own, eh, es, epa, ea) at may in cc

  -- the core may read or write the byte
  abbrev MayReach : Type 0
  MayReach = IsTrue (is_allowed (by_map pair core Read at) || is_allowed (by_map pair core Write at))

  -- the byte is of this port
  abbrev IsOfPort : ℕ → ℕ → Type 0
  IsOfPort port offset = platform_places pair at ≡ byte_of port offset

  -- what VM a reaches of a port is of port 0, and VM b of port 1
  port_of_core_a : (h ma s pa pb : Bool) → hyp ≡ h → memory_a ≡ ma → shared ≡ s → port_a ≡ pa → port_b ≡ pb → (0 == core) ≡ true
      → (port offset : ℕ) → MayReach → IsOfPort port offset → port ≡ 0
  unfolding by_map
  port_of_core_a h ma s true pb eh ea es epa epb own port offset may place =
      let found : byte_of 0 (at - 0x9c090000) ≡ byte_of port offset = rw epa at place in
      sym (ap number_of found)
  port_of_core_a h ma s false false eh ea es epa epb own port offset may place =
      let found : None ≡ byte_of port offset = rw (epa, epb) at place in cc
  port_of_core_a true ma s false true eh ea es epa epb own port offset may place =
      let x : false ≡ true = rw (own, eh) at may in cc
  port_of_core_a false ma true false true eh ea es epa epb own port offset may place = absurd (grind (arith, nat_tests))
  port_of_core_a false true false false true eh ea es epa epb own port offset may place = absurd (grind (arith, nat_tests))
  port_of_core_a false false false false true eh ea es epa epb own port offset may place =
      let x : false ≡ true = rw (own, eh, es, epa, ea) at may in cc

  port_of_core_b : (h mb s pa pb : Bool) → hyp ≡ h → memory_b ≡ mb → shared ≡ s → port_a ≡ pa → port_b ≡ pb
      → (0 == core) ≡ false → (1 == core) ≡ true → (port offset : ℕ) → MayReach → IsOfPort port offset → port ≡ 1
  unfolding by_map
  port_of_core_b h mb s false true eh eb es epa epb other own port offset may place =
      let found : byte_of 1 (at - 0x9c0a0000) ≡ byte_of port offset = rw (epa, epb) at place in
      sym (ap number_of found)
  port_of_core_b h mb s false false eh eb es epa epb other own port offset may place =
      let found : None ≡ byte_of port offset = rw (epa, epb) at place in cc
  port_of_core_b true mb s true pb eh eb es epa epb other own port offset may place =
      let x : false ≡ true = rw (other, own, eh) at may in cc
  port_of_core_b false mb true true pb eh eb es epa epb other own port offset may place = absurd (grind (arith, nat_tests))
  port_of_core_b false mb false true true eh eb es epa epb other own port offset may place = absurd (grind (arith, nat_tests))
  port_of_core_b false true false true false eh eb es epa epb other own port offset may place = absurd (grind (arith, nat_tests))
  port_of_core_b false false false true false eh eb es epa epb other own port offset may place =
      let x : false ≡ true = rw (other, own, eh, es, epb, eb) at may in cc

  -- any other core reaches nothing
  no_other_core : (h : Bool) → hyp ≡ h → (0 == core) ≡ false → (1 == core) ≡ false → MayReach → ⊥
  unfolding by_map
  no_other_core true eh other own may = let x : false ≡ true = rw (other, own, eh) at may in cc
  no_other_core false eh other own may = let x : false ≡ true = rw (other, own, eh) at may in cc

  -- no image of VM b lies over VM a's map
  free_of_b : (n : ℕ) → n ≤ 0x8000 → (s pa ma w : Bool) → shared ≡ s → port_a ≡ pa → memory_a ≡ ma
      → is_within (record { base = 0x140000; size = n }) at ≡ w → IsInMap pair vm_a at → w ≡ false
  free_of_b n fits s pa ma false es epa ea ew in_map = refl
  free_of_b n fits true pa ma true es epa ea ew in_map = absurd (grind (arith, nat_tests))
  free_of_b n fits false true ma true es epa ea ew in_map = absurd (grind (arith, nat_tests))
  free_of_b n fits false false true true es epa ea ew in_map = absurd (grind (arith, nat_tests))
  free_of_b n fits false false false true es epa ea ew in_map =
      let x : false ≡ true = rw (es, epa, ea) at in_map in cc

  free_of_a : (n : ℕ) → n ≤ 0x8000 → (s pb mb w : Bool) → shared ≡ s → port_b ≡ pb → memory_b ≡ mb
      → is_within (record { base = 0x100000; size = n }) at ≡ w → IsInMap pair vm_b at → w ≡ false
  free_of_a n fits s pb mb false es epb eb ew in_map = refl
  free_of_a n fits true pb mb true es epb eb ew in_map = absurd (grind (arith, nat_tests))
  free_of_a n fits false true mb true es epb eb ew in_map = absurd (grind (arith, nat_tests))
  free_of_a n fits false false true true es epb eb ew in_map = absurd (grind (arith, nat_tests))
  free_of_a n fits false false false true es epb eb ew in_map =
      let x : false ≡ true = rw (es, epb, eb) at in_map in cc

-- whose core it is
core_a : (core : ℕ) → IsTrue (has_core core vm_a) → IsTrue (is_core_of pair 0 core)
core_a core has = rw has refl

not_a : (core : ℕ) → IsFalse (is_core_of pair 0 core) → (c : Bool) → (0 == core) ≡ c → c ≡ false
not_a core stranger false e = refl
not_a core stranger true e = let x : true ≡ false = rw e at stranger in cc

core_b : (core : ℕ) → IsTrue (has_core core vm_b) → (c d : Bool) → (0 == core) ≡ c → (1 == core) ≡ d → IsTrue (is_core_of pair 1 core)
core_b core has true true e one = absurd (grind (arith, nat_tests))
core_b core has c false e one = let x : false ≡ true = rw one at has in cc
core_b core has false true e one = rw (e, one) refl

not_b : (core : ℕ) → IsFalse (is_core_of pair 1 core) → (c d : Bool) → (0 == core) ≡ c → (1 == core) ≡ d → d ≡ false
not_b core stranger c false e one = refl
not_b core stranger true true e one = absurd (grind (arith, nat_tests))
not_b core stranger false true e one = let x : true ≡ false = rw (e, one) at stranger in cc

-- and no core is in both lists
never_both : (core : ℕ) (c d : Bool) → (0 == core) ≡ c → (1 == core) ≡ d → IsTrue d → IsFalse c
never_both core true true e one has = absurd (grind (arith, nat_tests))
never_both core false d e one has = refl
never_both core true false e one has = cc

never_both_ways : (core : ℕ) (c d : Bool) → (0 == core) ≡ c → (1 == core) ≡ d → IsTrue c → IsFalse d
never_both_ways core true true e one has = absurd (grind (arith, nat_tests))
never_both_ways core c false e one has = refl
never_both_ways core false true e one has = cc

lists_one : (b : Bool) → IsTrue (b || false) → IsTrue b
lists_one true h = refl
lists_one false h = cc

lists_none : (b : Bool) → IsFalse b → IsFalse (b || false)
lists_none true h = cc
lists_none false h = refl

other_of_a : (w : ℕ) (other : VmData) (core : ℕ) → w ≢ 0 → slice_get (vm_a ∷ vm_b ∷ []) w ≡ Some other → IsTrue (has_core core other)
    → IsFalse (has_core core vm_a)
other_of_a zero other core but got has = absurd (but refl)
other_of_a (suc zero) other core but got has =
    let vm : vm_b ≡ other = cc in
    let own : IsTrue (has_core core vm_b) = subst (λ x. IsTrue (has_core core x)) (sym vm) has in
    lists_none (0 == core) (never_both core (0 == core) (1 == core) refl refl (lists_one (1 == core) own))
other_of_a (suc (suc w)) other core but got has = cc

other_of_b : (w : ℕ) (other : VmData) (core : ℕ) → w ≢ 1 → slice_get (vm_a ∷ vm_b ∷ []) w ≡ Some other → IsTrue (has_core core other)
    → IsFalse (has_core core vm_b)
other_of_b zero other core but got has =
    let vm : vm_a ≡ other = cc in
    let own : IsTrue (has_core core vm_a) = subst (λ x. IsTrue (has_core core x)) (sym vm) has in
    lists_none (1 == core) (never_both_ways core (0 == core) (1 == core) refl refl (lists_one (0 == core) own))
other_of_b (suc zero) other core but got has = absurd (but refl)
other_of_b (suc (suc w)) other core but got has = cc

-- nor is a port given to both
devs_of_a : (w : ℕ) (other : VmData) (port : ℕ) → w ≢ 0 → slice_get (vm_a ∷ vm_b ∷ []) w ≡ Some other → IsTrue (has_port port other)
    → IsFalse (has_port port vm_a)
devs_of_a zero other port but got has = absurd (but refl)
devs_of_a (suc zero) other port but got has =
    let vm : vm_b ≡ other = cc in
    let own : IsTrue (has_port port vm_b) = subst (λ x. IsTrue (has_port port x)) (sym vm) has in
    lists_none (0 == port) (never_both port (0 == port) (1 == port) refl refl (lists_one (1 == port) own))
devs_of_a (suc (suc w)) other port but got has = cc

devs_of_b : (w : ℕ) (other : VmData) (port : ℕ) → w ≢ 1 → slice_get (vm_a ∷ vm_b ∷ []) w ≡ Some other → IsTrue (has_port port other)
    → IsFalse (has_port port vm_b)
devs_of_b zero other port but got has =
    let vm : vm_a ≡ other = cc in
    let own : IsTrue (has_port port vm_a) = subst (λ x. IsTrue (has_port port x)) (sym vm) has in
    lists_none (1 == port) (never_both_ways port (0 == port) (1 == port) refl refl (lists_one (0 == port) own))
devs_of_b (suc zero) other port but got has = absurd (but refl)
devs_of_b (suc (suc w)) other port but got has = cc

-- whose ports a core reaches
module _ (core port : ℕ) (reached : ReachesPort (by_map pair core) (platform_places pair) port) where
  of_a : (0 == core) ≡ true → port ≡ 0
  of_a own =
      let at = reached.at in
      port_of_core_a core at (hyp core at) (memory_a core at) (shared core at) (port_a core at) (port_b core at) refl refl refl refl refl
      own port reached.offset reached.allowed reached.place

  of_b : (0 == core) ≡ false → (1 == core) ≡ true → port ≡ 1
  of_b other own =
      let at = reached.at in
      port_of_core_b core at (hyp core at) (memory_b core at) (shared core at) (port_a core at) (port_b core at) refl refl refl refl refl
      other own port reached.offset reached.allowed reached.place

  none : (0 == core) ≡ false → (1 == core) ≡ false → ⊥
  none other own = no_other_core core reached.at (hyp core reached.at) refl other own reached.allowed

  own_of_a : (c d : Bool) → (0 == core) ≡ c → (1 == core) ≡ d → IsTrue (is_core_of pair 0 core) → IsTrue (has_port port vm_a)
  own_of_a true d e one own = subst (λ p. IsTrue (has_port p vm_a)) (sym (of_a e)) refl
  own_of_a false true e one own = let x : false ≡ true = rw (e, one) at own in cc
  own_of_a false false e one own = let x : false ≡ true = rw (e, one) at own in cc

  own_of_b : (c d : Bool) → (0 == core) ≡ c → (1 == core) ≡ d → IsTrue (is_core_of pair 1 core) → IsTrue (has_port port vm_b)
  own_of_b false true e one own = subst (λ p. IsTrue (has_port p vm_b)) (sym (of_b e one)) refl
  own_of_b true d e one own = let x : false ≡ true = rw e at own in cc
  own_of_b false false e one own = let x : false ≡ true = rw (e, one) at own in cc

  foreign_to_a : (c d : Bool) → (0 == core) ≡ c → (1 == core) ≡ d → IsFalse (is_core_of pair 0 core) → IsFalse (has_port port vm_a)
  foreign_to_a true d e one stranger = let x : true ≡ false = rw e at stranger in cc
  foreign_to_a false true e one stranger = subst (λ p. IsFalse (has_port p vm_a)) (sym (of_b e one)) refl
  foreign_to_a false false e one stranger = absurd (none e one)

  foreign_to_b : (c d : Bool) → (0 == core) ≡ c → (1 == core) ≡ d → IsFalse (is_core_of pair 1 core) → IsFalse (has_port port vm_b)
  foreign_to_b true d e one stranger = subst (λ p. IsFalse (has_port p vm_b)) (sym (of_a e)) refl
  foreign_to_b false true e one stranger = let x : true ≡ false = rw (e, one) at stranger in cc
  foreign_to_b false false e one stranger = absurd (none e one)

module _ (a b : List ℕ) (fit : AreFit a b) where
  pub a_is_apart : IsApart pair (a ∷ b ∷ []) 0 vm_a
  a_is_apart = record {
    place = refl;
    cores = core_a;
    other_cores = other_of_a;
    stores = λ core at stranger may in_map.
        stores_of_b core at (hyp core at) (memory_a core at) (memory_b core at) (shared core at) (port_a core at) (port_b core at)
        refl refl refl refl refl refl (not_a core stranger (0 == core) refl) (1 == core) refl may in_map;
    loads = λ w other image at but got given in_map. of_place w other image at but got given in_map;
    own_ports = λ core port own reached. own_of_a core port reached (0 == core) (1 == core) refl refl own;
    other_ports = λ core port stranger reached. foreign_to_a core port reached (0 == core) (1 == core) refl refl stranger;
    other_devs = devs_of_a;
  }
    where
      of_place : (w : ℕ) (other : VmData) (image : List ℕ) (at : ℕ) → w ≢ 0 → slice_get (vm_a ∷ vm_b ∷ []) w ≡ Some other
          → slice_get (a ∷ b ∷ []) w ≡ Some image → IsInMap pair vm_a at
          → IsFalse (is_within (record { base = other.place.base; size = length image }) at)
      of_place zero other image at but got given in_map = absurd (but refl)
      of_place (suc zero) other image at but got given in_map =
          let vm : vm_b ≡ other = cc in let bytes : b ≡ image = cc in
          let free = free_of_b 0 at (length b) fit.1 (shared 0 at) (port_a 0 at) (memory_a 0 at)
          (is_within (record { base = 0x140000; size = length b }) at) refl refl refl refl in_map in
          subst (λ x. IsFalse (is_within (record { base = x.place.base; size = length image }) at)) vm
          (subst (λ x. IsFalse (is_within (record { base = 0x140000; size = length x }) at)) bytes free)
      of_place (suc (suc w)) other image at but got given in_map = cc

  pub b_is_apart : IsApart pair (a ∷ b ∷ []) 1 vm_b
  b_is_apart = record {
    place = refl;
    cores = λ core has. core_b core has (0 == core) (1 == core) refl refl;
    other_cores = other_of_b;
    stores = λ core at stranger may in_map.
        stores_of_a core at (hyp core at) (memory_a core at) (memory_b core at) (shared core at) (port_a core at) (port_b core at)
        refl refl refl refl refl refl (not_b core stranger (0 == core) (1 == core) refl refl) (0 == core) refl may in_map;
    loads = λ w other image at but got given in_map. of_place w other image at but got given in_map;
    own_ports = λ core port own reached. own_of_b core port reached (0 == core) (1 == core) refl refl own;
    other_ports = λ core port stranger reached. foreign_to_b core port reached (0 == core) (1 == core) refl refl stranger;
    other_devs = devs_of_b;
  }
    where
      of_place : (w : ℕ) (other : VmData) (image : List ℕ) (at : ℕ) → w ≢ 1 → slice_get (vm_a ∷ vm_b ∷ []) w ≡ Some other
          → slice_get (a ∷ b ∷ []) w ≡ Some image → IsInMap pair vm_b at
          → IsFalse (is_within (record { base = other.place.base; size = length image }) at)
      of_place zero other image at but got given in_map =
          let vm : vm_a ≡ other = cc in let bytes : a ≡ image = cc in
          let free = free_of_a 0 at (length a) fit.0 (shared 0 at) (port_b 0 at) (memory_b 0 at)
          (is_within (record { base = 0x100000; size = length a }) at) refl refl refl refl in_map in
          subst (λ x. IsFalse (is_within (record { base = x.place.base; size = length image }) at)) vm
          (subst (λ x. IsFalse (is_within (record { base = 0x100000; size = length x }) at)) bytes free)
      of_place (suc zero) other image at but got given in_map = absurd (but refl)
      of_place (suc (suc w)) other image at but got given in_map = cc

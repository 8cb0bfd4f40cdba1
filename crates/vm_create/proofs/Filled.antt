-- The entries of a core while they are set one after another, and those of all cores.
use Rattle.std.proofs.Common.{◌≡◌, ℕ, zero, suc, ◌+◌, ◌-◌, ◌<◌, ◌≤◌, List, [], ◌∷◌, ◌++◌, map, take, replicate, set, length, slice_get, get_or, Some, refl, sym, ap, ◌∙◌, arith}
use Rattle.std.specs.List.{enumerate_from}
use Rattle.std.proofs.lemmas.List.{get_or-set_same, length-take, set-set}
use Rattle.std.proofs.lemmas.Option.{slice_get_within}
use Rattle.board.specs.Machine.{Machine}
use Rattle.bao_types.specs.declared.region.Region.{Region}
use Rattle.bao_types.specs.Region.{no_region}
use Rattle.bao_config.specs.Data.{ConfigData}
use Rattle.hypervisor.specs.Packed.{all_filled, filled}
use Rattle.vm_create.proofs.Mixed.{length_mixed, mixed, mixed_all, mixed_next, mixed_set}
use Rattle.hypervisor.specs.Shape.{core_place, shape_of}

none_left : (count : ℕ) → filled count [] ≡ replicate count no_region
none_left count = ap (λ n. replicate n no_region) (omega arith)

-- one more packed entry leaves one zero entry less
filled_next : (count : ℕ) (entry : Region) (packed : List Region) → filled (suc count) (entry ∷ packed) ≡ entry ∷ filled count packed
filled_next count entry packed =
    let left : suc count - suc (length packed) ≡ count - length packed = omega arith in
    ap (λ n. entry ∷ packed ++ replicate n no_region) left

length_replicate : (count : ℕ) → length (replicate count no_region) ≡ count
length_replicate zero = refl
length_replicate (suc count) = ap suc (length_replicate count)

pub length_none : (count : ℕ) → length (filled count []) ≡ count
length_none count = ap length (none_left count) ∙ length_replicate count

pub length_filled : (count : ℕ) (packed : List Region) → length packed ≤ count → length (filled count packed) ≡ count
length_filled count [] fits = length_none count
length_filled zero (entry ∷ packed) fits = absurd (omega arith)
length_filled (suc count) (entry ∷ packed) fits =
    ap length (filled_next count entry packed) ∙ ap suc (length_filled count packed (omega arith))

pub filled_more : (count : ℕ) (packed : List Region) (i : ℕ) (entry : Region) → slice_get packed i ≡ Some entry → length packed ≤ count
    → set (filled count (take i packed)) i entry ≡ filled count (take (suc i) packed)
filled_more count [] i entry got fits = cc
filled_more zero (first ∷ packed) i entry got fits = absurd (omega arith)
filled_more (suc count) (first ∷ packed) zero entry got fits =
    let same : first ≡ entry = cc in
    ap (λ entries. set entries 0 entry) (none_left (suc count))
    ∙ ap (λ x. x ∷ replicate count no_region) (sym same)
    ∙ ap (λ rest. first ∷ rest) (sym (none_left count))
    ∙ sym (filled_next count first [])
filled_more (suc count) (first ∷ packed) (suc i) entry got fits =
    ap (λ entries. set entries (suc i) entry) (filled_next count first (take i packed))
    ∙ ap (λ rest. first ∷ rest) (filled_more count packed i entry got (omega arith))
    ∙ sym (filled_next count first (take (suc i) packed))

-- a core that isn't set yet has zero entries, and one that is has its packing
pub length_all_filled : (counts : List ℕ) (packings : List (List Region)) → length (all_filled counts packings) ≡ length counts
length_all_filled [] packings = refl
length_all_filled (count ∷ counts) [] = ap suc (length_all_filled counts [])
length_all_filled (count ∷ counts) (packed ∷ packings) = ap suc (length_all_filled counts packings)

pub all_filled_got : (counts : List ℕ) (packings : List (List Region)) (core count : ℕ) (packed : List Region) → slice_get counts core ≡ Some count
    → slice_get packings core ≡ Some packed → slice_get (all_filled counts packings) core ≡ Some (filled count packed)
all_filled_got [] packings core count packed is got = cc
all_filled_got (c ∷ counts) [] core count packed is got = cc
all_filled_got (c ∷ counts) (p ∷ packings) zero count packed is got =
    let same : c ≡ count = cc in let same_packed : p ≡ packed = cc in
    ap (λ c. Some (filled c p)) same ∙ ap (λ p. Some (filled count p)) same_packed
all_filled_got (c ∷ counts) (p ∷ packings) (suc core) count packed is got = all_filled_got counts packings core count packed is got

pub none_filled_got : (counts : List ℕ) (core count : ℕ) → slice_get counts core ≡ Some count → get_or (all_filled counts []) core [] ≡ filled count []
none_filled_got [] core count is = cc
none_filled_got (c ∷ counts) zero count is = let same : c ≡ count = cc in ap (λ c. filled c []) same
none_filled_got (c ∷ counts) (suc core) count is = none_filled_got counts core count is

-- on a board that was just fitted no core's entries are set
pub none_filled : (cfg : ConfigData) (counts : List ℕ) (from : ℕ)
    → map (λ place. replicate place.entries no_region) (map (λ place. core_place cfg place.0 place.1) (enumerate_from from counts)) ≡ all_filled counts []
none_filled cfg [] from = refl
none_filled cfg (count ∷ counts) from =
    ap (λ rest. replicate count no_region ∷ rest) (none_filled cfg counts (from + 1))
    ∙ ap (λ first. first ∷ all_filled counts []) (sym (none_left count))

pub take_whole : {A : Type 0} (xs : List A) (i : ℕ) → i ≡ length xs → take i xs ≡ xs
take_whole [] zero same = refl
take_whole [] (suc i) same = refl
take_whole (x ∷ xs) zero same = absurd (omega arith)
take_whole (x ∷ xs) (suc i) same = ap (λ rest. x ∷ rest) (take_whole xs i (omega arith))

pub length_places : {A B : Type 0} (f : ℕ × A → B) (from : ℕ) (xs : List A) → length (map f (enumerate_from from xs)) ≡ length xs
length_places f from [] = refl
length_places f from (x ∷ xs) = ap suc (length_places f (from + 1) xs)

pub core_within : (cfg : ConfigData) (events core most : ℕ) → slice_get cfg.platform.cores core ≡ Some most → core < length (shape_of cfg events).cores
core_within cfg events core most got =
    omega (arith, slice_get_within cfg.platform.cores core most got, length_places (λ place. core_place cfg place.0 place.1) 0 cfg.platform.cores)

abbrev pub with_entries : Machine → List (List Region) → Machine
with_entries m entries = record m { entries = entries }

-- a core's own entries while they are set
module _ (before entries : List (List Region)) (core count i : ℕ) (packed : List Region) (low : core < length before) (fits : length packed ≤ count)
    (is : entries ≡ set before core (filled count (take i packed))) where
  own_entries : get_or entries core [] ≡ filled count (take i packed)
  own_entries = ap (λ all. get_or all core []) is ∙ get_or-set_same before core (filled count (take i packed)) [] low

  pub index_within : i < length packed → i < length (get_or entries core [])
  index_within more =
      let short : length (take i packed) ≤ count = omega (arith, length-take i packed, fits) in
      omega (arith, ap length own_entries, length_filled count (take i packed) short, more, fits)

  pub own_more : (next : ℕ) (entry : Region) → slice_get packed i ≡ Some entry → next ≡ suc i
      → set entries core (set (get_or entries core []) i entry) ≡ set before core (filled count (take next packed))
  own_more next entry got step =
      ap (λ own. set entries core (set own i entry)) own_entries
      ∙ ap (λ all. set all core (set (filled count (take i packed)) i entry)) is
      ∙ set-set before core (filled count (take i packed)) (set (filled count (take i packed)) i entry)
      ∙ ap (set before core) (filled_more count packed i entry got fits)
      ∙ ap (λ n. set before core (filled count (take n packed))) (sym step)

-- all cores while they are set: the next one still has zero entries
module _ (counts : List ℕ) (packings entries : List (List Region)) (core : ℕ) (is : entries ≡ mixed core (all_filled counts packings) (all_filled counts [])) where
  module _ (most : ℕ) (of_platform : slice_get counts core ≡ Some most) where
    low : core < length counts
    low = slice_get_within counts core most of_platform

    pub entries_within : core < length entries
    entries_within =
        let n = length_all_filled counts packings in let m = length_all_filled counts [] in let l = low in
        let same = length_mixed core (all_filled counts packings) (all_filled counts []) (omega (arith, l, n)) (omega (arith, l, m)) in
        omega (arith, l, m, same, ap length is)

    pub next_none : get_or entries core [] ≡ filled most []
    next_none =
        let n = length_all_filled counts packings in let m = length_all_filled counts [] in let l = low in
        ap (λ all. get_or all core []) is
        ∙ mixed_next (all_filled counts packings) (all_filled counts []) core [] (omega (arith, l, n)) (omega (arith, l, m))
        ∙ none_filled_got counts core most of_platform

    pub next_count : length (get_or entries core []) ≡ most
    next_count = ap length next_none ∙ length_none most

    pub next_filled : (next : ℕ) (packed : List Region) → slice_get packings core ≡ Some packed → next ≡ suc core
        → set entries core (filled (length (get_or entries core [])) packed) ≡ mixed next (all_filled counts packings) (all_filled counts [])
    next_filled next packed got step =
        let m = length_all_filled counts [] in let l = low in
        ap (λ n. set entries core (filled n packed)) next_count
        ∙ ap (λ all. set all core (filled most packed)) is
        ∙ mixed_set (all_filled counts packings) (all_filled counts []) core (filled most packed)
        (all_filled_got counts packings core most packed of_platform got) (omega (arith, l, m))
        ∙ ap (λ i. mixed i (all_filled counts packings) (all_filled counts [])) (sym step)

  pub whole_filled : core ≡ length counts → entries ≡ all_filled counts packings
  whole_filled last =
      let n = length_all_filled counts packings in let m = length_all_filled counts [] in
      is ∙ ap (λ i. mixed i (all_filled counts packings) (all_filled counts [])) (last ∙ sym n)
      ∙ mixed_all (all_filled counts packings) (all_filled counts []) (n ∙ sym m)

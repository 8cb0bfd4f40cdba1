-- Lemmas on the raised lines, for this crate and its callers.
use Rattle.std.proofs.Common.{arith, ◌≡◌, ℕ, ◌+◌, ◌<◌, List, [], ◌∷◌, ◌++◌, Bool, true, false, if◌then◌else◌, cond, Some, min, length, get_or, take, map, filter, refl, sym, ◌∙◌, ap, append_assoc, not, ◌==◌, ◌&&◌, ◌||◌, is_some, slice_index_or, set, replicate, zero, suc, subst, ◌≤◌}
use Rattle.std.specs.Prelude.{Contains}
use Rattle.std.specs.List.{list_any}
use Rattle.std.specs.Option.{option_map_or}
use Rattle.std.proofs.lemmas.Bool.Decides.{nat_tests}
use Rattle.std.proofs.lemmas.List.{append-nil, map-append}
use Rattle.std.proofs.lemmas.List.Filters.{length-filter_both}
use Rattle.std.proofs.lemmas.List.Elements.{filter-append, filter_more}
use Rattle.gic_core.specs.declared.port_line.PortLine.{PortLine}
use Rattle.gic_core.specs.Least.{IsLeast, least}
use Rattle.bao_types.specs.declared.shape.PortSpot.{PortSpot}
use Rattle.gic_core.specs.Lines.{LinesData, is_any_raised, least_raised, quiet_lines, raised_intids, raised_ppis, raised_spis, without_intid}
use Rattle.gic_core.specs.PortLine.{acknowledged_by, is_raised_for, lesser, quiet_line, reaches}
use Rattle.gic_core.proofs.LeastLemmas.{least-push, least_is_least}

-- the least interrupt of these and of the ports before place `i`, and then of one port more
pub least_more :
    (first : List ℕ) (ports : List PortLine) (core i : ℕ) (default : PortLine) → i < length ports →
    least (first ++ raised_spis (take (i + 1) ports) core) ≡ lesser (get_or ports i default) core (least (first ++ raised_spis (take i ports) core))
least_more first ports core i default within =
    ap (λ kept. least (first ++ map (λ line. line.spi) kept)) (filter_more (λ line. is_raised_for line core) ports i default within)
    ∙ ap (λ spis. least (first ++ spis)) (map-append (λ line. line.spi) (filter (λ line. is_raised_for line core) (take i ports)) _)
    ∙ by_test (is_raised_for line core) line (raised_spis (take i ports) core)
  where
    line : PortLine
    line = get_or ports i default

    by_test : (test : Bool) (last : PortLine) (spis : List ℕ) →
        least (first ++ (spis ++ map (λ line. line.spi) (cond test (last ∷ []) [])))
        ≡ (if test then Some (option_map_or (min last.spi) (least (first ++ spis)) last.spi) else least (first ++ spis))
    by_test true last spis = ap least (sym (append_assoc first spis (last.spi ∷ []))) ∙ least-push (first ++ spis) last.spi
    by_test false last spis = ap (λ all. least (first ++ all)) (append-nil spis)

-- one more port in front
raised_spis-cons :
    (line : PortLine) (ports : List PortLine) (core : ℕ) →
    raised_spis (line ∷ ports) core ≡ (if is_raised_for line core then line.spi ∷ raised_spis ports core else raised_spis ports core)
raised_spis-cons line ports core = by_test (is_raised_for line core) (filter (λ other. is_raised_for other core) ports)
  where
    by_test : (test : Bool) (rest : List PortLine) →
        map (λ other. other.spi) (cond test (line ∷ rest) rest)
        ≡ (if test then line.spi ∷ map (λ other. other.spi) rest else map (λ other. other.spi) rest)
    by_test true rest = refl
    by_test false rest = refl

-- in a new board no line is raised
pub raised_intids-quiet_lines : (spots : List PortSpot) (core : ℕ) → raised_intids (quiet_lines spots) core ≡ []
raised_intids-quiet_lines spots core = (λ t. (if ppi 8 core t then 27 ∷ [] else []) ++ spis spots t)
  where
    ppi : (cores core : ℕ) → get_or (replicate cores false) core false ≡ false
    ppi zero core = refl
    ppi (suc cores) zero = refl
    ppi (suc cores) (suc core) = ppi cores core

    spis : (spots : List PortSpot) → raised_spis (map quiet_line spots) core ≡ []
    spis [] = refl
    spis (spot ∷ spots) = spis spots

==-comm : (a b : ℕ) → (a == b) ≡ (b == a)
==-comm a b = grind (arith, nat_tests)

-- an acknowledgement takes one interrupt from those of the core, and leaves the others in their order
pub raised_intids-without_intid :
    (lines : LinesData) (core intid : ℕ) →
    raised_intids (without_intid lines core intid) core ≡ filter (λ other. not (other == intid)) (raised_intids lines core)
raised_intids-without_intid lines core intid =
    (λ t. ppi t ++ spis lines.ports t)
    ∙ sym (filter-append others (raised_ppis lines core) (raised_spis lines.ports core))
  where
    others : ℕ → Bool
    others other = not (other == intid)

    cleared : (ppis : List Bool) (core : ℕ) → get_or (set ppis core false) core false ≡ false
    cleared [] core = refl
    cleared (ppi ∷ ppis) zero = refl
    cleared (ppi ∷ ppis) (suc core) = cleared ppis core

    one_ppi : (same raised : Bool) → slice_index_or lines.ppis core false ≡ raised → not (27 == intid) ≡ not same →
        (if slice_index_or (if same then set lines.ppis core false else lines.ppis) core false then 27 ∷ [] else [])
        ≡ filter (λ other. not (other == intid)) (if raised then 27 ∷ [] else [])
    one_ppi true true was is = rw (cleared lines.ppis core, is) refl
    one_ppi true false was is = rw (cleared lines.ppis core) refl
    one_ppi false true was is = rw (was, is) refl
    one_ppi false false was is = rw was refl

    ppi : raised_ppis (without_intid lines core intid) core ≡ filter (λ other. not (other == intid)) (raised_ppis lines core)
    ppi = one_ppi (intid == 27) (slice_index_or lines.ppis core false) refl (ap not (==-comm 27 intid))

    one_line : (raised reached same : Bool) (spi : ℕ) (left all : List ℕ) → not (spi == intid) ≡ not same → left ≡ filter (λ other. not (other == intid)) all →
        (if (raised && not (same && reached)) && reached then spi ∷ left else left)
        ≡ filter (λ other. not (other == intid)) (if raised && reached then spi ∷ all else all)
    one_line false reached same spi left all is rest = rest
    one_line true false true spi left all is rest = rest
    one_line true false false spi left all is rest = rest
    one_line true true true spi left all is rest = rw is rest
    one_line true true false spi left all is rest = rw is (ap (λ found. spi ∷ found) rest)

    spis : (ports : List PortLine) → raised_spis (map (acknowledged_by core intid) ports) core ≡ filter (λ other. not (other == intid)) (raised_spis ports core)
    spis [] = refl
    spis (line ∷ ports) =
        raised_spis-cons (acknowledged_by core intid line) (map (acknowledged_by core intid) ports) core
        ∙ one_line line.raised (reaches line core) (line.spi == intid) line.spi _ _ refl (spis ports)
        ∙ sym (ap (filter (λ other. not (other == intid))) (raised_spis-cons line ports core))

-- a filter that drops an element leaves fewer
module _ (p : ℕ → Bool) where
  length-filter-le : (numbers : List ℕ) → length (filter p numbers) ≤ length numbers
  length-filter-le numbers = omega (arith, length-filter_both p (λ number. not (p number)) (λ number. refl) numbers)

  length-filter-cons : (number : ℕ) (numbers : List ℕ) → length (filter p (number ∷ numbers)) ≤ length (filter p numbers) + 1
  length-filter-cons number numbers = by_test (p number) (filter p numbers)
    where
      by_test : (test : Bool) (kept : List ℕ) → length (cond test (number ∷ kept) kept) ≤ length kept + 1
      by_test true kept = omega arith
      by_test false kept = omega arith

  length-filter-lt : (numbers : List ℕ) (dropped : ℕ) → p dropped ≡ false → Contains numbers dropped → length (filter p numbers) < length numbers
  length-filter-lt [] dropped drops (place, within, here) = absurd (omega arith)
  length-filter-lt (number ∷ numbers) dropped drops (zero, within, here) =
      let off : p number ≡ false = ap p here ∙ drops in
      rw off (omega (arith, length-filter-le numbers))
  length-filter-lt (number ∷ numbers) dropped drops (suc place, within, here) =
      omega (arith, length-filter-cons number numbers, length-filter-lt numbers dropped drops (place, omega arith, here))

-- so that the core's raised interrupts grow fewer
pub length-raised_intids-without_intid :
    (lines : LinesData) (core intid : ℕ) → least_raised lines core ≡ Some intid →
    length (raised_intids (without_intid lines core intid) core) < length (raised_intids lines core)
length-raised_intids-without_intid lines core intid is =
    let raised = raised_intids lines core in
    let first : IsLeast (Some intid) raised = subst (λ answer. IsLeast answer raised) is (least_is_least raised) in
    rw raised_intids-without_intid
    (length-filter-lt (λ other. not (other == intid)) raised intid (ap not (==-same intid)) first.0)
  where
    ==-same : (number : ℕ) → (number == number) ≡ true
    ==-same number = grind (arith, nat_tests)

-- nor is one where all lines are new
pub none_quiet : (spots : List PortSpot) → false ≡ list_any (λ line. line.raised) (map quiet_line spots)
none_quiet [] = refl
none_quiet (spot ∷ spots) = none_quiet spots

-- where no line is raised at all, none is for a core
pub none_is_raised : (lines : LinesData) (core : ℕ) → is_any_raised lines.ppis lines.ports ≡ false → is_some (least_raised lines core) ≡ false
none_is_raised lines core none =
    ap (λ raised. is_some (least raised))
    ((λ t. (if ppi lines.ppis core (or_left _ _ none) t then 27 ∷ [] else []) ++ spis lines.ports (or_right _ _ none) t))
  where
    or_left : (a b : Bool) → a || b ≡ false → a ≡ false
    or_left true b is = cc
    or_left false b is = refl

    or_right : (a b : Bool) → a || b ≡ false → b ≡ false
    or_right true b is = cc
    or_right false b is = is

    ppi : (ppis : List Bool) (core : ℕ) → list_any (λ raised. raised) ppis ≡ false → get_or ppis core false ≡ false
    ppi [] core is = refl
    ppi (raised ∷ ppis) zero is = or_left _ _ is
    ppi (raised ∷ ppis) (suc core) is = ppi ppis core (or_right raised _ is)

    quiet : (line : PortLine) → line.raised ≡ false → is_raised_for line core ≡ false
    quiet line is = ap (λ raised. raised && reaches line core) is

    spis : (ports : List PortLine) → list_any (λ line. line.raised) ports ≡ false → raised_spis ports core ≡ []
    spis [] is = refl
    spis (line ∷ ports) is =
        raised_spis-cons line ports core
        ∙ ap (λ raised. if raised then line.spi ∷ raised_spis ports core else raised_spis ports core) (quiet line (or_left _ _ is))
        ∙ spis ports (or_right line.raised _ is)

-- Entries that are confined let a guest store in memory in use and in ports alone.
use Rattle.std.proofs.Common.{◌≡◌, ℕ, Bool, true, false, List, [], ◌∷◌, All, map, replicate, get_or, refl, sym, subst, inl, inr, lit<, arith}
use Rattle.std.specs.Prelude.{IsTrue, ◌&&◌, ◌||◌, ◌⊎◌, if◌then◌else◌, None}
use Rattle.std.proofs.lemmas.Bool.Decides.{nat_tests}
use Rattle.std.proofs.lemmas.List.Elements.{All-filter, All-map, All-replicate, filter_passes}
use Rattle.bao_types.specs.declared.access.Access.TheVariants.{Write}
use Rattle.bao_types.specs.declared.access.Verdict.TheVariants.{Allow, Permission}
use Rattle.bao_types.specs.declared.region.Region.{Region}
use Rattle.bao_types.specs.Region.{no_region, access_permission, covers, is_enabled, is_execute_never, is_match, matching_regions}
use Rattle.bao_types.specs.RegionMatch.{match_of}
use Rattle.bao_types.specs.Shape.{ShapeData}
use Rattle.bao_types.specs.declared.shape.CorePlace.{CorePlace}
use Rattle.pmsa_stage2.specs.Stage2.{gives_guest, match_verdict, stage2}
use Rattle.board.specs.Stage.{Stage, both as both_stages, is_allowed}
use Rattle.board.specs.Judge.{all_from, first_fault}
use Rattle.board.proofs.Reached.{allowed_all, allowed_by_second}
use Rattle.sim_board.proofs.Weaker.{all_from-weaker}
use Rattle.board.specs.Machine.{IsSafeEntry, is_used, port_places}
use Rattle.board.specs.Ports.{is_port}
use Rattle.bao_types.specs.declared.shape.PortSpot.{PortSpot}
use Rattle.sim_board.specs.Devices.{is_backed}
use Rattle.sim_board.specs.Reached.{IsContained}
use Rattle.sim_board.specs.Sound.{IsConfined}

module _ (shape : ShapeData) (at : ℕ) where
  -- by the entries that contain the byte
  by_matches : (matches : List Region) → All (IsConfined shape) matches → All (λ r. is_match r at ≡ true) matches
      → IsTrue (is_allowed (match_verdict (match_of matches) Write)) → IsTrue (is_used shape at || is_port (port_places shape.ports) at)
  by_matches [] confined match stored = cc
  by_matches (entry ∷ []) confined match stored = by_grant (gives_guest entry Write) refl stored
    where
      by_grant : (given : Bool) → gives_guest entry Write ≡ given
          → IsTrue (is_allowed (if given then Allow else Permission)) → IsTrue (is_used shape at || is_port (port_places shape.ports) at)
      by_grant true e s = confined 0 entry (lit< tt) at (match 0 entry (lit< tt)) e
      by_grant false e s = cc
  by_matches (entry ∷ other ∷ matches) confined match stored = cc

  -- by all entries of a core
  confined_store : (entries : List Region) → All (IsConfined shape) entries
      → IsTrue (is_allowed (stage2 entries Write at)) → IsTrue (is_used shape at || is_port (port_places shape.ports) at)
  unfolding stage2
  confined_store entries confined stored =
      by_matches (matching_regions entries at) (All-filter (λ r. is_match r at) (IsConfined shape) entries confined)
      (filter_passes (λ r. is_match r at) entries) stored

-- so what a guest stores to is a port's or is kept
backed_of : (used port kept : Bool) → IsTrue (used || port) → (IsTrue used → IsTrue kept) → IsTrue (port || kept)
backed_of used true kept either step = refl
backed_of true false kept either step = step refl
backed_of false false kept either step = cc

pub contained : (shape : ShapeData) (entries : List Region) (spots : List PortSpot) (kept : ℕ → Bool) → All (IsConfined shape) entries
    → spots ≡ shape.ports → ((at : ℕ) → IsTrue (is_used shape at) → IsTrue (kept at)) → IsContained kept entries spots
contained shape entries spots kept confined places held at stored =
    subst (λ (ports : List PortSpot). IsTrue (is_backed ports kept at)) (sym places)
    (backed_of (is_used shape at) (is_port (port_places shape.ports) at) (kept at) (confined_store shape at entries confined stored) (held at))

both : (a b : Bool) → IsTrue (a && b) → IsTrue a × IsTrue b
both true b h = (refl, h)
both false b h = cc

either : (used port : Bool) (never : Type 0) → IsTrue used ⊎ (IsTrue port × never) → IsTrue (used || port)
either true port never h = refl
either false port never (inl used) = cc
either false port never (inr h) = h.0

-- an entry that may be set is confined
pub safe_is_confined : (shape : ShapeData) (entry : Region) → IsSafeEntry shape entry → IsConfined shape entry
safe_is_confined shape entry safe at match given =
    let found = both (is_enabled entry) (covers entry at) match in
    let allowed : access_permission entry ≡ 1 = grind (arith, nat_tests) in
    either (is_used shape at) (is_port (port_places shape.ports) at) (IsTrue (is_execute_never entry)) (safe found.0 (inl allowed) at found.1)

-- entries of zeros let a guest at nothing
pub zeros_are_confined : (shape : ShapeData) (places : List CorePlace)
    → All (All (IsConfined shape)) (map (λ place. replicate place.entries no_region) places)
zeros_are_confined shape places =
    All-map (All (IsConfined shape)) (λ place. replicate place.entries no_region) places
    (λ k d low. All-replicate (IsConfined shape) (get_or places k d).entries no_region (λ at match given. cc))

-- each byte of a store that both stages allow
pub backed_all : (one two : Stage) (spots : List PortSpot) (kept : ℕ → Bool)
    → ((at : ℕ) → IsTrue (is_allowed (two Write at)) → IsTrue (is_backed spots kept at))
    → (at n : ℕ) → first_fault one two Write at n ≡ None → IsTrue (all_from (is_backed spots kept) at n)
backed_all one two spots kept contained at n none =
    all_from-weaker (λ byte. is_allowed (both_stages one two Write byte)) (is_backed spots kept)
    (λ byte may. contained byte (allowed_by_second one two Write byte may)) at n (allowed_all one two Write at n none)

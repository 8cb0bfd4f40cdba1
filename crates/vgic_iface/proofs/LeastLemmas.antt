-- The least rank, for this crate and its callers.
use Rattle.std.proofs.Common.{◌≡◌, ℕ, zero, suc, ◌<◌, ◌≤◌, min, arith, refl, ◌∙◌, ◌⊎◌, inl, inr}
use Rattle.vgic_iface.specs.Rank.{least, no_rank}

-- it is no greater than the rank of any of the ids
pub least_le : (rank_at : ℕ → ℕ) (count id : ℕ) → id < count → least rank_at count ≤ rank_at id
unfolding least
least_le rank_at zero id within = omega arith
least_le rank_at (suc count) id within = by_place (le_cases id count (omega arith)) (λ below. least_le rank_at count id below)
  where
    le_cases : (id count : ℕ) → id ≤ count → (id < count) ⊎ (id ≡ count)
    le_cases id count le = grind arith

    by_place : (id < count) ⊎ (id ≡ count) → (id < count → least rank_at count ≤ rank_at id) → min (least rank_at count) (rank_at count) ≤ rank_at id
    by_place (inl below) rest = omega (arith, rest below)
    by_place (inr same) rest = rw same (omega arith)

-- it is no less than a bound of them all
pub le_least : (rank_at : ℕ → ℕ) (count bound : ℕ) → bound ≤ no_rank → ((id : ℕ) → id < count → bound ≤ rank_at id) → bound ≤ least rank_at count
unfolding least
le_least rank_at zero bound top below = top
le_least rank_at (suc count) bound top below =
    omega (arith, le_least rank_at count bound top (λ id within. below id (omega arith)), below count (omega arith))

pub least_le_none : (rank_at : ℕ → ℕ) (count : ℕ) → least rank_at count ≤ no_rank
unfolding least
least_le_none rank_at zero = omega arith
least_le_none rank_at (suc count) = omega (arith, least_le_none rank_at count)

-- it is the rank of one of the ids, where there is any
pub least-found : (rank_at : ℕ → ℕ) (count : ℕ) →
    (least rank_at count ≡ no_rank) ⊎ ((id : ℕ) × (id < count) × (least rank_at count ≡ rank_at id))
unfolding least
least-found rank_at zero = inl refl
least-found rank_at (suc count) = by_order (min_cases (least rank_at count) (rank_at count)) (least-found rank_at count)
  where
    min_cases : (a b : ℕ) → (min a b ≡ a) ⊎ (min a b ≡ b)
    min_cases a b = grind arith

    by_order : (min (least rank_at count) (rank_at count) ≡ least rank_at count) ⊎ (min (least rank_at count) (rank_at count) ≡ rank_at count) →
        (least rank_at count ≡ no_rank) ⊎ ((id : ℕ) × (id < count) × (least rank_at count ≡ rank_at id)) →
        (min (least rank_at count) (rank_at count) ≡ no_rank)
        ⊎ ((id : ℕ) × (id < suc count) × (min (least rank_at count) (rank_at count) ≡ rank_at id))
    by_order (inr last) rest = inr (count, omega arith, last)
    by_order (inl first) (inl none) = inl (first ∙ none)
    by_order (inl first) (inr (id, within, is)) = inr (id, omega arith, first ∙ is)

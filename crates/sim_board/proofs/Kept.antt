-- Memory in use stays kept.
use Rattle.std.proofs.Common.{◌≡◌, ℕ, sym, subst}
use Rattle.std.specs.Prelude.{IsTrue, Option, Some}
use Rattle.bao_types.specs.Shape.{ShapeData}
use Rattle.board.specs.Machine.{is_used}
use Rattle.phys_bank.specs.Banks.{BanksData, is_kept}

pub still_used : (shape : ShapeData) (memory : Option BanksData) (old new : BanksData) → memory ≡ Some old → is_kept new ≡ is_kept old
    → ((banks : BanksData) → memory ≡ Some banks → (at : ℕ) → IsTrue (is_used shape at) → IsTrue (is_kept banks at))
    → (banks : BanksData) → Some new ≡ Some banks → (at : ℕ) → IsTrue (is_used shape at) → IsTrue (is_kept banks at)
still_used shape memory old new is kept held banks same at used =
    let equal : new ≡ banks = cc in
    subst (λ (b : BanksData). IsTrue (is_kept b at)) equal
    (subst (λ keeps. IsTrue (keeps at)) (sym kept) (held old is at used))

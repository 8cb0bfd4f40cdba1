-- Facts on what a shelf tells, and on counts of faults. For callers of this crate.
use Rattle.std.proofs.Common.{◌≡◌, ◌≢◌, ℕ, ◌<◌, subst, arith}
use Rattle.std.specs.Prelude.{Option, None, Some}
use Rattle.outside.specs.Faults.{risen}
use Rattle.outside.specs.Shelf.{Files, IfHeld}
use Rattle.outside.specs.Use.{last_count}

-- a count below its last value that has risen is another
pub risen-other : (before : ℕ) → before < last_count → risen before ≢ before
risen-other before low same = omega arith

-- a fact on the files that are told
pub held_fact : (held : Option Files) (files : Files) (P : Files → Type 0) → held ≡ Some files → IfHeld held P → P files
held_fact held files P e h = let P' : Option Files → Type 0 = λ o. IfHeld o P in subst P' e h

-- a fact on all files
pub every : (held : Option Files) (P : Files → Type 0) → ((files : Files) → P files) → IfHeld held P
every None P all = tt
every (Some files) P all = all files

-- a fact that follows from another
pub follows : (held : Option Files) (P Q : Files → Type 0) → ((files : Files) → P files → Q files) → IfHeld held P → IfHeld held Q
follows None P Q step h = tt
follows (Some files) P Q step h = step files h

-- a fact that follows from two others
pub both : (held : Option Files) (P Q R : Files → Type 0) → ((files : Files) → P files → Q files → R files) → IfHeld held P → IfHeld held Q
    → IfHeld held R
both None P Q R step p q = tt
both (Some files) P Q R step p q = step files p q

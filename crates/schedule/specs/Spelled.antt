-- How a line is written that says a step or an input.
use Rattle.std.specs.Prelude.{◌≡◌, ℕ, ◌^◌, ◌<◌, List, ◌++◌, codes}
use Rattle.std.specs.Fmt.{decimal}

pub record SpellsStep (core count : ℕ) (text : List ℕ) : Type 0 where
  pub core_fits : core < 2 ^ 64
  pub count_fits : count < 2 ^ 64
  pub spelled : text ≡ codes "s " ++ (decimal core ++ (codes " " ++ decimal count))

pub record SpellsInput (port byte : ℕ) (text : List ℕ) : Type 0 where
  pub port_fits : port < 2 ^ 64
  pub byte_fits : byte < 256
  pub spelled : text ≡ codes "i " ++ (decimal port ++ (codes " " ++ decimal byte))

use Rattle.std.proofs.Common.{◌≡◌, drop}
use Rattle.std.specs.Prelude.{find}
use Rattle.std.specs.Str.{bytes_eq}
use Rattle.a64_asm.specs.Mnemonic.{name_of}
use Rattle.a64_asm.proofs.mnemonic.named.Given as goal

abbrev pub invariant-loop-one : goal.invariant-loop-one
invariant-loop-one l =
    find (λ one. bytes_eq l.text (name_of one)) l.mnemonics ≡ find (λ one. bytes_eq l.text (name_of one)) (drop l.one-index l.mnemonics)

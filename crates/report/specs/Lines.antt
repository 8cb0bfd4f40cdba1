-- The lines of the report. Each ends with LF.
use Rattle.std.specs.Prelude.{ℕ, ◌==◌, if◌then◌else◌, List, [], ◌++◌, codes}
use Rattle.std.specs.Fmt.{decimal}
use Rattle.numerals.specs.Hex.{hex}
use Rattle.text_lines.specs.Newline.{newline}
use Rattle.text_lines.specs.Digits.{hex_bytes}

-- `vm NAME` and `end NAME`
unfoldable pub vm_line : List ℕ → List ℕ
vm_line name = codes "vm " ++ (name ++ newline)

unfoldable pub end_line : List ℕ → List ℕ
end_line name = codes "end " ++ (name ++ newline)

-- `core J on`
unfoldable pub core_on_line : ℕ → List ℕ
core_on_line j = codes "core " ++ (decimal j ++ codes " on\n")

-- `core J off`
unfoldable pub core_off_line : ℕ → List ℕ
core_off_line j = codes "core " ++ (decimal j ++ codes " off\n")

-- `core J parked` with the syndrome's low 32 bits, the only ones that it has, and the fault address
unfoldable pub core_parked_line : ℕ → ℕ → ℕ → List ℕ
core_parked_line j esr far =
    codes "core " ++ (decimal j ++ (codes " parked " ++ (hex 8 esr ++ (codes " " ++ (hex 16 far ++ newline)))))

-- a register with this many digits
unfoldable pub register_line : List ℕ → ℕ → ℕ → List ℕ
register_line name digits value = name ++ (codes " " ++ (hex digits value ++ newline))

-- a 64-bit register that is shown where it isn't zero
unfoldable pub nonzero_line : List ℕ → ℕ → List ℕ
nonzero_line name value = if value == 0 then [] else register_line name 16 value

-- `x0` to `x30`
unfoldable pub x_name : ℕ → List ℕ
x_name n = codes "x" ++ decimal n

-- `console ID=`, two digits for each byte that was put out, and the end of the line
unfoldable pub console_head : ℕ → List ℕ
console_head id = codes "console " ++ (decimal id ++ codes "=")

unfoldable pub console_line : ℕ → List ℕ → List ℕ
console_line id output = console_head id ++ (hex_bytes output ++ newline)

-- `m` with an address and the bytes from there on
unfoldable pub memory_line : ℕ → List ℕ → List ℕ
memory_line at bytes = codes "m " ++ (hex 16 at ++ (codes " " ++ (hex_bytes bytes ++ newline)))

unfoldable pub done_line : List ℕ
done_line = codes "done\n"

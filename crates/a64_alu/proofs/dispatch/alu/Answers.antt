use Rattle.a64_alu.proofs.Rows.{none_left}
use Rattle.a64_alu.proofs.dispatch.alu.Goals as goal

pub unreachable-requires : goal.unreachable-requires
unreachable-requires c =
    none_left
    c.args.instr.now
    c.requires.kind
    c.in_default.not-Address
    c.in_default.not-AddSubImmediate
    c.in_default.not-LogicalImmediate
    c.in_default.not-MoveWide
    c.in_default.not-Bitfield
    c.in_default.not-Extract
    c.in_default.not-LogicalShifted
    c.in_default.not-AddSubShifted
    c.in_default.not-AddSubExtended
    c.in_default.not-AddSubCarry
    c.in_default.not-ConditionalCompare
    c.in_default.not-ConditionalSelect
    c.in_default.not-ThreeSources
    c.in_default.not-TwoSources
    c.in_default.not-OneSource

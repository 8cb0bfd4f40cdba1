use Rattle.std.proofs.Common.{refl}
use Rattle.a64_decode.specs.Table.{address_row, add_sub_immediate_row, logical_immediate_row, move_wide_row, bitfield_row, extract_row, branch_row, branch_conditional_row, compare_branch_row, test_branch_row, branch_register_row, exception_return_row, exception_row, hint_row, barrier_row, msr_immediate_row, system_row, system_register_row, logical_shifted_row, add_sub_shifted_row, add_sub_extended_row, add_sub_carry_row, conditional_compare_row, conditional_select_row, three_sources_row, two_sources_row, one_source_row, load_literal_row, pair_row, load_store_unsigned_row, load_store_indexed_row, load_store_register_row, load_store_rows, source_rows, register_rows, system_rows, branch_rows, table}
use Rattle.a64_alu.specs.Moves.{moved}
use Rattle.a64_alu.specs.Computed.{computed}
use Rattle.a64_address.specs.Shape.{memory_shape}
use Rattle.a64_execute.specs.Want.{asked, wanted}
use Rattle.a64_execute.specs.Execute.{executed}
use Rattle.a64_execute.specs.Transfer.{transferred}
use Rattle.a64_execute.specs.Finish.{finished}
use Rattle.pmsa_stage1.specs.Stage1.{stage1}
use Rattle.board.specs.Attempt.{attempt}
use Rattle.bao_wellformed.specs.Map.{by_map}
use Rattle.system_tests.proofs.worked_rows.rows.Goals as goal

pub returns : goal.returns
unfolding
    address_row add_sub_immediate_row logical_immediate_row move_wide_row bitfield_row extract_row branch_row branch_conditional_row compare_branch_row test_branch_row branch_register_row exception_return_row exception_row hint_row barrier_row msr_immediate_row system_row system_register_row logical_shifted_row add_sub_shifted_row add_sub_extended_row add_sub_carry_row conditional_compare_row conditional_select_row three_sources_row two_sources_row one_source_row load_literal_row pair_row load_store_unsigned_row load_store_indexed_row load_store_register_row load_store_rows source_rows register_rows system_rows branch_rows table
    moved computed memory_shape asked wanted executed transferred finished stage1 attempt by_map
returns c = record { pc = refl; x0 = refl; entered = refl }

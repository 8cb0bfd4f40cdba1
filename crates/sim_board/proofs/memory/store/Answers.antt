use Rattle.std.proofs.Common.{◌≡◌, ◌+◌, ◌/◌, ◌%◌, ◌^◌, ◌≤◌, sym, ap, subst, ◌∙◌, arith}
use Rattle.std.specs.Prelude.{IsTrue}
use Rattle.board.specs.Judge.{all_from}
use Rattle.board.specs.Ports.{stores_from}
use Rattle.board.specs.Machine.{written}
use Rattle.phys_bank.specs.Banks.{byte_at, is_kept}
use Rattle.sim_board.proofs.Halves.{second_part, stores_low, stores_split}
use Rattle.sim_board.proofs.memory.store.Goals as goal

pub store_word-requires-then-count-eq16-clause-used : goal.store_word-requires-then-count-eq16-clause-used
store_word-requires-then-count-eq16-clause-used c =
    let at = c.args.at in
    let sixteen : c.args.count ≡ 8 + 8 = omega (arith, c.if-count-eq16.true) in
    subst (λ kept. IsTrue (all_from kept ((at + 8) % 2 ^ 64) 8)) (sym c.store_word.ensures.kept)
    (second_part (is_kept c.args.memory.now) 8 8 c.args.count at sixteen (omega arith) c.requires.used)

pub returns-then-count-eq16-clause-bytes : goal.returns-then-count-eq16-clause-bytes
returns-then-count-eq16-clause-bytes c =
    let at = c.args.at in let value = c.args.value in let old = byte_at c.args.memory.now in
    let sixteen : c.args.count ≡ 8 + 8 = omega (arith, c.if-count-eq16.true) in
    let low : 8 ≤ 8 = omega arith in
    c.store_word-then-count-eq16.ensures.bytes
    ∙ ap (written (stores_from ((at + 8) % 2 ^ 64) 8 (value / 2 ^ 64)))
    (c.store_word.ensures.bytes ∙ ap (λ stores. written stores old) (stores_low at 8 value 8 low))
    ∙ sym (stores_split 8 8 c.args.count at value old sixteen (omega arith))

pub returns-else-count-eq16-clause-bytes : goal.returns-else-count-eq16-clause-bytes
returns-else-count-eq16-clause-bytes c =
    let low : c.args.count ≤ 8 = omega (arith, c.requires.count, c.if-count-eq16.false) in
    c.store_word-else-count-eq16.ensures.bytes
    ∙ ap (λ stores. written stores (byte_at c.args.memory.now)) (stores_low c.args.at c.args.count c.args.value 8 low)

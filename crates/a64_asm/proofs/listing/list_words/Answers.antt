use Rattle.std.proofs.Common.{◌≡◌, ◌++◌, arith, rules}
use Rattle.a64_asm.specs.Listing.{line_of_word}
use Rattle.a64_asm.proofs.Words.{one_more, all_listed}
use Rattle.a64_asm.proofs.listing.list_words.Goals as goal

pub loop-rest-preserved : goal.loop-rest-preserved
loop-rest-preserved c =
    let pushed : c.push_word.new.out.items ≡ c.loop-rest.out.items ++ line_of_word c.word_at.result = search rules in
    record {
      so_far =
          one_more c.args.image.now c.loop-rest.rest.now c.split_at.result.0.now c.split_at.result.1.now c.loop-rest.out.items
          c.push_word.new.out.items c.word_at.result c.loop-rest.invariant.so_far c.loop-rest-test.true c.split_at.ensures.front
          c.split_at.ensures.back c.word_at.ensures pushed;
      whole = omega (arith, c.split_at.ensures.back_len, c.loop-rest.invariant.whole);
    }

pub returns : goal.returns
returns c =
    all_listed c.args.image.now c.loop-rest.rest.now c.loop-rest.out.items c.loop-rest.invariant.so_far c.loop-rest-test.false

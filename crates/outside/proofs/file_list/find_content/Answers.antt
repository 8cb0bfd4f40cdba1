use Rattle.std.proofs.Common.{◌≡◌, ◌∙◌, add-one, false, string_bytes, slice_index_or}
use Rattle.std.specs.Str.{bytes_eq}
use Rattle.outside.proofs.FileListLemmas.{passed_over}
use Rattle.outside.proofs.file_list.find_content.Goals as goal

pub loop-i-preserved : goal.loop-i-preserved
loop-i-preserved c =
    let other : bytes_eq (string_bytes (slice_index_or c.args.names.now c.loop-i.i c.index-names-i.result)) c.args.name.now ≡ false = cc in
    rw add-one (passed_over _ _ _ _ c.index-names-i.result c.loop-i-test.true c.requires other ∙ c.loop-i.invariant)

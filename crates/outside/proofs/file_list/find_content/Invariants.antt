use Rattle.std.proofs.Common.{◌≡◌, map, string_bytes, drop}
use Rattle.outside.specs.FileList.{first_content}
use Rattle.outside.proofs.file_list.find_content.Given as goal

-- the files from here on have the answer
abbrev pub invariant-loop-i : goal.invariant-loop-i
invariant-loop-i l =
    first_content (map (λ known. string_bytes known) (drop l.i l.names)) (map (λ content. content.items) (drop l.i l.contents)) l.name
    ≡ first_content (map (λ known. string_bytes known) l.names) (map (λ content. content.items) l.contents) l.name

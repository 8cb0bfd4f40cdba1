-- What a `SureShelf` holds.
use Rattle.std.specs.Prelude.{List, ℕ, [], unwrap_or}
use Rattle.outside.specs.FileList.{FileListData, content_of}

-- the content of the file of this name, which is empty where there is no such file
abbrev pub sure_content : FileListData → List ℕ → List ℕ
sure_content files name = unwrap_or (content_of files name) []

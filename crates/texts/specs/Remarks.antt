-- What a grant leaves to the client.
use Rattle.std.specs.Prelude.{ℕ, Option, Some, None, List, [], ◌++◌, codes}
use Rattle.std.specs.Fmt.{decimal}
use Rattle.capgrant.specs.declared.access.Attr.{Attr}
use Rattle.texts.specs.PartTexts.{mode_text}

-- behind a word the owner of the inode, its group and its mode
unfoldable pub inode_text : List ℕ → Attr → List ℕ
inode_text word attr = word ++ (decimal attr.uid ++ (codes ", group " ++ (decimal attr.gid ++ (codes ", mode " ++ mode_text attr.mode))))

-- a line for these, where a grant leaves them to the client
abbrev pub left_line : Attr → Option ℕ → List ℕ
left_line attr None = []
left_line attr (Some grant) = inode_text (codes "not judged: owner ") attr ++ (codes " (grant " ++ (decimal grant ++ codes " has no uid)\n"))

-- The texts of what an inode keeps of a part.
use Rattle.std.specs.Prelude.{ℕ, List, ◌++◌, codes}
use Rattle.std.specs.Fmt.{decimal}
use Rattle.std.specs.List.{flat_map}
use Rattle.std.specs.FinMap as map
use Rattle.capgrant.specs.declared.access.Attr.{Attr}
use Rattle.capstep.specs.declared.outcome.PartValues.{PartValues}
use Rattle.capstep.specs.declared.outcome.PartValues.TheVariants.{Auth, File, Link, Xattr}
use Rattle.texts.specs.PartTexts.{hex_text, mode_text}

-- owner, group and mode
abbrev pub attr_text : Attr → List ℕ
attr_text attr = codes "A " ++ decimal attr.uid ++ codes " " ++ decimal attr.gid ++ codes " " ++ mode_text attr.mode

-- the name of an attribute, and its value
abbrev pub attribute_text : List ℕ × List ℕ → List ℕ
attribute_text attribute = codes " " ++ attribute.0 ++ codes "=" ++ hex_text attribute.1

-- what the inode keeps, behind the letter of the part; attributes by name, in the order of its bytes
abbrev pub values_text : PartValues → List ℕ
values_text (Auth attr) = attr_text attr
values_text Link = codes "L 1"
values_text (Xattr attributes) = codes "X " ++ decimal (map.len attributes) ++ flat_map attribute_text (map.entries attributes)
values_text (File size time) = codes "F " ++ decimal size ++ codes " " ++ decimal time

-- The rules of a grant: their order, and how they are named in a text.
use Rattle.std.specs.Prelude.{ℕ, List, [], ◌∷◌, codes}
use Rattle.capgrant.specs.declared.rule.Rule.{Rule}
use Rattle.capgrant.specs.declared.rule.Rule.TheVariants.{FsName, Gids, ModeBits, NoP, NoS, NoWrite, NotOwnGroup, NotOwner, Path, RootSquash, Uid}

-- every rule, in the order in which they are tested
abbrev pub all_rules : List Rule
all_rules = FsName ∷ Uid ∷ Gids ∷ Path ∷ NoWrite ∷ RootSquash ∷ NoP ∷ NoS ∷ NotOwner ∷ NotOwnGroup ∷ ModeBits ∷ []

-- those that look at the access
abbrev pub access_rules : List Rule
access_rules = NoWrite ∷ RootSquash ∷ NoP ∷ NoS ∷ NotOwner ∷ NotOwnGroup ∷ ModeBits ∷ []

-- the last of them, on the inode's owner, group and mode
abbrev pub attr_rules : List Rule
attr_rules = NotOwner ∷ NotOwnGroup ∷ ModeBits ∷ []

-- the number of a rule: its place in that order, from 1
abbrev pub rule_number : Rule → ℕ
rule_number FsName = 1
rule_number Uid = 2
rule_number Gids = 3
rule_number Path = 4
rule_number NoWrite = 5
rule_number RootSquash = 6
rule_number NoP = 7
rule_number NoS = 8
rule_number NotOwner = 9
rule_number NotOwnGroup = 10
rule_number ModeBits = 11

-- the word of a rule
abbrev pub rule_word : Rule → List ℕ
rule_word FsName = codes "fsname"
rule_word Uid = codes "uid"
rule_word Gids = codes "gids"
rule_word Path = codes "path"
rule_word NoWrite = codes "no-write"
rule_word RootSquash = codes "root-squash"
rule_word NoP = codes "no-p"
rule_word NoS = codes "no-s"
rule_word NotOwner = codes "not-owner"
rule_word NotOwnGroup = codes "not-own-group"
rule_word ModeBits = codes "mode-bits"

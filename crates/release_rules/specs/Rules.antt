-- The rules by which a grant can fail: their order, and how they are named in a text.
use Rattle.std.specs.Prelude.{ℕ, List, [], ◌∷◌, codes}
use Rattle.release_rules.specs.declared.rule.Rule.{Rule}
use Rattle.release_rules.specs.declared.rule.Rule.TheVariants.{FsName, Gids, ModeBits, Network, NoF, NoP, NoS, NoWrite, NotOwnGroup, NotOwner, Path}
use Rattle.release_rules.specs.declared.rule.Rule.TheVariants.{RootSquash, Uid}

-- every rule, in the order of the numbers
abbrev pub all_rules : List Rule
all_rules = FsName ∷ Uid ∷ Gids ∷ Path ∷ NoWrite ∷ RootSquash ∷ NoP ∷ NoS ∷ NotOwner ∷ NotOwnGroup ∷ ModeBits ∷ NoF ∷ Network ∷ []

-- all but that of the path
abbrev pub rules_but_path : List Rule
rules_but_path = FsName ∷ Uid ∷ Gids ∷ NoWrite ∷ RootSquash ∷ NoP ∷ NoS ∷ NotOwner ∷ NotOwnGroup ∷ ModeBits ∷ NoF ∷ Network ∷ []

-- the number of a rule: its place in that order, from 1. The first eleven have those of the server's own rules.
abbrev pub rule_number : Rule → ℕ
rule_number FsName = 1
rule_number Uid = 2
rule_number Gids = 3
rule_number Path = 4
rule_number NoWrite = 5
rule_number RootSquash = 6
rule_number NoP = 7
rule_number NoS = 8
rule_number NotOwner = 9
rule_number NotOwnGroup = 10
rule_number ModeBits = 11
rule_number NoF = 12
rule_number Network = 13

-- the word of a rule
abbrev pub rule_word : Rule → List ℕ
rule_word FsName = codes "fsname"
rule_word Uid = codes "uid"
rule_word Gids = codes "gids"
rule_word Path = codes "path"
rule_word NoWrite = codes "no-write"
rule_word RootSquash = codes "root-squash"
rule_word NoP = codes "no-p"
rule_word NoS = codes "no-s"
rule_word NotOwner = codes "not-owner"
rule_word NotOwnGroup = codes "not-own-group"
rule_word ModeBits = codes "mode-bits"
rule_word NoF = codes "no-f"
rule_word Network = codes "network"

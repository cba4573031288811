-- The lines that say what one list of grants allows and another denies.
use Rattle.std.specs.Prelude.{ℕ, Option, Some, None, List, [], ◌++◌, codes}
use Rattle.std.specs.Fmt.{decimal}
use Rattle.capbits.specs.declared.caller.Caller.{Caller}
use Rattle.capgrant.specs.declared.access.Attr.{Attr}
use Rattle.capgrant.specs.Access.{access_word}
use Rattle.policy_analysis.specs.declared.witness.Witness.{Witness}
use Rattle.texts.specs.PartTexts.{groups_text, mode_text}
use Rattle.texts.specs.Explaining.{path_text}
use Rattle.texts.specs.Quoting.{quoted}

-- who asks
abbrev pub caller_text : Caller → List ℕ
caller_text caller = codes " uid " ++ (decimal caller.uid ++ (codes " gid " ++ (decimal caller.gid ++ (codes " groups " ++ groups_text caller.groups))))

-- whose the inode is, and its mode
abbrev pub owner_text : Attr → List ℕ
owner_text attr = codes " owner " ++ (decimal attr.uid ++ (codes " group " ++ (decimal attr.gid ++ (codes " mode " ++ mode_text attr.mode))))

-- the question of a witness, and the grant that allows it
abbrev pub witness_text : Witness → List ℕ
witness_text w = access_word w.access ++ (codes " " ++ (quoted (path_text w.path.now) ++ (codes " fs " ++ (w.fs ++ (caller_text w.caller ++ (owner_text w.attr ++ (codes " grant " ++ decimal w.grant)))))))

-- as a line behind this word
abbrev pub witness_line : List ℕ → Witness → List ℕ
witness_line word w = word ++ (witness_text w ++ codes "\n")

-- such a line, where there is a witness
abbrev pub found_line : List ℕ → Option Witness → List ℕ
found_line word None = []
found_line word (Some w) = witness_line word w

-- what is gained and what is lost
abbrev pub comparison : Option Witness → Option Witness → List ℕ
comparison None None = codes "the same\n"
comparison gain loss = found_line (codes "gained: ") gain ++ found_line (codes "lost: ") loss

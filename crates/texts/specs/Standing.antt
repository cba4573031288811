-- The line that says of one client whether somebody behind its key may make an access.
use Rattle.std.specs.Prelude.{ℕ, List, ◌++◌, codes}
use Rattle.std.specs.Fmt.{decimal}
use Rattle.capspec.specs.declared.fault.SpecFault.{SpecFault}
use Rattle.capspec.specs.declared.fault.SpecFaultKind.{SpecFaultKind}
use Rattle.capspec.specs.declared.fault.SpecFaultKind.TheVariants.{BadFlags, BadItem, BadNumber, BadPath, Empty, GidsWithoutUid, LeftOut, NoMemory, NotAllow}
use Rattle.capspec.specs.declared.fault.SpecFaultKind.TheVariants.{OpenQuote, TooMany, Twice}
use Rattle.capgrant.specs.declared.access.Access.{Access}
use Rattle.capgrant.specs.Access.{access_word}
use Rattle.policy_analysis.specs.declared.standing.Standing.{Standing}
use Rattle.policy_analysis.specs.declared.standing.Standing.TheVariants.{Allowed, Denied, Depends}
use Rattle.release_rules.specs.declared.beside.Others.{Others}
use Rattle.texts.specs.Explaining.{failures_text, path_text}
use Rattle.texts.specs.Mds.{others_lines}
use Rattle.texts.specs.Quoting.{quoted}

-- what stands before the access
abbrev pub standing_word : Standing → List ℕ
standing_word (Allowed grant) = codes ": allowed "
standing_word (Depends grant) = codes ": depends on owner, group and mode: "
standing_word (Denied rules) = codes ": denied "

-- by which grant, or by which rules
abbrev pub standing_reason : Standing → List ℕ
standing_reason (Allowed grant) = codes " grant " ++ decimal grant
standing_reason (Depends grant) = codes " grant " ++ decimal grant
standing_reason (Denied rules) = codes " " ++ failures_text rules

-- the client, the access and the path, each of the names in quotes where it has to be
abbrev pub standing_line : List ℕ → Access → List (List ℕ) → Standing → List ℕ
standing_line client access path standing =
    quoted client ++ (standing_word standing ++ (access_word access ++ (codes " " ++ (quoted (path_text path) ++ (standing_reason standing ++ codes "\n")))))

-- for each answer by which releases let in somebody where nobody may here, or nobody where somebody may, a line of the client's
abbrev pub standing_others : List ℕ → Others → List ℕ
standing_others client others = others_lines (quoted client ++ codes ": ") others

abbrev pub fault_word : SpecFaultKind → List ℕ
fault_word Empty = codes "Empty"
fault_word NotAllow = codes "NotAllow"
fault_word BadFlags = codes "BadFlags"
fault_word BadItem = codes "BadItem"
fault_word Twice = codes "Twice"
fault_word BadNumber = codes "BadNumber"
fault_word OpenQuote = codes "OpenQuote"
fault_word GidsWithoutUid = codes "GidsWithoutUid"
fault_word LeftOut = codes "LeftOut"
fault_word TooMany = codes "TooMany"
fault_word BadPath = codes "BadPath"
fault_word NoMemory = codes "NoMemory"

-- where its grants can't be read: what is wrong, and how many bytes of their text stand before that
abbrev pub unread_line : List ℕ → SpecFault → List ℕ
unread_line client fault = quoted client ++ (codes ": grants: " ++ (fault_word fault.kind ++ (codes " at " ++ (decimal fault.at ++ codes "\n"))))

-- The line that answers a question.
use Rattle.std.specs.Prelude.{ℕ, List, [], ◌∷◌, ◌++◌, codes}
use Rattle.std.specs.Fmt.{decimal}
use Rattle.std.specs.List.{enumerate_from, join_by}
use Rattle.capgrant.specs.declared.access.Access.{Access}
use Rattle.capgrant.specs.declared.answer.Verdict.{Verdict}
use Rattle.capgrant.specs.declared.answer.Verdict.TheVariants.{Allowed, Denied}
use Rattle.capgrant.specs.declared.rule.Rule.{Rule}
use Rattle.capgrant.specs.Access.{access_word}
use Rattle.capgrant.specs.Rule.{rule_number, rule_word}
use Rattle.capspec.specs.Paths.{slashed}

-- `/` before each name; `/` alone for the root
abbrev pub path_text : List (List ℕ) → List ℕ
path_text [] = codes "/"
path_text (name ∷ names) = slashed (name ∷ names)

-- by which rule the grant of this number fails
abbrev pub failure_text : ℕ × Rule → List ℕ
failure_text failure = codes "grant " ++ decimal failure.0 ++ codes " rule " ++ decimal (rule_number failure.1) ++ codes " " ++ rule_word failure.1

-- the grants by number, from 1, with the rule by which each fails
abbrev pub failures_text : List Rule → List ℕ
failures_text [] = codes "no grants"
failures_text (rule ∷ rules) = join_by failure_text (codes ", ") (enumerate_from 1 (rule ∷ rules))

-- what the verdict is on the access
abbrev pub outcome_text : Access → Verdict → List ℕ
outcome_text access (Allowed grant) = codes "allowed " ++ access_word access ++ codes " "
outcome_text access (Denied rules) = codes "denied " ++ access_word access ++ codes " "

-- by which grant, or by which rules
abbrev pub reason_text : Verdict → List ℕ
reason_text (Allowed grant) = codes " grant " ++ decimal grant
reason_text (Denied rules) = codes " " ++ failures_text rules

-- what the verdict says of the access to a path that is shown so
abbrev pub verdict_text : Access → List ℕ → Verdict → List ℕ
verdict_text access shown verdict = outcome_text access verdict ++ (shown ++ reason_text verdict)

-- the same of a path whose names stand as they are
abbrev pub explain_text : Access → List (List ℕ) → Verdict → List ℕ
explain_text access path verdict = verdict_text access (path_text path) verdict

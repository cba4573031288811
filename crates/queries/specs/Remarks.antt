-- The answer to a question with all that is worth a word beside it.
use Rattle.std.specs.Prelude.{List, None, Option, ℕ}
use Rattle.capgrant.specs.Question.{Question as Asked}
use Rattle.capgrant.specs.Question.{question}
use Rattle.policy_analysis.specs.Left.{left_to_client}
use Rattle.release_rules.specs.declared.beside.Others.{Others}
use Rattle.release_rules.specs.Asked.{asked_for}
use Rattle.release_rules.specs.Beside.{others_of}
use Rattle.release_rules.specs.Question.{Question as MdsQuestion}
use Rattle.texts.specs.Answers.{answer_object}
use Rattle.texts.specs.Mds.{beside_text}
use Rattle.queries.specs.declared.question.Question.{Question}
use Rattle.queries.specs.Question.{verdict_on}

-- what is asked of each of its grants
abbrev pub asked_of : Question → Asked
asked_of q = question q.fs q.caller q.path q.attr q.access

-- what is asked of an MDS
abbrev pub mds_asked : Question → MdsQuestion
mds_asked q = record { fs = q.fs; caller = q.caller; path = q.path; attr = q.attr; asked = asked_for q.access; address = None }

-- what each release answers otherwise, by the text that the grants were read in
abbrev pub others_on : List ℕ → Question → Others
others_on text q = others_of (mds_asked q) q.access (verdict_on q) text

-- the line that answers the question, and those for what is left to the client and for where releases answer otherwise
abbrev pub remarked_answer : List ℕ → Question → List ℕ
remarked_answer text q = beside_text (asked_of q) (verdict_on q) (left_to_client (asked_of q) q.grants) (others_on text q)

-- the object that says all of it
abbrev pub remarked_object : Option ℕ → List ℕ → Question → List ℕ
remarked_object number text q = answer_object number (asked_of q) (verdict_on q) (left_to_client (asked_of q) q.grants) (others_on text q)

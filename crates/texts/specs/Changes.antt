-- The objects that say what one list of grants allows and another denies.
use Rattle.std.specs.Prelude.{◌≡◌, ℕ, Option, Some, None, List, [], ◌∷◌, ◌++◌, codes}
use Rattle.serde_json.specs.Data.{Data, Members, no_members, object, string}
use Rattle.capgrant.specs.Question.{Question, question}
use Rattle.policy_analysis.specs.declared.witness.Witness.{Witness}
use Rattle.texts.specs.Values.{Table, json_line, natural, object_of, with_all}
use Rattle.texts.specs.Answers.{AskTheSame, IsAskable, with_question}

-- the question of a witness
abbrev pub asked_by : Witness → Question
asked_by w = question w.fs w.caller w.path.now w.attr w.access

-- the members, and those of a witness: its question, and at this key the grant that allows it
abbrev pub with_witness : List ℕ → Witness → Members → Members
with_witness key w ms = with_all ((key, natural w.grant) ∷ []) (with_question (asked_by w) ms)

-- the object with these members and those of a witness
abbrev pub witnessed_value : List ℕ → Witness → Table → Data
witnessed_value key w table = object (with_witness key w (with_all table no_members))

abbrev pub change_table : List ℕ → Table
change_table change = (codes "change", string change) ∷ []

abbrev pub change_value : List ℕ → Witness → Data
change_value change w = object (with_witness (codes "grant") w (with_all (change_table change) no_members))

-- a line of this change, where there is a witness
abbrev pub change_line : List ℕ → Option Witness → List ℕ
change_line change None = []
change_line change (Some w) = json_line (change_value change w)

-- what is gained and what is lost
abbrev pub change_lines : Option Witness → Option Witness → List ℕ
change_lines None None = json_line (object_of (change_table (codes "none")))
change_lines gain loss = change_line (codes "gained") gain ++ change_line (codes "lost") loss

-- changes that are the same object are the same change, shown by the same question and grant
abbrev pub OneChange : Type 0
OneChange = (x y : List ℕ) (v w : Witness) → IsAskable (asked_by v) → IsAskable (asked_by w) → change_value x v ≡ change_value y w → (x ≡ y) × AskTheSame (asked_by v) (asked_by w) × (v.grant ≡ w.grant)

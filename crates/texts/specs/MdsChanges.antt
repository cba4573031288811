-- What one list of grants allows and another denies by the rules of a release, as lines and as objects.
use Rattle.std.specs.Prelude.{◌≡◌, ℕ, Option, Some, None, IfSome, List, [], ◌++◌, codes, if◌then◌else◌}
use Rattle.policy_analysis.specs.declared.compare_by.Change.{Change}
use Rattle.policy_analysis.specs.declared.witness.Witness.{Witness}
use Rattle.texts.specs.Changes.{change_lines, change_value}
use Rattle.texts.specs.Comparing.{comparison, witness_line}
use Rattle.texts.specs.Lines.{IsReported, TellTheSame}
use Rattle.texts.specs.Values.{json_line}
use Rattle.texts.specs.declared.mds_change.Networks.{Networks}
use Rattle.texts.specs.declared.mds_change.Networks.TheVariants.{Compared, NotCompared}
use Rattle.texts.specs.declared.shape.Shape.{Shape}
use Rattle.texts.specs.declared.shape.Shape.TheVariants.{Lines, Objects}

abbrev pub mds_line : List ℕ → Witness → List ℕ
mds_line word w = word ++ witness_line (codes ": ") w

-- behind a word
abbrev pub witness_in : Shape → List ℕ → Witness → List ℕ
witness_in Lines word w = mds_line word w
witness_in Objects word w = json_line (change_value word w)

-- a change behind the first word, or behind the second where the client's address plays a part
abbrev pub mds_change_in : Shape → List ℕ → List ℕ → Option Change → List ℕ
mds_change_in shape plain by_address None = []
mds_change_in shape plain by_address (Some change) = witness_in shape (if change.by_address then by_address else plain) change.witness

-- that there is none
abbrev pub no_change_in : Shape → List ℕ
no_change_in Lines = comparison None None
no_change_in Objects = change_lines None None

-- that networks were not compared
abbrev pub networks_text : Shape → List ℕ
networks_text Lines = codes "networks not compared: --addr names an address\n"
networks_text Objects = codes "{\"change\":\"networks not compared\"}\n"

abbrev pub networks_in : Shape → Networks → List ℕ
networks_in shape Compared = []
networks_in shape NotCompared = networks_text shape

-- what is gained and what is lost
abbrev pub changed_in : Shape → Option Change → Option Change → List ℕ
changed_in shape None None = no_change_in shape
changed_in shape gain loss = mds_change_in shape (codes "gained") (codes "gained by address") gain ++ mds_change_in shape (codes "lost") (codes "lost by address") loss

-- and that networks were not compared, if they were not
abbrev pub mds_changes : Shape → Option Change → Option Change → Networks → List ℕ
mds_changes shape gain loss networks = changed_in shape gain loss ++ networks_in shape networks

-- ---- the law

-- the two tell the same question and grant, and whether the address plays a part; or there are none
abbrev pub SameChangeIf : Option Change → Option Change → Type 0
SameChangeIf None None = Unit {0}
SameChangeIf (Some one) (Some other) = TellTheSame one.witness other.witness × (one.by_address ≡ other.by_address)
SameChangeIf one other = ⊥

-- lines of a comparison that are the same tell the same gain, the same loss, and whether networks were compared
abbrev pub OneMdsComparison : Type 0
OneMdsComparison = (g h l m : Option Change) (n o : Networks) → IfSome g (λ c. IsReported c.witness) → IfSome h (λ c. IsReported c.witness) → IfSome l (λ c. IsReported c.witness) → IfSome m (λ c. IsReported c.witness)
    → mds_changes Lines g l n ≡ mds_changes Lines h m o → SameChangeIf g h × SameChangeIf l m × (n ≡ o)

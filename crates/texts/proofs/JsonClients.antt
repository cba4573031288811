-- What is said of clients and differs are values that differ.
use Rattle.std.proofs.Common.{◌≡◌, ℕ, ◌<◌, ◌^◌, List, ◌∷◌, Option, None, Some, refl, sym, ap, subst, ◌∙◌, arith}
use Rattle.std.specs.Prelude.{IfSome, codes}
use Rattle.serde_json.specs.Data.{Data, null, string}
use Rattle.capgrant.specs.declared.access.Attr.{Attr}
use Rattle.capgrant.specs.Access.{access_word}
use Rattle.policy_analysis.specs.declared.standing.Standing.{Standing}
use Rattle.policy_analysis.specs.declared.standing.Standing.TheVariants.{Allowed, Denied, Depends}
use Rattle.policy_analysis.specs.Callers.{Wanted}
use Rattle.release_rules.specs.declared.beside.Others.{Others}
use Rattle.texts.specs.Explaining.{path_text}
use Rattle.texts.specs.PartTexts.{mode_text}
use Rattle.texts.proofs.Compared.{one_mode}
use Rattle.texts.proofs.Quoted.{clash}
use Rattle.texts.specs.Values.{bytes_value, natural, or_null}
use Rattle.texts.specs.Answers.{other_value, rules_value}
use Rattle.texts.specs.Standings.{AskAlike, IsWanted, standing_value}
use Rattle.texts.proofs.Answered.{one_access}
use Rattle.texts.proofs.Distinct.{byte_in, number_in, one_other, one_row, some_in, text_in, value_at}
use Rattle.texts.proofs.Spelling.{one_spelling}

-- the words of standings differ in these
abbrev third_in : Data → ℕ
third_in (string (x ∷ y ∷ z ∷ more)) = z
third_in d = 0

abbrev word_of : Standing → Data
word_of (Allowed grant) = string (codes "allowed")
word_of (Depends grant) = string (codes "depends")
word_of (Denied rules) = string (codes "denied")

abbrev grant_of : Standing → Data
grant_of (Allowed grant) = natural grant
grant_of (Depends grant) = natural grant
grant_of (Denied rules) = null

abbrev rules_of : Standing → Data
rules_of (Allowed grant) = null
rules_of (Depends grant) = null
rules_of (Denied rules) = rules_value rules

abbrev pub if_known : (Attr → Data) → Option Attr → Data
if_known part None = null
if_known part (Some attr) = part attr

-- what stands at the keys
record Shows (d : Data) (name : List ℕ) (w : Wanted) (attr : Option Attr) (s : Standing) (others : Others) : Type 0 where
  client : value_at (codes "client") d ≡ bytes_value name
  access : value_at (codes "access") d ≡ string (access_word w.access)
  path : value_at (codes "path") d ≡ bytes_value (path_text w.path)
  fs : value_at (codes "fs") d ≡ bytes_value w.fs
  owner : value_at (codes "owner") d ≡ if_known (λ a. natural a.uid) attr
  group : value_at (codes "group") d ≡ if_known (λ a. natural a.gid) attr
  mode : value_at (codes "mode") d ≡ if_known (λ a. string (mode_text a.mode)) attr
  word : value_at (codes "verdict") d ≡ word_of s
  grant : value_at (codes "grant") d ≡ grant_of s
  rules : value_at (codes "rules") d ≡ rules_of s
  pacific : value_at (codes "ceph16") d ≡ or_null other_value others.pacific
  reef : value_at (codes "ceph18") d ≡ or_null other_value others.reef
  tentacle : value_at (codes "ceph20") d ≡ or_null other_value others.tentacle

shows : (client : List ℕ) (w : Wanted) (attr : Option Attr) (s : Standing) (others : Others) → Shows (standing_value client w attr s others) client w attr s others
shows client w None (Allowed g) others = record { client = refl; access = refl; path = refl; fs = refl; owner = refl; group = refl; mode = refl; word = refl; grant = refl; rules = refl; pacific = refl; reef = refl; tentacle = refl }
shows client w None (Depends g) others = record { client = refl; access = refl; path = refl; fs = refl; owner = refl; group = refl; mode = refl; word = refl; grant = refl; rules = refl; pacific = refl; reef = refl; tentacle = refl }
shows client w None (Denied rs) others = record { client = refl; access = refl; path = refl; fs = refl; owner = refl; group = refl; mode = refl; word = refl; grant = refl; rules = refl; pacific = refl; reef = refl; tentacle = refl }
shows client w (Some a) (Allowed g) others = record { client = refl; access = refl; path = refl; fs = refl; owner = refl; group = refl; mode = refl; word = refl; grant = refl; rules = refl; pacific = refl; reef = refl; tentacle = refl }
shows client w (Some a) (Depends g) others = record { client = refl; access = refl; path = refl; fs = refl; owner = refl; group = refl; mode = refl; word = refl; grant = refl; rules = refl; pacific = refl; reef = refl; tentacle = refl }
shows client w (Some a) (Denied rs) others = record { client = refl; access = refl; path = refl; fs = refl; owner = refl; group = refl; mode = refl; word = refl; grant = refl; rules = refl; pacific = refl; reef = refl; tentacle = refl }

pub one_known : (a b : Option Attr) → IfSome a (λ known. known.mode < 2 ^ 12) → IfSome b (λ known. known.mode < 2 ^ 12)
    → if_known (λ k. natural k.uid) a ≡ if_known (λ k. natural k.uid) b → if_known (λ k. natural k.gid) a ≡ if_known (λ k. natural k.gid) b → if_known (λ k. string (mode_text k.mode)) a ≡ if_known (λ k. string (mode_text k.mode)) b → a ≡ b
one_known None None fit fits owner group mode = refl
one_known None (Some b) fit fits owner group mode = clash 0 1 (omega arith) (ap some_in owner)
one_known (Some a) None fit fits owner group mode = clash 0 1 (omega arith) (sym (ap some_in owner))
one_known (Some a) (Some b) fit fits owner group mode =
    let uid : a.uid ≡ b.uid = ap number_in owner in
    let gid : a.gid ≡ b.gid = ap number_in group in
    let bits : a.mode ≡ b.mode = one_mode a.mode b.mode fit fits (ap text_in mode) in
    λ i. Some (record { uid = uid i; gid = gid i; mode = bits i })

one_said : (s t : Standing) → word_of s ≡ word_of t → grant_of s ≡ grant_of t → rules_of s ≡ rules_of t → s ≡ t
one_said (Allowed g) (Allowed h) word grant rules = ap Allowed (ap number_in grant)
one_said (Allowed g) (Depends h) word grant rules = clash 97 100 (omega arith) (ap byte_in word)
one_said (Allowed g) (Denied qs) word grant rules = clash 97 100 (omega arith) (ap byte_in word)
one_said (Depends g) (Allowed h) word grant rules = clash 97 100 (omega arith) (sym (ap byte_in word))
one_said (Depends g) (Depends h) word grant rules = ap Depends (ap number_in grant)
one_said (Depends g) (Denied qs) word grant rules = clash 110 112 (omega arith) (sym (ap third_in word))
one_said (Denied rs) (Allowed h) word grant rules = clash 97 100 (omega arith) (sym (ap byte_in word))
one_said (Denied rs) (Depends h) word grant rules = clash 110 112 (omega arith) (ap third_in word)
one_said (Denied rs) (Denied qs) word grant rules = ap Denied (one_row 1 rs qs rules)

pub one_standing : (c d : List ℕ) (w u : Wanted) (a b : Option Attr) (s t : Standing) (others further : Others) → IsWanted c w a → IsWanted d u b → standing_value c w a s others ≡ standing_value d u b t further
    → AskAlike c d w u a b × (s ≡ t) × (others ≡ further)
one_standing c d w u a b s t others further fit fits same =
    let p = shows c w a s others in
    let q : Shows (standing_value c w a s others) d u b t further = subst (λ (v : Data). Shows v d u b t further) (sym same) (shows d u b t further) in
    let client : c ≡ d = one_spelling c d fit.client fits.client (sym p.client ∙ q.client) in
    let access : w.access ≡ u.access = one_access w.access u.access fit.access fits.access (ap text_in (sym p.access ∙ q.access)) in
    let path : path_text w.path ≡ path_text u.path = one_spelling (path_text w.path) (path_text u.path) fit.path fits.path (sym p.path ∙ q.path) in
    let fs : w.fs ≡ u.fs = one_spelling w.fs u.fs fit.fs fits.fs (sym p.fs ∙ q.fs) in
    let pacific : others.pacific ≡ further.pacific = one_other others.pacific further.pacific (sym p.pacific ∙ q.pacific) in
    let reef : others.reef ≡ further.reef = one_other others.reef further.reef (sym p.reef ∙ q.reef) in
    let tentacle : others.tentacle ≡ further.tentacle = one_other others.tentacle further.tentacle (sym p.tentacle ∙ q.tentacle) in
    let known : a ≡ b = one_known a b fit.mode fits.mode (sym p.owner ∙ q.owner) (sym p.group ∙ q.group) (sym p.mode ∙ q.mode) in (
      (client, access, path, fs, known),
      one_said s t (sym p.word ∙ q.word) (sym p.grant ∙ q.grant) (sym p.rules ∙ q.rules),
      (λ i. record { pacific = pacific i; reef = reef i; tentacle = tentacle i }),
    )

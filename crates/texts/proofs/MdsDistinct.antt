-- Answers of releases that differ are values that differ.
use Rattle.std.proofs.Common.{◌≡◌, ℕ, ◌+◌, ◌==◌, List, [], ◌∷◌, map, Option, None, Some, refl, sym, ap, subst, ◌∙◌, arith}
use Rattle.std.specs.Prelude.{bytes_eq, codes, if◌then◌else◌}
use Rattle.std.specs.List.{enumerate_from}
use Rattle.serde_json.specs.Data.{Data, array, item, null, string}
use Rattle.serde_json.specs.View.{items_of}
use Rattle.capgrant.specs.Question.{Question}
use Rattle.release_rules.specs.declared.release.Release.{Release}
use Rattle.release_rules.specs.declared.release.Release.TheVariants.{Pacific, Reef, Tentacle}
use Rattle.release_rules.specs.declared.rule.Rule.{Rule}
use Rattle.release_rules.specs.declared.rule.Rule.TheVariants as rules
use Rattle.release_rules.specs.declared.verdict.Verdict.{Verdict}
use Rattle.release_rules.specs.declared.verdict.Verdict.TheVariants.{Allowed, CannotMount, Denied, DependsOnAddress}
use Rattle.release_rules.specs.Releases.{version_of}
use Rattle.release_rules.specs.Rules.{rule_number}
use Rattle.texts.specs.declared.mds_asked.MdsAccess.{MdsAccess}
use Rattle.texts.specs.Answers.{AskOfTheSame, IsAskable}
use Rattle.texts.specs.MdsAnswers.{failures_value, grant_value, mds_rule_value, mds_rules_value, mds_value, mds_word}
use Rattle.texts.specs.MdsAsked.{mds_access_word}
use Rattle.texts.specs.MdsTold.{HasSmallNumbers}
use Rattle.texts.specs.Values.{natural, or_null}
use Rattle.texts.proofs.Distinct.{AsksOf, number_in, one_inode, one_left, some_in, text_in, value_at}
use Rattle.texts.proofs.MdsWords.{one_word}
use Rattle.texts.proofs.Quoted.{clash}

-- ---- rules

abbrev pub numbered : ℕ → Rule
numbered n =
    if n == 1 then rules.FsName else (if n == 2 then rules.Uid else (if n == 3 then rules.Gids else (if n == 4 then rules.Path else (if n == 5 then rules.NoWrite
    else (if n == 6 then rules.RootSquash else (if n == 7 then rules.NoP else (if n == 8 then rules.NoS else (if n == 9 then rules.NotOwner
    else (if n == 10 then rules.NotOwnGroup else (if n == 11 then rules.ModeBits else (if n == 12 then rules.NoF else rules.Network)))))))))))

pub has_number : (r : Rule) → numbered (rule_number r) ≡ r
has_number rules.FsName = refl
has_number rules.Uid = refl
has_number rules.Gids = refl
has_number rules.Path = refl
has_number rules.NoWrite = refl
has_number rules.RootSquash = refl
has_number rules.NoP = refl
has_number rules.NoS = refl
has_number rules.NotOwner = refl
has_number rules.NotOwnGroup = refl
has_number rules.ModeBits = refl
has_number rules.NoF = refl
has_number rules.Network = refl

abbrev head_of : Data → Data
head_of (array (item d ds)) = d
head_of d = null

abbrev tail_of : Data → Data
tail_of (array (item d ds)) = array ds
tail_of d = null

abbrev row_from : ℕ → List Rule → Data
row_from n rs = array (items_of (map mds_rule_value (enumerate_from n rs)))

pub one_row : (n : ℕ) (rs qs : List Rule) → row_from n rs ≡ row_from n qs → rs ≡ qs
one_row n [] [] same = refl
one_row n [] (q ∷ qs) same = clash 0 1 (omega arith) (ap some_in same)
one_row n (r ∷ rs) [] same = clash 0 1 (omega arith) (sym (ap some_in same))
one_row n (r ∷ rs) (q ∷ qs) same =
    let here : r ≡ q = sym (has_number r) ∙ ap (λ (d : Data). numbered (number_in (value_at (codes "rule") (head_of d)))) same ∙ has_number q in
    let more : rs ≡ qs = one_row (n + 1) rs qs (ap tail_of same) in
    λ i. here i ∷ more i

-- ---- the release, and what its MDS says

abbrev pub asked_of : List ℕ → Release
asked_of version = if bytes_eq version (codes "16.2.15") then Pacific else (if bytes_eq version (codes "18.2.7") then Reef else Tentacle)

pub has_version : (a : Release) → asked_of (version_of a) ≡ a
has_version Pacific = refl
has_version Reef = refl
has_version Tentacle = refl

-- which of the four it is, by its word
abbrev kind_of : List ℕ → ℕ
kind_of word =
    if bytes_eq word (codes "cannot-mount") then 0 else (if bytes_eq word (codes "allowed") then 1 else (if bytes_eq word (codes "depends-on-address") then 2 else 3))

one_verdict : (v w : Verdict) → mds_word v ≡ mds_word w → grant_value v ≡ grant_value w → failures_value v ≡ failures_value w → v ≡ w
one_verdict CannotMount CannotMount word grant failures = refl
one_verdict CannotMount (Allowed h) word grant failures = clash 0 1 (omega arith) (ap kind_of word)
one_verdict CannotMount (DependsOnAddress h) word grant failures = clash 0 2 (omega arith) (ap kind_of word)
one_verdict CannotMount (Denied qs) word grant failures = clash 0 3 (omega arith) (ap kind_of word)
one_verdict (Allowed g) CannotMount word grant failures = clash 0 1 (omega arith) (sym (ap kind_of word))
one_verdict (Allowed g) (Allowed h) word grant failures = ap Allowed (ap number_in grant)
one_verdict (Allowed g) (DependsOnAddress h) word grant failures = clash 1 2 (omega arith) (ap kind_of word)
one_verdict (Allowed g) (Denied qs) word grant failures = clash 1 3 (omega arith) (ap kind_of word)
one_verdict (DependsOnAddress g) CannotMount word grant failures = clash 0 2 (omega arith) (sym (ap kind_of word))
one_verdict (DependsOnAddress g) (Allowed h) word grant failures = clash 1 2 (omega arith) (sym (ap kind_of word))
one_verdict (DependsOnAddress g) (DependsOnAddress h) word grant failures = ap DependsOnAddress (ap number_in grant)
one_verdict (DependsOnAddress g) (Denied qs) word grant failures = clash 2 3 (omega arith) (ap kind_of word)
one_verdict (Denied rs) CannotMount word grant failures = clash 0 3 (omega arith) (sym (ap kind_of word))
one_verdict (Denied rs) (Allowed h) word grant failures = clash 1 3 (omega arith) (sym (ap kind_of word))
one_verdict (Denied rs) (DependsOnAddress h) word grant failures = clash 2 3 (omega arith) (sym (ap kind_of word))
one_verdict (Denied rs) (Denied qs) word grant failures = ap Denied (one_row 1 rs qs failures)

-- ---- all of it

-- what stands at the keys
record Shows (d : Data) (line_number : Option ℕ) (release : Release) (x : MdsAccess) (q : Question) (v : Verdict) (refused : Option ℕ) : Type 0 where
  line : value_at (codes "line") d ≡ or_null natural line_number
  others : AsksOf d q
  access : value_at (codes "access") d ≡ string (mds_access_word x)
  mds : value_at (codes "mds") d ≡ string (version_of release)
  verdict : value_at (codes "verdict") d ≡ string (mds_word v)
  grant : value_at (codes "grant") d ≡ grant_value v
  failures : value_at (codes "rules") d ≡ failures_value v
  client : value_at (codes "refused_by_client") d ≡ or_null natural refused

shows : (line_number : Option ℕ) (release : Release) (x : MdsAccess) (q : Question) (v : Verdict) (refused : Option ℕ) → Shows (mds_value line_number release x q v refused) line_number release x q v refused
shows None release x q v refused = record {
  line = refl;
  others = record { path = refl; fs = refl; uid = refl; gid = refl; groups = refl; owner = refl; group = refl; mode = refl };
  access = refl;
  mds = refl;
  verdict = refl;
  grant = refl;
  failures = refl;
  client = refl;
}
shows (Some n) release x q v refused = record {
  line = refl;
  others = record { path = refl; fs = refl; uid = refl; gid = refl; groups = refl; owner = refl; group = refl; mode = refl };
  access = refl;
  mds = refl;
  verdict = refl;
  grant = refl;
  failures = refl;
  client = refl;
}

pub one_mds_answer : (m n : Option ℕ) (a b : Release) (x y : MdsAccess) (q r : Question) (v w : Verdict) (refused also : Option ℕ) → HasSmallNumbers x → HasSmallNumbers y → IsAskable q → IsAskable r
    → mds_value m a x q v refused ≡ mds_value n b y r w also → (m ≡ n) × (a ≡ b) × (x ≡ y) × AskOfTheSame q r × (v ≡ w) × (refused ≡ also)
one_mds_answer m n a b x y q r v w refused also small too fit fits same =
    let p = shows m a x q v refused in
    let s : Shows (mds_value m a x q v refused) n b y r w also = subst (λ (d : Data). Shows d n b y r w also) (sym same) (shows n b y r w also) in (
      one_left m n (sym p.line ∙ s.line),
      sym (has_version a) ∙ ap (λ (d : Data). asked_of (text_in d)) (sym p.mds ∙ s.mds) ∙ has_version b,
      one_word x y small too (ap text_in (sym p.access ∙ s.access)),
      one_inode q r (mds_value m a x q v refused) fit fits p.others s.others,
      one_verdict v w (ap text_in (sym p.verdict ∙ s.verdict)) (sym p.grant ∙ s.grant) (sym p.failures ∙ s.failures),
      one_left refused also (sym p.client ∙ s.client),
    )

-- What is said of clients by releases and differs are values that differ.
use Rattle.std.proofs.Common.{◌≡◌, ℕ, Bool, true, false, List, Option, None, Some, refl, sym, ap, subst, ◌∙◌, arith}
use Rattle.std.specs.Prelude.{bytes_eq, codes, if◌then◌else◌}
use Rattle.serde_json.specs.Data.{Data, string}
use Rattle.capgrant.specs.declared.access.Attr.{Attr}
use Rattle.capgrant.specs.Access.{access_word}
use Rattle.policy_analysis.specs.declared.mds_standing.MdsStanding.{MdsStanding}
use Rattle.policy_analysis.specs.MdsStanding.{MdsWanted}
use Rattle.release_rules.specs.declared.verdict.Verdict.{Verdict}
use Rattle.release_rules.specs.declared.verdict.Verdict.TheVariants.{Allowed, CannotMount, Denied, DependsOnAddress}
use Rattle.release_rules.specs.Releases.{version_of}
use Rattle.texts.specs.Explaining.{path_text}
use Rattle.texts.specs.MdsAnswers.{failures_value, grant_value}
use Rattle.texts.specs.MdsStandings.{DecidesIf, IsStanding, mds_standing_value, mds_standing_word, wanted_of}
use Rattle.texts.specs.PartTexts.{mode_text}
use Rattle.texts.specs.Standings.{AskAlike, IsWanted}
use Rattle.texts.specs.Values.{bytes_value, natural, or_null}
use Rattle.texts.proofs.Answered.{one_access}
use Rattle.texts.proofs.Distinct.{number_in, one_left, text_in, value_at}
use Rattle.texts.proofs.JsonClients.{if_known, one_known}
use Rattle.texts.proofs.MdsDistinct.{asked_of, has_version, one_row}
use Rattle.texts.proofs.Quoted.{clash}
use Rattle.texts.proofs.Spelling.{one_spelling}

-- which of the six it is, by its word
abbrev kind_in : List ℕ → ℕ
kind_in word =
    if bytes_eq word (codes "cannot-mount") then 0
    else (if bytes_eq word (codes "allowed") then 1
    else (if bytes_eq word (codes "depends") then 2
    else (if bytes_eq word (codes "depends-on-address") then 3 else (if bytes_eq word (codes "depends-on-inode-and-address") then 4 else 5))))

abbrev kind_of : Verdict → Bool → ℕ
kind_of CannotMount by_inode = 0
kind_of (Allowed grant) false = 1
kind_of (Allowed grant) true = 2
kind_of (DependsOnAddress grant) false = 3
kind_of (DependsOnAddress grant) true = 4
kind_of (Denied rules) by_inode = 5

has_kind : (v : Verdict) (by_inode : Bool) → kind_in (mds_standing_word v by_inode) ≡ kind_of v by_inode
has_kind CannotMount by_inode = refl
has_kind (Allowed grant) false = refl
has_kind (Allowed grant) true = refl
has_kind (DependsOnAddress grant) false = refl
has_kind (DependsOnAddress grant) true = refl
has_kind (Denied rules) by_inode = refl

one_verdict : (v : Verdict) (by_inode : Bool) (w : Verdict) (also_inode : Bool) → DecidesIf v by_inode → DecidesIf w also_inode → mds_standing_word v by_inode ≡ mds_standing_word w also_inode
    → grant_value v ≡ grant_value w → failures_value v ≡ failures_value w → (v ≡ w) × (by_inode ≡ also_inode)
one_verdict CannotMount by_inode CannotMount also_inode p q word grant failures = (refl, p ∙ sym q)
one_verdict CannotMount by_inode (Allowed h) false p q word grant failures = clash 0 1 (omega arith) (sym (has_kind CannotMount by_inode) ∙ ap kind_in word ∙ has_kind (Allowed h) false)
one_verdict CannotMount by_inode (Allowed h) true p q word grant failures = clash 0 2 (omega arith) (sym (has_kind CannotMount by_inode) ∙ ap kind_in word ∙ has_kind (Allowed h) true)
one_verdict CannotMount by_inode (DependsOnAddress h) false p q word grant failures = clash 0 3 (omega arith) (sym (has_kind CannotMount by_inode) ∙ ap kind_in word ∙ has_kind (DependsOnAddress h) false)
one_verdict CannotMount by_inode (DependsOnAddress h) true p q word grant failures = clash 0 4 (omega arith) (sym (has_kind CannotMount by_inode) ∙ ap kind_in word ∙ has_kind (DependsOnAddress h) true)
one_verdict CannotMount by_inode (Denied qs) also_inode p q word grant failures = clash 0 5 (omega arith) (sym (has_kind CannotMount by_inode) ∙ ap kind_in word ∙ has_kind (Denied qs) also_inode)
one_verdict (Allowed g) false CannotMount also_inode p q word grant failures = clash 0 1 (omega arith) (sym (sym (has_kind (Allowed g) false) ∙ ap kind_in word ∙ has_kind CannotMount also_inode))
one_verdict (Allowed g) false (Allowed h) false p q word grant failures = (ap Allowed (ap number_in grant), refl)
one_verdict (Allowed g) false (Allowed h) true p q word grant failures = clash 1 2 (omega arith) (sym (has_kind (Allowed g) false) ∙ ap kind_in word ∙ has_kind (Allowed h) true)
one_verdict (Allowed g) false (DependsOnAddress h) false p q word grant failures = clash 1 3 (omega arith) (sym (has_kind (Allowed g) false) ∙ ap kind_in word ∙ has_kind (DependsOnAddress h) false)
one_verdict (Allowed g) false (DependsOnAddress h) true p q word grant failures = clash 1 4 (omega arith) (sym (has_kind (Allowed g) false) ∙ ap kind_in word ∙ has_kind (DependsOnAddress h) true)
one_verdict (Allowed g) false (Denied qs) also_inode p q word grant failures = clash 1 5 (omega arith) (sym (has_kind (Allowed g) false) ∙ ap kind_in word ∙ has_kind (Denied qs) also_inode)
one_verdict (Allowed g) true CannotMount also_inode p q word grant failures = clash 0 2 (omega arith) (sym (sym (has_kind (Allowed g) true) ∙ ap kind_in word ∙ has_kind CannotMount also_inode))
one_verdict (Allowed g) true (Allowed h) false p q word grant failures = clash 1 2 (omega arith) (sym (sym (has_kind (Allowed g) true) ∙ ap kind_in word ∙ has_kind (Allowed h) false))
one_verdict (Allowed g) true (Allowed h) true p q word grant failures = (ap Allowed (ap number_in grant), refl)
one_verdict (Allowed g) true (DependsOnAddress h) false p q word grant failures = clash 2 3 (omega arith) (sym (has_kind (Allowed g) true) ∙ ap kind_in word ∙ has_kind (DependsOnAddress h) false)
one_verdict (Allowed g) true (DependsOnAddress h) true p q word grant failures = clash 2 4 (omega arith) (sym (has_kind (Allowed g) true) ∙ ap kind_in word ∙ has_kind (DependsOnAddress h) true)
one_verdict (Allowed g) true (Denied qs) also_inode p q word grant failures = clash 2 5 (omega arith) (sym (has_kind (Allowed g) true) ∙ ap kind_in word ∙ has_kind (Denied qs) also_inode)
one_verdict (DependsOnAddress g) false CannotMount also_inode p q word grant failures = clash 0 3 (omega arith) (sym (sym (has_kind (DependsOnAddress g) false) ∙ ap kind_in word ∙ has_kind CannotMount also_inode))
one_verdict (DependsOnAddress g) false (Allowed h) false p q word grant failures = clash 1 3 (omega arith) (sym (sym (has_kind (DependsOnAddress g) false) ∙ ap kind_in word ∙ has_kind (Allowed h) false))
one_verdict (DependsOnAddress g) false (Allowed h) true p q word grant failures = clash 2 3 (omega arith) (sym (sym (has_kind (DependsOnAddress g) false) ∙ ap kind_in word ∙ has_kind (Allowed h) true))
one_verdict (DependsOnAddress g) false (DependsOnAddress h) false p q word grant failures = (ap DependsOnAddress (ap number_in grant), refl)
one_verdict (DependsOnAddress g) false (DependsOnAddress h) true p q word grant failures = clash 3 4 (omega arith) (sym (has_kind (DependsOnAddress g) false) ∙ ap kind_in word ∙ has_kind (DependsOnAddress h) true)
one_verdict (DependsOnAddress g) false (Denied qs) also_inode p q word grant failures = clash 3 5 (omega arith) (sym (has_kind (DependsOnAddress g) false) ∙ ap kind_in word ∙ has_kind (Denied qs) also_inode)
one_verdict (DependsOnAddress g) true CannotMount also_inode p q word grant failures = clash 0 4 (omega arith) (sym (sym (has_kind (DependsOnAddress g) true) ∙ ap kind_in word ∙ has_kind CannotMount also_inode))
one_verdict (DependsOnAddress g) true (Allowed h) false p q word grant failures = clash 1 4 (omega arith) (sym (sym (has_kind (DependsOnAddress g) true) ∙ ap kind_in word ∙ has_kind (Allowed h) false))
one_verdict (DependsOnAddress g) true (Allowed h) true p q word grant failures = clash 2 4 (omega arith) (sym (sym (has_kind (DependsOnAddress g) true) ∙ ap kind_in word ∙ has_kind (Allowed h) true))
one_verdict (DependsOnAddress g) true (DependsOnAddress h) false p q word grant failures = clash 3 4 (omega arith) (sym (sym (has_kind (DependsOnAddress g) true) ∙ ap kind_in word ∙ has_kind (DependsOnAddress h) false))
one_verdict (DependsOnAddress g) true (DependsOnAddress h) true p q word grant failures = (ap DependsOnAddress (ap number_in grant), refl)
one_verdict (DependsOnAddress g) true (Denied qs) also_inode p q word grant failures = clash 4 5 (omega arith) (sym (has_kind (DependsOnAddress g) true) ∙ ap kind_in word ∙ has_kind (Denied qs) also_inode)
one_verdict (Denied rs) by_inode CannotMount also_inode p q word grant failures = clash 0 5 (omega arith) (sym (sym (has_kind (Denied rs) by_inode) ∙ ap kind_in word ∙ has_kind CannotMount also_inode))
one_verdict (Denied rs) by_inode (Allowed h) false p q word grant failures = clash 1 5 (omega arith) (sym (sym (has_kind (Denied rs) by_inode) ∙ ap kind_in word ∙ has_kind (Allowed h) false))
one_verdict (Denied rs) by_inode (Allowed h) true p q word grant failures = clash 2 5 (omega arith) (sym (sym (has_kind (Denied rs) by_inode) ∙ ap kind_in word ∙ has_kind (Allowed h) true))
one_verdict (Denied rs) by_inode (DependsOnAddress h) false p q word grant failures = clash 3 5 (omega arith) (sym (sym (has_kind (Denied rs) by_inode) ∙ ap kind_in word ∙ has_kind (DependsOnAddress h) false))
one_verdict (Denied rs) by_inode (DependsOnAddress h) true p q word grant failures = clash 4 5 (omega arith) (sym (sym (has_kind (Denied rs) by_inode) ∙ ap kind_in word ∙ has_kind (DependsOnAddress h) true))
one_verdict (Denied rs) by_inode (Denied qs) also_inode p q word grant failures = (ap Denied (one_row 1 rs qs failures), p ∙ sym q)

-- what stands at the keys
record Shows (d : Data) (name : List ℕ) (w : MdsWanted) (s : MdsStanding) : Type 0 where
  client : value_at (codes "client") d ≡ bytes_value name
  access : value_at (codes "access") d ≡ string (access_word w.access)
  path : value_at (codes "path") d ≡ bytes_value (path_text w.path)
  fs : value_at (codes "fs") d ≡ bytes_value w.fs
  owner : value_at (codes "owner") d ≡ if_known (λ a. natural a.uid) w.known
  group : value_at (codes "group") d ≡ if_known (λ a. natural a.gid) w.known
  mode : value_at (codes "mode") d ≡ if_known (λ a. string (mode_text a.mode)) w.known
  mds : value_at (codes "mds") d ≡ string (version_of w.release)
  word : value_at (codes "verdict") d ≡ string (mds_standing_word s.verdict s.by_inode)
  grant : value_at (codes "grant") d ≡ grant_value s.verdict
  failures : value_at (codes "rules") d ≡ failures_value s.verdict
  refused : value_at (codes "refused_by_client") d ≡ or_null natural s.refused

-- by whether the inode is known
shows_by : (known : Option Attr) (name : List ℕ) (w : MdsWanted) (s : MdsStanding) → Shows (mds_standing_value name (record w { known = known }) s) name (record w { known = known }) s
shows_by None name w s = record { client = refl; access = refl; path = refl; fs = refl; owner = refl; group = refl; mode = refl; mds = refl; word = refl; grant = refl; failures = refl; refused = refl }
shows_by (Some attr) name w s = record { client = refl; access = refl; path = refl; fs = refl; owner = refl; group = refl; mode = refl; mds = refl; word = refl; grant = refl; failures = refl; refused = refl }

shows : (name : List ℕ) (w : MdsWanted) (s : MdsStanding) → Shows (mds_standing_value name w s) name w s
shows name w s = shows_by w.known name w s

pub one_mds_standing : (c d : List ℕ) (w u : MdsWanted) (s t : MdsStanding) → IsWanted c (wanted_of w) w.known → IsWanted d (wanted_of u) u.known → IsStanding s → IsStanding t
    → mds_standing_value c w s ≡ mds_standing_value d u t → AskAlike c d (wanted_of w) (wanted_of u) w.known u.known × (w.release ≡ u.release) × (s ≡ t)
one_mds_standing c d w u s t fit fits small too same =
    let p = shows c w s in
    let q : Shows (mds_standing_value c w s) d u t = subst (λ (v : Data). Shows v d u t) (sym same) (shows d u t) in
    let client : c ≡ d = one_spelling c d fit.client fits.client (sym p.client ∙ q.client) in
    let access : w.access ≡ u.access = one_access w.access u.access fit.access fits.access (ap text_in (sym p.access ∙ q.access)) in
    let path : path_text w.path ≡ path_text u.path = one_spelling (path_text w.path) (path_text u.path) fit.path fits.path (sym p.path ∙ q.path) in
    let fs : w.fs ≡ u.fs = one_spelling w.fs u.fs fit.fs fits.fs (sym p.fs ∙ q.fs) in
    let known : w.known ≡ u.known = one_known w.known u.known fit.mode fits.mode (sym p.owner ∙ q.owner) (sym p.group ∙ q.group) (sym p.mode ∙ q.mode) in
    let release : w.release ≡ u.release = sym (has_version w.release) ∙ ap (λ (v : Data). asked_of (text_in v)) (sym p.mds ∙ q.mds) ∙ has_version u.release in
    let said = one_verdict s.verdict s.by_inode t.verdict t.by_inode small.by_inode too.by_inode (ap text_in (sym p.word ∙ q.word)) (sym p.grant ∙ q.grant) (sym p.failures ∙ q.failures) in
    let refused : s.refused ≡ t.refused = one_left s.refused t.refused (sym p.refused ∙ q.refused) in
    let verdict : s.verdict ≡ t.verdict = said.0 in
    let by_inode : s.by_inode ≡ t.by_inode = said.1 in
    ((client, access, path, fs, known), release, λ i. record { verdict = verdict i; by_inode = by_inode i; refused = refused i })

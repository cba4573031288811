-- What the search for a question that undoes root_squash has gone through.
use Rattle.std.proofs.Common.{◌≡◌, ℕ, ◌+◌, ◌<◌, ◌≤◌, length, get_or, take, Bool, true, false, Option, Some, None, Result, Ok, Err, List, [], ◌∷◌, map, refl}
use Rattle.std.proofs.Common.{sym, ap, ◌∙◌, ◌||◌, subst}
use Rattle.std.specs.Prelude.{All, Contains, IfNone, IfOk, IsFalse, IsTrue, position}
use Rattle.std.specs.Borrow.{Bor}
use Rattle.std.specs.List.{list_any}
use Rattle.std.proofs.lemmas.Bool.{both_ways}
use Rattle.std.proofs.lemmas.List.Folds.{list_any_at, list_any_none}
use Rattle.std.proofs.lemmas.List.Elements.{All-more}
use Rattle.capbits.specs.declared.caller.Caller.{Caller}
use Rattle.capspec.specs.declared.grant.Grant.{Grant}
use Rattle.capgrant.specs.declared.access.Access.TheVariants.{Write}
use Rattle.capgrant.specs.declared.access.Attr.{Attr}
use Rattle.capgrant.specs.declared.answer.Verdict.TheVariants.{Allowed}
use Rattle.capgrant.specs.Question.{Question, question}
use Rattle.capgrant.specs.Verdict.{allows, granted, verdict_of}
use Rattle.capgrant.proofs.Verdicts.{allowed_at, granted_nowhere}
use Rattle.policy_analysis.specs.declared.witness.Witness.{Witness}
use Rattle.policy_analysis.specs.Comparing.{question_of}
use Rattle.policy_analysis.specs.Linting.{AllowsNothing, AllowsReading, IsSquashed, IsUndoing, KeepsSquash, has_dots, is_dots}
use Rattle.policy_analysis.specs.Squashing.{KeepsAgainst, fs_of, longer, owned_by, root_of, root_writes}
use Rattle.policy_analysis.proofs.Lists.{found}
use Rattle.policy_analysis.proofs.Loops.{all_of}
use Rattle.policy_analysis.proofs.Squashed.{asks_allowed, asks_squashed, nothing_there, somebody_reads}

-- ---- names

pub any_dots : (names : List (Bor (List ℕ))) → list_any (λ (name : Bor (List ℕ)). is_dots name.now) names ≡ has_dots (map (λ (name : Bor (List ℕ)). name.now) names)
any_dots [] = refl
any_dots (name ∷ names) = ap (λ (b : Bool). is_dots name.now || b) (any_dots names)

pub one_is_dots : (names : List (Bor (List ℕ))) (k : ℕ) (d : Bor (List ℕ)) → k < length names → is_dots (get_or names k d).now ≡ true → has_dots (map (λ (name : Bor (List ℕ)). name.now) names) ≡ true
one_is_dots names k d within is = sym (any_dots names) ∙ list_any_at (λ (name : Bor (List ℕ)). is_dots name.now) names k d within is

pub one_name_more : (names : List (Bor (List ℕ))) (k : ℕ) (d : Bor (List ℕ)) → k < length names → All (λ name. is_dots name.now ≡ false) (take k names) → is_dots (get_or names k d).now ≡ false → All (λ name. is_dots name.now ≡ false) (take (k + 1) names)
one_name_more names k d within before is = All-more (λ name. is_dots name.now ≡ false) names k d within before is

pub none_is_dots : (names : List (Bor (List ℕ))) (k : ℕ) → length names ≤ k → All (λ name. is_dots name.now ≡ false) (take k names) → has_dots (map (λ (name : Bor (List ℕ)). name.now) names) ≡ false
none_is_dots names k end all = sym (any_dots names) ∙ list_any_none (λ (name : Bor (List ℕ)). is_dots name.now) names (all_of (λ (name : Bor (List ℕ)). is_dots name.now ≡ false) names k end all)

pub if_dots : {E : Type 0} (g : Grant) (r : Result Bool E) → IfOk r (λ has. has ≡ has_dots g.path) → IfOk r (λ yes. IsTrue yes → AllowsNothing g)
if_dots g (Err e) is = is
if_dots g (Ok b) is = λ yes. nothing_there g (sym is ∙ yes)

pub if_no_dots : {E : Type 0} (g : Grant) (r : Result Bool E) → IfOk r (λ has. has ≡ has_dots g.path) → IfOk r (λ yes. IsFalse yes → AllowsReading g)
if_no_dots g (Err e) is = is
if_no_dots g (Ok b) is = λ no. somebody_reads g (sym is ∙ no)

-- ---- one question

pub none_granted : (q : Question) (grants : List Grant) (P : Type 0) (r : Option ℕ) → r ≡ position (allows q) grants → IfNone r (P → granted q grants ≡ false)
none_granted q grants P None is = λ p. sym (granted_nowhere q grants (sym is))
none_granted q grants P (Some place) is = tt

asks_same : (g h : Grant) (any fs : List ℕ) (caller : Caller) (path : List (List ℕ)) (attr : Attr) → fs ≡ fs_of g h any → caller ≡ root_of g h → path ≡ longer g.path h.path → attr ≡ owned_by caller.uid → question fs caller path attr Write ≡ root_writes g h any
asks_same g h any fs caller path attr fs_is caller_is path_is attr_is = cc

-- where the question of the two finds nothing, the other grant denies what this one denies for root_squash alone
pub keeps_against : (grants : List Grant) (g h : Grant) (any fs : List ℕ) (caller : Caller) (path : List (List ℕ)) (attr : Attr) → Contains grants h → fs ≡ fs_of g h any → caller ≡ root_of g h → path ≡ longer g.path h.path → attr ≡ owned_by caller.uid → (IsSquashed g (question fs caller path attr Write) → granted (question fs caller path attr Write) grants ≡ false) → KeepsAgainst g h
keeps_against grants g h any fs caller path attr among fs_is caller_is path_is attr_is none = λ q squash others.
    let same = asks_same g h any fs caller path attr fs_is caller_is path_is attr_is in
    let denied : granted (root_writes g h any) grants ≡ false = ap (λ (asks : Question). granted asks grants) (sym same) ∙ none (subst (λ (asks : Question). IsSquashed g asks) (sym same) (asks_squashed g h any q squash others)) in
    both_ways (granted (root_writes g h any) grants) denied (list_any_at (allows (root_writes g h any)) grants among.0 h among.1 (ap (allows (root_writes g h any)) among.2 ∙ asks_allowed g h any q squash others))

pub is_undoing : (grants : List Grant) (g : Grant) (w : Witness) (asks : Question) (place : ℕ) → question_of w ≡ asks → w.access ≡ Write → w.grant ≡ place + 1 → IsSquashed g asks → position (allows asks) grants ≡ Some place → IsUndoing grants g w
is_undoing grants g w asks place same writes number squash first = record {
  squashed = subst (λ (q : Question). IsSquashed g q) (sym same) squash;
  writes = writes;
  allowed = ap (λ (q : Question). verdict_of q grants) same ∙ sym (allowed_at asks grants place first) ∙ ap Allowed (sym number);
}

-- ---- all grants

pub keeps_all : (grants : List Grant) (g : Grant) → All (KeepsAgainst g) grants → KeepsSquash grants g
keeps_all grants g all q squash = by_case (granted q grants) refl
  where
    by_case : (b : Bool) → granted q grants ≡ b → granted q grants ≡ false
    by_case false is = is
    by_case true is = let one = found (KeepsAgainst g) (allows q) grants all is in absurd (one.1 q squash one.2)

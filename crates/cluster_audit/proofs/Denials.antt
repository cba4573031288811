-- Why an access is denied: the text and the value tell it.
use Rattle.std.proofs.Common.{◌≡◌, ℕ, ◌+◌, ◌<◌, Option, Some, None, List, [], ◌∷◌, ◌++◌, map, drop, refl, sym, ap, ◌∙◌, arith}
use Rattle.std.specs.Prelude.{codes}
use Rattle.std.specs.List.{enumerate_from, flat_map}
use Rattle.std.proofs.lemmas.List.{append_cancel_left}
use Rattle.serde_json.specs.Data.{Data, array, null}
use Rattle.serde_json.specs.View.{items_of}
use Rattle.capgrant.specs.declared.access.Access.{Access}
use Rattle.capgrant.specs.declared.rule.Rule.{Rule as OwnRule}
use Rattle.capgrant.specs.declared.rule.Rule.TheVariants as own_rule
use Rattle.release_rules.specs.declared.rule.Rule.{Rule}
use Rattle.texts.specs.Answers.{rule_value}
use Rattle.texts.specs.Explaining.{failure_text, failures_text}
use Rattle.texts.specs.Mds.{mds_failure, mds_failures}
use Rattle.texts.specs.MdsAnswers.{mds_rule_value}
use Rattle.texts.proofs.MdsAnswered.{no_mount, one_list}
use Rattle.texts.proofs.MdsDistinct.{one_row}
use Rattle.texts.proofs.Quoted.{clash, first_byte}
use Rattle.cluster_audit.specs.declared.findings.Denial.{Denial}
use Rattle.cluster_audit.specs.declared.findings.Denial.TheVariants.{Own, There}
use Rattle.cluster_audit.specs.Lines.{denial_text, told_text, why_text}
use Rattle.cluster_audit.specs.Objects.{denial_value, told_value, why_value}
use Rattle.cluster_audit.specs.Reported.{as_there, reasons, rules_told}

-- ---- as texts

same_failure : (n : ℕ) (r : OwnRule) → failure_text (n, r) ≡ mds_failure (n, as_there r)
same_failure n own_rule.FsName = refl
same_failure n r = refl

same_more : (n : ℕ) (rs : List OwnRule) → flat_map (λ (f : ℕ × OwnRule). codes ", " ++ failure_text f) (enumerate_from n rs) ≡ flat_map (λ (f : ℕ × Rule). codes ", " ++ mds_failure f) (enumerate_from n (map as_there rs))
same_more n [] = refl
same_more n (r ∷ rs) = λ i. (codes ", " ++ same_failure n r i) ++ same_more (n + 1) rs i

same_failures : (rs : List OwnRule) → failures_text rs ≡ mds_failures (map as_there rs)
same_failures [] = refl
same_failures (r ∷ rs) = λ i. same_failure 1 r i ++ same_more 2 rs i

pub has_told : (d : Denial) → denial_text d ≡ told_text (rules_told d)
has_told (Own rules) = same_failures rules
has_told (There standing) = refl

one_told : (a b : Option (List Rule)) (s t : List ℕ) → first_byte s < 44 → first_byte t < 44 → told_text a ++ s ≡ told_text b ++ t → (a ≡ b) × (s ≡ t)
one_told None None s t below too same = (refl, append_cancel_left (codes "no grant lets the client mount") s t same)
one_told None (Some qs) s t below too same = no_mount qs s t same
one_told (Some rs) None s t below too same = no_mount rs t s (sym same)
one_told (Some rs) (Some qs) s t below too same = let list = one_list rs qs s t below too same in (ap Some list.0, list.1)

one_denial : (d e : Denial) (s t : List ℕ) → first_byte s < 44 → first_byte t < 44 → denial_text d ++ s ≡ denial_text e ++ t → (rules_told d ≡ rules_told e) × (s ≡ t)
one_denial d e s t below too same =
    one_told (rules_told d) (rules_told e) s t below too (ap (λ (w : List ℕ). w ++ s) (sym (has_told d)) ∙ same ∙ ap (λ (w : List ℕ). w ++ t) (has_told e))

nothing_told : {X : Type 0} (a : Option (List Rule)) (s t : List ℕ) → codes "no access permits it" ++ s ≡ told_text a ++ t → X
nothing_told None s t same = clash 97 103 (omega arith) (ap (λ (w : List ℕ). first_byte (drop 3 w)) same)
nothing_told (Some []) s t same = clash 97 103 (omega arith) (ap (λ (w : List ℕ). first_byte (drop 3 w)) same)
nothing_told (Some (r ∷ rs)) s t same = clash 103 110 (omega arith) (sym (ap first_byte same))

no_denial : {X : Type 0} (d : Denial) (s t : List ℕ) → codes "no access permits it" ++ s ≡ denial_text d ++ t → X
no_denial d s t same = nothing_told (rules_told d) s t (same ∙ ap (λ (w : List ℕ). w ++ t) (has_told d))

pub one_why : (m n : Option Access) (d e : Denial) (s t : List ℕ) → first_byte s < 44 → first_byte t < 44 → why_text m d ++ s ≡ why_text n e ++ t → (reasons m d ≡ reasons n e) × (s ≡ t)
one_why None None d e s t below too same = (refl, append_cancel_left (codes "no access permits it") s t same)
one_why None (Some b) d e s t below too same = no_denial e s t same
one_why (Some a) None d e s t below too same = no_denial d t s (sym same)
one_why (Some a) (Some b) d e s t below too same = let both = one_denial d e s t below too same in (ap Some both.0, both.1)

-- ---- as values

same_value : (n : ℕ) (r : OwnRule) → rule_value (n, r) ≡ mds_rule_value (n, as_there r)
same_value n own_rule.FsName = refl
same_value n r = refl

same_values : (n : ℕ) (rs : List OwnRule) → map rule_value (enumerate_from n rs) ≡ map mds_rule_value (enumerate_from n (map as_there rs))
same_values n [] = refl
same_values n (r ∷ rs) = λ i. same_value n r i ∷ same_values (n + 1) rs i

has_value : (d : Denial) → denial_value d ≡ told_value (rules_told d)
has_value (Own rules) = ap (λ (vs : List Data). array (items_of vs)) (same_values 1 rules)
has_value (There standing) = refl

-- what it is: nothing, a word or a list
abbrev shape_of : Data → ℕ
shape_of null = 0
shape_of (array items) = 1
shape_of d = 2

one_value : (a b : Option (List Rule)) → told_value a ≡ told_value b → a ≡ b
one_value None None same = refl
one_value None (Some qs) same = clash 1 2 (omega arith) (sym (ap shape_of same))
one_value (Some rs) None same = clash 1 2 (omega arith) (ap shape_of same)
one_value (Some rs) (Some qs) same = ap Some (one_row 1 rs qs same)

no_value : {X : Type 0} (a : Option (List Rule)) → null ≡ told_value a → X
no_value None same = clash 0 2 (omega arith) (ap shape_of same)
no_value (Some rs) same = clash 0 1 (omega arith) (ap shape_of same)

pub one_why_value : (m n : Option Access) (d e : Denial) → why_value m d ≡ why_value n e → reasons m d ≡ reasons n e
one_why_value None None d e same = refl
one_why_value None (Some b) d e same = no_value (rules_told e) (same ∙ has_value e)
one_why_value (Some a) None d e same = no_value (rules_told d) (sym same ∙ has_value d)
one_why_value (Some a) (Some b) d e same = ap Some (one_value (rules_told d) (rules_told e) (sym (has_value d) ∙ same ∙ has_value e))
